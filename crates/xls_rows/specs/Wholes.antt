-- Cells read as a whole number of a type, by the type's name, least and greatest number.
use Rattle.std.specs.Prelude.{◌≡◌, ℕ, ◌-◌, ◌^◌, List, Option, Some, None, SomeIff, Result, Ok, Err, ℤ, pos, neg_ℤ, ◌≤ℤ◌, int_lt, if◌then◌else◌, encode_utf8_all}
use Rattle.std.specs.Str.Parse.{IsNumeral, without_leading_sign, without_leading_plus, signed_digits_value, digits_value}
use Rattle.xls_data.specs.Content.{Content, int, float, text, failure}
use Rattle.xls_dates.specs.Numbers.{number_trunc_checked}
use Rattle.xls_rows.specs.declared.error.DeError.{DeError}
use Rattle.xls_rows.specs.Refusals.{Refusal, cell_error, custom, Gives}
use Rattle.xls_rows.specs.Texts.{expecting, display_text}

-- a number of the type
abbrev pub IsBetween : ℤ → ℤ → ℤ → Type 0
IsBetween low high n = (low ≤ℤ n) × (n ≤ℤ high)

-- decimal digits after an optional plus, or after a minus where the type has negative numbers
abbrev pub IsSpelled : ℤ → List ℕ → Type 0
IsSpelled low bytes =
    IsNumeral 10
    (if int_lt low (pos 0) then without_leading_sign bytes else without_leading_plus bytes)

-- the number that they write
abbrev pub spelled : ℤ → List ℕ → ℤ
spelled low bytes =
    if int_lt low (pos 0) then signed_digits_value 10 bytes
    else pos (digits_value 10 (without_leading_plus bytes))

-- o is the number of the type that std's parse reads in a text, and None for other texts
abbrev pub IsParsedWithin : ℤ → ℤ → List ℕ → Option ℤ → Type 0
IsParsedWithin low high bytes o =
    SomeIff o (IsSpelled low bytes × IsBetween low high (spelled low bytes)) (spelled low bytes)

-- o is this number, if there is one and it is of the type
abbrev pub IsOfType : ℤ → ℤ → Option ℤ → Option ℤ → Type 0
IsOfType low high None o = o ≡ None
IsOfType low high (Some n) o = SomeIff o (IsBetween low high n) n

-- o is the number of the type that a cell stands for, and None for other cells
abbrev pub IsWholeContent : ℤ → ℤ → Content → Option ℤ → Type 0
IsWholeContent low high (int n) o = IsOfType low high (Some n) o
IsWholeContent low high (float x) o = IsOfType low high (number_trunc_checked x) o
IsWholeContent low high (text cs) o = IsParsedWithin low high (encode_utf8_all cs) o
IsWholeContent low high c o = o ≡ None

-- what a cell is refused for that stands for no number of the type
abbrev pub not_whole : List ℕ → ℕ × ℕ → Content → Refusal
not_whole name place (failure e) = cell_error e place
not_whole name place c = custom (expecting name (display_text c))

-- the number of the type, or the refusal
abbrev pub whole_or : List ℕ → ℕ × ℕ → Content → Option ℤ → Result ℤ Refusal
whole_or name place c (Some n) = Ok n
whole_or name place c None = Err (not_whole name place c)

-- the answer is the number of the type that the cell stands for, or the refusal
pub record ReadsWhole {A : Type 0} (view : A → ℤ) (name : List ℕ) (low high : ℤ) (c : Content)
    (place : ℕ × ℕ) (result : Result A DeError) : Type 0 where
  pub found : Option ℤ
  pub is : IsWholeContent low high c found
  pub gives : Gives view result (whole_or name place c found)

-- the same at the unsigned and the signed type of so many bits
abbrev pub ReadsUnsigned : List ℕ → ℕ → Content → ℕ × ℕ → Result ℕ DeError → Type 0
ReadsUnsigned name bits c place result =
    ReadsWhole (λ n. pos n) name (pos 0) (pos (2 ^ bits - 1)) c place result

abbrev pub ReadsSigned : List ℕ → ℕ → Content → ℕ × ℕ → Result ℤ DeError → Type 0
ReadsSigned name bits c place result =
    ReadsWhole (λ n. n) name (neg_ℤ (pos (2 ^ (bits - 1)))) (pos (2 ^ (bits - 1) - 1)) c place
    result
