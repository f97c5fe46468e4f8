-- Texts that are appended, by their characters.
use Rattle.std.proofs.Common.{add-one, ◌≡◌, ℕ, zero, suc, ◌+◌, ◌-◌, ◌^◌, ◌<◌, List, [], ◌∷◌, ◌++◌, length, take, replicate, IsUtf8, Result, Ok, Err, is_ok, OnOk, if◌then◌else◌, ap, ap₂, sym, subst, refl, ◌∙◌, append_assoc, arith, codes, false, Option}
use Rattle.std.specs.Fmt.{decimal}
use Rattle.std.specs.List.{flat_map, list_any, before_first, after_first}
use Rattle.std.specs.Str.{chars, IsAscii}
use Rattle.std.proofs.lemmas.Fmt.{IsAscii-decimal}
use Rattle.std.proofs.lemmas.Str.{chars-append, chars-IsAscii, IsAscii-append, IsAscii-take, IsUtf8-from_ascii, chars-nil}
use Rattle.std.proofs.lemmas.Str.Ascii.{IsAscii-nil, IsAscii-cons}
use Rattle.xls_bytes.specs.Growth.{IsGrown}
use Rattle.xls_bytes.proofs.GrownLemmas.{IsGrown-append}
use Rattle.xls_number_formats.specs.declared.items.Letter.{Letter}
use Rattle.xls_bytes.specs.Characters.{is}
use Rattle.xls_number_formats.specs.Grammar.{Token}
use Rattle.xls_bytes.proofs.CharacterLemmas.{before_first_none, after_first_none}
use Rattle.xls_shown_dates.specs.declared.fields.Field.{Field}
use Rattle.xls_shown_dates.specs.Fields.{letters, first, letter_after, zeros_after, field_of, fields_from}
use Rattle.xls_shown_dates.specs.Texts.{padded}
use Rattle.xls_shown_dates.proofs.ScanLemmas.{fields_step}

zeros_ascii : (k : ℕ) → IsAscii (replicate k 48)
zeros_ascii zero = IsAscii-nil
zeros_ascii (suc k) = IsAscii-cons 48 (replicate k 48) (omega arith) (zeros_ascii k)

pub padded_chars : (width n : ℕ) → n < 2 ^ 64 → chars (padded width n) ≡ padded width n
padded_chars width n p =
    chars-IsAscii (padded width n) (IsAscii-append (replicate (width - length (decimal n)) 48) (decimal n) (zeros_ascii _) (IsAscii-decimal n p))

pub ascii_chars : (bs : List ℕ) → IsAscii bs → chars bs ≡ bs
ascii_chars = chars-IsAscii

-- the first bytes of a name are its first characters
pub front_chars : (name front : List ℕ) (count : ℕ) → IsAscii name → front ≡ take count name → chars front ≡ take count name
front_chars name front count a e = ap chars e ∙ chars-IsAscii (take count name) (IsAscii-take name count a)

pub am_chars : chars (codes "AM") ≡ codes "AM"
unfolding chars
am_chars = refl

pub pm_chars : chars (codes "PM") ≡ codes "PM"
unfolding chars
pm_chars = refl

pub no_chars : chars [] ≡ []
no_chars = chars-nil

-- without a slash all stands before it
pub all_before : (own : List ℕ) → list_any (is 47) (chars own) ≡ false → before_first (is 47) (chars own) ≡ chars own
all_before own none = before_first_none 47 (chars own) none

pub none_behind : (own : List ℕ) → list_any (is 47) (chars own) ≡ false → after_first (is 47) (chars own) ≡ chars []
none_behind own none = after_first_none 47 (chars own) none ∙ sym chars-nil

-- a zero more
zero_last : (k : ℕ) → replicate k 48 ++ codes "0" ≡ replicate (suc k) 48
zero_last zero = refl
zero_last (suc k) = ap (λ xs. 48 ∷ xs) (zero_last k)

pub one_zero : (k : ℕ) → replicate k 48 ++ codes "0" ≡ replicate (k + 1) 48
one_zero k = rw add-one (zero_last k)

-- a text more
pub chars_more : (old more new cs : List ℕ) → IsUtf8 old → new ≡ old ++ more → chars more ≡ cs → chars new ≡ chars old ++ cs
chars_more old more new cs text e f = ap chars e ∙ chars-append old more text ∙ ap (λ xs. chars old ++ xs) f

-- what `push_str` leaves where there was memory
pub pushed_ok : {T E : Type 0} (r : Result T E) (old more new cs : List ℕ) → IsUtf8 old → new ≡ (if is_ok r then old ++ more else old) → chars more ≡ cs → OnOk r (chars new ≡ chars old ++ cs)
pushed_ok (Ok x) old more new cs text e f = chars_more old more new cs text e f
pushed_ok (Err x) old more new cs text e f = tt

pub pushed_grown : {T E : Type 0} (r : Result T E) (old mid more new : List ℕ) → IsGrown old mid → IsUtf8 more → new ≡ (if is_ok r then mid ++ more else mid) → IsGrown old new
pushed_grown (Ok x) old mid more new g u e = IsGrown-append old mid more new g u e
pushed_grown (Err x) old mid more new g u e = subst (IsGrown old) (sym e) g

-- zeros and digits more
pub number_ok : {T E : Type 0} (r : Result T E) (old mid digits new : List ℕ) (width n : ℕ) → IsUtf8 old → n < 2 ^ 64 → mid ≡ old ++ replicate (width - length digits) 48 → digits ≡ decimal n
    → new ≡ (if is_ok r then mid ++ digits else mid) → OnOk r (chars new ≡ chars old ++ padded width n)
number_ok (Ok x) old mid digits new width n u p e d f =
    let zeros : mid ≡ old ++ replicate (width - length (decimal n)) 48 = e ∙ ap (λ ds. old ++ replicate (width - length ds) 48) d in
    let whole : new ≡ old ++ padded width n = f ∙ ap₂ ◌++◌ zeros d ∙ append_assoc old (replicate (width - length (decimal n)) 48) (decimal n) in
    chars_more old (padded width n) new (padded width n) u whole (padded_chars width n p)
number_ok (Err x) old mid digits new width n u p e d f = tt

pub zero_utf8 : IsUtf8 (codes "0")
zero_utf8 = IsUtf8-from_ascii (codes "0") (IsAscii-cons 48 [] (omega arith) IsAscii-nil)

-- an item more of those left
pub shown_step : (text : Field × List ℕ → List ℕ) (t : Token) (ts left : List Token) (before after : Option Letter) (zeros next : Option ℕ) (behind : Option Letter) (f : Field)
    (old now all : List ℕ) → left ≡ t ∷ ts → behind ≡ first (letters ts) → f ≡ field_of before behind zeros t.0 (length t.1) → now ≡ old ++ text (f, t.1)
    → after ≡ letter_after before t.0 → next ≡ zeros_after zeros t.0
    → old ++ flat_map text (fields_from before zeros left) ≡ all → now ++ flat_map text (fields_from after next ts) ≡ all
shown_step text t ts left before after zeros next behind f old now all e b g n a z h =
    ap (λ xs. xs ++ flat_map text (fields_from after next ts)) n ∙ append_assoc old (text (f, t.1)) (flat_map text (fields_from after next ts))
    ∙ sym (ap (λ xs. old ++ flat_map text xs) (fields_step t ts left before after behind zeros next f e b g a z)) ∙ h
