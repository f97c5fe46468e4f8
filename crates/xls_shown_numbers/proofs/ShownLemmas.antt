-- What is appended to a text, by its characters.
use Rattle.std.proofs.Common.{◌≡◌, ℕ, suc, ◌+◌, ◌-◌, ◌<◌, ◌==◌, ◌&&◌, Bool, true, false, List, [], ◌∷◌, ◌++◌, IsUtf8, Result, Ok, Err, OnOk, refl, arith, ap, sym, ◌∙◌, append_assoc, codes, is_ok, if◌then◌else◌}
use Rattle.std.specs.Str.{chars}
use Rattle.std.proofs.lemmas.Str.{chars-append}
use Rattle.std.proofs.lemmas.Bool.Decides.{nat_tests}
use Rattle.xls_shown_numbers.specs.Plain.{digit, whole_place, written_place, separator, whole_digits, seen_after, item_text, text_from, none_seen, plain_of, number_shown, plain_text}
use Rattle.xls_number_formats.specs.Sections.{kinds}
use Rattle.xls_rounding.specs.declared.decimals.Decimal.{Decimal}
use Rattle.xls_number_formats.specs.declared.items.Place.{Place}
use Rattle.xls_number_formats.specs.Grammar.{Token}
use Rattle.xls_shown_numbers.specs.declared.plain.Seen.{Seen}
use Rattle.xls_shown_numbers.specs.declared.plain.Plain.{Plain}

pub chars_ascii : (c : ℕ) → c < 128 → chars (c ∷ []) ≡ c ∷ []
unfolding chars
chars_ascii c low = grind (arith, nat_tests)

pub no_chars : chars [] ≡ []
unfolding chars
no_chars = refl

pub zero_comma : chars (codes "0,") ≡ codes "0,"
unfolding chars
zero_comma = refl

pub zero_alone : chars (codes "0") ≡ codes "0"
unfolding chars
zero_alone = refl

pub two_blanks : chars (codes "  ") ≡ codes "  "
unfolding chars
two_blanks = refl

pub one_blank : chars (codes " ") ≡ codes " "
unfolding chars
one_blank = refl

pub plus_alone : chars (codes "+") ≡ codes "+"
unfolding chars
plus_alone = refl

pub minus_alone : chars (codes "-") ≡ codes "-"
unfolding chars
minus_alone = refl

pub comma_alone : chars (codes ",") ≡ codes ","
unfolding chars
comma_alone = refl

-- a text more
pub chars_more : (old more new : List ℕ) (cs : List ℕ) → IsUtf8 old → new ≡ old ++ more → chars more ≡ cs → chars new ≡ chars old ++ cs
chars_more old more new cs text e f = ap chars e ∙ chars-append old more text ∙ ap (λ xs. chars old ++ xs) f

-- another digit is left
pub left_digits : (grouping : Bool) (n decimals i left : ℕ) → 0 < left → whole_digits grouping n decimals i left ≡ whole_digits grouping n decimals i (suc (left - 1))
left_digits grouping n decimals i left p = let e : left ≡ suc (left - 1) = omega arith in ap (λ t. whole_digits grouping n decimals i t) e

-- two texts more
pub two_more : (old now new xs ys : List ℕ) → now ≡ old ++ xs → new ≡ now ++ ys → new ≡ old ++ (xs ++ ys)
two_more old now new xs ys e f = f ∙ ap (λ t. t ++ ys) e ∙ append_assoc old xs ys

-- what `push_str` leaves where there was memory
pub pushed_ok : {T E : Type 0} (r : Result T E) (old more new : List ℕ) (cs : List ℕ) → IsUtf8 old → new ≡ (if is_ok r then old ++ more else old) → chars more ≡ cs
    → OnOk r (chars new ≡ chars old ++ cs)
pushed_ok (Ok x) old more new cs text e f = chars_more old more new cs text e f
pushed_ok (Err x) old more new cs text e f = tt

-- a digit and a separator, before the digits left
pub digits_more : (grouping : Bool) (n decimals i left : ℕ) (whole old now new : List ℕ)
    → now ≡ old ++ digit n (decimals + (i + left)) ∷ [] → new ≡ now ++ separator grouping (i + left) (codes ",")
    → old ++ whole_digits grouping n decimals i (suc left) ≡ whole → new ++ whole_digits grouping n decimals i left ≡ whole
digits_more grouping n decimals i left whole old now new e f all =
    ap (λ t. t ++ whole_digits grouping n decimals i left) (f ∙ ap (λ t. t ++ separator grouping (i + left) (codes ",")) e)
    ∙ append_assoc (old ++ digit n (decimals + (i + left)) ∷ []) (separator grouping (i + left) (codes ",")) (whole_digits grouping n decimals i left)
    ∙ append_assoc old (digit n (decimals + (i + left)) ∷ []) (separator grouping (i + left) (codes ",") ++ whole_digits grouping n decimals i left)
    ∙ all

-- an item more of those left
pub text_more : (p : Plain) (n : ℕ) (s : Seen) (old now whole : List ℕ) (t : Token) (ts left : List Token) → left ≡ t ∷ ts → now ≡ old ++ item_text p n s t.0 t.1
    → old ++ text_from p n s left ≡ whole → now ++ text_from p n (seen_after s t.0) ts ≡ whole
text_more p n s old now whole t ts left e f all =
    ap (λ xs. xs ++ text_from p n (seen_after s t.0) ts) f ∙ append_assoc old (item_text p n s t.0 t.1) (text_from p n (seen_after s t.0) ts)
    ∙ sym (ap (λ xs. old ++ text_from p n s xs) e) ∙ all

-- a section's counts and the number that it shows make its text
pub plain_is : (p : Plain) (ts : List Token) (d : Decimal) (n : ℕ) → p ≡ plain_of (kinds ts) → n ≡ number_shown p d → text_from p n none_seen ts ≡ plain_text ts d
plain_is p ts d n e f = ap (λ k. text_from p k none_seen ts) f ∙ ap (λ q. text_from q (number_shown q d) none_seen ts) e

-- where 0 is written, and where it isn't
pub zero_written : (is_written : Bool) (n : ℕ) (leftmost : Bool) (kind : Place) (i : ℕ) → (is_written && ((n == 0) && (i == 0))) ≡ true → codes "0" ≡ written_place is_written n leftmost kind i
zero_written is_written n leftmost kind i is = sym (ap (λ b. if b then codes "0" else whole_place false n 0 leftmost kind i) is)

pub none_written : (is_written : Bool) (n : ℕ) (leftmost : Bool) (kind : Place) (i : ℕ) → (is_written && ((n == 0) && (i == 0))) ≡ false → whole_place false n 0 leftmost kind i ≡ written_place is_written n leftmost kind i
none_written is_written n leftmost kind i is = sym (ap (λ b. if b then codes "0" else whole_place false n 0 leftmost kind i) is)
