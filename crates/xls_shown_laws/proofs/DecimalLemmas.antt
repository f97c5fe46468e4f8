-- Numbers under the code `0.00`, with so many zeros behind the point.
use Rattle.std.proofs.Common.{◌≡◌, ℕ, zero, suc, ◌+◌, ◌-◌, ◌*◌, ◌/◌, ◌^◌, ◌<◌, ◌++◌, List, [], ◌∷◌, Bool, true, false, nat_lt, if◌then◌else◌, refl, arith, sym, ap, ◌∙◌, codes}
use Rattle.std.specs.Prelude.{pos, ◌+ℤ◌, ◌-ℤ◌}
use Rattle.std.proofs.lemmas.Int.{ints}
use Rattle.std.proofs.lemmas.Bool.Decides.{nat_tests}
use Rattle.std.specs.Fmt.{decimal}
use Rattle.xls_rounding.specs.declared.decimals.Decimal.{Decimal}
use Rattle.xls_rounding.specs.FormulaNumbers.{zeros}
use Rattle.xls_rounding.specs.Rounding.{rounded, rounded_at}
use Rattle.xls_number_formats.specs.declared.items.Place.TheVariants as place
use Rattle.xls_number_formats.specs.declared.items.Item.TheVariants as item
use Rattle.xls_number_formats.specs.Grammar.{Token, items, items_from}
use Rattle.xls_number_formats.specs.Sections.{kinds}
use Rattle.xls_shown_numbers.specs.declared.plain.Seen.{Seen}
use Rattle.xls_shown_numbers.specs.declared.plain.Plain.{Plain}
use Rattle.xls_shown_numbers.specs.Digits.{last_digits}
use Rattle.xls_shown_numbers.specs.Plain.{none_seen, seen_after, seen_all, grouping_from, thousands_from, plain_of, digit, decimal_place, number_under, number_shown, text_from, plain_text}
use Rattle.xls_shown_laws.specs.Decimals.{with_decimals}
use Rattle.xls_shown_laws.proofs.DigitLemmas.{first_of_last, whole_zero}

-- ---- the items

abbrev zero_places : ℕ → List Token
zero_places zero = []
zero_places (suc n) = (item.Place place.Zero, codes "0") ∷ zero_places n

zeros_read : (n : ℕ) → items_from 0 true (zeros n) ≡ zero_places n
zeros_read zero = refl
zeros_read (suc n) = ap (λ ts. (item.Place place.Zero, codes "0") ∷ ts) (zeros_read n)

tokens : ℕ → List Token
tokens n = (item.Place place.Zero, codes "0") ∷ ((item.Point, codes ".") ∷ zero_places n)

items_are : (n : ℕ) → items (codes "0." ++ zeros n) ≡ tokens n
unfolding tokens
items_are n = ap (λ ts. (item.Place place.Zero, codes "0") ∷ ((item.Point, codes ".") ∷ ts)) (zeros_read n)

-- ---- what the code needs

abbrev behind : ℕ → Bool → Seen
behind k t = record { whole = 1; decimals = k; zeros = k; percents = 0; point = true; touches = t }

record Sees (k n : ℕ) (t : Bool) : Type 0 where
  touches : Bool
  is : seen_all (behind k t) (kinds (zero_places n)) ≡ behind (n + k) touches

zeros_seen : (k n : ℕ) (t : Bool) → Sees k n t
zeros_seen k zero t = let same : k ≡ 0 + k = omega arith in record { touches = t; is = ap (λ m. behind m t) same }
zeros_seen k (suc n) t =
    let rest = zeros_seen (k + 1) n true in
    let same : n + (k + 1) ≡ suc n + k = omega arith in
    record { touches = rest.touches; is = rest.is ∙ ap (λ m. behind m rest.touches) same }

no_thousands : (all s : Seen) (n : ℕ) → thousands_from all s (kinds (zero_places n)) ≡ 0
no_thousands all s zero = refl
no_thousands all s (suc n) = no_thousands all (seen_after s (item.Place place.Zero)) n

no_groups : (all s : Seen) (n : ℕ) → grouping_from all s (kinds (zero_places n)) ≡ false
no_groups all s zero = refl
no_groups all s (suc n) = no_groups all (seen_after s (item.Place place.Zero)) n

abbrev needs : ℕ → Bool → Plain
needs n t = record { seen = behind n t; thousands = 0; grouping = false }

record Needs (n : ℕ) : Type 0 where
  touches : Bool
  is : plain_of (kinds (tokens n)) ≡ needs n touches

needs_are : (n : ℕ) → Needs n
unfolding tokens
needs_are n =
    let h = zeros_seen 0 n false in
    let same : n + 0 ≡ n = omega arith in
    let seen : seen_all (behind 0 false) (kinds (zero_places n)) ≡ behind n h.touches = h.is ∙ ap (λ m. behind m h.touches) same in
    let is : plain_of (kinds (tokens n)) ≡ needs n h.touches =
    ap (λ (s : Seen). record { seen = s; thousands = thousands_from s (behind 0 false) (kinds (zero_places n)); grouping = grouping_from s (behind 0 false) (kinds (zero_places n)) }) seen
    ∙ ap (λ m. record { seen = behind n h.touches; thousands = m; grouping = grouping_from (behind n h.touches) (behind 0 false) (kinds (zero_places n)) }) (no_thousands (behind n h.touches) (behind 0 false) n)
    ∙ ap (λ b. record { seen = behind n h.touches; thousands = 0; grouping = b }) (no_groups (behind n h.touches) (behind 0 false) n) in
    record { touches = h.touches; is = is }

-- ---- the text

zeros_text : (n k m all : ℕ) (t u : Bool) → k + m ≡ all → text_from (needs all u) n (behind k t) (zero_places m) ≡ last_digits m n
unfolding last_digits
zeros_text n k zero all t u e = refl
zeros_text n k (suc m) all t u e =
    let is_kept : nat_lt k all ≡ true = grind (arith, nat_tests) in
    let index : all - k - 1 ≡ m = omega arith in
    let rest = text_from (needs all u) n (behind (k + 1) true) (zero_places m) in
    ap (λ b. decimal_place n b place.Zero (all - k - 1) ++ rest) is_kept ∙ ap (λ i. digit n i ∷ rest) index
    ∙ ap (λ ds. digit n m ∷ ds) (zeros_text n (k + 1) m all true u (omega arith)) ∙ sym (first_of_last m n)

text_is : (n all : ℕ) (u : Bool) → n / 10 ^ all < 10 ^ 64 → text_from (needs all u) n none_seen (tokens all) ≡ with_decimals n all
unfolding tokens
text_is n all u r =
    ap (λ ds. ds ++ (46 ∷ text_from (needs all u) n (behind 0 false) (zero_places all))) (whole_zero n all r)
    ∙ ap (λ ds. decimal (n / 10 ^ all) ++ (46 ∷ ds)) (zeros_text n 0 all all false u (omega arith))

number_is : (n : ℕ) (d : Decimal) (u : Bool) → number_shown (needs n u) d ≡ rounded_at d (pos n)
number_is n d u =
    let some : nat_lt 0 (1 + n) ≡ true = grind (arith, nat_tests) in
    let z : d.exponent +ℤ pos (2 * 0 + n) -ℤ pos (3 * 0) ≡ d.exponent +ℤ pos n = omega (arith, ints) in
    ap (λ b. if b then number_under (needs n u) d else 0) some ∙ ap (rounded d.digits) z

pub zeros_show : (n : ℕ) (d : Decimal) → rounded_at d (pos n) / 10 ^ n < 10 ^ 64 → plain_text (items (codes "0." ++ zeros n)) d ≡ with_decimals (rounded_at d (pos n)) n
zeros_show n d r =
    let h = needs_are n in
    ap (λ ts. plain_text ts d) (items_are n)
    ∙ ap (λ p. text_from p (number_shown p d) none_seen (tokens n)) h.is
    ∙ ap (λ m. text_from (needs n h.touches) m none_seen (tokens n)) (number_is n d h.touches)
    ∙ text_is (rounded_at d (pos n)) n h.touches r
