-- Counts over the items of a section.
use Rattle.std.proofs.Common.{◌≡◌, ℕ, suc, ◌+◌, ◌^◌, ◌<◌, ◌≤◌, Bool, true, false, ◌&&◌, ◌||◌, List, ◌∷◌, length, refl, arith, ap, sym, ◌∙◌}
use Rattle.xls_number_formats.specs.declared.items.Item.{Item}
use Rattle.xls_number_formats.specs.Grammar.{Token}
use Rattle.xls_number_formats.specs.Sections.{kinds}
use Rattle.xls_shown_numbers.specs.declared.plain.Seen.{Seen}
use Rattle.xls_shown_numbers.specs.Plain.{one_more, seen_after, none_seen, seen_all, is_comma, groups, divides, grouping_from, thousands_from}

-- counts of no more than the items so far, with so many left
pub record IsWithin (s : Seen) (left all : ℕ) : Type 0 where
  pub whole : s.whole + left ≤ all
  pub decimals : s.decimals + left ≤ all
  pub percents : s.percents + left ≤ all

pub within_none : (all : ℕ) → IsWithin none_seen all all
within_none all = record { whole = omega arith; decimals = omega arith; percents = omega arith }

pub one_within : (counts : Bool) (n left all : ℕ) → n + suc left ≤ all → one_more counts n + left ≤ all
one_within true n left all p = omega arith
one_within false n left all p = omega arith

pub within_more : (s : Seen) (i : Item) (t : Token) (ts left : List Token) (all : ℕ) → left ≡ t ∷ ts → IsWithin s (length left) all → IsWithin (seen_after s i) (length ts) all
within_more s i t ts left all e w =
    let more : length left ≡ suc (length ts) = ap length e in
    record {
      whole = one_within _ s.whole (length ts) all (omega (arith, w.whole));
      decimals = one_within _ s.decimals (length ts) all (omega (arith, w.decimals));
      percents = one_within _ s.percents (length ts) all (omega (arith, w.percents));
    }

pub within_small : (s : Seen) (t : Token) (ts left : List Token) (all : ℕ) → left ≡ t ∷ ts → IsWithin s (length left) all → all < 2 ^ 63
    → (s.whole < 2 ^ 63) × (s.decimals < 2 ^ 63) × (s.percents < 2 ^ 63)
within_small s t ts left all e w few =
    let more : length left ≡ suc (length ts) = ap length e in
    (omega (arith, w.whole), omega (arith, w.decimals), omega (arith, w.percents))

-- an item more of those left
pub seen_more : (s whole : Seen) (t : Token) (ts left : List Token) → left ≡ t ∷ ts → seen_all s (kinds left) ≡ whole → seen_all (seen_after s t.0) (kinds ts) ≡ whole
seen_more s whole t ts left e all = sym (ap (λ xs. seen_all s (kinds xs)) e) ∙ all

-- commas
one_moved : (counts : Bool) (n rest : ℕ) → one_more counts n + rest ≡ n + one_more counts rest
one_moved true n rest = omega arith
one_moved false n rest = refl

pub thousands_more : (all s : Seen) (n now whole : ℕ) (t : Token) (ts left : List Token) → left ≡ t ∷ ts → now ≡ one_more (is_comma t.0 && divides all s) n
    → n + thousands_from all s (kinds left) ≡ whole → now + thousands_from all (seen_after s t.0) (kinds ts) ≡ whole
thousands_more all s n now whole t ts left e is so =
    ap (λ k. k + thousands_from all (seen_after s t.0) (kinds ts)) is ∙ one_moved (is_comma t.0 && divides all s) n (thousands_from all (seen_after s t.0) (kinds ts))
    ∙ sym (ap (λ xs. n + thousands_from all s (kinds xs)) e) ∙ so

pub thousands_within : (counts : Bool) (n now all : ℕ) (t : Token) (ts left : List Token) → left ≡ t ∷ ts → now ≡ one_more counts n → n + length left ≤ all → now + length ts ≤ all
thousands_within counts n now all t ts left e is so =
    let more : length left ≡ suc (length ts) = ap length e in
    rw is (one_within counts n (length ts) all (omega arith))

pub thousands_small : (n all : ℕ) (t : Token) (ts left : List Token) → left ≡ t ∷ ts → n + length left ≤ all → all < 2 ^ 63 → n < 2 ^ 63
thousands_small n all t ts left e so few = let more : length left ≡ suc (length ts) = ap length e in omega arith

or_assoc : (a b c : Bool) → ((a || b) || c) ≡ (a || (b || c))
or_assoc true b c = refl
or_assoc false b c = refl

pub grouping_more : (all s : Seen) (g now whole : Bool) (t : Token) (ts left : List Token) → left ≡ t ∷ ts → now ≡ (g || (is_comma t.0 && groups all s))
    → (g || grouping_from all s (kinds left)) ≡ whole → (now || grouping_from all (seen_after s t.0) (kinds ts)) ≡ whole
grouping_more all s g now whole t ts left e is so =
    ap (λ k. k || grouping_from all (seen_after s t.0) (kinds ts)) is ∙ or_assoc g (is_comma t.0 && groups all s) (grouping_from all (seen_after s t.0) (kinds ts))
    ∙ sym (ap (λ xs. g || grouping_from all s (kinds xs)) e) ∙ so
