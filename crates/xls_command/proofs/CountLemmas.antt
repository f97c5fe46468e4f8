-- Cells that are counted one after the other, and the sum of their whole numbers.
use Rattle.std.proofs.Common.{◌≡◌, ℕ, ◌+◌, ◌*◌, ◌≤◌, List, [], ◌∷◌, ◌++◌, length, map, ℤ, pos, neg_ℤ, ◌+ℤ◌, ◌≤ℤ◌, SFits, w64, Bool, true, false, if◌then◌else◌, refl, sym, ap, subst, ◌∙◌, append_assoc, arith}
use Rattle.std.proofs.lemmas.Int.{ints}
use Rattle.std.proofs.lemmas.List.{length-append, map-append}
use Rattle.xls_data.specs.Content.{Content}
use Rattle.xls_data.specs.Data.{content_of, is_nothing}
use Rattle.xls_range.specs.Lists.{used}
use Rattle.xls_data.specs.declared.values.Data.{Data}
use Rattle.xls_command.specs.Sample.{int_of, sum_of_ints}
use Rattle.xls_command.proofs.SumLemmas.{sum_more}

-- a cell with its row and its column
abbrev pub Placed : Type 0
Placed = ℕ × ℕ × Data

abbrev pub contents : List Placed → List Content
contents cs = map (λ (c : Placed). content_of c.2) cs

-- of all cells the first ones are counted, and these are left; each adds at most 2^63 either way
pub record SoFar (all left : List Placed) (cells : ℕ) (sum : ℤ) : Type 0 where
  pub first : List Placed
  pub whole : all ≡ first ++ left
  pub counted : cells ≡ length first
  pub summed : sum ≡ sum_of_ints (contents first)
  pub low : neg_ℤ (pos (cells * 9_223_372_036_854_775_808)) ≤ℤ sum
  pub high : sum ≤ℤ pos (cells * 9_223_372_036_854_775_808)

-- one cell more
count_more : (all left : List Placed) (cell : Placed) (cells : ℕ) (sum next : ℤ) → SoFar all (cell ∷ left) cells sum
    → SFits w64 next → next ≡ int_of (content_of cell.2) → SoFar all left (cells + 1) (sum +ℤ next)
count_more all left cell cells sum next so fits is = record {
  first = so.first ++ cell ∷ [];
  whole = so.whole ∙ sym (append_assoc so.first (cell ∷ []) left);
  counted = let n = so.counted in omega (arith, n, length-append so.first (cell ∷ []));
  summed = rw (so.summed, is) (sym (ap sum_of_ints (map-append (λ (c : Placed). content_of c.2) so.first (cell ∷ [])) ∙ sum_more (contents so.first) (content_of cell.2)));
  low = let low : _ ≤ℤ _ = so.low in omega (arith, ints);
  high = let high : _ ≤ℤ _ = so.high in omega (arith, ints);
}

pub count_nothing : (all : List Placed) → SoFar all all 0 (pos 0)
count_nothing all = record { first = []; whole = refl; counted = refl; summed = refl; low = omega (arith, ints); high = omega (arith, ints) }

pub count_next : (all old left : List Placed) (cell : Placed) (cells : ℕ) (sum next : ℤ) → SoFar all old cells sum
    → old ≡ cell ∷ left → SFits w64 next → next ≡ int_of (content_of cell.2)
    → SoFar all left (cells + 1) (sum +ℤ next)
count_next all old left cell cells sum next so split fits is =
    count_more all left cell cells sum next (subst (λ (l : List Placed). SoFar all l cells sum) split so) fits is

-- a cell more is one of all
pub counted_next : (all old left : List Placed) (cell : Placed) (cells : ℕ) (sum : ℤ) → SoFar all old cells sum
    → old ≡ cell ∷ left → cells + 1 ≤ length all
counted_next all old left cell cells sum so split =
    let whole = ap length (so.whole ∙ ap (λ (l : List Placed). so.first ++ l) split) ∙ length-append so.first (cell ∷ left) in
    let counted = so.counted in
    omega (arith, whole, counted)

-- a cell that isn't blank is used
pub used_kept : (cell : Placed) (cells : List Placed) → false ≡ is_nothing cell.2
    → used is_nothing (cell ∷ cells) ≡ cell ∷ used is_nothing cells
used_kept cell cells h = ap (λ (b : Bool). if b then used is_nothing cells else cell ∷ used is_nothing cells) (sym h)

one_more : (cell : Placed) (cells : List Placed) (b : Bool) → length (used is_nothing cells) ≤ length cells
    → length (if b then used is_nothing cells else cell ∷ used is_nothing cells) ≤ length (cell ∷ cells)
one_more cell cells true most = omega (arith, most)
one_more cell cells false most = omega (arith, most)

-- no more are used than there are
pub used_most : (cells : List Placed) → length (used is_nothing cells) ≤ length cells
used_most [] = grind arith
used_most (cell ∷ cells) = one_more cell cells (is_nothing cell.2) (used_most cells)
