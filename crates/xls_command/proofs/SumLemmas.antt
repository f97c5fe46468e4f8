-- The contents that were made: their number, their sum, and that none is blank.
use Rattle.std.proofs.Common.{◌≡◌, ◌≤◌, ℕ, zero, suc, ◌+◌, ◌-◌, ◌*◌, ◌/◌, false, List, [], ◌∷◌, ◌++◌, map, length, refl, sym, ap, subst, ◌∙◌, arith}
use Rattle.std.proofs.lemmas.Int.{ints}
use Rattle.std.proofs.Math.Nat.{mul-le-mul}
use Rattle.std.specs.Prelude.{ℤ, pos, ◌+ℤ◌, ◌≤ℤ◌}
use Rattle.std.specs.List.{flat_map, range_with_len, AllByRecursion}
use Rattle.xls_data.specs.Content.{Content, nothing}
use Rattle.xls_data.specs.Data.{content_of, is_nothing}
use Rattle.xls_data.specs.declared.values.Data.{Data}
use Rattle.xls_data.specs.declared.values.Data.TheVariants as variant
use Rattle.xls_range.specs.Lists.{cells_from, used}
use Rattle.xls_biff.specs.Cells.{CellEntry}
use Rattle.xls_command.specs.Sample.{row_cells, sample_contents, int_of, sum_of_ints, IsNatural}

-- the contents of rows from one on
abbrev pub contents_from : ℕ → ℕ → List Content
contents_from a n = map (λ (c : CellEntry). c.1) (flat_map row_cells (range_with_len a n))

-- two for each row
pub contents_length : (a n : ℕ) → length (contents_from a n) ≡ 2 * n
contents_length a zero = omega arith
contents_length a (suc n) = omega (arith, contents_length (a + 1) n)

-- ---- the sum

-- the sum of numbers from one on
total : ℕ → ℕ → ℕ
total a zero = 0
total a (suc n) = a + total (a + 1) n

-- 0 before a number
zero_prefix : (t : ℕ) → 0 + t ≡ t
zero_prefix t = omega arith

-- the sum of the whole numbers among the contents
sum_total : (a n : ℕ) → sum_of_ints (contents_from a n) ≡ pos (total a n)
unfolding total
sum_total a zero = refl
sum_total a (suc n) =
    ap (λ (s : ℤ). pos a +ℤ (pos 0 +ℤ s)) (sum_total (a + 1) n)
    ∙ ap (λ (t : ℕ). pos (a + t)) (zero_prefix (total (a + 1) n))

-- twice the sum, and the count
twice : (a n : ℕ) → 2 * total a n + n ≡ n * (2 * a + n)
unfolding total
twice a zero = omega arith
twice a (suc n) = omega (arith, twice (a + 1) n)

-- half of twice a number
half_of : (p t : ℕ) → p ≡ 2 * t → p / 2 ≡ t
half_of p t h = omega arith

-- so it is half of a product
half : (n t : ℕ) → 2 * t + n ≡ n * n → n * (n - 1) / 2 ≡ t
half zero t h = omega arith
half (suc n) t h =
    let before : suc n - 1 ≡ n = omega arith in
    ap (λ (k : ℕ). suc n * k / 2) before ∙ half_of (suc n * n) t (omega arith)

-- the sum of all rows
pub sample_sum : (n : ℕ) → sum_of_ints (sample_contents n) ≡ pos (n * (n - 1) / 2)
sample_sum n = sum_total 0 n ∙ ap (λ (t : ℕ). pos t) (sym (half n (total 0 n) (omega (arith, twice 0 n))))

-- the product of two counts
product_small : (a b : ℕ) → a ≤ 65536 → b ≤ 65536 → a * b ≤ 4294967296
product_small a b h k = omega (arith, mul-le-mul h k)

-- the sum fits 32 bits
pub sum_small : (n : ℕ) → n ≤ 65536 → n * (n - 1) / 2 ≤ 2147483648
sum_small n h = let product = product_small n (n - 1) h (omega arith) in omega arith

-- ---- steps of a sum

-- 0 before a whole number
zero_left : (z : ℤ) → pos 0 +ℤ z ≡ z
zero_left z = omega (arith, ints)

-- 0 after one
zero_right : (z : ℤ) → z +ℤ pos 0 ≡ z
zero_right z = omega (arith, ints)

-- sums are grouped freely
grouped : (x y z : ℤ) → x +ℤ (y +ℤ z) ≡ (x +ℤ y) +ℤ z
grouped x y z = omega (arith, ints)

-- one content more
pub sum_more : (cs : List Content) (c : Content)
    → sum_of_ints (cs ++ c ∷ []) ≡ sum_of_ints cs +ℤ int_of c
sum_more [] c = zero_right (int_of c) ∙ sym (zero_left (int_of c))
sum_more (d ∷ cs) c =
    ap (λ (s : ℤ). int_of d +ℤ s) (sum_more cs c) ∙ grouped (int_of d) (sum_of_ints cs) (int_of c)

-- a count isn't negative
natural : (n : ℕ) → pos 0 ≤ℤ pos n
natural n = omega (arith, ints)

-- nor is the sum of two such numbers
both_natural : (x y : ℤ) → pos 0 ≤ℤ x → pos 0 ≤ℤ y → pos 0 ≤ℤ (x +ℤ y)
both_natural x y h k = omega (arith, ints)

-- a sum without a negative number isn't negative
pub sum_natural : (cs : List Content) → AllByRecursion IsNatural cs → pos 0 ≤ℤ sum_of_ints cs
sum_natural [] h = natural 0
sum_natural (c ∷ cs) h = both_natural (int_of c) (sum_of_ints cs) h.0 (sum_natural cs h.1)

-- none of the contents is negative
pub all_natural : (a n : ℕ) → AllByRecursion IsNatural (contents_from a n)
all_natural a zero = tt
all_natural a (suc n) = (natural a, (natural 0, all_natural (a + 1) n))

-- ---- none is blank

-- a content that isn't the blank
abbrev IsThere : Content → Type 0
IsThere nothing = ⊥
IsThere other = Unit {0}

-- its value isn't blank
not_blank : (y : Data) → IsThere (content_of y) → is_nothing y ≡ false
not_blank variant.Empty h = absurd h
not_blank y h = refl

-- none of the contents is the blank
all_there : (a n : ℕ) → AllByRecursion IsThere (contents_from a n)
all_there a zero = tt
all_there a (suc n) = (tt, (tt, all_there (a + 1) n))

-- the used cells are all of them
used_all : (index width : ℕ) (ys : List Data) → AllByRecursion IsThere (map content_of ys)
    → used is_nothing (cells_from index width ys) ≡ cells_from index width ys
used_all index width [] h = refl
used_all index width (y ∷ ys) h =
    let b : is_nothing y ≡ false = not_blank y h.0 in
    rw (b, used_all (index + 1) width ys h.1) refl

-- what all cells contain
contents_cells : (index width : ℕ) (ys : List Data)
    → map (λ (c : ℕ × ℕ × Data). content_of c.2) (cells_from index width ys) ≡ map content_of ys
contents_cells index width [] = refl
contents_cells index width (y ∷ ys) =
    ap (λ (cs : List Content). content_of y ∷ cs) (contents_cells (index + 1) width ys)

-- so the used cells contain what all cells contain
pub used_contents : (n width : ℕ) (ys : List Data) → map content_of ys ≡ sample_contents n
    → map (λ (c : ℕ × ℕ × Data). content_of c.2) (used is_nothing (cells_from 0 width ys)) ≡ sample_contents n
used_contents n width ys e =
    let there = subst (λ (cs : List Content). AllByRecursion IsThere cs) (sym e) (all_there 0 n) in
    ap (map (λ (c : ℕ × ℕ × Data). content_of c.2)) (used_all 0 width ys there) ∙ contents_cells 0 width ys ∙ e
