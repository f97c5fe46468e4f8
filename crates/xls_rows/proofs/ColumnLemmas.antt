-- Lists of columns, and rows as wide as their range.
use Rattle.std.proofs.Common.{◌≡◌, ◌∙◌, ℕ, zero, suc, ◌+◌, ◌*◌, ◌<◌, ◌≤◌, List, [], ◌∷◌, ◌++◌, sym, ap, subst, arith, take, drop, length, length-take, length-drop}
use Rattle.std.specs.Prelude.{All, Some, None}
use Rattle.std.proofs.lemmas.List.Elements.{All-cons}
use Rattle.xls_range.specs.Lists.{rows_of}
use Rattle.xls_rows.specs.Columns.{numbers_from}
use Rattle.xls_rows.specs.Rows.{AreWithin}

numbers_next : (a n : ℕ) → numbers_from a (suc n) ≡ numbers_from a n ++ (a + n) ∷ []
numbers_next a zero = let e : a + 0 ≡ a = omega arith in rw e
numbers_next a (suc n) = let e : a + suc n ≡ a + 1 + n = omega arith in rw e (ap (λ l. a ∷ l) (numbers_next (a + 1) n))

-- one more number
pub numbers_more : (n : ℕ) → numbers_from 0 (n + 1) ≡ numbers_from 0 n ++ n ∷ []
numbers_more n = let e : n + 1 ≡ suc n = omega arith in let z : 0 + n ≡ n = omega arith in rw e (numbers_next 0 n ∙ rw z)

none_below : {X : Type 0} (P : X → Type 0) → All P []
none_below P = λ k d h. absurd (omega arith)

numbers_below_from : (a n m : ℕ) → a + n ≤ m → All (λ k. k < m) (numbers_from a n)
numbers_below_from a zero m h = none_below (λ k. k < m)
numbers_below_from a (suc n) m h = All-cons (λ k. k < m) a (numbers_from (a + 1) n) (omega arith) (numbers_below_from (a + 1) n m (omega arith))

-- the numbers are below their count
pub numbers_below : (n : ℕ) → All (λ k. k < n) (numbers_from 0 n)
numbers_below n = numbers_below_from 0 n n (omega arith)

-- each row is as wide as the range
pub rows_wide : {T : Type 0} (n width : ℕ) (cells : List T) → length cells ≡ n * width → All (λ row. length row ≡ width) (rows_of n width cells)
rows_wide zero width cells e = none_below (λ row. length row ≡ width)
rows_wide (suc n) width cells e =
    let first : length (take width cells) ≡ width = simp length-take (omega arith) in
    let rest : length (drop width cells) ≡ n * width = simp length-drop (omega arith) in
    All-cons (λ row. length row ≡ width) (take width cells) (rows_of n width (drop width cells)) first (rows_wide n width (drop width cells) rest)

-- columns of a range are columns of each of its rows
pub rows_within_unnamed : {T : Type 0} (width : ℕ) (rows : List (List T)) (indexes : List ℕ)
    → All (λ row. length row ≡ width) rows → All (λ k. k < width) indexes → All (λ row. AreWithin None row indexes) rows
rows_within_unnamed width rows indexes wide below =
    λ k d h. (subst (λ n. All (λ i. i < n) indexes) (sym (wide k d h)) below, tt)

pub rows_within_named : {T : Type 0} (width : ℕ) (headers : List (List ℕ)) (rows : List (List T)) (indexes : List ℕ)
    → length headers ≡ width → All (λ row. length row ≡ width) rows → All (λ k. k < width) indexes → All (λ row. AreWithin (Some headers) row indexes) rows
rows_within_named width headers rows indexes e wide below =
    λ k d h. (subst (λ n. All (λ i. i < n) indexes) (sym (wide k d h)) below, subst (λ n. All (λ i. i < n) indexes) (sym e) below)
