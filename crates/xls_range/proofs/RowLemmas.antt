use Rattle.std.proofs.Common.{◌≡◌, ℕ, zero, suc, ◌+◌, ◌-◌, ◌*◌, ◌<◌, ◌≤◌, arith, refl, List, [], ◌∷◌, ◌++◌, length, take, drop, ◌∙◌, ap, append-nil, Bool, true, false, Some, ◌/◌, ◌%◌, length-drop, length-append}
use Rattle.std.specs.Prelude.{if◌then◌else◌}
use Rattle.std.proofs.lemmas.List.{take_all, take-take, drop-take, drop-drop}
use Rattle.xls_range.specs.Lists.{rows_of, cells_from, used, last_used, or_this}

pub rows_count : {T : Type 0} (n width : ℕ) (cells : List T) → length (rows_of n width cells) ≡ n
rows_count zero width cells = refl
rows_count (suc n) width cells = ap (λ k. suc k) (rows_count n width (drop width cells))

pub rows_first : {T : Type 0} (n width : ℕ) (cells : List T) → 0 < n → rows_of n width cells ≡ take width cells ∷ rows_of (n - 1) width (drop width cells)
rows_first zero width cells p = absurd (omega arith)
rows_first (suc n) width cells p = let e : suc n - 1 ≡ n = omega arith in rw e

-- one row fits
pub one_row : (n width : ℕ) → 0 < n → (width ≤ n * width) × (n * width ≡ (n - 1) * width + width)
one_row zero width p = absurd (omega arith)
one_row (suc n) width p = let e : suc n - 1 ≡ n = omega arith in rw e (omega arith, omega arith)

-- the last row, where there are n + 1
pub rows_end : {T : Type 0} (n width : ℕ) (cells : List T) → length cells ≡ suc n * width
    → rows_of (suc n) width cells ≡ rows_of n width (take (n * width) cells) ++ drop (n * width) cells ∷ []
rows_end zero width cells e =
    let one : length cells ≤ width = omega arith in
    let none : zero * width ≡ 0 = omega arith in
    rw (take_all width cells one, none)
rows_end (suc n) width cells e =
    let split : suc n * width ≡ width + n * width = omega arith in
    let left : length (drop width cells) ≡ suc n * width = omega (arith, length-drop width cells) in
    let first : take width (take (width + n * width) cells) ≡ take width cells = take-take width (width + n * width) cells (omega arith) in
    let rest : drop width (take (width + n * width) cells) ≡ take (n * width) (drop width cells) = drop-take width (n * width) cells in
    let last : drop (n * width) (drop width cells) ≡ drop (width + n * width) cells = drop-drop (n * width) width cells in
    let end = rows_end n width (drop width cells) left in
    rw (split, first, rest, ← last) (ap (λ r. take width cells ∷ r) end)

pub rows_last : {T : Type 0} (n width : ℕ) (cells : List T) → 0 < n → length cells ≡ n * width
    → rows_of n width cells ≡ rows_of (n - 1) width (take ((n - 1) * width) cells) ++ drop ((n - 1) * width) cells ∷ []
rows_last zero width cells p e = absurd (omega arith)
rows_last (suc n) width cells p e = let back : suc n - 1 ≡ n = omega arith in rw back (rows_end n width cells e)

pub cells_count : {T : Type 0} (index width : ℕ) (xs : List T) → length (cells_from index width xs) ≡ length xs
cells_count index width [] = refl
cells_count index width (x ∷ xs) = ap (λ k. suc k) (cells_count (index + 1) width xs)

pub cells_snoc : {T : Type 0} (index width : ℕ) (xs : List T) (x : T) → cells_from index width (xs ++ x ∷ []) ≡ cells_from index width xs ++ ((index + length xs) / width, (index + length xs) % width, x) ∷ []
cells_snoc index width [] x = let e : index + 0 ≡ index = omega arith in rw e
cells_snoc index width (y ∷ xs) x =
    let e : index + suc (length xs) ≡ index + 1 + length xs = omega arith in
    rw e (ap (λ r. (index / width, index % width, y) ∷ r) (cells_snoc (index + 1) width xs x))

pub used_last : {T : Type 0} (blank : T → Bool) (xs : List (ℕ × ℕ × T)) (x : ℕ × ℕ × T) → used blank (xs ++ x ∷ []) ≡ used blank xs ++ (if blank x.2 then [] else x ∷ [])
used_last blank [] x = refl
used_last blank (y ∷ xs) x = elim (blank y.2) as (λ b. (if b then used blank (xs ++ x ∷ []) else y ∷ used blank (xs ++ x ∷ [])) ≡ (if b then used blank xs else y ∷ used blank xs) ++ (if blank x.2 then [] else x ∷ []))
    [ true ↦ used_last blank xs x | false ↦ ap (λ r. y ∷ r) (used_last blank xs x) ]

pub used_last_blank : {T : Type 0} (blank : T → Bool) (xs : List (ℕ × ℕ × T)) (x : ℕ × ℕ × T) → blank x.2 ≡ true → used blank (xs ++ x ∷ []) ≡ used blank xs
used_last_blank blank xs x e = used_last blank xs x ∙ rw (e, append-nil)

pub used_last_kept : {T : Type 0} (blank : T → Bool) (xs : List (ℕ × ℕ × T)) (x : ℕ × ℕ × T) → blank x.2 ≡ false → used blank (xs ++ x ∷ []) ≡ used blank xs ++ x ∷ []
used_last_kept blank xs x e = used_last blank xs x ∙ rw e

pub used_last_longer : {T : Type 0} (blank : T → Bool) (xs : List (ℕ × ℕ × T)) (x : ℕ × ℕ × T) → blank x.2 ≡ false → length (used blank (xs ++ x ∷ [])) ≡ length (used blank xs) + 1
used_last_longer blank xs x e = ap length (used_last_kept blank xs x e) ∙ length-append (used blank xs) (x ∷ [])

-- the last cell that is not blank, where one cell more stands at the end
last_used-append : {T : Type 0} (blank : T → Bool) (xs : List (ℕ × ℕ × T)) (x : ℕ × ℕ × T)
    → last_used blank (xs ++ x ∷ []) ≡ (if blank x.2 then last_used blank xs else Some (x, xs))
last_used-append blank [] x = refl
last_used-append blank (y ∷ xs) x =
    ap (or_this blank y) (last_used-append blank xs x)
    ∙ elim (blank x.2) as (λ b. or_this blank y (if b then last_used blank xs else Some (x, xs))
    ≡ (if b then or_this blank y (last_used blank xs) else Some (x, y ∷ xs))) [ true ↦ refl | false ↦ refl ]

pub last_used_blank : {T : Type 0} (blank : T → Bool) (xs : List (ℕ × ℕ × T)) (x : ℕ × ℕ × T)
    → blank x.2 ≡ true → last_used blank (xs ++ x ∷ []) ≡ last_used blank xs
last_used_blank blank xs x e = last_used-append blank xs x ∙ rw e

pub last_used_kept : {T : Type 0} (blank : T → Bool) (xs : List (ℕ × ℕ × T)) (x : ℕ × ℕ × T)
    → blank x.2 ≡ false → last_used blank (xs ++ x ∷ []) ≡ Some (x, xs)
last_used_kept blank xs x e = last_used-append blank xs x ∙ rw e

-- at most as many are left as there are cells
pub used_count : {T : Type 0} (blank : T → Bool) (xs : List (ℕ × ℕ × T)) → length (used blank xs) ≤ length xs
used_count blank [] = omega arith
used_count blank (x ∷ xs) =
    let rest = used_count blank xs in
    elim (blank x.2) as (λ b. length (if b then used blank xs else x ∷ used blank xs) ≤ length (x ∷ xs)) [ true ↦ omega arith | false ↦ omega arith ]
