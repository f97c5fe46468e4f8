-- The first cells of a list, of which each position has one.
use Rattle.std.proofs.Common.{◌≡◌, ℕ, zero, suc, ◌+◌, ◌-◌, ◌<◌, ◌≤◌, Bool, true, false, List, [], ◌∷◌, ◌++◌, length, take, drop, get_or, set, map, refl, sym, ap, subst, ◌∙◌, arith, inl, inr}
use Rattle.std.specs.Prelude.{◌⊎◌, ◌==◌, ◌&&◌, IsTrue}
use Rattle.std.specs.List.{swap}
use Rattle.std.proofs.lemmas.List.{map-append, length-map, length-take-le, get_or-map, get_or-take, set_at, take_more, take_more_set, take-set, take-set-le, length-set}
use Rattle.std.proofs.lemmas.List.Edits.{swap_is}
use Rattle.xls_range.specs.declared.sorted.Numbered.{Numbered}
use Rattle.xls_range.specs.Positions.{Entry, Position, numbered_entry, kept_cells, EndsAt, PutsEntry}

module _ {T : Type 0} where
  -- the cell at i after the first cells
  pub swapped : (xs : List (Numbered T)) (at i : ℕ) (d : Numbered T) → at ≤ i → i < length xs
      → take (at + 1) (swap xs at i) ≡ take at xs ++ get_or xs i d ∷ []
  swapped xs at i d h l = ap (take (at + 1)) (sym (swap_is xs at i d (omega arith) l)) ∙ by_place (at == i) refl
    where
      once : List (Numbered T)
      once = set xs at (get_or xs i d)

      by_place : (b : Bool) → (at == i) ≡ b → take (at + 1) (set once i (get_or xs at d)) ≡ take at xs ++ get_or xs i d ∷ []
      by_place true e =
          let same : at ≡ i = grind arith in
          ap (λ (k : ℕ). take (at + 1) (set once k (get_or xs at d))) (sym same)
          ∙ take_more_set once at (get_or xs at d) (omega (arith, length-set xs at (get_or xs i d)))
          ∙ ap (λ (l : List (Numbered T)). l ++ get_or xs at d ∷ []) (take-set xs at (get_or xs i d))
          ∙ ap (λ (k : ℕ). take at xs ++ get_or xs k d ∷ []) same
      by_place false e =
          let apart : at + 1 ≤ i = grind arith in
          take-set-le (at + 1) once i (get_or xs at d) apart
          ∙ take_more_set xs at (get_or xs i d) (omega arith)

  pub kept_swapped : (xs : List (Numbered T)) (at i : ℕ) (d : Numbered T) → at ≤ i → i < length xs
      → kept_cells (at + 1) (swap xs at i) ≡ kept_cells at xs ++ numbered_entry (get_or xs i d) ∷ []
  kept_swapped xs at i d h l = ap (map numbered_entry) (swapped xs at i d h l) ∙ map-append numbered_entry (take at xs) (get_or xs i d ∷ [])

  -- the element at an index, and those after it
  pub at_index : (xs : List (Numbered T)) (i : ℕ) → i < length xs
      → (y : Numbered T) × (drop i xs ≡ y ∷ drop (i + 1) xs) × ((d : Numbered T) → get_or xs i d ≡ y)
  at_index [] i l = absurd (omega arith)
  at_index (x ∷ xs) zero l = (x, refl, λ d. refl)
  at_index (x ∷ xs) (suc i) l =
      let y = at_index xs i (omega arith) in
      let after : suc (i + 1) ≡ suc i + 1 = omega arith in
      (y.0, y.1 ∙ ap (λ (k : ℕ). y.0 ∷ drop k (x ∷ xs)) after, y.2)

  pub length-kept : (kept : ℕ) (xs : List (Numbered T)) → kept ≤ length xs → length (kept_cells kept xs) ≡ kept
  length-kept kept xs h = length-map (take kept xs) numbered_entry ∙ length-take-le kept xs h

  -- the last of the first cells
  pub last_kept : (kept : ℕ) (xs : List (Numbered T)) (c : Numbered T) (d : Entry T) → 0 < kept → kept ≤ length xs
      → get_or (kept_cells kept xs) (length (kept_cells kept xs) - 1) d ≡ numbered_entry (get_or xs (kept - 1) c)
  last_kept kept xs c d p h =
      ap (λ (n : ℕ). get_or (kept_cells kept xs) (n - 1) d) (length-kept kept xs h)
      ∙ get_or-map numbered_entry (take kept xs) (kept - 1) c d (omega (arith, length-take-le kept xs h))
      ∙ ap numbered_entry (get_or-take kept xs (kept - 1) c (omega arith))

  -- whether the last of them has a position, by a comparison
  pub ends_kept : (xs : List (Numbered T)) (kept : ℕ) (c : Numbered T) (p q : Position) → 0 < kept → kept ≤ length xs
      → p ≡ (get_or xs (kept - 1) c).cell.0
      → (IsTrue (p.0 == q.0 && p.1 == q.1) → EndsAt (kept_cells kept xs) q.0 q.1)
      × (EndsAt (kept_cells kept xs) q.0 q.1 → IsTrue (p.0 == q.0 && p.1 == q.1))
  ends_kept xs kept c p q some h e = (
    λ t. (
      omega (arith, length-kept kept xs h),
      λ d.
          let at = last_kept kept xs c d some h in
          let same = are_same p.0 p.1 q.0 q.1 t in (
            ap (λ (x : Entry T). x.0.0) at ∙ ap (λ (x : Position). x.0) (sym e) ∙ same.0,
            ap (λ (x : Entry T). x.0.1) at ∙ ap (λ (x : Position). x.1) (sym e) ∙ same.1,
          ),
    ),
    λ ends.
        let at = last_kept kept xs c (numbered_entry c) some h in
        let row = ap (λ (x : Position). x.0) e ∙ ap (λ (x : Entry T). x.0.0) (sym at) ∙ (ends.1 (numbered_entry c)).0 in
        let column = ap (λ (x : Position). x.1) e ∙ ap (λ (x : Entry T). x.0.1) (sym at) ∙ (ends.1 (numbered_entry c)).1 in
        are_equal p.0 p.1 q.0 q.1 row column,
  )
    where
      are_same : (a b c d : ℕ) → IsTrue (a == c && b == d) → (a ≡ c) × (b ≡ d)
      are_same a b c d t = grind arith

      are_equal : (a b c d : ℕ) → a ≡ c → b ≡ d → IsTrue (a == c && b == d)
      are_equal a b c d e f = grind arith

  -- in place of the last of them
  pub put_over : (xs : List (Numbered T)) (kept i : ℕ) (c : Numbered T) → 0 < kept → kept ≤ i → i < length xs
      → EndsAt (kept_cells kept xs) (get_or xs i c).cell.0.0 (get_or xs i c).cell.0.1
      → PutsEntry (kept_cells kept xs) (numbered_entry (get_or xs i c)) (kept_cells kept (swap xs (kept - 1) i))
  put_over xs kept i c p h l ends = inl (ends, whole)
    where
      again : kept - 1 + 1 ≡ kept
      again = omega arith

      prefix : kept_cells kept xs ≡ kept_cells (kept - 1) xs ++ numbered_entry (get_or xs (kept - 1) c) ∷ []
      prefix =
          ap (λ (k : ℕ). kept_cells k xs) (sym again)
          ∙ ap (map numbered_entry) (take_more xs (kept - 1) c (omega arith))
          ∙ map-append numbered_entry (take (kept - 1) xs) (get_or xs (kept - 1) c ∷ [])

      whole : kept_cells kept (swap xs (kept - 1) i) ≡ set (kept_cells kept xs) (length (kept_cells kept xs) - 1) (numbered_entry (get_or xs i c))
      whole =
          ap (λ (k : ℕ). kept_cells k (swap xs (kept - 1) i)) (sym again)
          ∙ kept_swapped xs (kept - 1) i c (omega arith) l
          ∙ sym (
          ap (λ (n : ℕ). set (kept_cells kept xs) (n - 1) (numbered_entry (get_or xs i c))) (length-kept kept xs (omega arith))
          ∙ ap (λ (es : List (Entry T)). set es (kept - 1) (numbered_entry (get_or xs i c))) prefix
          ∙ set_at (kept_cells (kept - 1) xs) (numbered_entry (get_or xs (kept - 1) c)) [] (numbered_entry (get_or xs i c)) (kept - 1) (length-kept (kept - 1) xs (omega arith))
          )

  -- after them
  pub put_after : (xs : List (Numbered T)) (kept i : ℕ) (c : Numbered T) → kept ≤ i → i < length xs
      → (EndsAt (kept_cells kept xs) (get_or xs i c).cell.0.0 (get_or xs i c).cell.0.1 → ⊥)
      → PutsEntry (kept_cells kept xs) (numbered_entry (get_or xs i c)) (kept_cells (kept + 1) (swap xs kept i))
  put_after xs kept i c h l apart = inr (apart, kept_swapped xs kept i c h l)
