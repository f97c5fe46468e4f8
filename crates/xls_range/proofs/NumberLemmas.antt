-- Cells with their numbers, and cells whose positions ascend from each to the next.
use Rattle.std.proofs.Common.{◌≡◌, ℕ, ◌+◌, ◌<◌, List, [], ◌∷◌, ◌++◌, map, length, get_or, refl, sym, ap, subst, ◌∙◌, append_assoc, arith, add-one}
use Rattle.std.specs.List.{AllByRecursion}
use Rattle.std.proofs.lemmas.List.{append-nil, map-append, length-append}
use Rattle.xls_range.specs.declared.sorted.Numbered.{Numbered}
use Rattle.xls_range.specs.Positions.{Entry, Precedes, IsAscending, IsNumbered, IsNumberedTo, cell_position, numbered_entry}
use Rattle.xls_range.proofs.LastLemmas.{weaker}
use Rattle.xls_range.proofs.PutLemmas.{all_push, before_trans}

module _ {T : Type 0} where
  -- ---- numbers

  numbers_push : (n : ℕ) (xs : List (Numbered T)) (y : Numbered T) → IsNumbered xs
      → AllByRecursion (λ x. x.number < n) xs → y.number ≡ n → IsNumbered (xs ++ y ∷ [])
  numbers_push n [] y a b e = (tt, tt)
  numbers_push n (x ∷ xs) y a b e =
      let l = b.0 in
      (all_push (λ z. x.number < z.number) xs y a.0 (omega arith), numbers_push n xs y a.1 b.1 e)

  -- the next number
  pub number_next : (xs ys : List (Numbered T)) (y : Numbered T) → IsNumberedTo (length xs) xs → y.number ≡ length xs
      → ys ≡ xs ++ y ∷ [] → IsNumberedTo (length ys) ys
  number_next xs ys y s n e =
      let len : length ys ≡ length xs + 1 = ap length e ∙ omega (arith, length-append xs (y ∷ [])) in (
        subst (λ (l : List (Numbered T)). IsNumbered l) (sym e) (numbers_push (length xs) xs y s.0 s.1 n),
        subst (λ (l : List (Numbered T)). AllByRecursion (λ x. x.number < length ys) l) (sym e)
            (all_push (λ x. x.number < length ys) xs y (weaker (λ x. x.number < length xs) (λ x. x.number < length ys) (λ x l. omega arith) xs s.1) (omega arith)),
      )

  -- ---- ascending positions

  -- of the first n cells each comes before the next
  abbrev pub Climbs : ℕ → List (Entry T) → Type 0
  Climbs n cells = (k : ℕ) (d : Entry T) → k + 1 < n → Precedes (get_or cells k d).0 (get_or cells (k + 1) d).0

  shift : (x : Entry T) (xs : List (Entry T)) (k : ℕ) (d : Entry T) → get_or (x ∷ xs) (k + 1) d ≡ get_or xs k d
  shift x xs k d = rw (add-one k) refl

  tail_climbs : (x : Entry T) (xs : List (Entry T)) → Climbs (length (x ∷ xs)) (x ∷ xs) → Climbs (length xs) xs
  tail_climbs x xs h k d l =
      subst (λ (y : Entry T). Precedes y.0 (get_or xs (k + 1) d).0) (shift x xs k d)
      (subst (λ (y : Entry T). Precedes (get_or (x ∷ xs) (k + 1) d).0 y.0) (shift x xs (k + 1) d) (h (k + 1) d (omega arith)))

  pub ascending_from : (cells : List (Entry T)) → Climbs (length cells) cells → IsAscending (map cell_position cells)
  ascending_from [] h = tt
  ascending_from (x ∷ []) h = (tt, tt)
  ascending_from (x ∷ y ∷ ys) h =
      let rest = ascending_from (y ∷ ys) (tail_climbs x (y ∷ ys) h) in
      let first : Precedes (cell_position x) (cell_position y) = h 0 x (omega arith) in (
        (first, weaker (Precedes (cell_position y)) (Precedes (cell_position x)) (λ p n. before_trans x.0.0 x.0.1 y.0.0 y.0.1 p.0 p.1 first n) (map cell_position ys) rest.0),
        rest,
      )
