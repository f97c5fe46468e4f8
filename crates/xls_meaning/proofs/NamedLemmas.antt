-- What stands at the last sheet of a name.
use Rattle.std.proofs.Common.{◌≡◌, ℕ, zero, suc, List, [], ◌∷◌, length, map, refl, sym, ap, ◌∙◌, arith, Bool, true, false, Option, Some, None}
use Rattle.std.specs.Prelude.{◌==◌, ◌||◌, if◌then◌else◌, is_some, unwrap_or, slice_get}
use Rattle.std.specs.Option.{option_or}
use Rattle.std.specs.Cmp.Lexicographic.{pointwise}
use Rattle.std.proofs.lemmas.Slice.Eq.{bytes_eq-Decides}
use Rattle.xls_data.specs.Sheets.{SheetContent}
use Rattle.xls_meaning.specs.Reading.{last_named}
use Rattle.xls_meaning.specs.Reading.{paired}

-- ---- the content of a name

same_name : (name : List ℕ) → pointwise ◌==◌ name name ≡ true
same_name name = (bytes_eq-Decides name name).1 refl

-- ---- what each index shows

module _ {X : Type 0} (d : X) where
  some_or : (o p : Option X) → o ≡ Some (unwrap_or o d) → option_or o p ≡ Some (unwrap_or (option_or o p) d)
  some_or None p h = absurd cc
  some_or (Some x) p h = refl

  some_here : (o : Option X) (x : X) (b : Bool) → b ≡ true
      → option_or o (if b then Some x else None) ≡ Some (unwrap_or (option_or o (if b then Some x else None)) d)
  some_here None x true e = refl
  some_here (Some y) x true e = refl
  some_here o x false e = absurd cc

  -- a sheet that is there has a last sheet of its name
  pub named_some : (ts : List SheetContent) (vs : List X) (n : ℕ) (t : SheetContent) → length vs ≡ length ts
      → slice_get ts n ≡ Some t
      → last_named (paired ts vs) t.name ≡ Some (unwrap_or (last_named (paired ts vs) t.name) d)
  named_some [] vs n t e h = absurd cc
  named_some (u ∷ ts) [] n t e h = absurd (omega (arith, e))
  named_some (u ∷ ts) (v ∷ vs) zero t e h =
      let same : u ≡ t = cc in
      some_here (last_named (paired ts vs) t.name) v (pointwise ◌==◌ u.name t.name)
      (ap (λ (x : SheetContent). pointwise ◌==◌ x.name t.name) same ∙ same_name t.name)
  named_some (u ∷ ts) (v ∷ vs) (suc n) t e h =
      some_or (last_named (paired ts vs) t.name) (if pointwise ◌==◌ u.name t.name then Some v else None) (named_some ts vs n t (omega (arith, e)) h)

  abbrev has_name : List SheetContent → List ℕ → Bool
  has_name [] name = false
  has_name (t ∷ ts) name = has_name ts name || pointwise ◌==◌ t.name name

  abbrev marked : Bool → X → Option X
  marked b x = if b then Some x else None

  marked_or : (a b : Bool) (x : X) → option_or (marked a x) (marked b x) ≡ marked (a || b) x
  marked_or true b x = refl
  marked_or false b x = refl

  is_marked : (o : Option X) → o ≡ marked (is_some o) (unwrap_or o d)
  is_marked None = refl
  is_marked (Some x) = refl

  some_both : (o : Option X) (b : Bool) (x : X) → is_some (option_or o (if b then Some x else None)) ≡ is_some o || b
  some_both None true x = refl
  some_both None false x = refl
  some_both (Some y) b x = refl

  has_last : (ts : List SheetContent) (vs : List X) (name : List ℕ) → length vs ≡ length ts
      → is_some (last_named (paired ts vs) name) ≡ has_name ts name
  has_last [] vs name e = refl
  has_last (t ∷ ts) [] name e = absurd (omega (arith, e))
  has_last (t ∷ ts) (v ∷ vs) name e =
      some_both (last_named (paired ts vs) name) (pointwise ◌==◌ t.name name) v
      ∙ ap (λ (b : Bool). b || pointwise ◌==◌ t.name name) (has_last ts vs name (omega (arith, e)))

  -- the elements that stand for the last sheets of the names
  abbrev lasts : List (SheetContent × X) → List SheetContent → List X
  lasts all ts = map (λ (t : SheetContent). unwrap_or (last_named all t.name) d) ts

  module _ (all : List (SheetContent × X)) (name : List ℕ) where
    one_mark : (t : SheetContent) (b : Bool) → pointwise ◌==◌ t.name name ≡ b
        → (if b then Some (unwrap_or (last_named all t.name) d) else None) ≡ marked b (unwrap_or (last_named all name) d)
    one_mark t false e = refl
    one_mark t true e =
        ap (λ (n : List ℕ). Some (unwrap_or (last_named all n) d)) ((bytes_eq-Decides t.name name).0 e)

    all_marked : (ts : List SheetContent)
        → last_named (paired ts (lasts all ts)) name ≡ marked (has_name ts name) (unwrap_or (last_named all name) d)
    all_marked [] = refl
    all_marked (t ∷ ts) =
        ap (λ (o : Option X). option_or o (if pointwise ◌==◌ t.name name then Some (unwrap_or (last_named all t.name) d) else None)) (all_marked ts)
        ∙ ap (option_or (marked (has_name ts name) (unwrap_or (last_named all name) d))) (one_mark t (pointwise ◌==◌ t.name name) refl)
        ∙ marked_or (has_name ts name) (pointwise ◌==◌ t.name name) (unwrap_or (last_named all name) d)

  -- by name, what the indexes show is what stands at the last sheet
  pub named_displayed : (ts : List SheetContent) (vs : List X) (name : List ℕ) → length vs ≡ length ts
      → last_named (paired ts (lasts (paired ts vs) ts)) name ≡ last_named (paired ts vs) name
  named_displayed ts vs name e =
      all_marked (paired ts vs) name ts
      ∙ ap (λ (b : Bool). marked b (unwrap_or (last_named (paired ts vs) name) d)) (sym (has_last ts vs name e))
      ∙ sym (is_marked (last_named (paired ts vs) name))
