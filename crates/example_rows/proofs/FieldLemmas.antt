-- Rows that are read field by field.
use Rattle.std.proofs.Common.{◌≡◌, ℕ, List, [], ◌∷◌, refl, sym, ap, ◌∙◌, ◌<◌, ◌≤◌, length, drop, arith, Bool, true, false, Ok, Err}
use Rattle.std.specs.Prelude.{Option, Some, None, if◌then◌else◌}
use Rattle.xls_rows.specs.Rows.{Row, Exposed, from_filled, first_header, first_or, after_key, kept_or_end}
use Rattle.xls_rows.specs.Laws.{named_values, after_value}
use Rattle.xls_rows.specs.declared.error.DeError.{DeError}
use Rattle.xls_rows.proofs.KeyLemmas.{named_only, gives_named}
use Rattle.example_rows.specs.Fields.{IsNextField}

-- no more cells are left than there were
filled_below : {T : Type 0} (empty : T → Bool) (es : List (Exposed T)) → length (from_filled empty es) ≤ length es
filled_below empty [] = omega arith
filled_below empty (e ∷ es) =
    let rest = filled_below empty es in
    elim (empty e.value) as (λ b. length (if b then from_filled empty es else e ∷ es) ≤ length (e ∷ es))
    [ true ↦ omega (arith, rest) | false ↦ omega arith ]

some_filled : {T : Type 0} (fs : List (Exposed T)) (h : List ℕ) → Some h ≡ first_header fs → 0 < length fs
some_filled [] h e = absurd (cc e)
some_filled (f ∷ fs) h e = omega arith

kept_first : {T : Type 0} (fs : List (Exposed T)) (kept : Option T) (place : ℕ × ℕ) (x : T)
    → Ok x ≡ kept_or_end place (first_or kept fs) → first_or kept fs ≡ Some x
kept_first fs kept place x e = kept_is (first_or kept fs) place x e
  where
    kept_is : {T : Type 0} (o : Option T) (place : ℕ × ℕ) (x : T) → Ok x ≡ kept_or_end place o → o ≡ Some x
    kept_is None place x e = absurd (cc e)
    kept_is (Some y) place x e = ap (λ z. Some z) (sym (cc e))

shorter : {A : Type 0} (fs : List A) (n : ℕ) → 0 < length fs → length fs ≤ n → length (drop 1 fs) < n
shorter [] n pos below = absurd (omega (arith, pos))
shorter (f ∷ fs) n pos below = omega (arith, below)

-- a key and its value are the first field
pub next_field : {T : Type 0} (empty : T → Bool) (row mid new : Row T) (h : List ℕ) (x : T)
    → Some h ≡ first_header (from_filled empty row.exposed) → mid ≡ after_key empty row
    → Ok x ≡ kept_or_end mid.place mid.kept → new ≡ record mid { kept = None }
    → IsNextField empty row new (h, x)
next_field empty row mid new h x key step value taken =
    let fs = from_filled empty row.exposed in
    let some : 0 < length fs = some_filled fs h key in
    let same : new ≡ after_value (after_key empty row) = taken ∙ ap (λ (r : Row _). after_value r) step in
    let kept = kept_first fs row.kept row.place x (rw step at value) in
    rw same (record {
      first = sym (named_only empty row ((Some h, x) ∷ named_values empty (drop 1 fs)) (some, sym key, kept, gives_named empty (after_value (after_key empty row)) (named_values empty (drop 1 fs)) refl));
      named = refl;
      fewer = shorter fs (length row.exposed) some (filled_below empty row.exposed);
    })

-- a row without a key has no fields
pub no_field : {T : Type 0} (empty : T → Bool) (row : Row T) → from_filled empty row.exposed ≡ []
    → named_values empty row.exposed ≡ []
no_field empty row none = sym (named_only empty row [] none)

-- after a key there is a value
pub has_value : {T : Type 0} (empty : T → Bool) (row mid : Row T) (h : List ℕ) (e : DeError)
    → Some h ≡ first_header (from_filled empty row.exposed) → mid ≡ after_key empty row
    → Err e ≡ kept_or_end mid.place mid.kept → ⊥
has_value empty row mid h e key step value =
    no_end (from_filled empty row.exposed) row.kept row.place h e key (rw step at value)
  where
    no_end : {T : Type 0} (fs : List (Exposed T)) (kept : Option T) (place : ℕ × ℕ) (h : List ℕ) (e : DeError) → Some h ≡ first_header fs → Err e ≡ kept_or_end place (first_or kept fs) → ⊥
    no_end [] kept place h e key value = cc key
    no_end (f ∷ fs) kept place h e key value = cc value
