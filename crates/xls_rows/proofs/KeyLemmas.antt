-- Rows that are read by keys and values in turn.
use Rattle.std.proofs.Common.{◌≡◌, ◌∙◌, ℕ, List, [], ◌∷◌, refl, sym, ap, arith, drop, length, ◌<◌, Bool, true, false}
use Rattle.std.specs.Prelude.{Option, Some, if◌then◌else◌}
use Rattle.std.proofs.lemmas.Option.{same_Some}
use Rattle.xls_rows.specs.Rows.{Row, Exposed, from_filled, first_header, first_or, after_key}
use Rattle.xls_rows.specs.Laws.{named_values, GivesByKey, after_value}

-- the pairs of a list that begins with a cell that is not empty
abbrev pub pairs_of : {T : Type 0} → (T → Bool) → List (Exposed T) → List (Option (List ℕ) × T)
pairs_of empty [] = []
pairs_of empty (e ∷ es) = (e.header, e.value) ∷ named_values empty es

-- empty cells before others give nothing
named_filled : {T : Type 0} (empty : T → Bool) (es : List (Exposed T)) → named_values empty es ≡ pairs_of empty (from_filled empty es)
named_filled empty [] = refl
named_filled empty (e ∷ es) =
    elim (empty e.value) as (λ b. (if b then named_values empty es else (e.header, e.value) ∷ named_values empty es) ≡ pairs_of empty (if b then from_filled empty es else e ∷ es))
    [ true ↦ named_filled empty es | false ↦ refl ]

none_left : {T : Type 0} (empty : T → Bool) (fs : List (Exposed T)) → [] ≡ pairs_of empty fs → fs ≡ []
none_left empty [] e = refl
none_left empty (f ∷ fs) e = absurd (cc e)

-- the first pair is that of the first cell
first_pair : {T : Type 0} (empty : T → Bool) (fs : List (Exposed T)) (kept : Option T) (p : Option (List ℕ) × T) (ps : List (Option (List ℕ) × T))
    → 0 < length fs → first_header fs ≡ p.0 → first_or kept fs ≡ Some p.1 → ps ≡ named_values empty (drop 1 fs) → p ∷ ps ≡ pairs_of empty fs
first_pair empty [] kept p ps n h v r = absurd (omega arith)
first_pair empty (f ∷ fs) kept p ps n h v r =
    ap (λ a. (a, p.1) ∷ ps) (sym h) ∙ ap (λ b. (f.header, b) ∷ ps) (sym (same_Some f.value p.1 v)) ∙ ap (λ l. (f.header, f.value) ∷ l) r

pair_first : {T : Type 0} (empty : T → Bool) (fs : List (Exposed T)) (kept : Option T) (p : Option (List ℕ) × T) (ps : List (Option (List ℕ) × T))
    → p ∷ ps ≡ pairs_of empty fs → (0 < length fs) × (first_header fs ≡ p.0) × (first_or kept fs ≡ Some p.1) × (ps ≡ named_values empty (drop 1 fs))
pair_first empty [] kept p ps e = absurd (cc e)
pair_first empty (f ∷ fs) kept p ps e =
    let pair : p ≡ (f.header, f.value) = cc in
    (omega arith, ap (λ q. q.0) (sym pair), ap (λ q. Some q.1) (sym pair), cc)

-- what a row gives is the pairs of its cells, and only that
pub named_only : {T : Type 0} (empty : T → Bool) (row : Row T) (ps : List (Option (List ℕ) × T)) → GivesByKey empty row ps → ps ≡ named_values empty row.exposed
named_only empty row [] h = sym (named_filled empty row.exposed ∙ ap (λ fs. pairs_of empty fs) h)
named_only empty row (p ∷ ps) h =
    first_pair empty (from_filled empty row.exposed) row.kept p ps h.0 h.1 h.2 (named_only empty (after_value (after_key empty row)) ps h.3)
    ∙ sym (named_filled empty row.exposed)

pub gives_named : {T : Type 0} (empty : T → Bool) (row : Row T) (ps : List (Option (List ℕ) × T)) → ps ≡ named_values empty row.exposed → GivesByKey empty row ps
gives_named empty row [] e = none_left empty (from_filled empty row.exposed) (e ∙ named_filled empty row.exposed)
gives_named empty row (p ∷ ps) e =
    let first = pair_first empty (from_filled empty row.exposed) row.kept p ps (e ∙ named_filled empty row.exposed) in
    (first.0, first.1, first.2, gives_named empty (after_value (after_key empty row)) ps first.3)
