-- Texts that have grown, and how they are cut back.
use Rattle.std.proofs.Common.{◌≡◌, ◌≤◌, Result, Ok, Err, ℕ, List, [], ◌++◌, length, take, take_at, length-append, append-nil, append_assoc, IsUtf8, arith, refl, sym, ap, subst, ◌∙◌}
use Rattle.std.specs.String.Boundary.{IsSplitPoint}
use Rattle.std.specs.Prelude.{OnOk, OnErr}
use Rattle.std.proofs.lemmas.Str.{IsCharBoundary-from_take}
use Rattle.xls_output.specs.Added.{AddsText}
use Rattle.xls_readable.specs.Growth.{GrowsText}

pub grows_same : (old new : List ℕ) → new ≡ old → GrowsText old new
grows_same old new e = ([], e ∙ sym (append-nil old))

pub grows_text : (old text new : List ℕ) → new ≡ old ++ text → GrowsText old new
grows_text old text new e = (text, e)

pub grows_added : (P : List ℕ → Type 0) (old new : List ℕ) → AddsText P old new → GrowsText old new
grows_added P old new a = (a.0, a.2)

pub grows_then : (old now new : List ℕ) → GrowsText old now → GrowsText now new → GrowsText old new
grows_then old now new g h = (g.0 ++ h.0, h.1 ∙ ap (λ t. t ++ h.0) g.1 ∙ append_assoc old g.0 h.0)

-- a call that appends a text, or refuses and leaves the text as it was
pub grows_either : {X E : Type 0} (r : Result X E) (P : List ℕ → Type 0) (old new : List ℕ)
    → OnOk r (AddsText P old new) → OnErr r (new ≡ old) → GrowsText old new
grows_either (Ok x) P old new ok err = grows_added P old new ok
grows_either (Err e) P old new ok err = grows_same old new err

pub grows_exact : {X E : Type 0} (r : Result X E) (text old new : List ℕ)
    → OnOk r (new ≡ old ++ text) → OnErr r (new ≡ old) → GrowsText old new
grows_exact (Ok x) text old new ok err = grows_text old text new ok
grows_exact (Err e) text old new ok err = grows_same old new err

-- what has grown can be cut back
pub grows_split : (old new : List ℕ) (n : ℕ) → GrowsText old new → IsUtf8 old → IsUtf8 new → n ≡ length old → IsSplitPoint new n
grows_split old new n g u v e =
    let prefix : take (length old) new ≡ old = ap (take (length old)) g.1 ∙ take_at old g.0 (length old) refl in
    let within : length old ≤ length new = omega (arith, ap length g.1, length-append old g.0) in
    let seam = IsCharBoundary-from_take new (length old) v within (subst IsUtf8 (sym prefix) u) in
    subst (λ k. IsSplitPoint new k) (sym e) (seam.0, λ _ below. seam.1 below)
