-- A clause on success, by another.
use Rattle.std.proofs.Common.{◌≡◌, ◌≤◌, Ok, Err, Result, ℕ, List, ◌++◌, length, take, take_at, length-append, IsUtf8, arith, refl, sym, ap, subst, ◌∙◌}
use Rattle.std.specs.String.Boundary.{IsSplitPoint}
use Rattle.std.proofs.lemmas.Str.{IsCharBoundary-from_take}
use Rattle.std.specs.Prelude.{OnOk}
use Rattle.xls_output.specs.Added.{AddsText}

-- a text of which P holds was added
pub adds : {X E : Type 0} (r : Result X E) (P : List ℕ → Type 0) (text old new : List ℕ)
    → P text → OnOk r (new ≡ old ++ text) → OnOk r (AddsText P old new)
adds (Ok x) P text old new p h = (text, p, h)
adds (Err e) P text old new p h = h

-- what was added can be cut off
pub added_split : (old new : List ℕ) (n : ℕ) → AddsText (λ _. Unit {0}) old new → IsUtf8 old → IsUtf8 new
    → n ≡ length old → IsSplitPoint new n
added_split old new n a u v e =
    let prefix : take (length old) new ≡ old = ap (take (length old)) a.2 ∙ take_at old a.0 (length old) refl in
    let within : length old ≤ length new = omega (arith, ap length a.2, length-append old a.0) in
    let seam = IsCharBoundary-from_take new (length old) v within (subst IsUtf8 (sym prefix) u) in
    subst (λ k. IsSplitPoint new k) (sym e) (seam.0, λ _ below. seam.1 below)
