-- A text that grew can be cut where it grew.
use Rattle.std.proofs.Common.{◌≡◌, ℕ, List, [], ◌++◌, length, take, IsUtf8, encode_utf8, sym, ap, subst, ◌∙◌, append_assoc, append-nil, take_at}
use Rattle.std.specs.Char.{IsScalar}
use Rattle.std.specs.String.Boundary.{IsSplitPoint}
use Rattle.std.proofs.lemmas.Str.{IsUtf8-append, IsUtf8-encode, IsUtf8-nil, IsCharBoundary-at_seam}
use Rattle.xls_bytes.specs.Growth.{IsGrown}

pub IsGrown-refl : (old : List ℕ) → IsGrown old old
IsGrown-refl old = ([], IsUtf8-nil, sym (append-nil old))

pub IsGrown-append : (old now text new : List ℕ) → IsGrown old now → IsUtf8 text → new ≡ now ++ text → IsGrown old new
IsGrown-append old now text new g u e = (g.0 ++ text, IsUtf8-append g.0 text g.1 u, e ∙ ap (λ t. t ++ text) g.2 ∙ append_assoc old g.0 text)

pub IsGrown-trans : (old now new : List ℕ) → IsGrown old now → IsGrown now new → IsGrown old new
IsGrown-trans old now new g h = IsGrown-append old now h.0 new g h.1 h.2

pub IsGrown-push : (old now new : List ℕ) (c : ℕ) → IsGrown old now → IsScalar c → new ≡ now ++ encode_utf8 c → IsGrown old new
IsGrown-push old now new c g s e = IsGrown-append old now (encode_utf8 c) new g (IsUtf8-encode c s) e

pub IsGrown-split : (old new : List ℕ) (n : ℕ) → IsGrown old new → n ≡ length old → IsSplitPoint new n
IsGrown-split old new n g e =
    let seam = IsCharBoundary-at_seam new old g.0 g.2 g.1 in
    let same : length old ≡ n = sym e in
    subst (λ k. IsSplitPoint new k) same (seam.0, λ _ below. seam.1 below)

pub IsGrown-take : (old new : List ℕ) (n : ℕ) → IsGrown old new → n ≡ length old → take n new ≡ old
IsGrown-take old new n g e = ap (λ t. take n t) g.2 ∙ take_at old g.0 n (sym e)
