-- Steps that give a value or a fault, one after another: where each has at most one answer, all of them
-- together have at most one.
use Rattle.std.proofs.Common.{◌≡◌, ◌⊎◌, inl, inr, Result, Ok, Err, sym, ◌∙◌, ap, subst}

-- any two answers are the same
abbrev pub IsUnique : {X E : Type 0} → (Result X E → Type 0) → Type 0
IsUnique {X = X} {E = E} Step = (r s : Result X E) → Step r → Step s → r ≡ s

-- a step, its value and its fault seen as others
abbrev pub Seen : {X Y E F : Type 0} → (X → Y) → (E → F) → (Result X E → Type 0) → Result Y F → Type 0
Seen {X = X} {E = E} value fault Step r =
    ((x : X) × Step (Ok x) × (r ≡ Ok (value x))) ⊎ ((e : E) × Step (Err e) × (r ≡ Err (fault e)))

-- a step, and then another with its value
abbrev pub Then : {X Y E : Type 0} → (Result X E → Type 0) → (X → Result Y E → Type 0) → Result Y E → Type 0
Then {X = X} {E = E} First Next r =
    ((e : E) × First (Err e) × (r ≡ Err e)) ⊎ ((x : X) × First (Ok x) × Next x r)

one_value : {X E : Type 0} (Step : Result X E → Type 0) → IsUnique Step → (x y : X) → Step (Ok x) → Step (Ok y) → x ≡ y
one_value Step one x y h k = let same = one (Ok x) (Ok y) h k in cc same

one_fault : {X E : Type 0} (Step : Result X E → Type 0) → IsUnique Step → (e f : E) → Step (Err e) → Step (Err f) → e ≡ f
one_fault Step one e f h k = let same = one (Err e) (Err f) h k in cc same

never_both : {X E : Type 0} (Step : Result X E → Type 0) → IsUnique Step → (x : X) (e : E) → Step (Ok x) → Step (Err e) → ⊥
never_both Step one x e h k = absurd (let same = one (Ok x) (Err e) h k in cc same)

pub seen_once : {X Y E F : Type 0} (value : X → Y) (fault : E → F) (Step : Result X E → Type 0) → IsUnique Step
    → IsUnique (Seen value fault Step)
seen_once value fault Step one r s (inl (x, h, a)) (inl (y, k, b)) = a ∙ ap (λ z. Ok (value z)) (one_value Step one x y h k) ∙ sym b
seen_once value fault Step one r s (inl (x, h, a)) (inr (e, k, b)) = absurd (never_both Step one x e h k)
seen_once value fault Step one r s (inr (e, h, a)) (inl (x, k, b)) = absurd (never_both Step one x e k h)
seen_once value fault Step one r s (inr (e, h, a)) (inr (f, k, b)) = a ∙ ap (λ z. Err (fault z)) (one_fault Step one e f h k) ∙ sym b

pub once_then : {X Y E : Type 0} (First : Result X E → Type 0) (Next : X → Result Y E → Type 0) → IsUnique First
    → ((x : X) → IsUnique (Next x)) → IsUnique (Then First Next)
once_then First Next one next r s (inl (e, h, a)) (inl (f, k, b)) = a ∙ ap (λ z. Err z) (one_fault First one e f h k) ∙ sym b
once_then First Next one next r s (inl (e, h, a)) (inr (x, k, b)) = absurd (never_both First one x e k h)
once_then First Next one next r s (inr (x, h, a)) (inl (e, k, b)) = absurd (never_both First one x e h k)
once_then First Next one next r s (inr (x, h, a)) (inr (y, k, b)) =
    next y r s (subst (λ z. Next z r) (one_value First one x y h k) a) b
