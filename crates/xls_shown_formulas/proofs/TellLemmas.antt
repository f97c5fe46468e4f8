-- What steps say one after another.
use Rattle.std.proofs.Common.{◌≡◌, ◌∙◌, ℕ, List, [], ◌++◌, refl, sym, ap, Result, Ok, Err, inl, inr}
use Rattle.xls_formula_shown.specs.Steps.{Tells}
use Rattle.xls_shown_ptg.specs.Reading.{◌>>=◌, gives}
use Rattle.xls_shown_ptg.specs.declared.fault.Fault.{Fault}

-- what is told of one is told of another that is the same
pub told : {X Y : Type 0} (view : X → Y) (r : Result X Fault) (a b : Result Y Fault) → a ≡ b → Tells view r a → Tells view r b
told view (Ok x) a b e h = sym e ∙ h
told view (Err f) a b e (inl memory) = inl memory
told view (Err f) a b e (inr h) = inr (sym e ∙ h)

-- behind a value
pub bound : {W X Y : Type 0} (view : X → Y) (r : Result X Fault) (a : Result W Fault) (w : W) (f : W → Result Y Fault) → a ≡ Ok w
    → Tells view r (f w) → Tells view r (a >>= f)
bound view r a w f e h = told view r (f w) (a >>= f) (ap (λ x. x >>= f) (sym e)) h

-- behind no text
pub plain : (front : List ℕ) (r : Result (List ℕ) Fault) → front ≡ [] → gives (λ t. front ++ t) r ≡ r
plain front (Ok t) e = ap (λ (x : List ℕ). Ok (x ++ t)) e
plain front (Err f) e = refl
