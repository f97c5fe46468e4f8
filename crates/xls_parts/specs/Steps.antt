-- A step over a list whose items are lent one after another.
use Rattle.std.specs.Prelude.{◌≡◌, List, [], ◌∷◌, Option, Some, None}

-- a step gives the first of a list, as seen by view, if there is one, and leaves the others
abbrev pub StepsBy : {X Y : Type 0} → (X → Y) → List Y → Option X → List Y → Type 0
StepsBy view before None after = (before ≡ []) × (after ≡ [])
StepsBy view before (Some x) after = before ≡ view x ∷ after

abbrev pub Steps : {X : Type 0} → List X → Option X → List X → Type 0
Steps before item after = StepsBy (λ x. x) before item after
