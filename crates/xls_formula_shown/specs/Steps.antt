-- What steps of the code say of their definitions.
use Rattle.std.specs.Prelude.{◌≡◌, ℕ, zero, suc, List, [], ◌∷◌, ◌++◌, codes, Bool, true, false, Result, Ok, Err}
use Rattle.std.specs.Borrow.{Bor}
use Rattle.std.specs.Str.{chars}
use Rattle.xls_formula_leaves.specs.Answers.{Refuses}
use Rattle.xls_shown_ptg.specs.Reading.{◌>>=◌}
use Rattle.xls_shown_ptg.specs.ShownTokens.{shown_at}
use Rattle.xls_shown_ptg.specs.declared.fault.Fault.{Fault}
use Rattle.xls_formula_shown.specs.ShownEffects as effects
use Rattle.xls_formula_shown.specs.Scope.{Scope}
use Rattle.xls_formula_shown.specs.ShownFold.{change}
use Rattle.xls_formula_shown.specs.State.{Operand, State, alike}
use Rattle.xls_formula_shown.specs.declared.effects.Effect.{Effect}
use Rattle.xls_formula_shown.specs.declared.effects.Effect.TheVariants as does

-- what was returned, seen by view, is what the definition gives; or the definition refuses so, unless memory ran out
abbrev pub Tells : {X Y : Type 0} → (X → Y) → Result X Fault → Result Y Fault → Type 0
Tells view (Ok x) input = input ≡ Ok (view x)
Tells view (Err e) input = Refuses e input

-- likewise of a text, and of what was returned as what is left
abbrev pub TellsLent : List ℕ → Result (Bor (List ℕ)) Fault → Result (List ℕ × List ℕ) Fault → Type 0
TellsLent text (Ok left) input = input ≡ Ok (text, left.now)
TellsLent text (Err e) input = Refuses e input

-- what a call left is what the definition gives, likewise
abbrev pub Leaves : {Y : Type 0} → Result (Unit {0}) Fault → Y → Result Y Fault → Type 0
Leaves (Ok u) new input = input ≡ Ok new
Leaves (Err e) new input = Refuses e input

-- ---- steps over operands, the last one first

-- the last one changed
abbrev pub changed : (List ℕ → List ℕ) → List Operand → List Operand
changed f [] = []
changed f (t ∷ ts) = alike (f t.shown) ∷ ts

-- as it is shown, or as it is shown where it is called
abbrev pub text_as : Bool → Operand → List ℕ
text_as true t = t.called
text_as false t = t.shown

-- the last two made one, with a mark between them, where the first of them may be called
abbrev pub joined : Bool → List ℕ → List Operand → List Operand
joined is_called mark [] = []
joined is_called mark (t ∷ []) = t ∷ []
joined is_called mark (right ∷ left ∷ ts) = alike (text_as is_called left ++ (mark ++ right.shown)) ∷ ts

-- that often, with commas
abbrev pub joins : ℕ → List Operand → List Operand
joins zero ts = ts
joins (suc n) ts = joins n (joined false (codes ",") ts)

-- so many of the last ones made one, with commas between them; of none an empty text
abbrev pub gathered : ℕ → List Operand → List Operand
gathered zero ts = alike [] ∷ ts
gathered (suc n) ts = changed (λ t. t) (joins n ts)

-- ---- what a token does, as the code holds it

abbrev pub effect_of : Effect → effects.Effect
effect_of (does.Text text) = effects.pushes (chars text.now)
effect_of (does.Name name) = effects.names (chars name.now)
effect_of (does.Lead sign) = effects.leads (chars sign.now)
effect_of (does.Trail sign) = effects.trails (chars sign.now)
effect_of (does.Pair operator) = effects.pairs (chars operator.now)
effect_of does.Parentheses = effects.encloses
effect_of (does.Call count name) = effects.calls count (chars name.now)
effect_of (does.CallByName count) = effects.calls_by_name count
effect_of (does.Space space) = effects.waits space
effect_of does.Nothing = effects.keeps

-- ---- one token

-- what the first token leaves, how many bytes of it stand after its first, and the extra bytes behind its own
abbrev pub step : Scope → List ℕ → List ℕ → State → Result (State × ℕ × List ℕ) Fault
step scope bytes extra s = do
  x ← shown_at scope.biff bytes
  e ← effects.effect scope extra x.0
  t ← change e.0 s
  Ok (t, x.1, e.1)

-- what a call left and returned is what the definition gives, likewise
abbrev pub StepsTo : Result (ℕ × Bor (List ℕ)) Fault → State → Result (State × ℕ × List ℕ) Fault → Type 0
StepsTo (Ok x) new input = input ≡ Ok (new, x.0, x.1.now)
StepsTo (Err e) new input = Refuses e input
