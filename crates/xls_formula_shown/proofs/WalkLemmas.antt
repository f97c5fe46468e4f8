-- The tokens one after another.
use Rattle.std.proofs.Common.{suc, zero, ◌≡◌, ℕ, ◌+◌, ◌<◌, List, [], ◌∷◌, ◌++◌, length, drop, Result, Ok, Err, refl, sym, ◌∙◌, ap, subst, arith, append_assoc, inl, inr}
use Rattle.std.specs.Borrow.{Bor}
use Rattle.xls_formula_leaves.specs.Answers.{Appends, Refuses}
use Rattle.xls_shown_ptg.specs.Reading.{◌>>=◌, gives}
use Rattle.xls_shown_ptg.specs.ShownTokens.{shown_at}
use Rattle.xls_shown_ptg.specs.declared.fault.Fault.{Fault}
use Rattle.xls_shown_ptg.specs.declared.tokens.ShownPtg.{ShownPtg}
use Rattle.xls_formula_shown.specs.Scope.{Scope}
use Rattle.xls_formula_shown.specs.ShownEffects.{Effect, effect}
use Rattle.xls_formula_shown.specs.ShownFold.{change, shown_text, walk, whole, write}
use Rattle.xls_formula_shown.specs.State.{Operand, State, start, written}
use Rattle.xls_formula_shown.specs.Steps.{Leaves, Tells, TellsLent, effect_of, step}
use Rattle.xls_formula_shown.specs.declared.effects.Effect.{Effect as Does}
use Rattle.xls_formula_shown.specs.declared.effects.Effect.TheVariants as does

-- ---- refusals

-- a refusal of a part is one of the whole
pub refuses_then : {X Y : Type 0} (e : Fault) (r : Result X Fault) (f : X → Result Y Fault) → Refuses e r → Refuses e (r >>= f)
refuses_then e r f (inl memory) = inl memory
refuses_then e r f (inr refused) = inr (ap (λ x. x >>= f) refused)

pub refuses_over : {Y : Type 0} (e : Fault) (q r : Result Y Fault) → q ≡ r → Refuses e r → Refuses e q
refuses_over e q r h f = subst (λ x. Refuses e x) (sym h) f

pub tells_over : {X Y : Type 0} (view : X → Y) (r : Result X Fault) (p q : Result Y Fault) → q ≡ p → Tells view r p → Tells view r q
tells_over view r p q e t = subst (λ x. Tells view r x) (sym e) t

-- behind an empty text
nothing_before : (input : Result (List ℕ × List ℕ) Fault) → gives {Y = List ℕ × List ℕ} (λ x. ([] ++ x.0, x.1)) input ≡ input
nothing_before (Ok x) = refl
nothing_before (Err e) = refl

pub lends : (old text : List ℕ) (result : Result (Bor (List ℕ)) Fault) (input : Result (List ℕ × List ℕ) Fault) → old ≡ []
    → Appends old text result input → TellsLent text result input
lends old text (Ok left) input e h = sym (nothing_before input) ∙ (ap (λ (o : List ℕ). gives {Y = List ℕ × List ℕ} (λ x. (o ++ x.0, x.1)) input) (sym e) ∙ h)
lends old text (Err f) input e h = h

-- ---- one token

abbrev Read : Type 0
Read = Result (ShownPtg (List ℕ) × ℕ) Fault

abbrev Stepped : Type 0
Stepped = Result (State × ℕ × List ℕ) Fault

module _ (scope : Scope) where
  -- the bytes that belong to the last token are skipped
  walk_skips : (bytes : List ℕ) (more : ℕ) (extra : List ℕ) (s : State) → walk scope bytes more extra s ≡ walk scope (drop more bytes) 0 extra s
  walk_skips [] zero extra s = refl
  walk_skips [] (suc more) extra s = refl
  walk_skips (b ∷ bytes) zero extra s = refl
  walk_skips (b ∷ bytes) (suc more) extra s = walk_skips bytes more extra s

  -- what follows a step
  abbrev walk_after : List ℕ → Stepped → Result State Fault
  walk_after bytes r = r >>= (λ x. walk scope (drop (suc x.1) bytes) 0 x.2 x.0)

  after_change : (b : ℕ) (bytes : List ℕ) (more : ℕ) (left : List ℕ) (r : Result State Fault)
      → r >>= (λ t. walk scope bytes more left t) ≡ walk_after (b ∷ bytes) (r >>= (λ t. Ok (t, more, left)))
  after_change b bytes more left (Ok t) = walk_skips bytes more left t
  after_change b bytes more left (Err e) = refl

  after_effect : (b : ℕ) (bytes : List ℕ) (more : ℕ) (s : State) (r : Result (Effect × List ℕ) Fault)
      → r >>= (λ e. change e.0 s >>= (λ t. walk scope bytes more e.1 t))
      ≡ walk_after (b ∷ bytes) (r >>= (λ e. change e.0 s >>= (λ t. Ok (t, more, e.1))))
  after_effect b bytes more s (Ok e) = after_change b bytes more e.1 (change e.0 s)
  after_effect b bytes more s (Err e) = refl

  after_read : (b : ℕ) (bytes extra : List ℕ) (s : State) (r : Read)
      → r >>= (λ x. effect scope extra x.0 >>= (λ e. change e.0 s >>= (λ t. walk scope bytes x.1 e.1 t)))
      ≡ walk_after (b ∷ bytes) (r >>= (λ x. effect scope extra x.0 >>= (λ e. change e.0 s >>= (λ t. Ok (t, x.1, e.1)))))
  after_read b bytes extra s (Ok x) = after_effect b bytes x.1 s (effect scope extra x.0)
  after_read b bytes extra s (Err e) = refl

  walk_first : (bytes extra : List ℕ) (s : State) → 0 < length bytes → walk scope bytes 0 extra s ≡ walk_after bytes (step scope bytes extra s)
  walk_first [] extra s lt = absurd (omega arith)
  walk_first (b ∷ bytes) extra s lt = after_read b bytes extra s (shown_at scope.biff (b ∷ bytes))

  pub walk_one : (bytes extra : List ℕ) (s t : State) (more : ℕ) (left : List ℕ) → 0 < length bytes → step scope bytes extra s ≡ Ok (t, more, left)
      → walk scope bytes 0 extra s ≡ walk scope (drop (1 + more) bytes) 0 left t
  walk_one bytes extra s t more left lt done =
      let n : suc more ≡ 1 + more = omega arith in
      walk_first bytes extra s lt ∙ (ap (walk_after bytes) done ∙ ap (λ k. walk scope (drop k bytes) 0 left t) n)

  pub walk_refused : (bytes extra : List ℕ) (s : State) (e : Fault) → 0 < length bytes → Refuses e (step scope bytes extra s)
      → Refuses e (walk scope bytes 0 extra s)
  walk_refused bytes extra s e lt f =
      refuses_over e (walk scope bytes 0 extra s) (walk_after bytes (step scope bytes extra s)) (walk_first bytes extra s lt)
      (refuses_then e (step scope bytes extra s) (λ x. walk scope (drop (suc x.1) bytes) 0 x.2 x.0) f)

-- ---- the whole

-- behind a text
pub opened : (opening front : List ℕ) (ts : List Operand) → whole (opening ++ front) ts ≡ gives (λ text. opening ++ text) (whole front ts)
opened opening front [] = refl
opened opening front (t ∷ []) = ap (λ (x : List ℕ). Ok x) (append_assoc opening front t.shown)
opened opening front (t ∷ u ∷ ts) = refl

pub walked : (scope : Scope) (opening tokens extra : List ℕ) (s : State) → walk scope tokens 0 extra start ≡ Ok s
    → gives (λ text. opening ++ text) (shown_text scope tokens extra) ≡ whole (opening ++ s.front) s.operands
walked scope opening tokens extra s e =
    ap (λ (r : Result State Fault). gives (λ text. opening ++ text) (r >>= (λ t. whole t.front t.operands))) e ∙ sym (opened opening s.front s.operands)

pub not_walked : (scope : Scope) (opening tokens extra : List ℕ) (e : Fault) → Refuses e (walk scope tokens 0 extra start)
    → Refuses e (gives (λ text. opening ++ text) (shown_text scope tokens extra))
not_walked scope opening tokens extra e f =
    refuses_then e (shown_text scope tokens extra) (λ text. Ok (opening ++ text)) (refuses_then e (walk scope tokens 0 extra start) (λ t. whole t.front t.operands) f)

-- ---- a call by name

pub changed_by_name : (e : Does) (count : ℕ) (r : Result (Unit {0}) Fault) (new s : State) → e ≡ does.CallByName count
    → Leaves r new (gives (λ operands. written operands s) (write (effect_of e) s.waiting s.operands)) → Leaves r new (change (effect_of e) s)
changed_by_name e count r new s is h =
    subst (λ x. Leaves r new (change (effect_of x) s)) (sym is)
    (subst (λ x. Leaves r new (gives (λ operands. written operands s) (write (effect_of x) s.waiting s.operands))) is h)
