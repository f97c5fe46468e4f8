-- A formula can be spelled where its tokens leave one operand.
use Rattle.std.proofs.Common.{zero, suc, ◌≡◌, ℕ, ◌+◌, List, [], ◌∷◌, length, ◌==◌, is_ok, Result, Ok, Err, refl, sym, ◌∙◌, ap, subst, arith}
use Rattle.std.specs.Prelude.{slice_get}
use Rattle.std.proofs.lemmas.Bool.Decides.{nat_tests}
use Rattle.xls_formula.specs.Functions.{Function}
use Rattle.xls_formula_leaves.specs.Constants.{array_text}
use Rattle.xls_formula_names.specs.Commands.{command_name}
use Rattle.xls_ptg.specs.declared.tokens.Ptg.{Ptg}
use Rattle.xls_ptg.specs.declared.tokens.Ptg.TheVariants as ptg
use Rattle.xls_shown_ptg.specs.Arrays.{ConstantArray, array_at}
use Rattle.xls_shown_ptg.specs.Counts.{operand_count}
use Rattle.xls_shown_ptg.specs.Reading.{◌>>=◌, gives}
use Rattle.xls_shown_ptg.specs.ShownTokens.{shown_at}
use Rattle.xls_shown_ptg.specs.declared.fault.Fault.{Fault}
use Rattle.xls_shown_ptg.specs.declared.tokens.ShownPtg.{ShownPtg}
use Rattle.xls_shown_ptg.specs.declared.tokens.ShownPtg.TheVariants as shown
use Rattle.xls_shown_ptg.specs.declared.tokens.SpacePlace.{SpacePlace}
use Rattle.xls_shown_ptg.specs.declared.tokens.SpacePlace.TheVariants as places
use Rattle.xls_formula_shown.specs.Scope.{Scope}
use Rattle.xls_formula_shown.specs.ShownEffects.{Effect, pushes, names, leads, trails, pairs, encloses, calls, calls_by_name, waits, keeps, effect, known}
use Rattle.xls_formula_shown.specs.ShownFold.{call_text, change, gather, named_call, on_one, on_two, shown_text, walk, whole}
use Rattle.xls_formula_shown.specs.State.{Operand, State, Waiting, alike, blanks, start, wait_at, written}
use Rattle.xls_shown_refs.specs.Counts.{counted, is_one, joined, stepped, token_step, user_step}
use Rattle.xls_shown_refs.specs.Spelled.{functions}
use Rattle.xls_shown_refs.specs.declared.steps.Step.{Step}
use Rattle.xls_shown_refs.specs.declared.steps.Step.TheVariants.{Keeps, Makes}

-- ---- what an effect is

abbrev step_by : Effect → Result Step Fault
step_by (pushes text) = Ok (Makes 0)
step_by (names name) = Ok (Makes 0)
step_by (leads sign) = Ok (Makes 1)
step_by (trails sign) = Ok (Makes 1)
step_by (pairs operator) = Ok (Makes 2)
step_by encloses = Ok (Makes 1)
step_by (calls count name) = Ok (Makes count)
step_by (calls_by_name count) = user_step count
step_by (waits space) = Ok Keeps
step_by keeps = Ok Keeps

-- a step with the extra bytes that are left
abbrev paired : List ℕ → Result Step Fault → Result (Step × List ℕ) Fault
paired left r = gives (λ (s : Step). (s, left)) r

abbrev with_step : Effect × List ℕ → Result (Step × List ℕ) Fault
with_step e = paired e.1 (step_by e.0)

-- ---- what a token does

module _ (extra : List ℕ) where
  of_function : (effect_of : Function → Effect) (step_of : Function → Step) → ((f : Function) → step_by (effect_of f) ≡ Ok (step_of f)) → (r : Result Function Fault)
      → gives (λ (s : Step). (s, extra)) (gives step_of r) ≡ (gives (λ (e : Effect). (e, extra)) (gives effect_of r) >>= with_step)
  of_function effect_of step_of is (Ok f) = ap (gives (λ (s : Step). (s, extra))) (sym (is f))
  of_function effect_of step_of is (Err e) = refl

  of_command : (count : ℕ) (r : Result (List ℕ) Fault)
      → gives (λ (s : Step). (s, extra)) (gives (λ (name : List ℕ). Makes count) r)
      ≡ (gives (λ (e : Effect). (e, extra)) (gives (λ (name : List ℕ). calls count name) r) >>= with_step)
  of_command count (Ok name) = refl
  of_command count (Err e) = refl

  of_array : (text_of : ConstantArray → List ℕ) (r : Result (ConstantArray × List ℕ) Fault)
      → gives (λ (left : List ℕ). (Makes 0, left)) (gives (λ x. x.1) r)
      ≡ (gives (λ (x : List ℕ × List ℕ). (pushes x.0, x.1)) (gives (λ x. (text_of x.0, x.1)) r) >>= with_step)
  of_array text_of (Ok x) = refl
  of_array text_of (Err e) = refl

module _ (scope : Scope) (extra : List ℕ) (all : scope.functions ≡ functions) where
  abbrev IsStep : ShownPtg (List ℕ) → Type 0
  IsStep t = token_step scope.biff extra t ≡ (effect scope extra t >>= with_step)

  known_is : (t : Ptg (List ℕ)) → IsStep (shown.Known t)
  known_is ptg.Exp = refl
  known_is (ptg.Binary operator) = refl
  known_is ptg.Uplus = refl
  known_is ptg.Uminus = refl
  known_is ptg.Percent = refl
  known_is ptg.Paren = refl
  known_is ptg.MissArg = refl
  known_is (ptg.Str units cch high) = refl
  known_is ptg.Elf = refl
  known_is ptg.AttrSemi = refl
  known_is ptg.AttrIf = refl
  known_is ptg.AttrChoose = refl
  known_is ptg.AttrGoto = refl
  known_is ptg.AttrSum = refl
  known_is ptg.AttrBaxcel = refl
  known_is (ptg.AttrSpace is_return count) = refl
  known_is (ptg.AttrSpaceSemi is_return count) = refl
  known_is (ptg.Err error) = refl
  known_is (ptg.Bool truth) = refl
  known_is (ptg.Int n) = refl
  known_is (ptg.Num bits) = refl
  known_is ptg.Array = of_array extra (array_text scope.page) (array_at scope.biff extra)
  known_is (ptg.Func iftab) =
      subst (λ (fs : List Function). token_step scope.biff extra (shown.Known (ptg.Func iftab))
      ≡ (gives (λ (e : Effect). (e, extra)) (gives (λ (f : Function). calls (operand_count iftab f.1) f.0) (known iftab (slice_get fs iftab))) >>= with_step)) (sym all)
      (of_function extra (λ f. calls (operand_count iftab f.1) f.0) (λ f. Makes (operand_count iftab f.1)) (λ f. refl) (known iftab (slice_get functions iftab)))
  known_is (ptg.FuncVar count iftab) =
      subst (λ (fs : List Function). token_step scope.biff extra (shown.Known (ptg.FuncVar count iftab))
      ≡ (gives (λ (e : Effect). (e, extra)) (gives (λ (f : Function). calls count f.0) (known iftab (slice_get fs iftab))) >>= with_step)) (sym all)
      (of_function extra (λ f. calls count f.0) (λ f. Makes count) (λ f. refl) (known iftab (slice_get functions iftab)))
  known_is (ptg.Name index) = refl
  known_is (ptg.Ref corner) = refl
  known_is (ptg.Area first last) = refl
  known_is ptg.RefErr = refl
  known_is ptg.AreaErr = refl
  known_is ptg.NameX = refl
  known_is (ptg.Ref3d ixti corner) = refl
  known_is (ptg.Area3d ixti first last) = refl
  known_is (ptg.RefErr3d ixti) = refl
  known_is (ptg.AreaErr3d ixti) = refl

  -- by the first of so many operands
  named_is : (count : ℕ) → IsStep (shown.UserFunc count)
  named_is zero = refl
  named_is (suc n) = refl

  token_is : (t : ShownPtg (List ℕ)) → IsStep t
  token_is (shown.Known t) = known_is t
  token_is shown.Nothing = refl
  token_is shown.ElfRadicalS = refl
  token_is (shown.AttrSpace space) = refl
  token_is (shown.Command count cetab) = of_command extra count (known (0x8000 + cetab) (command_name cetab))
  token_is (shown.UserFunc count) = named_is count
  token_is shown.MemArea = refl
  token_is (shown.RefN corner) = refl
  token_is (shown.AreaN first last) = refl
  token_is (shown.NameX link) = refl
  token_is (shown.Ref3d link corner) = refl
  token_is (shown.Area3d link first last) = refl
  token_is (shown.Err3d link) = refl

-- ---- what that does to the number of operands

abbrev number_of : State → ℕ
number_of s = length s.operands

abbrev Counts : Effect → State → Type 0
Counts e s = gives number_of (change e s) ≡ (step_by e >>= (λ st. stepped st (length s.operands)))

abbrev Gathered : Type 0
Gathered = Result (List Operand × List Operand) Fault

-- the operands of a call become one
gather_counts : (n : ℕ) (acc ts : List Operand) → gives (λ x. suc (length x.1)) (gather n acc ts) ≡ joined n (length ts)
gather_counts zero acc ts = refl
gather_counts (suc n) acc [] = refl
gather_counts (suc n) acc (t ∷ ts) = gather_counts n (t ∷ acc) ts

called_is : (w : Waiting) (name : List ℕ) (s : State) (r : Gathered)
    → gives number_of (gives (λ (operands : List Operand). written operands s) (r >>= (λ x. Ok (alike (call_text w name x.0) ∷ x.1))))
    ≡ gives (λ x. suc (length x.1)) r
called_is w name s (Ok x) = refl
called_is w name s (Err e) = refl

-- where the first of them is the name
named_counts : (s : State) (n : ℕ) (t : Operand) (acc ts : List Operand)
    → gives number_of (gives (λ (operands : List Operand). written operands s)
    (gather n (t ∷ acc) ts >>= (λ x. named_call s.waiting x.0 >>= (λ (text : List ℕ). Ok (alike text ∷ x.1)))))
    ≡ joined n (length ts)
named_counts s zero t acc ts = refl
named_counts s (suc n) t acc [] = refl
named_counts s (suc n) t acc (u ∷ ts) = named_counts s n u (t ∷ acc) ts

by_name_counts : (count : ℕ) (ts : List Operand) (w : Waiting) (front : List ℕ) → Counts (calls_by_name count) (record { operands = ts; waiting = w; front = front })
by_name_counts zero ts w front = refl
by_name_counts (suc n) [] w front = refl
by_name_counts (suc n) (t ∷ ts) w front = named_counts (record { operands = t ∷ ts; waiting = w; front = front }) n t [] ts

wait_counts : (place : SpacePlace) (text : List ℕ) (s : State) → number_of (wait_at place text s) ≡ number_of s
wait_counts places.Before text s = refl
wait_counts places.Closing text s = refl
wait_counts places.Front text s = refl

one_counts : (f : List ℕ → List ℕ) (ts : List Operand) (s : State)
    → gives number_of (gives (λ (operands : List Operand). written operands s) (on_one f ts)) ≡ joined 1 (length ts)
one_counts f [] s = refl
one_counts f (t ∷ ts) s = refl

two_counts : (f : List ℕ → List ℕ → List ℕ) (ts : List Operand) (s : State)
    → gives number_of (gives (λ (operands : List Operand). written operands s) (on_two f ts)) ≡ joined 2 (length ts)
two_counts f [] s = refl
two_counts f (t ∷ []) s = refl
two_counts f (t ∷ u ∷ ts) s = refl

change_is : (e : Effect) (s : State) → Counts e s
change_is (pushes text) s = refl
change_is (names name) s = refl
change_is (leads sign) s = one_counts _ s.operands s
change_is (trails sign) s = one_counts _ s.operands s
change_is (pairs operator) s = two_counts _ s.operands s
change_is encloses s = one_counts _ s.operands s
change_is (calls count name) s = called_is s.waiting name s (gather count [] s.operands) ∙ gather_counts count [] s.operands
change_is (calls_by_name count) s = by_name_counts count s.operands s.waiting s.front
change_is (waits space) s = ap (λ (n : ℕ). Ok n) (wait_counts space.place (blanks space) s)
change_is keeps s = refl

-- ---- all tokens

module _ (scope : Scope) (all : scope.functions ≡ functions) where
  -- the same from a state on
  abbrev IsCounted : List ℕ → ℕ → List ℕ → State → Type 0
  IsCounted bytes more extra s = gives number_of (walk scope bytes more extra s) ≡ counted scope.biff bytes more extra (number_of s)

  after_change : (bytes : List ℕ) (more : ℕ) (left : List ℕ) → ((t : State) → IsCounted bytes more left t) → (r : Result State Fault)
      → gives number_of (r >>= (λ t. walk scope bytes more left t)) ≡ (gives number_of r >>= (λ n. counted scope.biff bytes more left n))
  after_change bytes more left next (Ok t) = next t
  after_change bytes more left next (Err e) = refl

  after_step : (bytes : List ℕ) (more : ℕ) (left : List ℕ) (count : ℕ) (r : Result Step Fault)
      → ((r >>= (λ st. stepped st count)) >>= (λ n. counted scope.biff bytes more left n))
      ≡ (paired left r >>= (λ e. stepped e.0 count >>= (λ n. counted scope.biff bytes more e.1 n)))
  after_step bytes more left count (Ok st) = refl
  after_step bytes more left count (Err e) = refl

  after_effect : (bytes : List ℕ) (more : ℕ) (s : State) → ((left : List ℕ) (t : State) → IsCounted bytes more left t) → (r : Result (Effect × List ℕ) Fault)
      → gives number_of (r >>= (λ e. change e.0 s >>= (λ t. walk scope bytes more e.1 t)))
      ≡ ((r >>= with_step) >>= (λ e. stepped e.0 (number_of s) >>= (λ n. counted scope.biff bytes more e.1 n)))
  after_effect bytes more s next (Ok e) =
      after_change bytes more e.1 (next e.1) (change e.0 s)
      ∙ (ap (λ (r : Result ℕ Fault). r >>= (λ n. counted scope.biff bytes more e.1 n)) (change_is e.0 s)
      ∙ after_step bytes more e.1 (number_of s) (step_by e.0))
  after_effect bytes more s next (Err e) = refl

  after_read : (bytes extra : List ℕ) (s : State) → ((more : ℕ) (left : List ℕ) (t : State) → IsCounted bytes more left t)
      → (r : Result (ShownPtg (List ℕ) × ℕ) Fault)
      → gives number_of (r >>= (λ x. effect scope extra x.0 >>= (λ e. change e.0 s >>= (λ t. walk scope bytes x.1 e.1 t))))
      ≡ (r >>= (λ x. token_step scope.biff extra x.0 >>= (λ e. stepped e.0 (number_of s) >>= (λ n. counted scope.biff bytes x.1 e.1 n))))
  after_read bytes extra s next (Ok x) =
      after_effect bytes x.1 s (next x.1) (effect scope extra x.0)
      ∙ ap (λ (r : Result (Step × List ℕ) Fault). r >>= (λ e. stepped e.0 (number_of s) >>= (λ n. counted scope.biff bytes x.1 e.1 n))) (sym (token_is scope extra all x.0))
  after_read bytes extra s next (Err e) = refl

  pub counts : (bytes : List ℕ) (more : ℕ) (extra : List ℕ) (s : State) → IsCounted bytes more extra s
  counts [] more extra s = refl
  counts (b ∷ bytes) (suc more) extra s = counts bytes more extra s
  counts (b ∷ bytes) zero extra s = after_read bytes extra s (λ more left t. counts bytes more left t) (shown_at scope.biff (b ∷ bytes))

-- ---- the whole

whole_is : (front : List ℕ) (ts : List Operand) → is_ok (whole front ts) ≡ (length ts == 1)
whole_is front [] = refl
whole_is front (t ∷ []) = refl
whole_is front (t ∷ u ∷ ts) = grind (arith, nat_tests)

one_is : (r : Result State Fault) → is_ok (r >>= (λ s. whole s.front s.operands)) ≡ is_one (gives number_of r)
one_is (Ok s) = whole_is s.front s.operands
one_is (Err e) = refl

pub spelled_is : (scope : Scope) → scope.functions ≡ functions → (tokens extra : List ℕ)
    → is_ok (shown_text scope tokens extra) ≡ is_one (counted scope.biff tokens 0 extra 0)
spelled_is scope all tokens extra = one_is (walk scope tokens 0 extra start) ∙ ap is_one (counts scope all tokens 0 extra start)
