-- From tokens to the text of a formula as Excel shows it, or its first fault ([MS-XLS] 2.5.198). Precedence is what is stored: no
-- parentheses are written but those of PtgParen.
use Rattle.std.specs.Prelude.{ℕ, zero, suc, List, [], ◌∷◌, ◌++◌, length, map, ◌==◌, if◌then◌else◌, codes, Option, Some, None}
use Rattle.std.specs.Prelude.{Result, Ok, Err}
use Rattle.xls_record.specs.declared.error.XlsError.TheVariants as errors
use Rattle.xls_formula.specs.Tree.{separated}
use Rattle.xls_shown_ptg.specs.Reading.{◌>>=◌, gives}
use Rattle.xls_shown_ptg.specs.ShownTokens.{shown_at}
use Rattle.xls_shown_ptg.specs.declared.fault.Fault.{Fault}
use Rattle.xls_shown_ptg.specs.declared.fault.Fault.TheVariants as faults
use Rattle.xls_formula_shown.specs.Scope.{Scope}
use Rattle.xls_formula_shown.specs.ShownEffects.{Effect, pushes, names, leads, trails, pairs, encloses, calls, calls_by_name, waits, keeps}
use Rattle.xls_formula_shown.specs.ShownEffects.{effect}
use Rattle.xls_formula_shown.specs.State.{Operand, State, Waiting, alike, all_of, blanks, start, wait_at, written}

abbrev pub too_few : Fault
too_few = faults.Xls errors.StackLen

-- ---- names

-- what stands behind a text at the beginning of another
abbrev pub behind_text : List ℕ → List ℕ → Option (List ℕ)
behind_text [] text = Some text
behind_text (p ∷ ps) [] = None
behind_text (p ∷ ps) (c ∷ cs) = if p == c then behind_text ps cs else None

abbrev pub or_whole : List ℕ → Option (List ℕ) → List ℕ
or_whole text (Some rest) = rest
or_whole text None = text

abbrev pub without : List ℕ → List ℕ → List ℕ
without prefix text = or_whole text (behind_text prefix text)

-- a name without the marks of functions that came later
abbrev pub bare : List ℕ → List ℕ
bare name = without (codes "_xlws.") (without (codes "_xlfn.") name)

-- behind white space; the marks aren't shown where it is called
abbrev pub named : List ℕ → List ℕ → Operand
named white name = record { shown = white ++ name; called = white ++ bare name }

-- ---- calls

-- so many of the last operands, in their order, and those before them
abbrev pub gather : ℕ → List Operand → List Operand → Result (List Operand × List Operand) Fault
gather zero gathered operands = Ok (gathered, operands)
gather (suc n) gathered [] = Err too_few
gather (suc n) gathered (t ∷ ts) = gather n (t ∷ gathered) ts

abbrev pub call_text : Waiting → List ℕ → List Operand → List ℕ
call_text waiting name operands =
    waiting.before
    ++ (name ++ (codes "(" ++ (separated (map (λ (t : Operand). t.shown) operands) ++ (waiting.closing ++ codes ")"))))

-- the first operand is the name
abbrev pub named_call : Waiting → List Operand → Result (List ℕ) Fault
named_call waiting [] = Err too_few
named_call waiting (name ∷ operands) = Ok (call_text waiting name.called operands)

-- ---- one token

-- the last operand changed, and the last two made one
abbrev pub on_one : (List ℕ → List ℕ) → List Operand → Result (List Operand) Fault
on_one f [] = Err too_few
on_one f (t ∷ ts) = Ok (alike (f t.shown) ∷ ts)

abbrev pub on_two : (List ℕ → List ℕ → List ℕ) → List Operand → Result (List Operand) Fault
on_two f [] = Err too_few
on_two f (t ∷ []) = Err too_few
on_two f (right ∷ left ∷ ts) = Ok (alike (f left.shown right.shown) ∷ ts)

-- what a token that writes leaves of the operands, under the white space that waits
abbrev pub write : Effect → Waiting → List Operand → Result (List Operand) Fault
write (pushes text) w operands = Ok (alike (all_of w ++ text) ∷ operands)
write (names name) w operands = Ok (named (all_of w) name ∷ operands)
write (leads sign) w operands = on_one (λ t. all_of w ++ (sign ++ t)) operands
write (trails sign) w operands = on_one (λ t. t ++ (all_of w ++ sign)) operands
write (pairs operator) w operands = on_two (λ left right. left ++ (all_of w ++ (operator ++ right))) operands
write encloses w operands = on_one (λ t. w.before ++ (codes "(" ++ (t ++ (w.closing ++ codes ")")))) operands
write (calls count name) w operands = do
  x ← gather count [] operands
  Ok (alike (call_text w name x.0) ∷ x.1)
write (calls_by_name count) w operands = do
  x ← gather count [] operands
  text ← named_call w x.0
  Ok (alike text ∷ x.1)
write (waits space) w operands = Ok operands
write keeps w operands = Ok operands

-- white space waits, and what writes takes all that waits
abbrev pub change : Effect → State → Result State Fault
change (waits space) s = Ok (wait_at space.place (blanks space) s)
change keeps s = Ok s
change e s = gives (λ (operands : List Operand). written operands s) (write e s.waiting s.operands)

-- ---- all tokens

-- each token in turn takes its extra bytes and changes what is there; so many bytes belong to the last token still
abbrev pub walk : Scope → List ℕ → ℕ → List ℕ → State → Result State Fault
walk scope [] more extra s = Ok s
walk scope (b ∷ bytes) (suc more) extra s = walk scope bytes more extra s
walk scope (b ∷ bytes) zero extra s = do
  x ← shown_at scope.biff (b ∷ bytes)
  e ← effect scope extra x.0
  t ← change e.0 s
  walk scope bytes x.1 e.1 t

-- one operand is left, behind the white space at the front; what waits still is dropped
abbrev pub whole : List ℕ → List Operand → Result (List ℕ) Fault
whole front (t ∷ []) = Ok (front ++ t.shown)
whole front operands = Err (faults.Xls (errors.InvalidFormula (length operands)))

-- the text of tokens with the extra bytes behind them
abbrev pub shown_text : Scope → List ℕ → List ℕ → Result (List ℕ) Fault
shown_text scope tokens extra = do
  s ← walk scope tokens zero extra start
  whole s.front s.operands
