-- How the code tells whether a formula can be spelled: by how many operands its tokens leave. What the contracts of public calls say doesn't
-- depend on it.
use Rattle.std.specs.Prelude.{ℕ, zero, suc, ◌+◌, ◌==◌, List, [], ◌∷◌, Bool, false, slice_get, Result, Ok, Err}
use Rattle.xls_record.specs.declared.version.Biff.{Biff}
use Rattle.xls_ptg.specs.declared.tokens.Ptg.{Ptg}
use Rattle.xls_ptg.specs.declared.tokens.Ptg.TheVariants as ptg
use Rattle.xls_formula.specs.Functions.{Function}
use Rattle.xls_formula_names.specs.Commands.{command_name}
use Rattle.xls_shown_ptg.specs.Arrays.{Left, array_at}
use Rattle.xls_shown_ptg.specs.Counts.{operand_count}
use Rattle.xls_shown_ptg.specs.Extra.{after_elf, after_mem_area}
use Rattle.xls_shown_ptg.specs.Reading.{◌>>=◌, gives}
use Rattle.xls_shown_ptg.specs.ShownTokens.{shown_at}
use Rattle.xls_shown_ptg.specs.declared.fault.Fault.{Fault}
use Rattle.xls_shown_ptg.specs.declared.tokens.ShownPtg.{ShownPtg}
use Rattle.xls_shown_ptg.specs.declared.tokens.ShownPtg.TheVariants as shown
use Rattle.xls_formula_shown.specs.ShownEffects.{known}
use Rattle.xls_formula_shown.specs.ShownFold.{too_few}
use Rattle.xls_shown_refs.specs.Spelled.{functions}
use Rattle.xls_shown_refs.specs.declared.steps.Step.{Step}
use Rattle.xls_shown_refs.specs.declared.steps.Step.TheVariants.{Keeps, Makes}

-- ---- how many of the last operands a token makes one

abbrev pub func_step : ℕ → Result Step Fault
func_step iftab = gives (λ (f : Function). Makes (operand_count iftab f.1)) (known iftab (slice_get functions iftab))

abbrev pub func_var_step : ℕ → ℕ → Result Step Fault
func_var_step count iftab = gives (λ (f : Function). Makes count) (known iftab (slice_get functions iftab))

abbrev pub command_step : ℕ → ℕ → Result Step Fault
command_step count cetab = gives (λ (name : List ℕ). Makes count) (known (0x8000 + cetab) (command_name cetab))

-- by the first of so many, which is the name
abbrev pub user_step : ℕ → Result Step Fault
user_step zero = Err too_few
user_step (suc n) = Ok (Makes (suc n))

abbrev pub known_step : Ptg (List ℕ) → Result Step Fault
known_step (ptg.Binary operator) = Ok (Makes 2)
known_step ptg.Uplus = Ok (Makes 1)
known_step ptg.Uminus = Ok (Makes 1)
known_step ptg.Percent = Ok (Makes 1)
known_step ptg.Paren = Ok (Makes 1)
known_step ptg.MissArg = Ok (Makes 0)
known_step (ptg.Str units cch high) = Ok (Makes 0)
known_step ptg.AttrSum = Ok (Makes 1)
known_step (ptg.Err error) = Ok (Makes 0)
known_step (ptg.Bool truth) = Ok (Makes 0)
known_step (ptg.Int n) = Ok (Makes 0)
known_step (ptg.Num bits) = Ok (Makes 0)
known_step (ptg.Func iftab) = func_step iftab
known_step (ptg.FuncVar count iftab) = func_var_step count iftab
known_step (ptg.Name index) = Ok (Makes 0)
known_step (ptg.Ref corner) = Ok (Makes 0)
known_step (ptg.Area first last) = Ok (Makes 0)
known_step ptg.RefErr = Ok (Makes 0)
known_step ptg.AreaErr = Ok (Makes 0)
known_step token = Ok Keeps

abbrev pub plain_step : ShownPtg (List ℕ) → Result Step Fault
plain_step (shown.Known token) = known_step token
plain_step (shown.Command count cetab) = command_step count cetab
plain_step (shown.UserFunc count) = user_step count
plain_step (shown.RefN corner) = Ok (Makes 0)
plain_step (shown.AreaN first last) = Ok (Makes 0)
plain_step (shown.NameX link) = Ok (Makes 0)
plain_step (shown.Ref3d link corner) = Ok (Makes 0)
plain_step (shown.Area3d link first last) = Ok (Makes 0)
plain_step (shown.Err3d link) = Ok (Makes 0)
plain_step token = Ok Keeps

-- ---- with the extra bytes that it leaves

abbrev pub behind_array : Biff → List ℕ → Result (List ℕ) Fault
behind_array biff extra = gives (λ x. x.1) (array_at biff extra)

abbrev pub token_step : Biff → List ℕ → ShownPtg (List ℕ) → Left Step
token_step biff extra (shown.Known ptg.Array) = gives (λ (left : List ℕ). (Makes 0, left)) (behind_array biff extra)
token_step biff extra shown.ElfRadicalS = Ok (Keeps, after_elf extra)
token_step biff extra shown.MemArea = Ok (Keeps, after_mem_area biff extra)
token_step biff extra token = gives (λ (s : Step). (s, extra)) (plain_step token)

-- ---- the number of operands

-- where so many become one
abbrev pub joined : ℕ → ℕ → Result ℕ Fault
joined zero count = Ok (suc count)
joined (suc n) zero = Err too_few
joined (suc n) (suc count) = joined n count

abbrev pub stepped : Step → ℕ → Result ℕ Fault
stepped Keeps count = Ok count
stepped (Makes n) count = joined n count

-- after all tokens; so many bytes belong to the last one still
abbrev pub counted : Biff → List ℕ → ℕ → List ℕ → ℕ → Result ℕ Fault
counted biff [] more extra count = Ok count
counted biff (b ∷ bytes) (suc more) extra count = counted biff bytes more extra count
counted biff (b ∷ bytes) zero extra count = do
  x ← shown_at biff (b ∷ bytes)
  e ← token_step biff extra x.0
  n ← stepped e.0 count
  counted biff bytes x.1 e.1 n

abbrev pub is_one : Result ℕ Fault → Bool
is_one (Ok count) = count == 1
is_one (Err e) = false
