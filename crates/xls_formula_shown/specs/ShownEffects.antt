-- What a token does to the operands so far, one table of all tokens ([MS-XLS] 2.5.198).
use Rattle.std.specs.Prelude.{ℕ, ◌+◌, List, [], ◌++◌, if◌then◌else◌, codes, slice_get, Option, Some}
use Rattle.std.specs.Prelude.{None, Result, Ok}
use Rattle.std.specs.Prelude.{Err}
use Rattle.std.specs.Fmt.{decimal}
use Rattle.std.specs.Str.{bytes_eq}
use Rattle.xls_record.specs.declared.error.XlsError.TheVariants as errors
use Rattle.xls_rounding.specs.FormulaNumbers.{formula_number}
use Rattle.xls_ptg.specs.declared.corner.Corner.{Corner}
use Rattle.xls_ptg.specs.declared.tokens.Ptg.{Ptg}
use Rattle.xls_ptg.specs.declared.tokens.Ptg.TheVariants as ptg
use Rattle.xls_formula.specs.Functions.{Function}
use Rattle.xls_formula.specs.Words.{bool_word, err_text}
use Rattle.xls_formula_names.specs.Commands.{command_name}
use Rattle.xls_shown_ptg.specs.Counts.{operand_count}
use Rattle.xls_shown_ptg.specs.Extra.{after_elf, after_mem_area}
use Rattle.xls_shown_ptg.specs.Reading.{gives}
use Rattle.xls_shown_ptg.specs.declared.fault.Fault.{Fault}
use Rattle.xls_shown_ptg.specs.declared.fault.Fault.TheVariants as faults
use Rattle.xls_shown_ptg.specs.declared.tokens.SheetLink.{SheetLink}
use Rattle.xls_shown_ptg.specs.declared.tokens.ShownPtg.{ShownPtg}
use Rattle.xls_shown_ptg.specs.declared.tokens.ShownPtg.TheVariants as shown
use Rattle.xls_shown_ptg.specs.declared.tokens.Space.{Space}
use Rattle.xls_formula_leaves.specs.Cells.{area_text, cell_text, placed}
use Rattle.xls_formula_leaves.specs.Constants.{array_text_at, str_text}
use Rattle.xls_formula_leaves.specs.Operators.{sign_of}
use Rattle.xls_formula_shown.specs.Scope.{Scope}

-- an operand more, or a name as one; a sign before the last one, or behind it; an operator between the last two; parentheses around
-- the last one; a call of so many of the last ones, by a name or by the first of them; white space that waits; nothing
pub data Effect : Type 0 where
  pushes : (operand : List ℕ) → Effect
  names : (name : List ℕ) → Effect
  leads : (sign : List ℕ) → Effect
  trails : (sign : List ℕ) → Effect
  pairs : (operator : List ℕ) → Effect
  encloses : Effect
  calls : (count : ℕ) (name : List ℕ) → Effect
  calls_by_name : (count : ℕ) → Effect
  waits : (space : Space) → Effect
  keeps : Effect

-- ---- functions

abbrev pub known : {X : Type 0} → ℕ → Option X → Result X Fault
known iftab (Some x) = Ok x
known iftab None = Err (faults.Xls (errors.IfTab iftab))

-- 21 (PtgFunc) and 22 (PtgFuncVar)
abbrev pub func : Scope → ℕ → Result Effect Fault
func scope iftab = gives (λ (f : Function). calls (operand_count iftab f.1) f.0) (known iftab (slice_get scope.functions iftab))

abbrev pub func_var : Scope → ℕ → ℕ → Result Effect Fault
func_var scope count iftab = gives (λ (f : Function). calls count f.0) (known iftab (slice_get scope.functions iftab))

-- a command of macro sheets, which the fault tells with its top bit
abbrev pub command : ℕ → ℕ → Result Effect Fault
command count cetab = gives (λ (name : List ℕ). calls count name) (known (0x8000 + cetab) (command_name cetab))

-- ---- cells

abbrev pub gone : List ℕ
gone = codes "#REF!"

-- a cell on other sheets, which a defined name has by offsets
abbrev pub on_sheets : Scope → Corner → Corner
on_sheets scope corner = if scope.is_name then placed scope.biff scope.place corner else corner

abbrev pub ref3d_text : Scope → SheetLink → Corner → List ℕ
ref3d_text scope link corner = scope.sheets link ++ (codes "!" ++ cell_text (on_sheets scope corner))

abbrev pub area3d_text : Scope → SheetLink → Corner → Corner → List ℕ
area3d_text scope link first last =
    scope.sheets link ++ (codes "!" ++ area_text scope.biff (on_sheets scope first) (on_sheets scope last))

-- cells that are gone, on sheets; `#REF!` alone where the sheets are gone too
abbrev pub err3d_text : List ℕ → List ℕ
err3d_text sheets = if bytes_eq sheets (codes "#REF") then gone else sheets ++ (codes "!" ++ gone)

-- ---- all tokens

-- those that mean in each reading what they mean in one; the others among them are no tokens here
abbrev pub known_effect : Scope → Ptg (List ℕ) → Result Effect Fault
known_effect scope (ptg.Binary operator) = Ok (pairs (sign_of operator))
known_effect scope ptg.Uplus = Ok (leads (codes "+"))
known_effect scope ptg.Uminus = Ok (leads (codes "-"))
known_effect scope ptg.Percent = Ok (trails (codes "%"))
known_effect scope ptg.Paren = Ok encloses
known_effect scope ptg.MissArg = Ok (pushes [])
known_effect scope (ptg.Str units cch high) = Ok (pushes (str_text scope.page high units cch))
known_effect scope ptg.AttrSum = Ok (calls 1 (codes "SUM"))
known_effect scope (ptg.Err error) = Ok (pushes (err_text error))
known_effect scope (ptg.Bool truth) = Ok (pushes (bool_word truth))
known_effect scope (ptg.Int n) = Ok (pushes (decimal n))
known_effect scope (ptg.Num bits) = Ok (pushes (formula_number bits))
known_effect scope (ptg.Func iftab) = func scope iftab
known_effect scope (ptg.FuncVar count iftab) = func_var scope count iftab
known_effect scope (ptg.Name index) = Ok (names (scope.name index))
known_effect scope (ptg.Ref corner) = Ok (pushes (cell_text corner))
known_effect scope (ptg.Area first last) = Ok (pushes (area_text scope.biff first last))
known_effect scope ptg.RefErr = Ok (pushes gone)
known_effect scope ptg.AreaErr = Ok (pushes gone)
known_effect scope token = Ok keeps

-- of the tokens that have no extra bytes
abbrev pub plain_effect : Scope → ShownPtg (List ℕ) → Result Effect Fault
plain_effect scope (shown.Known token) = known_effect scope token
plain_effect scope (shown.AttrSpace space) = Ok (waits space)
plain_effect scope (shown.Command count cetab) = command count cetab
plain_effect scope (shown.UserFunc count) = Ok (calls_by_name count)
plain_effect scope (shown.RefN corner) = Ok (pushes (cell_text (placed scope.biff scope.place corner)))
plain_effect scope (shown.AreaN first last) =
    Ok (pushes (area_text scope.biff (placed scope.biff scope.place first) (placed scope.biff scope.place last)))
plain_effect scope (shown.NameX link) = Ok (names (scope.name_x link))
plain_effect scope (shown.Ref3d link corner) = Ok (pushes (ref3d_text scope link corner))
plain_effect scope (shown.Area3d link first last) = Ok (pushes (area3d_text scope link first last))
plain_effect scope (shown.Err3d link) = Ok (pushes (err3d_text (scope.sheets link)))
plain_effect scope token = Ok keeps

-- what it does, and all of the extra bytes
abbrev pub with_extra : List ℕ → Result Effect Fault → Result (Effect × List ℕ) Fault
with_extra extra read = gives (λ (e : Effect). (e, extra)) read

-- each token, and the extra bytes that it leaves
abbrev pub effect : Scope → List ℕ → ShownPtg (List ℕ) → Result (Effect × List ℕ) Fault
effect scope extra (shown.Known ptg.Array) =
    gives (λ (x : List ℕ × List ℕ). (pushes x.0, x.1)) (array_text_at scope.page scope.biff extra)
effect scope extra shown.ElfRadicalS = Ok (keeps, after_elf extra)
effect scope extra shown.MemArea = Ok (keeps, after_mem_area scope.biff extra)
effect scope extra token = with_extra extra (plain_effect scope token)
