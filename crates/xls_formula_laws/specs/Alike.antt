-- Where the exact reading of a formula's tokens and the one that shows them as Excel does are one ([MS-XLS] 2.5.198).
use Rattle.std.specs.Prelude.{◌≡◌, ℕ, zero, suc, List, [], ◌∷◌, Bool, true, false, not, ◌||◌, ◌==◌, slice_get, Option, Some, None, Ok, Err}
use Rattle.xls_text.specs.Pages.{string_text}
use Rattle.xls_record.specs.declared.version.Biff.{Biff}
use Rattle.xls_ptg.specs.Readings.{Reading}
use Rattle.xls_ptg.specs.Tokens.{ptg_at}
use Rattle.xls_ptg.specs.declared.corner.Corner.{Corner}
use Rattle.xls_ptg.specs.declared.operators.Operator.{Operator}
use Rattle.xls_ptg.specs.declared.operators.Operator.TheVariants as operators
use Rattle.xls_ptg.specs.declared.tokens.Ptg.{Ptg}
use Rattle.xls_ptg.specs.declared.tokens.Ptg.TheVariants as ptg
use Rattle.xls_formula.specs.Context.{Context}
use Rattle.xls_formula.specs.Functions.{Function}
use Rattle.xls_formula.specs.declared.numbers.NumberStyle.TheVariants as styles
use Rattle.xls_shown_ptg.specs.Counts.{operand_count}
use Rattle.xls_shown_ptg.specs.Reading.{Shown}
use Rattle.xls_shown_ptg.specs.ShownTokens.{shown_at}
use Rattle.xls_shown_ptg.specs.declared.fault.Fault.TheVariants as faults
use Rattle.xls_shown_ptg.specs.declared.tokens.ShownPtg.{ShownPtg}
use Rattle.xls_shown_ptg.specs.declared.tokens.ShownPtg.TheVariants as shown
use Rattle.xls_formula_leaves.specs.Cells.{has_all_columns, has_all_rows}
use Rattle.xls_formula_shown.specs.Scope.{Scope}

-- ---- what both are read by

-- version, code page and functions are the same, and numbers are shown in decimal
pub record AreAlike (context : Context) (scope : Scope) : Type 0 where
  pub biff : context.biff ≡ scope.biff
  pub page : context.page ≡ scope.page
  pub functions : context.functions ≡ scope.functions
  pub numbers : context.numbers ≡ styles.Decimal

-- ---- tokens that write the same

-- 0C (PtgGe) and 0D (PtgGt) are exchanged in the exact reading
abbrev pub is_alike_operator : Operator → Bool
is_alike_operator operators.Ge = false
is_alike_operator operators.Gt = false
is_alike_operator operator = true

-- a function whose count of operands is the table's; one that isn't there is refused in both
abbrev pub keeps_count : ℕ → Option Function → Bool
keeps_count iftab (Some f) = operand_count iftab f.1 == f.1
keeps_count iftab None = true

-- a quote in a string is doubled as it is shown
abbrev pub has_quote : List ℕ → Bool
has_quote [] = false
has_quote (c ∷ cs) = (c == 0x22) || has_quote cs

-- whole rows are shown without columns, and whole columns without rows
abbrev pub is_whole : Biff → Corner → Corner → Bool
is_whole biff first last = has_all_columns first last || has_all_rows biff first last

-- each token
abbrev pub is_alike : Scope → Ptg (List ℕ) → Bool
is_alike scope (ptg.Binary operator) = is_alike_operator operator
is_alike scope ptg.Uplus = true
is_alike scope ptg.Uminus = true
is_alike scope ptg.Percent = true
is_alike scope ptg.Paren = true
is_alike scope ptg.MissArg = true
is_alike scope (ptg.Str units cch high) = not (has_quote (string_text scope.page high units cch))
is_alike scope ptg.AttrSemi = true
is_alike scope ptg.AttrIf = true
is_alike scope ptg.AttrChoose = true
is_alike scope ptg.AttrGoto = true
is_alike scope ptg.AttrSum = true
is_alike scope ptg.AttrBaxcel = true
is_alike scope (ptg.Err error) = true
is_alike scope (ptg.Bool truth) = true
is_alike scope (ptg.Int n) = true
is_alike scope (ptg.Num bits) = true
is_alike scope (ptg.Func iftab) = keeps_count iftab (slice_get scope.functions iftab)
is_alike scope (ptg.FuncVar count iftab) = true
is_alike scope (ptg.Ref corner) = true
is_alike scope (ptg.Area first last) = not (is_whole scope.biff first last)
is_alike scope ptg.RefErr = true
is_alike scope ptg.AreaErr = true
is_alike scope token = false

-- the same token in both readings; or a label (PtgElf..), which writes nothing in either
abbrev pub AlikeTokens : Scope → Ptg (List ℕ) → ShownPtg (List ℕ) → Type 0
AlikeTokens scope token (shown.Known other) = (token ≡ other) × (is_alike scope token ≡ true)
AlikeTokens scope token shown.Nothing = token ≡ ptg.Elf
AlikeTokens scope token shown.ElfRadicalS = token ≡ ptg.Elf
AlikeTokens scope token other = ⊥

-- ---- all tokens

-- both readings have a token of one size, and what follows it is so; or both refuse it by the same fault
abbrev pub AlikeFrom : Scope → (ℕ → Type 0) → Reading → Shown → Type 0
AlikeFrom scope Follows (Ok x) (Ok y) = (y.1 ≡ x.1) × AlikeTokens scope x.0 y.0 × Follows x.1
AlikeFrom scope Follows (Err e) (Err fault) = fault ≡ faults.Xls e
AlikeFrom scope Follows x y = ⊥

-- each token in turn; so many bytes belong to the last one still
abbrev pub AreAlikeTokens : Scope → List ℕ → ℕ → Type 0
AreAlikeTokens scope [] more = Unit {0}
AreAlikeTokens scope (b ∷ bytes) (suc more) = AreAlikeTokens scope bytes more
AreAlikeTokens scope (b ∷ bytes) zero =
    AlikeFrom scope (λ n. AreAlikeTokens scope bytes n) (ptg_at scope.biff (b ∷ bytes)) (shown_at scope.biff (b ∷ bytes))
