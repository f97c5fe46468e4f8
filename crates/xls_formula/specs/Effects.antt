-- What a token does to the operands so far ([MS-XLS] 2.5.198): one table of all tokens.
use Rattle.std.specs.Prelude.{ℕ, List, [], ◌++◌, replicate, codes, slice_get, Option, Some, None, Bool, Result, Ok, Err}
use Rattle.std.specs.Fmt.{decimal}
use Rattle.xls_record.specs.Reading.{◌>>=◌, gives}
use Rattle.xls_text.specs.declared.encoding.XlsEncoding.{XlsEncoding}
use Rattle.xls_text.specs.Pages.{string_text}
use Rattle.xls_record.specs.declared.error.XlsError.{XlsError}
use Rattle.xls_record.specs.declared.error.XlsError.TheVariants as errors
use Rattle.xls_formula.specs.Words.{operator_text, err_text, bool_word, number_word, space_mark}
use Rattle.xls_formula.specs.Functions.{Function}
use Rattle.xls_formula.specs.Context.{Context, sheet_text, name_text}
use Rattle.xls_ptg.specs.declared.tokens.Ptg.{Ptg}
use Rattle.xls_ptg.specs.declared.tokens.Ptg.TheVariants as ptg
use Rattle.xls_ptg.specs.Tokens.{ptg_at}
use Rattle.xls_formula.specs.Tree.{Tree, word, ref, area}

-- an operand more; texts around the last operand; an operator between the last two; a call of so many
-- of the last ones; spaces before the last one, if there is one; nothing
pub data Effect : Type 0 where
  pushes : (operand : Tree) → Effect
  wraps : (before after : List ℕ) → Effect
  pairs : (operator : List ℕ) → Effect
  calls : (count : ℕ) (name : List ℕ) → Effect
  spaces : (marks : List ℕ) → Effect
  keeps : Effect

-- a string in quotes, and those inside it as they stand: this project's rule
abbrev pub str_text : XlsEncoding → Option Bool → List ℕ → ℕ → List ℕ
str_text page high bytes count =
    codes "\"" ++ (string_text page high bytes count ++ codes "\"")

-- cells that are gone, on the sheet of a reference
abbrev pub err3d_text : Context → ℕ → List ℕ
err3d_text context ixti = sheet_text context ixti ++ codes "!#REF!"

-- the function of an index: its name and the count of its operands
abbrev pub known_function : ℕ → Option Function → Result Function XlsError
known_function iftab None = Err (errors.IfTab iftab)
known_function iftab (Some f) = Ok f

abbrev pub function_at : Context → ℕ → Result Function XlsError
function_at context iftab = known_function iftab (slice_get context.functions iftab)

-- each token
abbrev pub effect : Context → Ptg (List ℕ) → Result Effect XlsError
effect context ptg.Exp = Ok (pushes (word []))
effect context (ptg.Binary operator) = Ok (pairs (operator_text operator))
effect context ptg.Uplus = Ok (wraps (codes "+") [])
effect context ptg.Uminus = Ok (wraps (codes "-") [])
effect context ptg.Percent = Ok (wraps [] (codes "%"))
effect context ptg.Paren = Ok (wraps (codes "(") (codes ")"))
effect context ptg.MissArg = Ok (pushes (word []))
effect context (ptg.Str units cch high) = Ok (pushes (word (str_text context.page high units cch)))
effect context ptg.Elf = Ok keeps
effect context ptg.AttrSemi = Ok keeps
effect context ptg.AttrIf = Ok keeps
effect context ptg.AttrChoose = Ok keeps
effect context ptg.AttrGoto = Ok keeps
effect context ptg.AttrSum = Ok (wraps (codes "SUM(") (codes ")"))
effect context ptg.AttrBaxcel = Ok keeps
effect context (ptg.AttrSpace is_return count) = Ok (spaces (replicate count (space_mark is_return)))
effect context (ptg.AttrSpaceSemi is_return count) =
    Ok (spaces (replicate count (space_mark is_return)))
effect context (ptg.Err error) = Ok (pushes (word (err_text error)))
effect context (ptg.Bool truth) = Ok (pushes (word (bool_word truth)))
effect context (ptg.Int n) = Ok (pushes (word (decimal n)))
effect context (ptg.Num bits) = Ok (pushes (word (number_word context.numbers bits)))
effect context ptg.Array = Ok (pushes (word (codes "{PtgArray}")))
effect context (ptg.Func iftab) = gives (λ f. calls f.1 f.0) (function_at context iftab)
effect context (ptg.FuncVar count iftab) = gives (λ f. calls count f.0) (function_at context iftab)
effect context (ptg.Name index) = Ok (pushes (word (name_text context index)))
effect context (ptg.Ref corner) = Ok (pushes (ref None corner))
effect context (ptg.Area first last) = Ok (pushes (area None first last))
effect context ptg.RefErr = Ok (pushes (word (codes "#REF!")))
effect context ptg.AreaErr = Ok (pushes (word (codes "#REF!")))
effect context ptg.NameX = Ok (pushes (word (codes "[PtgNameX]")))
effect context (ptg.Ref3d ixti corner) = Ok (pushes (ref (Some (sheet_text context ixti)) corner))
effect context (ptg.Area3d ixti first last) =
    Ok (pushes (area (Some (sheet_text context ixti)) first last))
effect context (ptg.RefErr3d ixti) = Ok (pushes (word (err3d_text context ixti)))
effect context (ptg.AreaErr3d ixti) = Ok (pushes (word (err3d_text context ixti)))

-- what the first token does, and how many bytes of it stand after its first; its bytes refuse it
-- before the function table
abbrev pub effect_at : Context → List ℕ → Result (Effect × ℕ) XlsError
effect_at context bytes = do
  x ← ptg_at context.biff bytes
  e ← effect context x.0
  Ok (e, x.1)
