-- What is read of a token, or its first fault by its bytes and the code tables.
use Rattle.std.specs.Prelude.{ℕ, List, Result}
use Rattle.std.specs.Borrow.{Bor}
use Rattle.xls_record.specs.declared.error.XlsError.{XlsError}
use Rattle.xls_ptg.specs.declared.tokens.Ptg.{Ptg}
use Rattle.xls_ptg.specs.declared.tokens.Ptg.TheVariants as ptg

-- a token, and how many bytes of it stand after its first
abbrev pub Reading : Type 0
Reading = Result (Ptg (List ℕ) × ℕ) XlsError

-- a token that code holds: a string by the bytes of its units, all others as they are
abbrev pub ptg_of : Ptg (Bor (List ℕ)) → Ptg (List ℕ)
ptg_of ptg.Exp = ptg.Exp
ptg_of (ptg.Binary operator) = ptg.Binary operator
ptg_of ptg.Uplus = ptg.Uplus
ptg_of ptg.Uminus = ptg.Uminus
ptg_of ptg.Percent = ptg.Percent
ptg_of ptg.Paren = ptg.Paren
ptg_of ptg.MissArg = ptg.MissArg
ptg_of (ptg.Str units cch high) = ptg.Str units.now cch high
ptg_of ptg.Elf = ptg.Elf
ptg_of ptg.AttrSemi = ptg.AttrSemi
ptg_of ptg.AttrIf = ptg.AttrIf
ptg_of ptg.AttrChoose = ptg.AttrChoose
ptg_of ptg.AttrGoto = ptg.AttrGoto
ptg_of ptg.AttrSum = ptg.AttrSum
ptg_of ptg.AttrBaxcel = ptg.AttrBaxcel
ptg_of (ptg.AttrSpace is_return count) = ptg.AttrSpace is_return count
ptg_of (ptg.AttrSpaceSemi is_return count) = ptg.AttrSpaceSemi is_return count
ptg_of (ptg.Err error) = ptg.Err error
ptg_of (ptg.Bool truth) = ptg.Bool truth
ptg_of (ptg.Int n) = ptg.Int n
ptg_of (ptg.Num bits) = ptg.Num bits
ptg_of ptg.Array = ptg.Array
ptg_of (ptg.Func iftab) = ptg.Func iftab
ptg_of (ptg.FuncVar count iftab) = ptg.FuncVar count iftab
ptg_of (ptg.Name index) = ptg.Name index
ptg_of (ptg.Ref corner) = ptg.Ref corner
ptg_of (ptg.Area first last) = ptg.Area first last
ptg_of ptg.RefErr = ptg.RefErr
ptg_of ptg.AreaErr = ptg.AreaErr
ptg_of ptg.NameX = ptg.NameX
ptg_of (ptg.Ref3d ixti corner) = ptg.Ref3d ixti corner
ptg_of (ptg.Area3d ixti first last) = ptg.Area3d ixti first last
ptg_of (ptg.RefErr3d ixti) = ptg.RefErr3d ixti
ptg_of (ptg.AreaErr3d ixti) = ptg.AreaErr3d ixti

-- what was read, as definitions have it
abbrev pub as_read : Ptg (Bor (List ℕ)) × ℕ → Ptg (List ℕ) × ℕ
as_read x = (ptg_of x.0, x.1)
