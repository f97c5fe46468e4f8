-- Functions ([MS-XLS] 2.5.198).
use Rattle.std.specs.Prelude.{ℕ, List, slice_index, Ok}
use Rattle.xls_ptg.specs.declared.tokens.Ptg.TheVariants as ptg
use Rattle.xls_ptg.specs.Fields.{word_at, sized}
use Rattle.xls_ptg.specs.Readings.{Reading}

-- 21 (PtgFunc): an index of 16 bits (iftab)
abbrev pub func_at : List ℕ → Reading
func_at rest = sized 2 rest (Ok (ptg.Func (word_at 0 rest), 2))

-- 22 (PtgFuncVar): a count of operands in a byte and an index of 16 bits
abbrev pub func_var_at : List ℕ → Reading
func_var_at rest = sized 3 rest (Ok (ptg.FuncVar (slice_index rest 0) (word_at 1 rest), 3))
