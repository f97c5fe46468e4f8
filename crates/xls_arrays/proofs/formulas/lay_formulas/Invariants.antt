use Rattle.std.proofs.Common.{map}
use Rattle.xls_view.specs.Formulas.{text_entry}
use Rattle.xls_arrays.specs.Arrays.{with_formula}
use Rattle.xls_arrays.proofs.LaidLemmas.{IsPartly}
use Rattle.xls_arrays.proofs.formulas.lay_formulas.Given as goal

-- the formulas so far are laid
abbrev pub invariant-loop-formula : goal.invariant-loop-formula
invariant-loop-formula l =
    IsPartly with_formula (map (text_entry l.formulas.context) l.formulas.left)
    (map (text_entry l.formulas.context) l.formula-iterator) l.fn.rooms l.rooms
