use Rattle.xls_rounding.specs.FormulaNumbers.{formula_number}
use Rattle.xls_formula_leaves.proofs.LeafLemmas.{ascii_pushed}
use Rattle.xls_formula_leaves.proofs.NumberLemmas.{formula_ascii}
use Rattle.xls_formula_leaves.proofs.words.push_number.Goals as goal

pub returns-clause-ok : goal.returns-clause-ok
returns-clause-ok c =
    ascii_pushed c.push_formula_number.result c.args.out.now c.push_formula_number.new.text (formula_number c.args.bits)
    (formula_ascii c.args.bits)
    c.push_formula_number.ensures.ok
