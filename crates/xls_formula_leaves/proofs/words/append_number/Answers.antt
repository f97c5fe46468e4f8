use Rattle.std.specs.String.{string_bytes}
use Rattle.xls_rounding.specs.FormulaNumbers.{formula_number}
use Rattle.xls_formula_leaves.proofs.LeafLemmas.{ascii_grown, ascii_pushed}
use Rattle.xls_formula_leaves.proofs.NumberLemmas.{formula_ascii}
use Rattle.xls_formula_leaves.proofs.words.append_number.Goals as goal

pub returns-clause-ok : goal.returns-clause-ok
returns-clause-ok c =
    ascii_pushed c.push_formula_number.result c.args.out.now c.push_formula_number.new.text (formula_number c.args.bits)
    (formula_ascii c.args.bits)
    c.push_formula_number.ensures.ok

pub returns-clause-grown : goal.returns-clause-grown
returns-clause-grown c =
    ascii_grown c.push_formula_number.result (string_bytes c.args.out.now) (formula_number c.args.bits) _ (formula_ascii c.args.bits)
    c.push_formula_number.ensures.ok c.push_formula_number.ensures.err
