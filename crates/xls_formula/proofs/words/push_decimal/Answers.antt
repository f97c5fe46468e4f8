use Rattle.xls_rounding.specs.FormulaNumbers.{formula_number}
use Rattle.xls_formula.proofs.TextLemmas.{ascii_more}
use Rattle.xls_formula.proofs.NumberLemmas.{formula_ascii}
use Rattle.xls_formula.proofs.words.push_decimal.Goals as goal

pub returns : goal.returns
returns c = ascii_more c.args.out.now c.push_formula_number.new.text (formula_number c.args.bits) (formula_ascii c.args.bits) c.in_ok-push_formula_number.ensures.ok
