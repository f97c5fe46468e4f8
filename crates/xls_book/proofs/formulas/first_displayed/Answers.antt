use Rattle.std.proofs.Common.{rules}
use Rattle.xls_book.proofs.DisplayedLemmas.{begun}
use Rattle.xls_book.proofs.formulas.first_displayed.Goals as goal

pub returns : goal.returns
returns c =
    begun c.args.cells.now c.from_displayed-rest.result.now c.split_at.result.1.now c.index-rest-0.result c.get_position-row.result.0 c.get_position-row.result.1 c.as_str.result.now
    c.from_displayed-rest.ensures.same c.from_displayed-rest.ensures.begins (search rules) (search rules) (search rules)
