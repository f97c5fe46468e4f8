use Rattle.std.specs.String.{string_bytes}
use Rattle.xls_bytes.specs.Columns.{column_name}
use Rattle.xls_formula.proofs.TextLemmas.{column_ascii}
use Rattle.xls_formula_leaves.proofs.LeafLemmas.{ascii_grown, ascii_pushed}
use Rattle.xls_formula_leaves.proofs.appends.append_letters.Goals as goal

pub returns-clause-ok : goal.returns-clause-ok
returns-clause-ok c =
    ascii_pushed c.push_column.result c.args.out.now c.push_column.new.buf (column_name c.args.column) (column_ascii c.args.column)
    c.push_column.ensures.ok

pub returns-clause-grown : goal.returns-clause-grown
returns-clause-grown c =
    ascii_grown c.push_column.result (string_bytes c.args.out.now) (column_name c.args.column) _ (column_ascii c.args.column)
    c.push_column.ensures.ok c.push_column.ensures.err
