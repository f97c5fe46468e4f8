use Rattle.xls_bytes.specs.Columns.{column_name}
use Rattle.xls_formula.proofs.TextLemmas.{ascii_more, column_ascii}
use Rattle.xls_formula.proofs.words.push_letters.Goals as goal

pub returns : goal.returns
returns c = ascii_more c.args.out.now c.push_column.new.buf (column_name c.args.column) (column_ascii c.args.column) c.in_ok-push_column.ensures.ok
