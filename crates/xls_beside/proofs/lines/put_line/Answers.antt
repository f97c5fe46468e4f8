use Rattle.std.proofs.Common.{map}
use Rattle.xls_output.proofs.EachLemmas.{puts-memory, puts-one}
use Rattle.xls_readable.specs.Items.{named_of}
use Rattle.xls_beside.specs.Lines.{IsLineText, line}
use Rattle.xls_beside.proofs.lines.put_line.Goals as goal

pub returns-in_err-push_line : goal.returns-in_err-push_line
returns-in_err-push_line g c = puts-memory (IsLineText c.args.form) _ _ _ _ _ c.from_residual.result c.from_residual.ensures.1

pub returns : goal.returns
returns g c =
    puts-one (IsLineText c.args.form) (line c.args.word.now (map named_of c.args.members.now)) _ _ _ _ _ c.pass.result
    c.in_ok-push_line.ensures.ok c.pass.ensures.puts
