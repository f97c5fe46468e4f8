use Rattle.std.proofs.Common.{map}
use Rattle.xls_open.specs.Globals.{listed_of}
use Rattle.xls_output.proofs.EachLemmas.{puts-memory}
use Rattle.xls_beside.specs.Parts.{parts_of}
use Rattle.xls_beside.specs.Lines.{IsLineText}
use Rattle.xls_beside.proofs.sheets.put_listed.Goals as goal

pub returns-in_err-index : goal.returns-in_err-index
returns-in_err-index g c = puts-memory (IsLineText c.args.form) _ _ _ _ _ c.from_residual.result c.from_residual.ensures.1

pub returns : goal.returns
returns g c =
    c.put_sheets.ensures (parts_of c.args.version (map listed_of c.args.listed.now) c.args.stream.now) c.in_ok-index.ensures
