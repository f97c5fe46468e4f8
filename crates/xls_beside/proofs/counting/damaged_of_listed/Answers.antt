use Rattle.std.proofs.Common.{map}
use Rattle.xls_open.specs.Globals.{listed_of}
use Rattle.xls_beside.specs.Parts.{parts_of}
use Rattle.xls_beside.proofs.counting.damaged_of_listed.Goals as goal

pub returns : goal.returns
returns g c =
    c.damaged_of_sheets.ensures (parts_of c.args.version (map listed_of c.args.listed.now) c.args.stream.now) c.in_ok-index.ensures
