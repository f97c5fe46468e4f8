use Rattle.std.proofs.Common.{arith}
use Rattle.xls_sectors.proofs.header.read_header.Goals as goal
use Rattle.xls_sectors.proofs.header.read_header.Goals.{in-9, in-12}

pub returns-clause-size : goal.returns-clause-size
returns-clause-size c = elim c.match-u16_in.branch [ in-9 w ↦ grind arith | in-12 w ↦ grind arith ]
