use Rattle.std.proofs.Common.{ap}
use Rattle.xls_open.specs.Globals.{State}
use Rattle.xls_beside_arrays.proofs.OutsideLemmas.{part-laid}
use Rattle.xls_beside_arrays.proofs.outside.lay_part.Goals as goal

pub returns-clause-ok : goal.returns-clause-ok
returns-clause-ok c =
    part-laid c.args.sheet.now c.in-Some.part c.args.stream.now c.in_ok-other.other _ _ c.args.rooms.now c.lay_in_part.new.rooms
    c.lay_in_part.result c.in-Some.is c.in_ok-other.ensures (ap (λ (s : State). s.version) c.globals.view_is)
    (ap (λ (s : State). s.page) c.globals.view_is) c.lay_in_part.ensures.ok
