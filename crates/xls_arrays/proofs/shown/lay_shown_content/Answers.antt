use Rattle.std.proofs.Common.{slice_get}
use Rattle.xls_arrays.proofs.ShownLemmas.{shown-none}
use Rattle.xls_arrays.proofs.shown.lay_shown_content.Goals as goal

pub returns-in-None-clause-ok : goal.returns-in-None-clause-ok
returns-in-None-clause-ok c =
    shown-none c.args.view.now (slice_get c.args.view.now.formatted c.args.n) c.args.rooms.now c.in-None.ensures.formatted
