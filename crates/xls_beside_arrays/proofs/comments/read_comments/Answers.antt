use Rattle.std.proofs.Common.{refl, rules}
use Rattle.xls_beside_arrays.proofs.EndLemmas.{fills, fills-as}
use Rattle.xls_beside_arrays.proofs.comments.read_comments.Goals as goal
use Rattle.xls_beside_arrays.specs.Comments.{AreComments}
use Rattle.xls_beside_arrays.specs.Opened.{RefusesSheet}

pub returns : goal.returns
returns c =
    let done = c.lay_sheet-done in
    let Held = AreComments c.args.options.now c.args.stream.now in
    let Refuses = RefusesSheet c.args.options.now c.args.stream.now in
    fills-as Held Refuses done.new.rooms
    (fills Held Refuses _ done.new.rooms done.result (λ p. p) refl done.ensures.ok done.ensures.err c.end.ensures)
    (search rules) (search rules) (search rules)
