use Rattle.std.proofs.Common.{refl, rules}
use Rattle.xls_beside_arrays.proofs.EndLemmas.{fills}
use Rattle.xls_beside_arrays.proofs.outside.read_outside.Goals as goal
use Rattle.xls_beside_arrays.specs.Filled.{in_rooms}
use Rattle.xls_beside_arrays.specs.Opened.{RefusesSheet}
use Rattle.xls_beside_arrays.specs.Outside.{AreOutside}

pub returns : goal.returns
returns c =
    let done = c.lay_sheet-done in
    let Held = AreOutside c.args.options.now c.args.stream.now in
    let Refuses = RefusesSheet c.args.options.now c.args.stream.now in (
      in_rooms done.new.rooms,
      search rules,
      search rules,
      fills Held Refuses _ done.new.rooms done.result (λ p. p) refl done.ensures.ok done.ensures.err c.end.ensures,
    )
