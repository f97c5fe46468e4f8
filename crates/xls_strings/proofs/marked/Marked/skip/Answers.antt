use Rattle.std.proofs.Common.{◌∙◌, sym, ap, length, drop, ◌≤◌, List}
use Rattle.xls_stream.specs.StringTable.{prefix_of, marked, Mark}
use Rattle.xls_stream.proofs.StringUnits.{prefix-marked, drop-marked}
use Rattle.xls_strings.proofs.marked.Marked.skip.Goals as goal

pub split_at-requires : goal.split_at-requires
split_at-requires c =
    let e = sym (prefix-marked c.self.inside.hand.now c.self.inside.pieces) ∙ ap prefix_of c.self.view_is in
    rw e c.requires

pub returns : goal.returns
returns c =
    let hand = c.self.inside.hand.now in
    let e = sym (prefix-marked hand c.self.inside.pieces) ∙ ap prefix_of c.self.view_is in
    let room : c.args.count ≤ length hand = rw e c.requires in
    ap (λ x. marked x c.self.inside.pieces) c.split_at.ensures.back ∙ sym (drop-marked c.args.count hand c.self.inside.pieces room) ∙ ap (λ (ms : List Mark). drop c.args.count ms) c.self.view_is
