use Rattle.std.proofs.Common.{◌∙◌, sym, ap, length, drop, ◌≤◌, List}
use Rattle.xls_stream.specs.StringTable.{prefix_of, marked, Mark}
use Rattle.xls_stream.proofs.StringUnits.{prefix-marked, drop-marked}
use Rattle.xls_style_cells.specs.Walking.{continues}
use Rattle.xls_style_cells.proofs.marked.Marked.skip.Goals as goal

pub split_at-requires : goal.split_at-requires
split_at-requires c =
    let e = sym (prefix-marked c.self.inside.hand.now (continues c.self.inside.rest.now)) ∙ ap prefix_of c.self.view_is in
    rw e c.requires

pub returns : goal.returns
returns c =
    let hand = c.self.inside.hand.now in
    let e = sym (prefix-marked hand (continues c.self.inside.rest.now)) ∙ ap prefix_of c.self.view_is in
    let room : c.args.count ≤ length hand = rw e c.requires in
    ap (λ x. marked x (continues c.self.inside.rest.now)) c.split_at.ensures.back ∙ sym (drop-marked c.args.count hand (continues c.self.inside.rest.now) room) ∙ ap (λ (ms : List Mark). drop c.args.count ms) c.self.view_is
