use Rattle.std.proofs.Common.{◌∙◌, sym, ap, length, drop, ◌≤◌}
use Rattle.xls_stream.specs.StringTable.{prefix_of, marked}
use Rattle.xls_stream.proofs.StringUnits.{prefix-marked, drop-marked}
use Rattle.xls_other_books.specs.Strings.{Left, continues}
use Rattle.xls_other_books.proofs.marked.Marked.skip.Goals as goal

pub split_at-requires : goal.split_at-requires
split_at-requires c =
    let e = sym (prefix-marked c.self.inside.hand.now (continues c.self.inside.records)) ∙ ap (λ (l : Left). prefix_of l.marks) c.self.view_is in
    rw e c.requires

pub returns-clause-marks : goal.returns-clause-marks
returns-clause-marks c =
    let hand = c.self.inside.hand.now in
    let bodies = continues c.self.inside.records in
    let e = sym (prefix-marked hand bodies) ∙ ap (λ (l : Left). prefix_of l.marks) c.self.view_is in
    let room : c.args.count ≤ length hand = rw e c.requires in
    ap (λ x. marked x bodies) c.split_at.ensures.back ∙ sym (drop-marked c.args.count hand bodies room) ∙ ap (λ (l : Left). drop c.args.count l.marks) c.self.view_is
