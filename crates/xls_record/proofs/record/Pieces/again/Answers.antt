use Rattle.std.proofs.Common.{◌≡◌, ◌∙◌, ap, sym, length, arith}
use Rattle.xls_stream.proofs.Records.{bodies-are}
use Rattle.xls_record.proofs.PieceLemmas.{weight-pieces}
use Rattle.xls_record.proofs.record.Pieces.again.Goals as goal

pub returns-clause-light : goal.returns-clause-light
returns-clause-light c =
    let whole = c.self.invariant in
    let same : c.args.self.now ≡ whole.bodies = sym c.self.view_is ∙ bodies-are c.self.inside.bytes.now whole in
    let size = ap length whole.whole in
    rw same (omega (arith, weight-pieces whole.bodies, size, c.self.told.0))
