use Rattle.std.proofs.Common.{arith, rules, length, ◌<◌, ◌^◌, ap}
use Rattle.std.specs.List.{flat_map}
use Rattle.xls_stream.specs.StringTable.{marked_piece, weight}
use Rattle.xls_strings.proofs.MarkLemmas.{weight-marked}
use Rattle.xls_strings.proofs.sst.marks_of.Goals as goal

pub returns-clause-light : goal.returns-clause-light
returns-clause-light c =
    let w = weight-marked c.split_at.result.1.now c.again.result in
    let size : length c.args.r.now.body.now < 2 ^ 64 = search rules in
    let same = ap (λ ps. weight (flat_map marked_piece ps)) c.again.ensures.same in
    rw c.new.ensures (omega (arith, w, same, c.again.ensures.light, c.split_at.ensures.back_len, size))
