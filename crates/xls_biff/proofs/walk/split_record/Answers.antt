use Rattle.std.proofs.Common.{◌∙◌, ap, arith, take}
use Rattle.std.proofs.lemmas.List.{take_rest}
use Rattle.xls_bytes.specs.Numbers.{le}
use Rattle.xls_stream.proofs.Records.{is_record}
use Rattle.xls_biff.proofs.walk.split_record.Goals as goal

pub returns : goal.returns
returns c =
    let bs = c.args.bytes.now in
    is_record bs c.split_at.result.0.now c.split_at.result.1.now c.read_u16-typ.result c.read_u16-size.result
    (λ i. omega (arith, c.type_inv.bytes i)) c.read_u16-typ.ensures
    (c.read_u16-size.ensures ∙ ap (λ x. le (take 2 x)) (take_rest bs 2)) (omega arith) (omega arith) c.split_at.ensures.front c.split_at.ensures.back
