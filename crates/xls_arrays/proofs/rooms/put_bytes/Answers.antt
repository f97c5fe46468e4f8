use Rattle.xls_arrays.proofs.FilledLemmas.{bytes-laid}
use Rattle.xls_arrays.proofs.rooms.put_bytes.Goals as goal

pub returns : goal.returns
returns c =
    λ items f. bytes-laid c.args.room.now c.write_at.new.room items c.args.bytes.now c.args.place c.min-count.result c.if-place-room.false f
    c.min-count.ensures c.write_at.ensures.written c.write_at.ensures.len
