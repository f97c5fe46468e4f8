use Rattle.xls_stream.proofs.Pieces.{empty_pieces}
use Rattle.xls_record.proofs.record.Pieces.next_piece.Goals as goal

pub returns-then-is_empty : goal.returns-then-is_empty
returns-then-is_empty c =
    let e = (empty_pieces c.self.inside.bytes.now c.self.invariant c.args.self.now c.is_empty.result c.self.view_is c.is_empty.ensures).0 c.if-is_empty.true in
    (e, e)
