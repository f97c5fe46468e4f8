use Rattle.xls_stream.proofs.Pieces.{empty_pieces}
use Rattle.xls_record.proofs.record.Pieces.is_empty.Goals as goal

pub returns : goal.returns
returns c = empty_pieces c.self.inside.bytes.now c.self.invariant c.args.self.now c.is_empty.result c.self.view_is c.is_empty.ensures
