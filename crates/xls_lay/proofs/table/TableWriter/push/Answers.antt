use Rattle.std.proofs.Common.{refl}
use Rattle.xls_lay.proofs.PutLemmas.{moves_bytes}
use Rattle.xls_lay.proofs.table.TableWriter.push.Goals as goal

pub returns : goal.returns
returns c = moves_bytes c.args.self.now _ c.args.bytes.now refl c.in_ok-extend_from_slice.ensures.items
