use Rattle.xls_stream.specs.declared.types.TheConstants as types
use Rattle.xls_biff.proofs.TableLemmas.{refused}
use Rattle.xls_biff.proofs.sheet_record.Body.rk.Goals as goal

pub returns-in_err-read_rk : goal.returns-in_err-read_rk
returns-in_err-read_rk c = refused types.RK c.args.self.now.biff _ _ _ c.from_residual.ensures.1 (λ s same. c.in_err-read_rk.ensures s.classes s.is_1904)
