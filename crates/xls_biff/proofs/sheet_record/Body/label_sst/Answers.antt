use Rattle.xls_stream.specs.declared.types.TheConstants as types
use Rattle.xls_biff.proofs.TableLemmas.{refused}
use Rattle.xls_biff.proofs.sheet_record.Body.label_sst.Goals as goal

pub returns-in_err-position : goal.returns-in_err-position
returns-in_err-position c = refused types.LABEL_SST c.args.self.now.biff _ _ _ c.from_residual.ensures.1 (λ s same. c.in_err-position.ensures s.strings)
