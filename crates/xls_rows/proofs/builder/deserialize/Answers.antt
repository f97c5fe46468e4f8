use Rattle.std.proofs.Common.{subst}
use Rattle.xls_rows.specs.Ranges.{rows_read}
use Rattle.xls_rows.specs.Refusals.{Gives}
use Rattle.xls_rows.proofs.builder.deserialize.Goals as goal

-- all headers are chosen
pub returns : goal.returns
returns g c =
    subst (λ choice. Gives (λ rows. rows) c.from_range.result (rows_read choice g.T.ReadCell.content c.args.range.now)) c.new.ensures c.from_range.ensures
