use Rattle.std.proofs.Common.{subst}
use Rattle.xls_output.specs.Each.{DeliversEach}
use Rattle.xls_readable.specs.declared.forms.Form.TheVariants.{Exact}
use Rattle.xls_listing.specs.Listing.{IsDisplayedLine, dump_lines}
use Rattle.xls_listing.proofs.ExactLemmas.{lines-delivered}
use Rattle.xls_listing.proofs.ReadingLemmas.{recorded_is_dump}
use Rattle.xls_report.proofs.dump.write_report.Goals as goal

pub returns : goal.returns
returns g c =
    let before = g.K.Sink.state c.args.sink.now in
    let after = g.K.Sink.state c.write_listing.new.sink in
    lines-delivered (dump_lines c.args.view.now.book) before after c.write_listing.result
    (subst (λ ls. DeliversEach (IsDisplayedLine Exact) ls before after c.write_listing.result) (recorded_is_dump c.args.view.now) c.write_listing.ensures)
