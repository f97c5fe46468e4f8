use Rattle.xls_listing.specs.Listing.{sheet_lines}
use Rattle.xls_listing.proofs.ExactLemmas.{lines-delivered}
use Rattle.xls_report.proofs.dump.write_sheets.Goals as goal

pub returns : goal.returns
returns g c = lines-delivered (sheet_lines c.args.view.now.book) (g.K.Sink.state c.args.sink.now) _ c.write_sheet_list.result c.write_sheet_list.ensures
