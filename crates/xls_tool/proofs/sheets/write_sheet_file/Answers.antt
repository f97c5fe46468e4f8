use Rattle.std.proofs.Common.{Option, subst, sym}
use Rattle.xls_answers.specs.HiddenParts.{IsSkippedAt, Parts}
use Rattle.xls_answers.specs.Sheets.{WritesSheetAt}
use Rattle.xls_view.specs.Viewing.{Viewed}
use Rattle.xls_files.specs.Paths.{IsInside}
use Rattle.xls_hidden.specs.Hidden.{Hidden}
use Rattle.xls_tool.proofs.OutputLemmas.{begun, ended, holds-sheet}
use Rattle.xls_tool.proofs.sheets.write_sheet_file.Goals as goal

pub returns : goal.returns
returns g c = record {
  outputs = λ h.
      let path = subst (IsInside c.args.files.now.out.now.path.now) (sym c.as_str.ensures.value) c.in_ok-path.ensures in
      let begins = begun g.H.Host.tells g.H.File.Sink.state c.args.files.now.job.now.request c.args.files.now.job.now.reading.options c.args.files.now.out.now c.as_str.result.now _ _ c.begin.result c.requires.files.out path c.begin.ensures.files h in
      ended g.H.Host.tells g.H.File.Sink.state c.args.files.now.job.now.request c.args.files.now.job.now.reading.options c.args.files.now.out.now c.write_sheet_at.new.sink _ _ _ c.written-done.result c.requires.files.out c.in_ok-path.ensures
      (λ ok tells. holds-sheet (g.H.File.Sink.state c.in-Ok.file) _ (c.in-Ok.ensures.empty tells) c.args.files.now c.args.formats.now c.args.index c.in_ok-hidden.hidden c.write_sheet_at.result c.written-done.result c.requires.files c.requires.asked
      (subst (λ (view : Viewed). IsSkippedAt c.args.files.now.parts.now view c.args.index c.in_ok-hidden.hidden) c.view.ensures
      (subst (λ (parts : Option Parts). IsSkippedAt parts c.view.result.now c.args.index c.in_ok-hidden.hidden) c.as_ref-parts.ensures.value c.in_ok-hidden.ensures))
      (subst (λ (hidden : Option Hidden). WritesSheetAt c.args.files.now.table.now hidden c.args.formats.now c.args.index (g.H.File.Sink.state c.in-Ok.file) (g.H.File.Sink.state c.write_sheet_at.new.sink) c.write_sheet_at.result) c.as_ref-left_out.ensures.value c.write_sheet_at.ensures) c.written-done.ensures ok)
      c.end.ensures begins;
}
