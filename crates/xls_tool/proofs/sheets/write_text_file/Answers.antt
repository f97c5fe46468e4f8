use Rattle.std.proofs.Common.{subst, sym}
use Rattle.xls_files.specs.Paths.{IsInside}
use Rattle.xls_tool.proofs.OutputLemmas.{begun, ended, holds-workbook}
use Rattle.xls_tool.proofs.sheets.write_text_file.Goals as goal

pub returns : goal.returns
returns g c = record {
  outputs = λ h.
      let path = subst (IsInside c.args.folder.now.path.now) (sym c.as_str.ensures.value) c.in_ok-path.ensures in
      let begins = begun g.H.Host.tells g.H.File.Sink.state c.args.job.now.request c.args.job.now.reading.options c.args.folder.now c.as_str.result.now _ _ c.begin.result c.requires.out path c.begin.ensures.files h in
      ended g.H.Host.tells g.H.File.Sink.state c.args.job.now.request c.args.job.now.reading.options c.args.folder.now c.write_text-done.new.sink _ _ _ c.write_text-done.result c.requires.out c.in_ok-path.ensures
      (λ ok tells. holds-workbook (g.H.File.Sink.state c.in-Ok.file) _ (c.in-Ok.ensures.empty tells) c.args.job.now.request c.args.answer.now c.args.job.now.reading.options c.args.book.now.stream.now _ c.requires.asked c.write_text-done.ensures ok)
      c.end.ensures begins;
}
