use Rattle.std.proofs.Common.{subst, sym}
use Rattle.xls_files.specs.Paths.{IsInside}
use Rattle.xls_tool.proofs.OutputLemmas.{begun, ended, holds-beside}
use Rattle.xls_tool.proofs.sheets.write_whole_file.Goals as goal

pub returns : goal.returns
returns g c = record {
  outputs = λ h.
      let path = subst (IsInside c.args.folder.now.path.now) (sym c.as_str.ensures.value) c.in_ok-path.ensures in
      let begins = begun g.H.Host.tells g.H.File.Sink.state c.args.job.now.request c.args.job.now.reading.options c.args.folder.now c.as_str.result.now _ _ c.begin.result c.requires.out path c.begin.ensures.files h in
      ended g.H.Host.tells g.H.File.Sink.state c.args.job.now.request c.args.job.now.reading.options c.args.folder.now c.write_beside-done.new.sink _ _ _ c.write_beside-done.result c.requires.out c.in_ok-path.ensures
      (λ ok tells. holds-beside (g.H.File.Sink.state c.in-Ok.out) _ (c.in-Ok.ensures.empty tells) c.args.job.now.request c.args.beside.now c.args.job.now.reading.options c.args.file.now.container _ c.requires.asked c.write_beside-done.ensures ok)
      c.end.ensures begins;
}
