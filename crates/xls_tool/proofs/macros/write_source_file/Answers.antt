use Rattle.std.proofs.Common.{subst, sym}
use Rattle.xls_files.specs.Paths.{IsInside}
use Rattle.xls_tool.proofs.OutputLemmas.{begun, ended, holds-source}
use Rattle.xls_tool.proofs.macros.write_source_file.Goals as goal

pub returns : goal.returns
returns g c = record {
  outputs = λ h.
      let path = subst (IsInside c.args.files.now.out.now.path.now) (sym c.as_str.ensures.value) c.requires.path in
      let begins = begun g.H.Host.tells g.H.File.Sink.state c.args.files.now.job.now.request c.args.files.now.job.now.reading.options c.args.files.now.out.now c.as_str.result.now _ _ c.begin.result c.requires.files.out path c.begin.ensures.files h in
      ended g.H.Host.tells g.H.File.Sink.state c.args.files.now.job.now.request c.args.files.now.job.now.reading.options c.args.files.now.out.now c.write_source-done.new.sink _ _ _ c.write_source-done.result c.requires.files.out c.requires.path
      (λ ok tells. holds-source (g.H.File.Sink.state c.in-Ok.file) _ (c.in-Ok.ensures.empty tells) c.args.files.now.job.now.request c.args.files.now.job.now.reading.options c.args.files.now.file.now.container c.args.source.now c.write_source-done.result c.requires.files.asked c.requires.source c.write_source-done.ensures ok)
      c.end.ensures begins;
}
