use Rattle.std.proofs.Common.{rules}
use Rattle.xls_output.proofs.EachLemmas.{delivers-each, delivers-each-back, delivers-each-stop, kept-none}
use Rattle.xls_documents.specs.Lines.{IsLineText}
use Rattle.xls_documents.specs.Properties.{property_lines}
use Rattle.xls_documents.proofs.properties.write_properties.Goals as goal

pub returns-in_err-put_properties-clause-delivers : goal.returns-in_err-put_properties-clause-delivers
returns-in_err-put_properties-clause-delivers g c =
    let r = c.from_residual in
    delivers-each-back g.K.Sink.state (IsLineText c.args.form) (property_lines c.args.properties.now) r.result c.new-out.ensures.sink (search rules)
    (delivers-each-stop r.result r.ensures.1 (kept-none c.new-out.ensures.kept c.new-buffer.ensures) c.in_err-put_properties.ensures.puts)

pub returns-clause-delivers : goal.returns-clause-delivers
returns-clause-delivers g c =
    delivers-each-back g.K.Sink.state (IsLineText c.args.form) (property_lines c.args.properties.now) c.finish.result c.new-out.ensures.sink (search rules)
    (delivers-each _ c.finish.result (kept-none c.new-out.ensures.kept c.new-buffer.ensures) c.in_ok-put_properties.ensures.puts
    c.finish.ensures.puts c.finish.ensures.none)
