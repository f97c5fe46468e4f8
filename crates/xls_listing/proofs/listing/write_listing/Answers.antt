use Rattle.std.proofs.Common.{rules, ap, ◌∙◌}
use Rattle.xls_output.specs.Output.{output_of}
use Rattle.xls_output.proofs.EachLemmas.{delivers-each, delivers-each-back, delivers-each-stop}
use Rattle.xls_listing.specs.Listing.{listed_lines}
use Rattle.xls_listing.proofs.listing.write_listing.Goals as goal

pub returns-in_err-put_book : goal.returns-in_err-put_book
returns-in_err-put_book g c =
    let r = c.from_residual in
    let none = ap g.F.Buffer.Gathers.kept c.new-out.ensures.kept ∙ c.buffer-buffer.ensures in
    delivers-each-back g.K.Sink.state (g.F.LineForm.is_text c.args.form.now) (listed_lines c.args.reading c.args.view.now) r.result c.new-out.ensures.sink (search rules)
    (delivers-each-stop r.result r.ensures.1 none c.in_err-put_book.ensures)

pub returns : goal.returns
returns g c =
    let none = ap g.F.Buffer.Gathers.kept c.new-out.ensures.kept ∙ c.buffer-buffer.ensures in
    delivers-each-back g.K.Sink.state (g.F.LineForm.is_text c.args.form.now) (listed_lines c.args.reading c.args.view.now) c.finish.result c.new-out.ensures.sink (search rules)
    (delivers-each (output_of g.K.Sink.state g.F.Buffer.Gathers.kept c.finish.new.self) c.finish.result none c.in_ok-put_book.ensures c.finish.ensures.puts c.finish.ensures.none)
