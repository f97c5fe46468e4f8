use Rattle.std.proofs.Common.{rules}
use Rattle.xls_compound.specs.Entries.{entries_from}
use Rattle.xls_output.proofs.EachLemmas.{delivers-each, delivers-each-back, delivers-each-stop, each-as, each-stops-as, kept-none}
use Rattle.xls_documents.specs.Streams.{IsEntryText}
use Rattle.xls_documents.proofs.streams.write_streams.Goals as goal

pub returns-in_err-put_entries : goal.returns-in_err-put_entries
returns-in_err-put_entries g c =
    let r = c.from_residual in
    delivers-each-back g.K.Sink.state (IsEntryText c.args.form) (entries_from c.args.compound.now.listing 0) r.result c.new-out.ensures.sink (search rules)
    (delivers-each-stop r.result r.ensures.1 (kept-none c.new-out.ensures.kept c.new-buffer.ensures)
    (each-stops-as c.in_err-put_entries.ensures c.streams.ensures))

pub returns : goal.returns
returns g c =
    delivers-each-back g.K.Sink.state (IsEntryText c.args.form) (entries_from c.args.compound.now.listing 0) c.finish.result c.new-out.ensures.sink (search rules)
    (delivers-each _ c.finish.result (kept-none c.new-out.ensures.kept c.new-buffer.ensures)
    (each-as c.in_ok-put_entries.ensures c.streams.ensures) c.finish.ensures.puts c.finish.ensures.none)
