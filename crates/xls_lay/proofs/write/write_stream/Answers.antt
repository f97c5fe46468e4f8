use Rattle.std.proofs.Common.{◌<◌, ◌^◌, ◌∙◌, ap, length, List, ℕ, subst}
use Rattle.xls_output.specs.Gathering.{Delivers}
use Rattle.xls_lay.specs.Entries.{entries_in}
use Rattle.xls_lay.specs.Writing.{canonical_bytes}
use Rattle.xls_lay.proofs.WriteLemmas.{canonical_is, parts_within}
use Rattle.xls_lay.proofs.write.write_stream.Goals as goal

pub write_entries-requires-clause-short : goal.write_entries-requires-clause-short
write_entries-requires-clause-short g c =
    let list = entries_in c.entries-entries.result.now in
    let short : length (canonical_bytes list) < 2 ^ 32 = rw c.entries-entries.ensures.same c.requires.short in
    parts_within list c.globals_length-globals.result c.globals_length-globals.ensures short

pub returns : goal.returns
returns g c =
    let list = entries_in c.entries-entries.result.now in
    let short : length (canonical_bytes list) < 2 ^ 32 = rw c.entries-entries.ensures.same c.requires.short in
    let state = g.K.Sink.state in
    subst (λ (text : List ℕ). Delivers (state c.args.sink.now) (state c.write_entries.new.sink) text c.write_entries.result)
    (canonical_is list c.globals_length-globals.result c.globals_length-globals.ensures short ∙ ap canonical_bytes c.entries-entries.ensures.same)
    c.write_entries.ensures
