use Rattle.std.proofs.Common.{ap, List, rules, ◌∙◌, ℕ}
use Rattle.std.specs.Global.{Vec}
use Rattle.xls_lay.specs.Cutting.{parts_from}
use Rattle.xls_lay.specs.Entries.{entries_in}
use Rattle.xls_output.proofs.OutputLemmas.{delivers-back, delivers-stop, gathers-after, gathers-then, stops-after, stops-more, stops-then, wrote, wrote-back}
use Rattle.xls_lay.proofs.write.write_entries.Goals as goal

abbrev items : Vec ℕ → List ℕ
items v = v.items

pub returns-in_err-put_globals : goal.returns-in_err-put_globals
returns-in_err-put_globals g c =
    let r = c.from_residual in
    delivers-back g.K.Sink.state _ r.result c.new-out.ensures.sink (search rules)
    (delivers-stop r.result r.ensures.1 (ap items c.new-out.ensures.kept ∙ c.new-gathered.ensures.items) (stops-more (parts_from (entries_in c.args.entries.now)) c.in_err-put_globals.ensures))

pub returns-in_err-put_parts : goal.returns-in_err-put_parts
returns-in_err-put_parts g c =
    let r = c.from_residual-in_err-put_parts in
    delivers-back g.K.Sink.state _ r.result c.new-out.ensures.sink (search rules)
    (delivers-stop r.result r.ensures.1 (ap items c.new-out.ensures.kept ∙ c.new-gathered.ensures.items) (stops-then c.in_ok-put_globals.ensures c.in_err-put_parts.ensures))

pub returns-in_err-finish : goal.returns-in_err-finish
returns-in_err-finish g c =
    let r = c.from_residual-in_err-finish in
    delivers-back g.K.Sink.state _ r.result c.new-out.ensures.sink (search rules)
    (delivers-stop r.result r.ensures.1 (ap items c.new-out.ensures.kept ∙ c.new-gathered.ensures.items)
    (stops-after (gathers-then c.in_ok-put_globals.ensures c.in_ok-put_parts.ensures) c.in_err-finish.ensures.puts))

pub returns : goal.returns
returns g c =
    wrote-back g.K.Sink.state c.new-out.ensures.sink (search rules)
    (wrote (ap items c.new-out.ensures.kept ∙ c.new-gathered.ensures.items)
    (gathers-after (gathers-then c.in_ok-put_globals.ensures c.in_ok-put_parts.ensures) c.in_ok-finish.ensures.puts) c.in_ok-finish.ensures.none)
