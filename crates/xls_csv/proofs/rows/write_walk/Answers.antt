use Rattle.std.proofs.Common.{rules, ◌∙◌}
use Rattle.xls_output.proofs.OutputLemmas.{delivers-back, delivers-stop, gathers-after, gathers-as, stops-after, stops-as, wrote, wrote-back}
use Rattle.xls_csv.proofs.CsvLemmas.{csv_gathers, csv_stops, walk_shown}
use Rattle.xls_csv.proofs.rows.write_walk.Goals as goal

pub returns-in_err-put_box : goal.returns-in_err-put_box
returns-in_err-put_box g c =
    let rows = walk_shown _ _ _ c.formatted-sheet.ensures (c.new.ensures ∙ c.iter.ensures) c.extent_of-extent.ensures.smallest in
    let r = c.from_residual in
    delivers-back g.K.Sink.state _ r.result c.new-out.ensures.sink (search rules)
    (delivers-stop r.result r.ensures.1 (c.new-out.ensures.kept ∙ c.new-gathered.ensures) (stops-as (csv_stops _ c.in_err-put_box.ensures) rows))

pub returns-in_err-finish : goal.returns-in_err-finish
returns-in_err-finish g c =
    let rows = walk_shown _ _ _ c.formatted-sheet.ensures (c.new.ensures ∙ c.iter.ensures) c.extent_of-extent.ensures.smallest in
    let r = c.from_residual-in_err-finish in
    delivers-back g.K.Sink.state _ r.result c.new-out.ensures.sink (search rules)
    (delivers-stop r.result r.ensures.1 (c.new-out.ensures.kept ∙ c.new-gathered.ensures)
    (stops-after (gathers-as (csv_gathers c.in_ok-put_box.ensures) rows) c.in_err-finish.ensures.puts))

pub returns : goal.returns
returns g c =
    let rows = walk_shown _ _ _ c.formatted-sheet.ensures (c.new.ensures ∙ c.iter.ensures) c.extent_of-extent.ensures.smallest in
    wrote-back g.K.Sink.state c.new-out.ensures.sink (search rules)
    (wrote (c.new-out.ensures.kept ∙ c.new-gathered.ensures)
    (gathers-after (gathers-as (csv_gathers c.in_ok-put_box.ensures) rows) c.in_ok-finish.ensures.puts) c.in_ok-finish.ensures.none)
