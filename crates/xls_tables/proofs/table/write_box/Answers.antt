use Rattle.std.proofs.Common.{Some, ap, refl, rules, ◌∙◌}
use Rattle.xls_csv.proofs.SeenLemmas.{walked_seen}
use Rattle.std.specs.Option.{option_copied}
use Rattle.xls_tables.specs.Tables.{DeliversTable, WroteTable, table_walk}
use Rattle.xls_tables.proofs.TableLemmas.{delivers_stop, lent_back, marked, table_finished, table_gathered, table_stop, table_unfinished}
use Rattle.xls_tables.proofs.table.write_box.Goals as goal

pub returns-in_err-put_seen_box : goal.returns-in_err-put_seen_box
returns-in_err-put_seen_box g c = λ is_marked begins.
    let form = g.B.BoxBuffer.fields c.args.form (Some c.args.formats.now) in
    let table = table_walk (option_copied c.args.hidden) c.args.origin c.args.cells.now in
    let r = c.from_residual in
    let rows = walked_seen (option_copied c.args.hidden) _ _ (c.new.ensures ∙ c.iter.ensures) c.box_from-extent.ensures.exact in
    let mark = marked is_marked (ap g.B.Gathers.kept c.new-out.ensures.kept) begins in
    lent_back (λ a b. DeliversTable form is_marked table a b r.result) g.K.Sink.state c.new-out.ensures.sink (search rules)
    (delivers_stop form is_marked table _ _ r.result r.ensures.1
    (table_stop form is_marked table refl mark (rw rows at c.in_err-put_seen_box.ensures)))

pub returns-in_err-finish : goal.returns-in_err-finish
returns-in_err-finish g c = λ is_marked begins.
    let form = g.B.BoxBuffer.fields c.args.form (Some c.args.formats.now) in
    let table = table_walk (option_copied c.args.hidden) c.args.origin c.args.cells.now in
    let r = c.from_residual-in_err-finish in
    let rows = walked_seen (option_copied c.args.hidden) _ _ (c.new.ensures ∙ c.iter.ensures) c.box_from-extent.ensures.exact in
    let mark = marked is_marked (ap g.B.Gathers.kept c.new-out.ensures.kept) begins in
    let all = table_gathered form is_marked table mark (rw rows at c.in_ok-put_seen_box.ensures) in
    lent_back (λ a b. DeliversTable form is_marked table a b r.result) g.K.Sink.state c.new-out.ensures.sink (search rules)
    (delivers_stop form is_marked table _ _ r.result r.ensures.1
    (table_unfinished form is_marked table refl all c.in_err-finish.ensures.puts))

pub returns : goal.returns
returns g c = λ is_marked begins.
    let form = g.B.BoxBuffer.fields c.args.form (Some c.args.formats.now) in
    let table = table_walk (option_copied c.args.hidden) c.args.origin c.args.cells.now in
    let rows = walked_seen (option_copied c.args.hidden) _ _ (c.new.ensures ∙ c.iter.ensures) c.box_from-extent.ensures.exact in
    let mark = marked is_marked (ap g.B.Gathers.kept c.new-out.ensures.kept) begins in
    let all = table_gathered form is_marked table mark (rw rows at c.in_ok-put_seen_box.ensures) in
    lent_back (λ a b. WroteTable form is_marked table a b) g.K.Sink.state c.new-out.ensures.sink (search rules)
    (table_finished form is_marked table refl all c.in_ok-finish.ensures.puts c.in_ok-finish.ensures.none)
