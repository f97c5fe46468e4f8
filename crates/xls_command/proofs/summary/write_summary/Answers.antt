use Rattle.std.proofs.Common.{rules, append_assoc, ◌∙◌}
use Rattle.std.specs.Prelude.{codes}
use Rattle.xls_command.specs.Summary.{count_line}
use Rattle.xls_output.proofs.OutputLemmas.{delivers-back, delivers-stop, gathers-as, gathers-after, gathers-then, stops-as, stops-after, stops-more, stops-then, wrote, wrote-back}
use Rattle.xls_command.proofs.summary.write_summary.Goals as goal

pub returns-in_err-put_line : goal.returns-in_err-put_line
returns-in_err-put_line g c =
    let r = c.from_residual in
    delivers-back g.K.Sink.state _ r.result c.new-out.ensures.sink (search rules)
    (delivers-stop r.result r.ensures.1 (c.new-out.ensures.kept ∙ c.new-buffer.ensures) (stops-more _ c.in_err-put_line.ensures))

pub returns-in_err-put_line-2 : goal.returns-in_err-put_line-2
returns-in_err-put_line-2 g c =
    let r = c.from_residual-in_err-put_line-2 in
    let two = stops-then c.in_ok-put_line.ensures c.in_err-put_line-2.ensures in
    delivers-back g.K.Sink.state _ r.result c.new-out.ensures.sink (search rules)
    (delivers-stop r.result r.ensures.1 (c.new-out.ensures.kept ∙ c.new-buffer.ensures) (stops-as (stops-more (count_line (codes "sum") c.args.summary.sum) two) (append_assoc (count_line (codes "rows") c.args.summary.rows) _ _)))

pub returns-in_err-put_line-3 : goal.returns-in_err-put_line-3
returns-in_err-put_line-3 g c =
    let r = c.from_residual-in_err-put_line-3 in
    let three = stops-then (gathers-then c.in_ok-put_line.ensures c.in_ok-put_line-2.ensures) c.in_err-put_line-3.ensures in
    delivers-back g.K.Sink.state _ r.result c.new-out.ensures.sink (search rules)
    (delivers-stop r.result r.ensures.1 (c.new-out.ensures.kept ∙ c.new-buffer.ensures) (stops-as three (append_assoc (count_line (codes "rows") c.args.summary.rows) _ _)))

pub returns-in_err-finish : goal.returns-in_err-finish
returns-in_err-finish g c =
    let r = c.from_residual-in_err-finish in
    let all = gathers-as (gathers-then (gathers-then c.in_ok-put_line.ensures c.in_ok-put_line-2.ensures) c.in_ok-put_line-3.ensures) (append_assoc (count_line (codes "rows") c.args.summary.rows) _ _) in
    delivers-back g.K.Sink.state _ r.result c.new-out.ensures.sink (search rules)
    (delivers-stop r.result r.ensures.1 (c.new-out.ensures.kept ∙ c.new-buffer.ensures) (stops-after all c.in_err-finish.ensures.puts))

pub returns : goal.returns
returns g c =
    let all = gathers-as (gathers-then (gathers-then c.in_ok-put_line.ensures c.in_ok-put_line-2.ensures) c.in_ok-put_line-3.ensures) (append_assoc (count_line (codes "rows") c.args.summary.rows) _ _) in
    wrote-back g.K.Sink.state c.new-out.ensures.sink (search rules)
    (wrote (c.new-out.ensures.kept ∙ c.new-buffer.ensures) (gathers-after all c.in_ok-finish.ensures.puts) c.in_ok-finish.ensures.none)
