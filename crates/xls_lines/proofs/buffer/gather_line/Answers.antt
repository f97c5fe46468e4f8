use Rattle.std.proofs.Common.{◌++◌, codes, append_assoc}
use Rattle.xls_output.proofs.GatherLemmas.{gathers-as, gathers-then, puts-stop, stops-as, stops-more, stops-then}
use Rattle.xls_lines.proofs.buffer.gather_line.Goals as goal

pub returns-in_err-gather-clause-puts : goal.returns-in_err-gather-clause-puts
returns-in_err-gather-clause-puts g c =
    puts-stop _ c.from_residual.result c.from_residual.ensures.1 (stops-more (c.args.text.now ++ codes "\n") c.in_err-gather.ensures.puts)

pub returns-in_err-gather-2-clause-puts : goal.returns-in_err-gather-2-clause-puts
returns-in_err-gather-2-clause-puts g c =
    let r = c.from_residual-in_err-gather-2 in
    puts-stop _ r.result r.ensures.1 (stops-as (stops-more (codes "\n") (stops-then c.in_ok-gather.ensures.puts c.in_err-gather-2.ensures.puts)) (append_assoc c.args.start.now c.args.text.now (codes "\n")))

pub returns-in_err-gather-3-clause-puts : goal.returns-in_err-gather-3-clause-puts
returns-in_err-gather-3-clause-puts g c =
    let r = c.from_residual-in_err-gather-3 in
    puts-stop _ r.result r.ensures.1 (stops-as (stops-then (gathers-then c.in_ok-gather.ensures.puts c.in_ok-gather-2.ensures.puts) c.in_err-gather-3.ensures.puts) (append_assoc c.args.start.now c.args.text.now (codes "\n")))

pub returns-clause-puts : goal.returns-clause-puts
returns-clause-puts g c =
    gathers-as (gathers-then (gathers-then c.in_ok-gather.ensures.puts c.in_ok-gather-2.ensures.puts) c.in_ok-gather-3.ensures.puts) (append_assoc c.args.start.now c.args.text.now (codes "\n"))
