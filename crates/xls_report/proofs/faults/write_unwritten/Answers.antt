use Rattle.std.proofs.Common.{ℕ, List, subst, ◌∙◌}
use Rattle.xls_output.specs.Gathering.{Delivers}
use Rattle.xls_output.proofs.GatherLemmas.{delivers-stop, stops-memory-now}
use Rattle.xls_report.specs.Faults.{error_line}
use Rattle.xls_report.proofs.faults.write_unwritten.Goals as goal

pub returns-in_err-text : goal.returns-in_err-text
returns-in_err-text g c =
    delivers-stop c.from_residual.result c.from_residual.ensures.1 (stops-memory-now _ _ _)

pub returns : goal.returns
returns g c =
    subst (λ (t : List ℕ). Delivers (g.K.Sink.state c.args.sink.now) (g.K.Sink.state c.write_line.new.sink) (error_line t) c.write_line.result) (c.as_str.ensures.value ∙ c.in_ok-text.ensures.ok) c.write_line.ensures
