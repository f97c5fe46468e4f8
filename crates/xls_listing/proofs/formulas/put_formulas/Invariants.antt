use Rattle.xls_output.specs.Output.{output_of}
use Rattle.xls_listing.proofs.LineLemmas.{PutsSome}
use Rattle.xls_listing.proofs.DisplayedLemmas.{token_lines}
use Rattle.xls_listing.proofs.formulas.put_formulas.Given as goal

-- the lines of some formulas are put, and the others are left
abbrev pub invariant-loop-formula : goal.invariant-loop-formula
invariant-loop-formula g l =
    let lines = token_lines l.formulas.context in
    (goal.iterator-loop-formula g).can_next l.formula-iterator ×
    (goal.iterator-loop-formula g).is_finite l.formula-iterator ×
    PutsSome (g.F.LineForm.is_text l.form) (lines l.formulas.left) (lines l.formula-iterator)
    (output_of g.K.Sink.state g.F.Buffer.Gathers.kept l.fn.out) (output_of g.K.Sink.state g.F.Buffer.Gathers.kept l.out)
