use Rattle.xls_output.specs.Output.{output_of}
use Rattle.xls_listing.proofs.LineLemmas.{PutsSome}
use Rattle.xls_listing.proofs.RefLemmas.{cited_lines}
use Rattle.xls_listing.proofs.refs.put_sheet_refs.Given as goal

-- the lines of some formulas are put, and the others are left
abbrev pub invariant-loop-formula : goal.invariant-loop-formula
invariant-loop-formula g l =
    (goal.iterator-loop-formula g).can_next l.formula-iterator ×
    (goal.iterator-loop-formula g).is_finite l.formula-iterator ×
    PutsSome (g.F.LineForm.is_text l.form) (cited_lines l.names l.fn.cites) (cited_lines l.names l.formula-iterator)
    (output_of g.K.Sink.state g.F.Buffer.Gathers.kept l.fn.out) (output_of g.K.Sink.state g.F.Buffer.Gathers.kept l.out)
