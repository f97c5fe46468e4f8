use Rattle.std.proofs.Common.{drop}
use Rattle.xls_refs.specs.Views.{sheets_cited}
use Rattle.xls_output.specs.Output.{output_of}
use Rattle.xls_listing.proofs.LineLemmas.{PutsSome}
use Rattle.xls_listing.proofs.RefLemmas.{all_cited_lines}
use Rattle.xls_listing.proofs.refs.put_refs.Given as goal

-- the lines of the sheets so far are put
abbrev pub invariant-loop-sheet : goal.invariant-loop-sheet
invariant-loop-sheet g l =
    let lines = all_cited_lines l.view.context.sheets in
    PutsSome (g.F.LineForm.is_text l.form) (lines (sheets_cited l.view)) (lines (drop l.sheet (sheets_cited l.view)))
    (output_of g.K.Sink.state g.F.Buffer.Gathers.kept l.fn.out) (output_of g.K.Sink.state g.F.Buffer.Gathers.kept l.out)
