use Rattle.xls_output.specs.Output.{output_of}
use Rattle.xls_listing.specs.Listing.{lines_of_formulas}
use Rattle.xls_listing.proofs.SheetLemmas.{PutsSheets}
use Rattle.xls_listing.proofs.formulas.put_all_formulas.Given as goal

-- the sheets so far are put
abbrev pub invariant-loop-i : goal.invariant-loop-i
invariant-loop-i g l =
    PutsSheets (g.F.LineForm.is_text l.form) lines_of_formulas l.view.book.sheets l.view.book.contents l.i
    (output_of g.K.Sink.state g.F.Buffer.Gathers.kept l.fn.out) (output_of g.K.Sink.state g.F.Buffer.Gathers.kept l.out)
