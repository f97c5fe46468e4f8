use Rattle.std.proofs.Common.{drop, map}
use Rattle.xls_data.specs.Sheets.{sheet_content}
use Rattle.xls_data.specs.declared.sheets.Sheet.{Sheet}
use Rattle.xls_output.specs.Output.{output_of}
use Rattle.xls_listing.specs.Listing.{sheet_line}
use Rattle.xls_listing.proofs.LineLemmas.{PutsSome}
use Rattle.xls_listing.proofs.sheets.put_sheets.Given as goal

-- the lines of the sheets so far are put
abbrev pub invariant-loop-sheet : goal.invariant-loop-sheet
invariant-loop-sheet g l =
    let line = λ (s : Sheet). sheet_line (sheet_content s) in
    PutsSome (g.F.LineForm.is_text l.form) (map line l.sheets) (map line (drop l.sheet-index l.sheets))
    (output_of g.K.Sink.state g.F.Buffer.Gathers.kept l.fn.out) (output_of g.K.Sink.state g.F.Buffer.Gathers.kept l.out)
