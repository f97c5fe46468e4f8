use Rattle.std.proofs.Common.{drop, map}
use Rattle.xls_open.specs.Workbook.{name_texts}
use Rattle.xls_output.specs.Output.{output_of}
use Rattle.xls_listing.specs.Listing.{name_line}
use Rattle.xls_listing.proofs.LineLemmas.{PutsSome}
use Rattle.xls_listing.proofs.DisplayedLemmas.{Reported}
use Rattle.xls_listing.proofs.listing.put_names.Given as goal

-- the lines of the names so far are put
abbrev pub invariant-loop-name : goal.invariant-loop-name
invariant-loop-name g l =
    let line = λ (n : Reported). name_line (name_texts n) in
    PutsSome (g.F.LineForm.is_text l.form) (map line l.names) (map line (drop l.name-index l.names))
    (output_of g.K.Sink.state g.F.Buffer.Gathers.kept l.fn.out) (output_of g.K.Sink.state g.F.Buffer.Gathers.kept l.out)
