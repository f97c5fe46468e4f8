use Rattle.std.proofs.Common.{drop, map}
use Rattle.xls_output.specs.Output.{output_of}
use Rattle.xls_listing.specs.Listing.{ref_line}
use Rattle.xls_listing.proofs.LineLemmas.{PutsSome}
use Rattle.xls_listing.proofs.refs.put_cites.Given as goal

-- the lines so far are put
abbrev pub invariant-loop-i : goal.invariant-loop-i
invariant-loop-i g l =
    let line = ref_line l.names in
    PutsSome (g.F.LineForm.is_text l.form) (map line l.formula) (map line (drop l.i l.formula))
    (output_of g.K.Sink.state g.F.Buffer.Gathers.kept l.fn.out) (output_of g.K.Sink.state g.F.Buffer.Gathers.kept l.out)
