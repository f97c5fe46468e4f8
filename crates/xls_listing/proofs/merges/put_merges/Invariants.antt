use Rattle.std.proofs.Common.{map}
use Rattle.xls_output.specs.Output.{output_of}
use Rattle.xls_listing.specs.Listing.{merge_line}
use Rattle.xls_listing.proofs.LineLemmas.{PutsSome}
use Rattle.xls_listing.proofs.merges.put_merges.Given as goal

-- the lines of some regions are put, and the others are left
abbrev pub invariant-loop-region : goal.invariant-loop-region
invariant-loop-region g l =
    (goal.iterator-loop-region g).can_next l.region-iterator ×
    (goal.iterator-loop-region g).is_finite l.region-iterator ×
    PutsSome (g.F.LineForm.is_text l.form) (map merge_line l.fn.merges) (map merge_line l.region-iterator)
    (output_of g.K.Sink.state g.F.Buffer.Gathers.kept l.fn.out) (output_of g.K.Sink.state g.F.Buffer.Gathers.kept l.out)
