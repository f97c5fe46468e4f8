-- Exact lines that were written, or a prefix of them.
use Rattle.std.proofs.Common.{List, [], Result, Ok, Err}
use Rattle.xls_output.specs.SinkState.{SinkState}
use Rattle.xls_output.specs.Gathering.{Delivers, Stops, Wrote}
use Rattle.xls_output.specs.declared.stop.Stop.{Stop}
use Rattle.xls_output.specs.Each.{DeliversEach, StopsEach, WroteEach}
use Rattle.xls_readable.proofs.ExactLemmas.{exact-stops, exact-wrote}
use Rattle.xls_readable.specs.Lines.{exact_line}
use Rattle.xls_readable.specs.declared.forms.Form.TheVariants.{Exact}
use Rattle.xls_listing.proofs.ReadingLemmas.{exact_of}
use Rattle.xls_listing.specs.Listing.{Line, IsDisplayedLine, exact_lines}

pub lines-wrote : (ls : List Line) (a b : SinkState) → WroteEach (IsDisplayedLine Exact) ls a b → Wrote a b (exact_lines ls)
lines-wrote = exact-wrote (IsDisplayedLine Exact) (λ l. exact_line l.word l.members) (λ l out. exact_of l.word l.members l.shown out)

pub lines-stop : (ls : List Line) (a b : SinkState) (e : Stop) → StopsEach (IsDisplayedLine Exact) ls a b e → Stops a [] b (exact_lines ls) e
lines-stop = exact-stops (IsDisplayedLine Exact) (λ l. exact_line l.word l.members) (λ l out. exact_of l.word l.members l.shown out)

pub lines-delivered : {X : Type 0} (ls : List Line) (a b : SinkState) (r : Result X Stop) → DeliversEach (IsDisplayedLine Exact) ls a b r
    → Delivers a b (exact_lines ls) r
lines-delivered ls a b (Ok x) p = lines-wrote ls a b p
lines-delivered ls a b (Err e) p = lines-stop ls a b e p
