-- Exact lines of what stands beside a workbook that were written, or a prefix of them.
use Rattle.std.proofs.Common.{List, []}
use Rattle.xls_documents.specs.Lines as documents
use Rattle.xls_output.specs.SinkState.{SinkState}
use Rattle.xls_output.specs.Gathering.{Stops, Wrote}
use Rattle.xls_output.specs.declared.stop.Stop.{Stop}
use Rattle.xls_output.specs.Each.{StopsEach, WroteEach}
use Rattle.xls_readable.proofs.ExactLemmas.{exact-stops, exact-wrote}
use Rattle.xls_readable.specs.Lines.{exact_line}
use Rattle.xls_readable.specs.declared.forms.Form.TheVariants.{Exact}

pub documents-wrote : (ls : List documents.Line) (a b : SinkState) → WroteEach (documents.IsLineText Exact) ls a b
    → Wrote a b (documents.exact_lines ls)
documents-wrote = exact-wrote (documents.IsLineText Exact) (λ l. exact_line l.0 l.1) (λ l out e. e)

pub documents-stop : (ls : List documents.Line) (a b : SinkState) (e : Stop) → StopsEach (documents.IsLineText Exact) ls a b e
    → Stops a [] b (documents.exact_lines ls) e
documents-stop = exact-stops (documents.IsLineText Exact) (λ l. exact_line l.0 l.1) (λ l out e. e)
