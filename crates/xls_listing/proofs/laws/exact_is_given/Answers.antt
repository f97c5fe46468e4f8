use Rattle.std.proofs.Common.{◌≡◌, ℕ, List, [], ◌∷◌, refl}
use Rattle.xls_readable.proofs.ExactLemmas.{exact-all}
use Rattle.xls_readable.specs.Lines.{exact_line}
use Rattle.xls_output.specs.Each.{Concatenates}
use Rattle.xls_readable.specs.declared.forms.Form.TheVariants.{Exact}
use Rattle.xls_listing.specs.Listing.{Line, IsDisplayedLine, exact_lines}
use Rattle.xls_listing.proofs.ReadingLemmas.{exact_of, is_exact}
use Rattle.xls_listing.proofs.laws.exact_is_given.Goals as goal

each : (ls : List Line) (text : List ℕ) → text ≡ exact_lines ls → Concatenates (IsDisplayedLine Exact) ls text
each [] text e = e
each (l ∷ ls) text e = (exact_line l.word l.members, exact_lines ls, is_exact l.word l.members l.shown, each ls (exact_lines ls) refl, e)

pub returns : goal.returns
returns c = λ ls text. (exact-all (IsDisplayedLine Exact) (λ l. exact_line l.word l.members) (λ l out. exact_of l.word l.members l.shown out) ls text, each ls text)
