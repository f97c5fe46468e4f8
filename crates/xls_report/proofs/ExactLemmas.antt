-- Exact lines that are put one at a time.
use Rattle.std.proofs.Common.{◌≡◌, ℕ, List, [], ◌∷◌, append-nil, refl, sym, ap, Option, Some, Result, Ok, Err}
use Rattle.xls_range.specs.Positions.{Position}
use Rattle.xls_output.specs.Output.{Output, Puts}
use Rattle.xls_output.specs.Each.{PutsEach}
use Rattle.xls_output.specs.declared.stop.Stop.{Stop}
use Rattle.xls_output.proofs.OutputLemmas.{puts-as}
use Rattle.xls_lines.specs.Lines.{filled_line}
use Rattle.xls_readable.specs.Items.{NamedItem, exact_text}
use Rattle.xls_readable.specs.Lines.{exact_line}
use Rattle.xls_readable.specs.declared.forms.Form.TheVariants.{Exact}
use Rattle.xls_listing.proofs.ReadingLemmas.{is_exact}
use Rattle.xls_listing.specs.Listing.{Line, IsDisplayedLine, ShownAs, cell_line}

-- the one text of a line
pub puts-exact : {X : Type 0} (l : Line) (a b : Output) (r : Result X Stop) → Puts a b (exact_line l.word l.members) r
    → PutsEach (IsDisplayedLine Exact) (l ∷ []) a b r
puts-exact l a b (Ok x) p =
    let text = exact_line l.word l.members in
    record { text = text; texts = (text, [], is_exact l.word l.members l.shown, refl, sym (append-nil text)); gathers = p }
puts-exact l a b (Err e) p =
    let text = exact_line l.word l.members in
    record { count = 1; text = text; texts = (text, [], is_exact l.word l.members l.shown, refl, sym (append-nil text)); stops = p }

-- the line of a cell, whose value is printed so
pub puts-cell : {X : Type 0} (p : Position) (k : NamedItem) (shown : Option ShownAs) (printed : List ℕ) (a b : Output) (r : Result X Stop)
    → printed ≡ exact_text k.1 → Puts a b (filled_line p.0 p.1 (Some (k.0, printed))) r
    → PutsEach (IsDisplayedLine Exact) (cell_line p k shown ∷ []) a b r
puts-cell p k shown printed a b r e q =
    puts-exact (cell_line p k shown) a b r (puts-as a b r (ap (λ (t : List ℕ). filled_line p.0 p.1 (Some (k.0, t))) e) q)
