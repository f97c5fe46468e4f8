-- Laws over the lines of a workbook.
use Rattle.std.specs.Prelude.{◌≡◌, ◌↔◌, ℕ, List}
use Rattle.xls_output.specs.Each.{Concatenates}
use Rattle.xls_readable.specs.declared.forms.Form.TheVariants.{Exact}
use Rattle.xls_view.specs.Viewing.{Viewed}
use Rattle.xls_listing.specs.declared.readings.CellReading.TheVariants.{Recorded}
use Rattle.xls_listing.specs.Listing.{Line, IsDisplayedLine, dump_lines, exact_lines, listed_lines}

-- lines that are written exactly have one text
abbrev pub ExactIsGiven : Type 0
ExactIsGiven = (ls : List Line) (text : List ℕ) → Concatenates (IsDisplayedLine Exact) ls text ↔ (text ≡ exact_lines ls)

-- a workbook whose cells are read as their records have them has the lines of its dump
abbrev pub RecordedIsDump : Type 0
RecordedIsDump = (view : Viewed) → listed_lines Recorded view ≡ dump_lines view.book
