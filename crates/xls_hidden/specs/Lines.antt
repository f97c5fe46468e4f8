-- The rows or the columns of a sheet, with what is known of each.
use Rattle.std.specs.Prelude.{ℕ, List, Bool, Option, slice_index_or}
use Rattle.xls_hidden.specs.declared.fields.Mark.{Mark}
use Rattle.xls_hidden.specs.declared.fields.Mark.TheVariants.{Shown}
use Rattle.xls_hidden.specs.declared.lines.FilterArea.{FilterArea}
use Rattle.xls_hidden.specs.declared.lines.Why.{Why}
use Rattle.xls_hidden.specs.States.{why_of}

-- a mark for each; whether those of which no record speaks are hidden; the area of a filter that hides rows
pub record Table : Type 0 where
  pub marks : List Mark
  pub hides_unsaid : Bool
  pub area : Option FilterArea

-- why a row or a column can't be seen; one past the last is shown
abbrev pub why_at : Table → ℕ → Option Why
why_at table line = why_of table.hides_unsaid table.area line (slice_index_or table.marks line Shown)
