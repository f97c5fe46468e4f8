-- For the proofs: a string table that is being written.
use Rattle.std.specs.Prelude.{◌≡◌, ℕ, ◌≤◌, List, [], ◌++◌, length, Bool, Result, MatchResult}
use Rattle.xls_stream.specs.StringTable.{Mark}
use Rattle.xls_output.specs.Output.{Output, Buffers, GivesUp}
use Rattle.xls_output.specs.declared.stop.Stop.{Stop}
use Rattle.xls_layouts.specs.LaidStrings.{marks_of_steps}
use Rattle.xls_layouts.specs.Canonical.{passes, record_limit, unit_size, cut_if, fill_from}
use Rattle.xls_lay.specs.Cutting.{rest_bytes}
use Rattle.xls_lay.specs.declared.table.TableWriter.{TableWriter}

-- with these marks put and these bytes done, the current record of a table is the new one
pub record Moves (old : TableWriter) (ms : List Mark) (bytes : List ℕ) (new : TableWriter) : Type 0 where
  pub whole : (more : List Mark) → bytes ++ rest_bytes new.typ new.body.items more ≡ rest_bytes old.typ old.body.items (ms ++ more)
  pub used : length new.body.items ≡ fill_from (length old.body.items) ms

-- these marks were put: the records that they end were appended to what was done before
pub record PutsMarks (before : List ℕ) (old : TableWriter) (ms : List Mark) (after : List ℕ) (new : TableWriter) : Type 0 where
  pub bytes : List ℕ
  pub done : after ≡ before ++ bytes
  pub moves : Moves old ms bytes new

-- likewise, in a writer
pub record PutsOn (before : Output) (old : TableWriter) (ms : List Mark) (after : Output) (new : TableWriter) : Type 0 where
  pub bytes : List ℕ
  pub gathers : Buffers before after bytes
  pub moves : Moves old ms bytes new

-- or a prefix of the table was written, whatever marks were still to come, and then it was given up
abbrev pub StopsOn : Output → TableWriter → List Mark → Output → Stop → Type 0
StopsOn before old ms after e =
    (more : List Mark) → GivesUp before after (rest_bytes old.typ old.body.items (ms ++ more)) e

-- either of them
abbrev pub PutsOrStops : {X : Type 0} → Output → TableWriter → List Mark → Output → TableWriter → Result X Stop → Type 0
PutsOrStops before old ms after new result =
    MatchResult result (λ _. PutsOn before old ms after new) (StopsOn before old ms after)

-- the cut before a unit of this width, where the unit would pass
abbrev pub cut_marks : Bool → ℕ → List Mark
cut_marks wide used = marks_of_steps wide (cut_if (passes used (unit_size wide)) wide [])

-- the current body isn't larger than 8,224 bytes
abbrev pub TableHasRoom : TableWriter → Type 0
TableHasRoom p = length p.body.items ≤ record_limit
