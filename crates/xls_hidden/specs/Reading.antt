-- For the proofs: what is known while the records are read.
use Rattle.std.specs.Prelude.{◌≡◌, ℕ, ◌<◌, ◌≤◌, List, ◌∷◌, length, false, slice_index_or}
use Rattle.xls_record.specs.declared.version.Biff.{Biff}
use Rattle.xls_hidden.specs.Walking.{completed}
use Rattle.xls_hidden.specs.declared.types.TheConstants.{COLUMNS}
use Rattle.xls_hidden.specs.declared.fields.Mark.{Mark}
use Rattle.xls_hidden.specs.declared.fields.Mark.TheVariants.{Unsaid, Shown}
use Rattle.xls_hidden.specs.declared.reading.Reading.{Reading}
use Rattle.xls_hidden.specs.declared.said.Said.{Said}
use Rattle.xls_hidden.specs.Said.{row_count}
use Rattle.xls_hidden.specs.States.{row_after, column_after, hides_after, filters_after, row_mark, column_mark, hides_others, filters}
use Rattle.xls_hidden.specs.Windows.{first_window}

-- the mark of a row or a column; of one past the last it doesn't matter
abbrev pub mark_at : List Mark → ℕ → Mark
mark_at marks line = slice_index_or marks line Shown

-- each mark is what comes of the one before and a record
pub record MarksLines (after : ℕ → Mark → Said → Mark) (old : List Mark) (s : Said) (new : List Mark) : Type 0 where
  pub same_length : length new ≡ length old
  pub each : (line : ℕ) → line < length old → mark_at new line ≡ after line (mark_at old line) s

-- the lines from the first one up to this one have the mark, and the others theirs
pub record IsMarked (mark : Mark) (first line : ℕ) (old new : List Mark) : Type 0 where
  pub same_length : length new ≡ length old
  pub inside : (k : ℕ) → k < length old → first ≤ k → k < line → mark_at new k ≡ mark
  pub before : (k : ℕ) → k < length old → k < first → mark_at new k ≡ mark_at old k
  pub behind : (k : ℕ) → k < length old → line ≤ k → mark_at new k ≡ mark_at old k

-- what is known after one more record
pub record Goes (old : Reading) (s : Said) (new : Reading) : Type 0 where
  pub rows : MarksLines row_after old.rows.items s new.rows.items
  pub columns : MarksLines column_after old.columns.items s new.columns.items
  pub hides : new.hides_others ≡ hides_after old.hides_others s
  pub filtered : new.is_filtered ≡ filters_after old.is_filtered s
  pub window : (more : List Said) → completed new.window more ≡ completed old.window (s ∷ more)

-- what is known and the records that are left give together what all records say
pub record IsRead (version : Biff) (all left : List Said) (now : Reading) : Type 0 where
  pub row_count_is : length now.rows.items ≡ row_count version
  pub rows : (row : ℕ) → row < row_count version → row_mark row (mark_at now.rows.items row) left ≡ row_mark row Unsaid all
  pub column_count_is : length now.columns.items ≡ COLUMNS
  pub columns : (column : ℕ) → column < COLUMNS → column_mark column (mark_at now.columns.items column) left ≡ column_mark column Unsaid all
  pub hides : hides_others now.hides_others left ≡ hides_others false all
  pub filtered : filters now.is_filtered left ≡ filters false all
  pub window : completed now.window left ≡ first_window all
