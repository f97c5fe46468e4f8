-- The runs of the strings of the string table, SST ([MS-XLS]): XLUnicodeRichExtendedString has its runs (rgRun) behind
-- its units. They go on over Continue records, without a flags byte.
use Rattle.std.specs.Prelude.{ℕ, zero, suc, List, [], ◌∷◌, drop, false, ◌==◌, if◌then◌else◌, Option, Some, None, Result, Ok, Err}
use Rattle.std.specs.Result.{result_ok}
use Rattle.xls_stream.specs.declared.types.TheConstants.{CONTINUE, SST}
use Rattle.xls_stream.specs.StringTable.{Mark, Missing, Head, marked, prefix_of, head_at, runs_at, units_at, next_at}
use Rattle.xls_record.specs.declared.version.Biff.{Biff}
use Rattle.xls_parts.specs.PartRecords.{Placed, globals_records}
use Rattle.xls_style_cells.specs.declared.runs.Run.{Run}
use Rattle.xls_style_cells.specs.Cells.{Source, no_runs, shared_runs, own_runs}
use Rattle.xls_style_cells.specs.Runs.{runs_in, own_list}

-- ---- the table

-- the bodies of the Continue records that some records begin with
abbrev pub leading : List Placed → List (List ℕ)
leading [] = []
leading (r ∷ rs) = if r.typ == CONTINUE then r.body ∷ leading rs else []

-- of some records the last SST counts: what stands behind its first 8 bytes, with a mark before the body of each
-- Continue record; before says what is known where none comes
abbrev pub table_from : List Mark → List Placed → List Mark
table_from before [] = before
table_from before (r ∷ rs) = table_from (if r.typ == SST then marked (drop 8 r.body) (leading rs) else before) rs

-- the string table of a stream
abbrev pub string_table : List ℕ → List Mark
string_table stream = table_from [] (globals_records stream)

-- ---- a string

-- the bytes, without the marks
abbrev pub bytes_in : List Mark → List ℕ
bytes_in [] = []
bytes_in (None ∷ ms) = bytes_in ms
bytes_in (Some b ∷ ms) = b ∷ bytes_in ms

-- so many runs, behind the units where these are there
abbrev pub by_units : ℕ → Option (List ℕ × List Mark) → List Run
by_units count None = []
by_units count (Some x) = runs_in false count (bytes_in x.1)

abbrev pub by_head : ℕ → List Mark → Option Head → List Run
by_head count ms None = []
by_head count ms (Some h) = by_units count (units_at h.count h.wide (drop h.len ms))

-- the runs of the string whose head stands here
abbrev pub runs_of_string : List Mark → List Run
runs_of_string ms = by_head (runs_at (prefix_of ms)) ms (result_ok (head_at (prefix_of ms)))

-- a string may begin in the next piece
abbrev pub past_mark : List Mark → List Mark
past_mark (None ∷ ms) = ms
past_mark ms = ms

abbrev pub first_runs : List Mark → List Run
first_runs ms = runs_of_string (past_mark ms)

-- what stands behind a string; nothing behind one that isn't whole
abbrev pub after_in : Result (List ℕ × List Mark) Missing → List Mark
after_in (Ok x) = x.1
after_in (Err e) = []

-- the runs of the string of an index; none past the last
unfoldable pub string_runs : ℕ → List Mark → List Run
string_runs zero ms = first_runs ms
string_runs (suc n) ms = string_runs n (after_in (next_at ms))

-- ---- a cell's

-- the runs of a cell's text, where this is the table
abbrev pub runs_of : Biff → List Mark → Source → List Run
runs_of version table no_runs = []
runs_of version table (shared_runs index) = string_runs index table
runs_of version table (own_runs bytes) = own_list version bytes
