-- For the proofs: what the steps over a string table give.
use Rattle.std.specs.Prelude.{◌≡◌, ◌<◌, ◌≤◌, ◌+◌, ℕ, List, [], length, drop, ◌==◌, if◌then◌else◌, Bool, Option, Some, None}
use Rattle.xls_stream.specs.StringTable.{Mark, Head as Outline, marked}
use Rattle.xls_parts.specs.declared.part_records.PartRecord.{PartRecord}
use Rattle.xls_parts.specs.PartRecords.{Placed, records_at}
use Rattle.xls_style_cells.specs.declared.runs.Run.{Run}
use Rattle.xls_style_cells.specs.declared.tables.Head.{Head}
use Rattle.xls_style_cells.specs.Runs.{number_at, run_at}
use Rattle.xls_style_cells.specs.Tables.{leading, string_runs}

-- the bodies of the Continue records that some bytes begin with
abbrev pub continues : List ℕ → List (List ℕ)
continues bytes = leading (records_at 0 bytes)

-- the place behind a record
abbrev pub end_of : Placed → ℕ
end_of r = r.offset + (4 + length r.body)

-- the table that begins in a record, if there is one
abbrev pub table_at : List ℕ → Option PartRecord → List Mark
table_at stream None = []
table_at stream (Some r) = marked (drop 8 r.body.now) (continues (drop (r.offset + (4 + length r.body.now)) stream))

-- a number was taken, or it isn't there
abbrev pub TakesNumber : Bool → List ℕ → Option ℕ → List ℕ → Type 0
TakesNumber narrow before None after = number_at narrow before ≡ None
TakesNumber narrow before (Some n) after = number_at narrow before ≡ Some (n, after)

-- likewise a run
abbrev pub TakesRun : Bool → List ℕ → Option Run → List ℕ → Type 0
TakesRun narrow before None after = run_at narrow before ≡ None
TakesRun narrow before (Some r) after = run_at narrow before ≡ Some (r, after)

abbrev pub outline_of : Head → Outline
outline_of h = record { len = h.len; count = h.count; wide = h.is_wide; following = h.tail }

-- the runs of a string that has any
abbrev pub found_runs : Option (List Run) → List Run
found_runs None = []
found_runs (Some runs) = runs

-- nothing where a tail isn't there
abbrev pub tail_left : Option (List Mark) → List Mark
tail_left None = []
tail_left (Some ms) = ms

-- what is kept where this is put under an index, if there is something
abbrev pub put_at : (ℕ → Option (List Run)) → ℕ → Option (List Run) → ℕ → Option (List Run)
put_at kept index None i = kept i
put_at kept index (Some runs) i = if index == i then Some runs else kept i

-- the runs of the strings before an index are kept, no others, and the strings from there on are left
pub record AreKept (table text : List Mark) (index : ℕ) (kept : ℕ → Option (List Run)) : Type 0 where
  pub so_far : (i : ℕ) → i < index → found_runs (kept i) ≡ string_runs i table
  pub others : (i : ℕ) → index ≤ i → kept i ≡ None
  pub left : (n : ℕ) → string_runs (index + n) table ≡ string_runs n text
