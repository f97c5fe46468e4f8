-- For the proofs: the cells by their positions and by where their records begin in the part.
use Rattle.std.specs.Prelude.{ℕ, List, [], ◌∷◌, map, drop, Option, Some, None}
use Rattle.std.specs.List.{flat_map}
use Rattle.xls_range.specs.Positions.{Position}
use Rattle.xls_record.specs.declared.version.Biff.{Biff}
use Rattle.xls_parts.specs.PartRecords.{Placed, records_at}
use Rattle.xls_style_cells.specs.Cells.{Cell, Source, no_runs, own_runs, shared_runs, Style, positions_of, style_at}
use Rattle.xls_style_cells.specs.declared.records.CellRuns.{CellRuns}
use Rattle.xls_style_cells.specs.declared.records.CellRuns.TheVariants as given
use Rattle.xls_style_cells.specs.declared.records.StyleCell.{StyleCell}

-- ---- as the code lends them

abbrev pub source_given : CellRuns → Source
source_given given.Nothing = no_runs
source_given (given.Shared index) = shared_runs index
source_given (given.Own bytes) = own_runs bytes.now

abbrev pub cell_given : StyleCell → Cell
cell_given c = ((c.row, c.column), (c.xf, source_given c.runs))

-- ---- places

-- a position, and where the record begins
abbrev pub Place : Type 0
Place = Position × ℕ

abbrev pub place_of : ℕ → Position → Place
place_of at p = (p, at)

abbrev pub places_of : Placed → List Place
places_of r = map (place_of r.offset) (positions_of r)

abbrev pub places_in : List Placed → List Place
places_in records = flat_map places_of records

abbrev pub first_of : List Placed → Option Placed
first_of [] = None
first_of (r ∷ rs) = Some r

-- the record that begins at a place of a part
abbrev pub record_at : List ℕ → ℕ → Option Placed
record_at part at = first_of (records_at at (drop at part))

abbrev pub style_in : Biff → Option Placed → Position → Style
style_in version None p = (0, no_runs)
style_in version (Some r) p = style_at version r p

abbrev pub style_placed : Biff → List ℕ → Position → ℕ → Style
style_placed version part p at = style_in version (record_at part at) p

abbrev pub cell_placed : Biff → List ℕ → Place → Cell
cell_placed version part c = (c.0, style_placed version part c.0 c.1)
