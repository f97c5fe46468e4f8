-- The cells and formulas of a part whose records don't ascend, by their positions and by where their records are.
use Rattle.std.specs.Prelude.{ℕ, List, [], ◌∷◌, ◌-◌, ◌==◌, if◌then◌else◌, drop, map, slice_get, unwrap_or, Option, Some, None}
use Rattle.xls_range.specs.Positions.{Position}
use Rattle.xls_meaning.specs.Settings.{Settings}
use Rattle.xls_stream.specs.Stream.{Group}
use Rattle.xls_stream.specs.Listing.{Kept, kept_group}
use Rattle.xls_stream.specs.declared.types.TheConstants as types
use Rattle.xls_data.specs.Content.{Content, nothing}
use Rattle.xls_biff.specs.Records.Rk.{first_column}
use Rattle.xls_meaning.specs.SheetTable.{yield_at}
use Rattle.xls_meaning.specs.Reading.{yield_of}
use Rattle.xls_view.specs.Groups.{groups_in}
use Rattle.xls_view.specs.SheetContents.{kept_in}
use Rattle.xls_view.specs.Formats.{FormattedCell, formatted_after, no_formula}
use Rattle.xls_view.specs.Formulas.{Formula, formula_of, formulas_kept}
use Rattle.xls_view.specs.declared.cell_place.CellPlace.{CellPlace}

-- ---- the record at an offset

-- the first record, if there is one
abbrev pub first_kept : List Group → Kept
first_kept [] = record { typ = 0; body = [] }
first_kept (g ∷ gs) = kept_group g

abbrev pub record_at : List ℕ → ℕ → Kept
record_at part at = first_kept (groups_in (drop at part)).0

-- ---- cells and formulas in order, by their positions and by where their records are

abbrev pub Place : Type 0
Place = Position × ℕ

-- which cell of a record stands at a position: of a MulRk by its columns
abbrev pub cell_number : Position → Kept → ℕ
cell_number p k = if k.typ == types.MUL_RK then p.1 - first_column k.body else 0

-- the value of a cell by its position and its record
abbrev pub cell_in : Settings → Position → Kept → Content
cell_in s p k = (unwrap_or (slice_get (yield_of (yield_at s p k)).cells (cell_number p k)) (p, nothing)).1

abbrev pub value_at : Settings → List ℕ → Position → ℕ → Content
value_at s part p at = cell_in s p (record_at part at)

-- a cell's position, where its record is, and its XF index, which a String record hasn't
abbrev pub FormattedPlace : Type 0
FormattedPlace = Position × CellPlace

abbrev pub cell_placed : Settings → List ℕ → FormattedPlace → FormattedCell
cell_placed s part c = (c.0, (value_at s part c.0 c.1.offset, c.1.xf))

abbrev pub tokens_in : Option Formula → List ℕ
tokens_in None = []
tokens_in (Some f) = f.1

abbrev pub placed_tokens : List ℕ → Position → ℕ → List ℕ
placed_tokens part p at = tokens_in (formula_of (record_at part at))

abbrev pub formula_placed : List ℕ → Place → Formula
formula_placed part c = (c.0, placed_tokens part c.0 c.1)

-- what a part has: as it stands, or by its places in order
abbrev pub cells_held : Settings → List ℕ → Option (List FormattedPlace) → List FormattedCell
cells_held s part None = formatted_after s no_formula (kept_in part 0)
cells_held s part (Some places) = map (cell_placed s part) places

abbrev pub formulas_held : List ℕ → Option (List Place) → List Formula
formulas_held part None = formulas_kept (kept_in part 0)
formulas_held part (Some places) = map (formula_placed part) places
