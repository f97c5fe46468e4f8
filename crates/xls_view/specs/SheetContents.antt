-- The content of the parts of a stream, as functions of their bytes, for the views of the code's types.
use Rattle.std.specs.Prelude.{◌≡◌, ℕ, List, [], ◌∷◌, ◌++◌, nat_lt, Bool, true, false, if◌then◌else◌, map, drop, unwrap_or, Result, Ok, Err, ◌==◌}
use Rattle.std.specs.List.{flat_map}
use Rattle.xls_stream.specs.Counting.{found_from}
use Rattle.xls_stream.specs.Listing.{Kept, kept_of}
use Rattle.xls_stream.specs.declared.types.TheConstants as types
use Rattle.xls_data.specs.declared.regions.Dimensions.{Dimensions}
use Rattle.xls_range.specs.Positions.{Position}
use Rattle.xls_biff.specs.Cells.{CellEntry}
use Rattle.xls_biff.specs.Records.MergeCells.{merges_at}
use Rattle.xls_record.specs.declared.error.XlsError.{XlsError}
use Rattle.xls_biff.specs.SheetTable.{CellContext, SheetRecord, position_in}
use Rattle.xls_meaning.specs.Settings.{Settings}
use Rattle.xls_meaning.specs.SheetTable.{yield_at, kept_line}
use Rattle.xls_meaning.specs.Reading.{SheetView, yield_of}
use Rattle.xls_view.specs.Formats.{FormattedCell, formatted_after, no_formula}
use Rattle.xls_view.specs.Formulas.{Formula, formulas_kept, text_entry}
use Rattle.xls_view.specs.Groups.{groups_in}
use Rattle.xls_view.specs.Displayed.{DisplayedSheet}

-- ---- records

-- the kept records of a part, of which so many BOF records are open
abbrev pub kept_in : List ℕ → ℕ → List Kept
kept_in bytes depth = let g = groups_in bytes in kept_of (found_from depth g.0 g.1).0

-- a record has no fault
abbrev pub IsReadable : CellContext → Kept → Type 0
IsReadable s k = (g : SheetRecord) × (kept_line s k ≡ Ok g)

-- ---- what records give, in order

-- where the last Formula stands after a record, where it stood here before it
abbrev pub moved : CellContext → Position → Kept → Position
moved s at k = unwrap_or (position_in (kept_line s k)) at

-- the cells of these records, where the last Formula before them stands here
abbrev pub cells_after : Settings → Position → List Kept → List CellEntry
cells_after s at [] = []
cells_after s at (k ∷ ks) = (yield_of (yield_at s at k)).cells ++ cells_after s (moved s.cells at k) ks

abbrev pub regions_in : Result (List Dimensions) XlsError → List Dimensions
regions_in (Ok rs) = rs
regions_in (Err e) = []

-- the merged regions of a record, and of records in order
abbrev pub regions_at : Kept → List Dimensions
regions_at k = if k.typ == types.MERGE_CELLS then regions_in (merges_at k.body) else []

abbrev pub regions_of : List Kept → List Dimensions
regions_of ks = flat_map regions_at ks

-- ---- by position

-- one position comes before another
abbrev pub precedes : Position → Position → Bool
precedes p q = if nat_lt p.0 q.0 then true else if nat_lt q.0 p.0 then false else nat_lt p.1 q.1

-- a value put among those that ascend, unless its position has one
abbrev pub put_under : {X : Type 0} → Position × X → List (Position × X) → List (Position × X)
put_under c [] = c ∷ []
put_under c (x ∷ xs) =
    if precedes c.0 x.0 then c ∷ x ∷ xs else if precedes x.0 c.0 then x ∷ put_under c xs else x ∷ xs

-- by position, of those of one position the last
abbrev pub settled : {X : Type 0} → List (Position × X) → List (Position × X)
settled [] = []
settled (c ∷ cs) = put_under c (settled cs)

-- ---- parts

-- the kept records of the part at an offset, and none past the end
abbrev pub kept_at : List ℕ → ℕ → List Kept
kept_at bytes offset = kept_in (drop offset bytes) 0

-- what the formulas of the part at an offset are
abbrev pub formulas_at : List ℕ → ℕ → List Formula
formulas_at bytes offset = settled (formulas_kept (kept_at bytes offset))

-- the cells of a sheet of these kept records with their XF indices
abbrev pub formatted_by : Settings → List Kept → List FormattedCell
formatted_by s kept = settled (formatted_after s no_formula kept)

-- those of the part at an offset
abbrev pub formatted_at : Settings → List ℕ → ℕ → List FormattedCell
formatted_at s bytes offset = formatted_by s (kept_at bytes offset)

-- what a sheet of these kept records shows
abbrev pub content_by : Settings → List Kept → SheetView
content_by s kept =
    record {
      cells = settled (cells_after s (0, 0) kept);
      formulas = map (text_entry s.formulas) (settled (formulas_kept kept));
      merges = regions_of kept;
    }

-- what it shows with the formulas by their tokens, and the cells with their XF indices too
abbrev pub shows : Settings → List Kept → DisplayedSheet
shows s kept =
    record {
      cells = settled (cells_after s (0, 0) kept);
      formatted = formatted_by s kept;
      formulas = settled (formulas_kept kept);
      merges = regions_of kept;
      context = s.formulas;
    }
