-- The sheets of a stream with their parts, and what a sheet without records shows.
use Rattle.std.specs.Prelude.{ℕ, List, [], Option, None}
use Rattle.std.specs.Option.{option_map}
use Rattle.xls_stream.specs.Listing.{offset_at, Kept, Item, plain_item, table_item, sheet_item}
use Rattle.xls_stream.specs.declared.part.Part.{Part}
use Rattle.xls_data.specs.Sheets.{SheetContent}
use Rattle.xls_meaning.specs.Reading.{SheetView}
use Rattle.xls_meaning.specs.Order.{map_with_earlier, somes}
use Rattle.xls_meaning.specs.GlobalsTable.{sheet_from}
use Rattle.xls_meaning.specs.Faults.{item_line}
use Rattle.xls_meaning.specs.Rules.{Rules}

-- ---- the sheets of the globals

-- a sheet with its offset, its head and its part
pub record OpenedSheet : Type 0 where
  pub offset : ℕ
  pub head : SheetContent
  pub kept : List Kept
  pub cut : Option Part

abbrev pub opened_in : Rules → List Item → Item → Option OpenedSheet
opened_in rules before (plain_item typ body) = None
opened_in rules before (table_item body shared) = None
opened_in rules before (sheet_item body kept cut) =
    option_map (λ (s : SheetContent). record {
      offset = offset_at body;
      head = s;
      kept = kept;
      cut = cut;
    }) (sheet_from (item_line rules before (sheet_item body kept cut)))

abbrev pub opened_of : Rules → List Item → List OpenedSheet
opened_of rules items = somes (map_with_earlier (opened_in rules) [] items)

-- ---- what a sheet shows

-- of no kept records
abbrev pub no_view : SheetView
no_view = record { cells = []; formulas = []; merges = [] }
