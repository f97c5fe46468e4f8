-- Which sheets of a workbook are laid, and with which content.
use Rattle.std.specs.Prelude.{◌-◌, List, [], ◌∷◌, Option, Some, None, slice_get, if◌then◌else◌, ◌==◌}
use Rattle.xls_data.specs.Sheets.{SheetContent}
use Rattle.xls_meaning.specs.Reading.{BookView, SheetView}
use Rattle.xls_arrays.specs.Arrays.{Reported, sheet_kind_number, visibility_number}
use Rattle.xls_arrays.specs.declared.items.Span.{Span}
use Rattle.xls_arrays.specs.declared.items.Sizes.{Sizes}
use Rattle.xls_arrays.specs.declared.items.SheetItem.{SheetItem}
use Rattle.xls_arrays.specs.declared.options.Options.{Options}

abbrev pub no_content : SheetView
no_content = record { cells = []; formulas = []; merges = [] }

-- what an index shows, if there is one
abbrev pub content_in : Option SheetView → SheetView
content_in None = no_content
content_in (Some v) = v

-- each sheet with what its index shows
abbrev pub each_with : List SheetContent → List SheetView → List Reported
each_with [] vs = []
each_with (s ∷ ss) [] = (s, no_content) ∷ each_with ss []
each_with (s ∷ ss) (v ∷ vs) = (s, v) ∷ each_with ss vs

-- of an option, a list of the one
abbrev pub alone : Option Reported → Option (List Reported)
alone None = None
alone (Some t) = Some (t ∷ [])

-- the sheets that are asked for: all of them, one, if there is such a one, or all without content
abbrev pub asked_for : Options → BookView → Option (List Reported)
asked_for options book =
    if options.which == 0 then Some (each_with book.sheets book.contents)
    else if options.which == 1 then alone (slice_get (each_with book.sheets book.contents) options.sheet)
    else Some (each_with book.sheets [])

-- the item of a sheet, by what was laid before its content and after it
abbrev pub item_between : SheetContent → Span → Sizes → Sizes → SheetItem
item_between s name before after =
    record {
      name = name;
      first_cell = before.cells;
      cells = after.cells - before.cells;
      first_formula = before.formulas;
      formulas = after.formulas - before.formulas;
      first_region = before.regions;
      regions = after.regions - before.regions;
      kind = sheet_kind_number s.typ;
      visibility = visibility_number s.visible;
    }
