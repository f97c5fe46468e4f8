-- The CSV of a range: a record for each row, as the default writer of `csv` writes it.
use Rattle.std.specs.Prelude.{ℕ, List, map}
use Rattle.std.specs.List.{flat_map}
use Rattle.csv.specs.Writing.{default_writer, row_text}
use Rattle.xls_data.specs.Content.{Content}
use Rattle.xls_data.specs.Data.{content_of}
use Rattle.xls_data.specs.declared.values.Data.{Data}
use Rattle.xls_range.specs.Grid.{Grid}
use Rattle.xls_range.specs.Lists.{rows_of}
use Rattle.xls_csv.specs.Fields.{field}

-- a row, with its end
abbrev pub row_csv : List Content → List ℕ
row_csv row = row_text default_writer (map field row)

-- rows, one after another
abbrev pub rows_csv : List (List Content) → List ℕ
rows_csv rows = flat_map row_csv rows

-- a range, row by row
abbrev pub csv_text : Grid Content → List ℕ
csv_text range = rows_csv (rows_of range.height range.width range.cells)

-- a range of values by their contents
abbrev pub contents_of : Grid Data → Grid Content
contents_of range =
    record {
      top = range.top;
      left = range.left;
      height = range.height;
      width = range.width;
      cells = map content_of range.cells;
    }
