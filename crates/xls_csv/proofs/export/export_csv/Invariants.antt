use Rattle.std.proofs.Common.{◌≡◌, ◌++◌, map}
use Rattle.xls_data.specs.Data.{content_of}
use Rattle.xls_csv.specs.Steps.{IsBetweenRecords, written}
use Rattle.xls_csv.specs.Text.{rows_csv, csv_text, contents_of}
use Rattle.xls_csv.proofs.export.export_csv.Given as goal

-- the text so far and that of the rows that are left are the whole one
abbrev pub invariant-loop-row : goal.invariant-loop-row
invariant-loop-row l =
    IsBetweenRecords l.writer
    × (written l.writer ++ rows_csv (map (map content_of) l.row-iterator) ≡ csv_text (contents_of l.fn.range))
