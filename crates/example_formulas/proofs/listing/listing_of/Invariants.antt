use Rattle.std.proofs.Common.{◌≡◌, ◌++◌, drop, map}
use Rattle.std.specs.String.{string_bytes}
use Rattle.xls_data.specs.Sheets.{sheet_content}
use Rattle.example_formulas.specs.Lines.{listing}
use Rattle.example_formulas.proofs.listing.listing_of.Given as goal

-- what is written, and the lines of the sheets that are left, are the whole
abbrev pub invariant-loop-i : goal.invariant-loop-i
invariant-loop-i l =
    (map sheet_content l.sheets ≡ l.book.sheets) ×
    (string_bytes l.text ++ listing (drop l.i l.book.sheets) (drop l.i l.book.contents)
    ≡ listing l.book.sheets l.book.contents)
