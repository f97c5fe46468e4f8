-- The lines of how the cells of a workbook's sheets look.
use Rattle.std.specs.Prelude.{ℕ, ◌*◌, pos, List, [], ◌∷◌, ◌++◌, codes, drop, map, Option, Some, None}
use Rattle.std.specs.List.{flat_map}
use Rattle.xls_dates.specs.declared.numbers.Number.TheVariants.{Hundredths}
use Rattle.xls_range.specs.Positions.{Position}
use Rattle.xls_record.specs.declared.version.Biff.{Biff}
use Rattle.xls_text.specs.declared.encoding.XlsEncoding.{XlsEncoding}
use Rattle.xls_stream.specs.StringTable.{Mark}
use Rattle.xls_parts.specs.PartRecords.{globals_records, own_records}
use Rattle.xls_styles.specs.Alignments.{alignment_text}
use Rattle.xls_styles.specs.Borders.{borders_text}
use Rattle.xls_styles.specs.Colors.{color_text}
use Rattle.xls_styles.specs.Fills.{fill_text}
use Rattle.xls_styles.specs.Marks.{cell_marks_text, font_marks_text}
use Rattle.xls_styles.specs.Styles.{CellStyle, FontStyle, Styles, font_of, style_of, styles_of}
use Rattle.xls_styles.specs.Texts.{record_text, flaw_text}
use Rattle.xls_styles.specs.declared.damage.Damage.{Damage}
use Rattle.xls_styles.specs.declared.sizes.Size.{Size}
use Rattle.xls_style_cells.specs.Cells.{Cell, cells_of}
use Rattle.xls_style_cells.specs.Tables.{runs_of, string_table}
use Rattle.xls_style_cells.specs.declared.runs.Run.{Run}
use Rattle.xls_open.specs.Globals.{Sheets}
use Rattle.xls_readable.specs.Items.{FieldItem, NamedItem, count, number, unknown, word}
use Rattle.xls_beside.specs.declared.parts.SheetPart.{SheetPart}
use Rattle.xls_beside.specs.Lines.{Line, characters, damaged, line}
use Rattle.xls_beside.specs.Parts.{parts_of, sheet_lines}

-- the size of a font in points, a twentieth of which are five hundredths
abbrev pub size_item : Option Size → FieldItem
size_item None = unknown
size_item (Some s) = number (Hundredths (pos (5 * s.twentieths)))

abbrev pub font_members : FontStyle → List NamedItem
font_members f =
    (codes "font", characters f.name) ∷ (codes "size", size_item f.size) ∷ (codes "colour", word (color_text f.color)) ∷ []

abbrev pub style_members : Position → CellStyle → List NamedItem
style_members p s =
    (codes "row", count p.0) ∷ (codes "column", count p.1) ∷ (codes "marks", word (cell_marks_text s.font.marks s.protection))
    ∷ (codes "format", characters s.code)
    ∷ (font_members s.font ++ ((codes "fill", word (fill_text s.fill)) ∷ (codes "alignment", word (alignment_text s.alignment))
    ∷ (codes "borders", word (borders_text s.borders)) ∷ []))

abbrev pub run_members : Position → Run → FontStyle → List NamedItem
run_members p r f =
    (codes "row", count p.0) ∷ (codes "column", count p.1) ∷ (codes "from", count r.unit)
    ∷ (codes "marks", word (font_marks_text f.marks)) ∷ font_members f

-- a cell
abbrev pub style_line : Styles → Position → ℕ → Line
style_line s p xf = line (codes "style") (style_members p (style_of s xf))

-- a formatting run of its text
abbrev pub run_line : Styles → Position → Run → Line
run_line s p r = line (codes "run") (run_members p r (font_of s r.font))

-- a cell, and the runs of its text, where this is the string table
abbrev pub cell_lines : Biff → Styles → List Mark → Cell → List Line
cell_lines version s table c = style_line s c.0 c.1.0 ∷ map (run_line s c.0) (runs_of version table c.1.1)

-- the cells in a part of the stream
abbrev pub styles_in : Biff → Styles → List Mark → List ℕ → SheetPart → List Line
styles_in version s table stream part =
    flat_map (cell_lines version s table) (cells_of version (own_records 0 (drop part.offset stream)))

-- a damaged record of the globals stands in no cell
abbrev pub damaged_style : Damage → Line
damaged_style d = damaged (record_text d.record_name) d.offset None None (flaw_text d.flaw)

-- what is damaged in the globals, and then the sheets
abbrev pub told_lines : Biff → Styles → Sheets → List ℕ → List Line
told_lines version s sheets stream =
    map damaged_style s.damages
    ++ sheet_lines (styles_in version s (string_table stream) stream) (parts_of version sheets stream) sheets

-- by the version and the page in force and the sheets that the globals list with their offsets
abbrev pub styles_lines : Biff → XlsEncoding → Sheets → List ℕ → List Line
styles_lines version page sheets stream = told_lines version (styles_of version page (globals_records stream)) sheets stream
