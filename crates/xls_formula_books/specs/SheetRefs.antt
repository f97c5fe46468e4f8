-- ExternSheet ([MS-XLS] 2.4.106) before BIFF8, this project's rule: a count, and so many bytes in the page, whose first says what is meant:
-- 02 the sheet in which the formula stands, 03 a sheet of this workbook by its name (COUNT bytes behind it), 04 this workbook, 3A alone
-- added functions; else a path, in which the file may stand in brackets before a sheet.
use Rattle.std.specs.Prelude.{ℕ, List, [], ◌∷◌, ◌++◌, drop, length, slice_index, nat_lt, ◌==◌, ◌||◌, ◌&&◌, if◌then◌else◌, Option, Some}
use Rattle.std.specs.Prelude.{None}
use Rattle.std.specs.List.{list_any, after_first}
use Rattle.xls_bytes.specs.Characters.{is}
use Rattle.xls_text.specs.declared.encoding.XlsEncoding.{XlsEncoding}
use Rattle.xls_record.specs.declared.version.Biff.TheVariants.{Biff5}
use Rattle.xls_formula_names.specs.Paths.{path_of}
use Rattle.xls_other_books.specs.Names.{short_text, text_at}
use Rattle.xls_other_books.specs.SheetRefs.{Parts, split_path}
use Rattle.xls_formula_books.specs.declared.sources.Kind.TheVariants as kinds
use Rattle.xls_formula_books.specs.Sources.{Source, bare, with_sheets, workbook}
use Rattle.xls_formula_books.specs.Paths.{other_source}

abbrev pub with_sheet : List ℕ → Source → Source
with_sheet sheet s = with_sheets (sheet ∷ []) s

-- ---- paths

-- `DIR[FILE]Sheet`; without brackets there is no sheet
abbrev pub by_parts : List ℕ × List ℕ → Option Parts → Source
by_parts path (Some x) = with_sheet x.2 (workbook x.0 x.1)
by_parts path None = workbook path.0 path.1

abbrev pub workbook_of : List ℕ × List ℕ → Source
workbook_of path = by_parts path (split_path (path.0 ++ path.1))

abbrev pub or_workbook_of : List ℕ × List ℕ → Option Source → Source
or_workbook_of path (Some s) = s
or_workbook_of path None = workbook_of path

abbrev pub early_source : List ℕ → Source
early_source path = or_workbook_of (path_of path) (other_source path)

abbrev pub coded : List ℕ → List ℕ
coded rest = 1 ∷ rest

-- the path is what stands from 01 on, if that is there
abbrev pub stored_source : List ℕ → Source
stored_source path = early_source (if list_any (is 1) path then coded (after_first (is 1) path) else path)

-- ---- records

abbrev pub sheet_source : XlsEncoding → List ℕ → ℕ → Source
sheet_source page name count = with_sheet (text_at page None name count) (bare kinds.Sheet)

abbrev pub by_byte : XlsEncoding → List ℕ → ℕ → Source
by_byte page body first =
    if first == 2 then bare kinds.Own
    else if first == 3 then sheet_source page (drop 2 body) (slice_index body 0)
    else if first == 4 then bare kinds.This
    else if (first == 0x3A) && (slice_index body 0 == 1) then bare kinds.Functions
    else stored_source (short_text Biff5 page body)

abbrev pub by_first : XlsEncoding → List ℕ → Source
by_first page body = by_byte page body (slice_index body 1)

-- nothing where there is no name
abbrev pub sheet_ref : XlsEncoding → List ℕ → Source
sheet_ref page body = if nat_lt (length body) 2 || (slice_index body 0 == 0) then bare kinds.Nothing else by_first page body
