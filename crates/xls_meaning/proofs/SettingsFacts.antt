-- Known values of what is in force and of what the whole list gives, as tables: each by the last record
-- that says it.
use Rattle.std.proofs.Common.{◌≡◌, ℕ, pos, negsuc, true, false, List, [], ◌∷◌, ◌++◌, length, map, refl, Option, None, Some, Ok, codes}
use Rattle.std.specs.Prelude.{replicate}
use Rattle.std.specs.Char.Utf16.{utf16_chars}
use Rattle.std.specs.Fmt.{digits}
use Rattle.std.proofs.lemmas.List.FromFn.{length-map-range_with_len}
use Rattle.xls_bytes.specs.Columns.{word_of, column_name}
use Rattle.xls_text.specs.declared.encoding.XlsEncoding.TheVariants.{Utf16, Windows1252, Utf8, Latin1}
use Rattle.xls_text.specs.declared.error.CfbError.TheVariants.{CodePageNotFound}
use Rattle.xls_stream.specs.Listing.{Kept, ListEntry, plain_entry, table_entry, sheet_entry}
use Rattle.xls_dates.specs.declared.formats.CellFormat.TheVariants.{Other, DateTime, TimeDelta}
use Rattle.xls_data.specs.declared.sheets.SheetType.TheVariants.{WorkSheet, MacroSheet, ChartSheet, Vba}
use Rattle.xls_data.specs.declared.sheets.SheetVisible.TheVariants.{Visible, Hidden, VeryHidden}
use Rattle.xls_record.specs.declared.error.XlsError.TheVariants as errors
use Rattle.xls_record.specs.declared.version.Biff.TheVariants.{Biff2, Biff3, Biff4, Biff5, Biff8}
use Rattle.xls_formula.specs.declared.numbers.NumberStyle.TheVariants.{Bits}
use Rattle.xls_meaning.specs.GlobalsTable.{other_record, version_record, page_record, date_record, format_record, xf_record, references_record, name_record, strings_record, sheet_record, entry_record_at, forced_fault}
use Rattle.xls_meaning.specs.Settings.{page_in, version_in, is_1904_in, classes_in, texts_in, sheets_of, sheet_names_of, extern_refs, known_refs, lbls_in, settings_of}
use Rattle.xls_meaning.specs.Rules.{Rules}

-- under a forced page or none, and with a function
abbrev under : Option ℕ → Rules
under forced = record { force_codepage = forced; max_bytes = 0x1000; max_cells = 0x1000; functions = (codes "PI", 0) ∷ []; numbers = Bits }

abbrev free : Rules
free = under None

-- ---- records of the globals

abbrev bof : ℕ → ListEntry
bof version = plain_entry 0x0809 (0x00 ∷ version ∷ 0x05 ∷ 0x00 ∷ [])

-- the pages 1252, 28591, 65001, and 437, which isn't kept
abbrev page_1252 : ListEntry
page_1252 = plain_entry 0x0042 (0xE4 ∷ 0x04 ∷ [])

abbrev page_28591 : ListEntry
page_28591 = plain_entry 0x0042 (0xAF ∷ 0x6F ∷ [])

abbrev page_65001 : ListEntry
page_65001 = plain_entry 0x0042 (0xE9 ∷ 0xFD ∷ [])

abbrev page_437 : ListEntry
page_437 = plain_entry 0x0042 (0xB5 ∷ 0x01 ∷ [])

abbrev date_mode : ℕ → ListEntry
date_mode n = plain_entry 0x0022 (n ∷ 0x00 ∷ [])

abbrev xf : ℕ → ListEntry
xf ifmt = plain_entry 0x00E0 (0x00 ∷ 0x00 ∷ ifmt ∷ 0x00 ∷ [])

-- a Format of BIFF8
abbrev format : ℕ → List ℕ → ListEntry
format ifmt text = plain_entry 0x041E (ifmt ∷ 0x00 ∷ length text ∷ 0x00 ∷ 0x00 ∷ text)

-- references to the sheets 1 and -1, and to sheet 0
abbrev two_refs : ListEntry
two_refs = plain_entry 0x0017 (0x02 ∷ 0x00 ∷ 0x00 ∷ 0x00 ∷ 0x01 ∷ 0x00 ∷ 0x01 ∷ 0x00 ∷ 0x00 ∷ 0x00 ∷ 0xFF ∷ 0xFF ∷ 0xFF ∷ 0xFF ∷ [])

abbrev one_ref : ListEntry
one_ref = plain_entry 0x0017 (0x01 ∷ 0x00 ∷ 0x00 ∷ 0x00 ∷ 0x00 ∷ 0x00 ∷ 0x00 ∷ 0x00 ∷ [])

-- an Lbl of a name of one unit, by the bytes of the name, without tokens
abbrev lbl : List ℕ → ListEntry
lbl name = plain_entry 0x0018 (0x00 ∷ 0x00 ∷ 0x00 ∷ 0x01 ∷ (replicate 10 0x00 ++ name))

-- a sheet by the bytes of its name, without kept records
abbrev sheet : List ℕ → ListEntry
sheet name = sheet_entry 0x00 0x00 name []

-- ---- page and version

-- no CodePage, one, and several: the last; one that isn't kept says nothing
pub pages : map (page_in free) ([] ∷ (page_1252 ∷ []) ∷ (page_1252 ∷ page_28591 ∷ [])
    ∷ (page_28591 ∷ page_65001 ∷ page_1252 ∷ []) ∷ (page_65001 ∷ page_437 ∷ []) ∷ [])
    ≡ Utf16 ∷ Windows1252 ∷ Latin1 ∷ Windows1252 ∷ Utf8 ∷ []
pages = refl

-- a forced page, whatever CodePages follow: 1200, 1252, 28591 and 65001
pub forced_pages : map (λ forced. page_in (under (Some forced)) (page_28591 ∷ page_1252 ∷ [])) (0x04B0 ∷ 0x04E4 ∷ 0x6FAF ∷ 0xFDE9 ∷ [])
    ≡ Utf16 ∷ Windows1252 ∷ Latin1 ∷ Utf8 ∷ []
forced_pages = refl

-- a forced page that isn't kept is a fault
pub forced_faults : map forced_fault (None ∷ Some 0x04B0 ∷ Some 0x04E4 ∷ Some 0x6FAF ∷ Some 0xFDE9 ∷ Some 0x01B5 ∷ [])
    ≡ None ∷ None ∷ None ∷ None ∷ None ∷ Some (errors.Cfb (CodePageNotFound 0x01B5)) ∷ []
forced_faults = refl

-- no BOF, one, and two: the last
pub versions : map (version_in free) ([] ∷ (bof 0x05 ∷ []) ∷ (bof 0x05 ∷ bof 0x06 ∷ []) ∷ (bof 0x06 ∷ bof 0x05 ∷ []) ∷ (bof 0x05 ∷ bof 0x04 ∷ bof 0x03 ∷ []) ∷ [])
    ≡ Biff8 ∷ Biff5 ∷ Biff8 ∷ Biff5 ∷ Biff3 ∷ []
versions = refl

-- ---- the table of the globals

-- BOF, FilePass, CodePage, DateMode, Format, one of an identifier that counts for no class, XF, ExternSheet, Lbl, a type that
-- isn't read, a string table and a sheet
abbrev each_type : List ListEntry
each_type =
    bof 0x05 ∷ plain_entry 0x002F (0x00 ∷ 0x00 ∷ []) ∷ page_1252 ∷ date_mode 0x01
    ∷ format 0xA4 (codes "[h]") ∷ format 0x0E (codes "[h]") ∷ xf 0x0E ∷ two_refs ∷ lbl (0x00 ∷ 0x80 ∷ [])
    ∷ plain_entry 0x0031 (0x01 ∷ []) ∷ table_entry ((0x0061 ∷ []) ∷ (0xD83D ∷ 0xDE00 ∷ []) ∷ [])
    ∷ sheet_entry 0x02 0x06 (0x01 ∷ 0x00 ∷ 0x80 ∷ []) [] ∷ []

pub input : map (entry_record_at None Windows1252 Biff8) each_type
    ≡ Ok (version_record Biff5) ∷ Ok other_record ∷ Ok (page_record Windows1252) ∷ Ok (date_record true)
    ∷ Ok (format_record 0xA4 (codes "[h]")) ∷ Ok (format_record 0x0E (codes "[h]")) ∷ Ok (xf_record 0x0E)
    ∷ Ok (references_record (pos 1 ∷ negsuc 0 ∷ [])) ∷ Ok (name_record (0x80 ∷ [], (None, codes "empty rgce")))
    ∷ Ok other_record ∷ Ok (strings_record (codes "a" ∷ (0x1F600 ∷ []) ∷ []))
    ∷ Ok (sheet_record (record { name = 0x80 ∷ []; typ = Vba; visible = VeryHidden })) ∷ []
unfolding utf16_chars
input = refl

-- under a forced page a CodePage gives nothing, one that isn't kept or too short neither
pub forced_lines : map (entry_record_at (Some 0x04E4) Windows1252 Biff8) (page_65001 ∷ page_437 ∷ plain_entry 0x0042 [] ∷ [])
    ≡ Ok other_record ∷ Ok other_record ∷ Ok other_record ∷ []
forced_lines = refl

-- before BIFF8 a Format, a name of a sheet and that of an Lbl are bytes in the page, and no reference is read
pub early_lines : map (entry_record_at None Windows1252 Biff5) (plain_entry 0x041E (0xA4 ∷ 0x00 ∷ 0x03 ∷ codes "[h]") ∷ sheet (0x01 ∷ 0x80 ∷ []) ∷ lbl (0x80 ∷ []) ∷ two_refs ∷ [])
    ≡ Ok (format_record 0xA4 (codes "[h]"))
    ∷ Ok (sheet_record (record { name = 0x20AC ∷ []; typ = WorkSheet; visible = Visible }))
    ∷ Ok (name_record (0x20AC ∷ [], (None, codes "empty rgce"))) ∷ Ok (references_record []) ∷ []
early_lines = refl

-- ---- the date system

-- 1904 where some DateMode is 1, also before one that is 0
pub date_systems : map (is_1904_in free) ([] ∷ (date_mode 0x00 ∷ []) ∷ (date_mode 0x01 ∷ []) ∷ (date_mode 0x01 ∷ date_mode 0x00 ∷ []) ∷ (date_mode 0x00 ∷ date_mode 0x01 ∷ []) ∷ [])
    ≡ false ∷ false ∷ true ∷ true ∷ true ∷ []
date_systems = refl

-- ---- format classes

-- of each identifier the last Format counts, wherever it stands, and one that is refused doesn't: of A5
-- the third has no text, and no Format may have 0E; without one the built-in class
pub classes : classes_in free (xf 0xA4 ∷ format 0xA4 (codes "yyyy") ∷ format 0xA5 (codes "0") ∷ format 0xA4 (codes "0.00")
    ∷ format 0xA5 (codes "[h]") ∷ plain_entry 0x041E (0xA5 ∷ 0x00 ∷ []) ∷ format 0x17 (codes "d") ∷ format 0x0E (codes "0")
    ∷ xf 0xA5 ∷ xf 0x17 ∷ xf 0x0E ∷ xf 0x2E ∷ xf 0xA6 ∷ xf 0xA4 ∷ [])
    ≡ Other ∷ TimeDelta ∷ DateTime ∷ DateTime ∷ TimeDelta ∷ Other ∷ Other ∷ []
classes = refl

-- ---- shared strings

-- the last table, one without strings too
pub tables : map (texts_in free) ([] ∷ (table_entry ((0x61 ∷ []) ∷ []) ∷ [])
    ∷ (table_entry ((0x61 ∷ []) ∷ []) ∷ table_entry ((0x62 ∷ []) ∷ (0xD83D ∷ 0xDE00 ∷ []) ∷ []) ∷ [])
    ∷ (table_entry ((0x61 ∷ []) ∷ []) ∷ table_entry [] ∷ []) ∷ [])
    ≡ [] ∷ (codes "a" ∷ []) ∷ (codes "b" ∷ (0x1F600 ∷ []) ∷ []) ∷ [] ∷ []
unfolding utf16_chars
tables = refl

-- ---- sheets and names

-- each under the version and the page that stood last before it: 80 is U+20AC in page 1252
abbrev renamed : (List ℕ → ListEntry) → List ListEntry
renamed item = item (0x00 ∷ 0x80 ∷ []) ∷ bof 0x05 ∷ page_1252 ∷ item (0x80 ∷ []) ∷ page_28591 ∷ item (0x80 ∷ []) ∷ bof 0x06 ∷ item (0x00 ∷ 0x80 ∷ []) ∷ page_1252 ∷ []

pub sheet_names : sheet_names_of (sheets_of free (renamed (λ name. sheet (0x01 ∷ name)))) ≡ (0x80 ∷ []) ∷ (0x20AC ∷ []) ∷ (0x80 ∷ []) ∷ (0x80 ∷ []) ∷ []
sheet_names = refl

pub names : map (λ n. n.0) (lbls_in free (renamed lbl)) ≡ (0x80 ∷ []) ∷ (0x20AC ∷ []) ∷ (0x80 ∷ []) ∷ (0x80 ∷ []) ∷ []
names = refl

-- a sheet keeps its records, its kind and its state
abbrev kept : Kept
kept = record { typ = 0x00E5; body = 0x00 ∷ 0x00 ∷ [] }

pub sheets : sheets_of free (sheet_entry 0x01 0x01 (0x01 ∷ 0x00 ∷ 0x41 ∷ []) (kept ∷ []) ∷ xf 0x00 ∷ table_entry [] ∷ sheet_entry 0x00 0x02 (0x01 ∷ 0x00 ∷ 0x42 ∷ []) [] ∷ [])
    ≡ (record { name = codes "A"; typ = MacroSheet; visible = Hidden }, kept ∷ []) ∷ (record { name = codes "B"; typ = ChartSheet; visible = Visible }, []) ∷ []
sheets = refl

-- ---- references

-- those of all ExternSheets in order, but for those that are read before BIFF8
pub references : map (extern_refs free) ([] ∷ (two_refs ∷ []) ∷ (two_refs ∷ one_ref ∷ []) ∷ (one_ref ∷ two_refs ∷ []) ∷ (bof 0x05 ∷ two_refs ∷ bof 0x06 ∷ one_ref ∷ []) ∷ [])
    ≡ [] ∷ (pos 1 ∷ negsuc 0 ∷ []) ∷ (pos 1 ∷ negsuc 0 ∷ pos 0 ∷ []) ∷ (pos 0 ∷ pos 1 ∷ negsuc 0 ∷ []) ∷ (pos 0 ∷ []) ∷ []
references = refl

-- each version before BIFF8 numbers three sheets
pub own_references : map (λ version. known_refs version 3 []) (Biff2 ∷ Biff3 ∷ Biff4 ∷ Biff5 ∷ Biff8 ∷ [])
    ≡ (pos 0 ∷ pos 1 ∷ pos 2 ∷ []) ∷ (pos 0 ∷ pos 1 ∷ pos 2 ∷ []) ∷ (pos 0 ∷ pos 1 ∷ pos 2 ∷ []) ∷ (pos 0 ∷ pos 1 ∷ pos 2 ∷ []) ∷ [] ∷ []
own_references = refl

-- of 8000 sheets each has its reference, and of 8001 all but the last
pub most_references : length (known_refs Biff5 0x8000 []) ≡ 0x8000
most_references = length-map-range_with_len pos 0 0x8000

pub no_more_references : length (known_refs Biff5 0x8001 []) ≡ 0x8000
no_more_references = length-map-range_with_len pos 0 0x8000

-- ---- all of it

-- a list that gives something of each kind, whose page and version change behind the sheets
abbrev entries : List ListEntry
entries =
    bof 0x06 ∷ page_1252 ∷ date_mode 0x01 ∷ format 0xA4 (codes "yyyy") ∷ xf 0xA4
    ∷ sheet (0x01 ∷ 0x00 ∷ 0x41 ∷ []) ∷ sheet (0x01 ∷ 0x00 ∷ 0x42 ∷ []) ∷ two_refs
    ∷ plain_entry 0x0018 (0x00 ∷ 0x00 ∷ 0x00 ∷ 0x01 ∷ 0x07 ∷ 0x00 ∷ (replicate 8 0x00 ++ (0x00 ∷ 0x4E ∷ 0x3A ∷ 0x00 ∷ 0x00 ∷ 0x01 ∷ 0x00 ∷ 0x01 ∷ 0x00 ∷ [])))
    ∷ table_entry ((0x61 ∷ []) ∷ []) ∷ page_28591 ∷ bof 0x05 ∷ []

pub settings : settings_of free entries
    ≡ record {
      cells = record { page = Latin1; version = Biff5; classes = DateTime ∷ []; strings = codes "a" ∷ []; is_1904 = true };
      formulas = record {
        sheets = codes "A" ∷ codes "B" ∷ [];
        names = (codes "N", codes "B!$B$2") ∷ [];
        refs = pos 1 ∷ negsuc 0 ∷ [];
        page = Latin1;
        biff = Biff5;
        functions = (codes "PI", 0) ∷ [];
        numbers = Bits;
      };
    }
unfolding utf16_chars digits column_name word_of
settings = refl

-- two sheets before BIFF8 without an ExternSheet, under a forced page
pub settings_early : (settings_of (under (Some 0x04E4)) (bof 0x05 ∷ page_28591 ∷ sheet (0x01 ∷ 0x41 ∷ []) ∷ sheet (0x01 ∷ 0x80 ∷ []) ∷ [])).formulas
    ≡ record {
      sheets = codes "A" ∷ (0x20AC ∷ []) ∷ [];
      names = [];
      refs = pos 0 ∷ pos 1 ∷ [];
      page = Windows1252;
      biff = Biff5;
      functions = (codes "PI", 0) ∷ [];
      numbers = Bits;
    }
settings_early = refl
