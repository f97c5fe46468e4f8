-- Known records, in their bytes, so that a wrong rule in the definitions does not check.
use Rattle.std.proofs.Common.{◌≡◌, ℕ, List, [], ◌∷◌, ◌++◌, map, take, length, refl, codes, Some, None}
use Rattle.std.specs.Char.Utf16.{utf16_chars}
use Rattle.xls_bytes.specs.Numbers.{le16}
use Rattle.xls_parts.specs.PartRecords.{Placed}
use Rattle.xls_record.specs.declared.version.Biff.TheVariants.{Biff5, Biff8}
use Rattle.xls_stream.specs.StringTable.{units_at}
use Rattle.xls_text.specs.declared.encoding.XlsEncoding.TheVariants.{Windows1252}
use Rattle.xls_formula_names.specs.Tables.{built_in_names}
use Rattle.xls_formula_books.specs.declared.sources.Kind.TheVariants as kinds
use Rattle.xls_formula_books.specs.Books.{books_of, own_books}
use Rattle.xls_formula_books.specs.ExternNames.{Name, name_of}
use Rattle.xls_formula_books.specs.SheetRefs.{sheet_ref}
use Rattle.xls_formula_books.specs.Sources.{Source, bare, program, with_names, with_sheets, workbook}
use Rattle.xls_formula_books.specs.SupBooks.{sup_book}

-- ---- SupBook

pub known_counts : map (λ count. sup_book (1 ∷ 0 ∷ le16 count) []) (0x0401 ∷ 0x3A01 ∷ 0x0400 ∷ []) ≡ bare kinds.This ∷ bare kinds.Functions ∷ bare kinds.Nothing ∷ []
known_counts = refl

pub known_short : map (λ n. sup_book (take n (1 ∷ 0 ∷ 1 ∷ 4 ∷ [])) []) (0 ∷ 2 ∷ 3 ∷ 4 ∷ []) ≡ bare kinds.Nothing ∷ bare kinds.Nothing ∷ bare kinds.Nothing ∷ bare kinds.This ∷ []
known_short = refl

-- of no sheets, by a path
abbrev of_path : List ℕ → Source
of_path path = sup_book (0 ∷ 0 ∷ le16 (length path) ++ 0 ∷ path) []

-- 00 and 02 alone; a blank alone; in a folder; beside this workbook; a program, with 03 in its topic
pub known_paths : map of_path ((0 ∷ []) ∷ (2 ∷ []) ∷ (0x20 ∷ []) ∷ (1 ∷ 1 ∷ codes "Cd" ++ 3 ∷ codes "b.xls") ∷ (1 ∷ codes "b.xls") ∷ (codes "MTX" ++ 3 ∷ codes "A" ++ 3 ∷ codes "B") ∷ [])
    ≡ bare kinds.This ∷ bare kinds.This ∷ bare kinds.Functions ∷ workbook (codes "C:\\d\\") (codes "b.xls") ∷ workbook [] (codes "b.xls") ∷ program (codes "MTX") (codes "A|B") ∷ []
unfolding units_at utf16_chars
known_paths = refl

-- two sheets, the second in a Continue; then of three but two
abbrev two_sheets : ℕ → List ℕ
two_sheets count = le16 count ++ 2 ∷ 0 ∷ 0 ∷ codes "bx" ++ 1 ∷ 0 ∷ 0 ∷ codes "S"

pub known_sheets : map (λ count. sup_book (two_sheets count) ((1 ∷ 0 ∷ 0 ∷ codes "T") ∷ [])) (2 ∷ 3 ∷ 1 ∷ [])
    ≡ with_sheets (codes "S" ∷ codes "T" ∷ []) (workbook [] (codes "bx")) ∷ with_sheets (codes "S" ∷ codes "T" ∷ []) (workbook [] (codes "bx")) ∷ with_sheets (codes "S" ∷ []) (workbook [] (codes "bx")) ∷ []
unfolding units_at utf16_chars
known_sheets = refl

-- ---- ExternName

abbrev named : ℕ → List ℕ → Name
named sheet text = record { sheet = sheet; text = text }

-- of a sheet; built in; too short
pub known_extern_names : map (λ body. name_of Biff8 Windows1252 body) ((0 ∷ 0 ∷ 2 ∷ 0 ∷ 0 ∷ 0 ∷ 3 ∷ 0 ∷ codes "Tot") ∷ (1 ∷ 0 ∷ 0 ∷ 0 ∷ 0 ∷ 0 ∷ 1 ∷ 0 ∷ 6 ∷ []) ∷ (0 ∷ 0 ∷ 2 ∷ 0 ∷ 0 ∷ 0 ∷ []) ∷ [])
    ≡ named 2 (codes "Tot") ∷ named 0 (codes "Print_Area") ∷ named 0 [] ∷ []
unfolding built_in_names
known_extern_names = refl

-- before BIFF8 without a flags byte
pub known_early_name : name_of Biff5 Windows1252 (0 ∷ 0 ∷ 1 ∷ 0 ∷ 0 ∷ 0 ∷ 3 ∷ codes "Tot") ≡ named 1 (codes "Tot")
known_early_name = refl

-- ---- ExternSheet before BIFF8

abbrev reference : List ℕ → Source
reference body = sheet_ref Windows1252 body

-- empty; without a name; this sheet; a sheet by its name; this workbook; added functions
pub known_references : map reference ([] ∷ (1 ∷ []) ∷ (0 ∷ 2 ∷ []) ∷ (1 ∷ 2 ∷ []) ∷ (3 ∷ 3 ∷ codes "Jan") ∷ (1 ∷ 4 ∷ []) ∷ (1 ∷ 0x3A ∷ []) ∷ [])
    ≡ bare kinds.Nothing ∷ bare kinds.Nothing ∷ bare kinds.Nothing ∷ bare kinds.Own ∷ with_sheets (codes "Jan" ∷ []) (bare kinds.Sheet) ∷ bare kinds.This ∷ bare kinds.Functions ∷ []
known_references = refl

-- a sheet in brackets; a path alone; from 01 on; a program; 3A before others
pub known_early_paths : map (λ path. reference (length path ∷ path)) ((1 ∷ codes "[b.xls]S") ∷ (1 ∷ 1 ∷ codes "Cd" ++ 3 ∷ codes "[b.xls]S 1") ∷ (1 ∷ codes "b.xls") ∷ (codes "x" ++ 1 ∷ codes "[b.xls]S") ∷ (codes "MTX" ++ 3 ∷ codes "D") ∷ (codes ":x") ∷ (0x20 ∷ []) ∷ [])
    ≡ with_sheets (codes "S" ∷ []) (workbook [] (codes "b.xls")) ∷ with_sheets (codes "S 1" ∷ []) (workbook (codes "C:\\d\\") (codes "b.xls")) ∷ workbook [] (codes "b.xls")
    ∷ with_sheets (codes "S" ∷ []) (workbook [] (codes "b.xls")) ∷ program (codes "MTX") (codes "D") ∷ workbook [] (codes ":x") ∷ bare kinds.Functions ∷ []
known_early_paths = refl

-- ---- all records

abbrev placed : ℕ → List ℕ → Placed
placed typ body = record { offset = 0; typ = typ; body = body }

abbrev tot : List ℕ → List ℕ
tot flags = 0 ∷ 0 ∷ 0 ∷ 0 ∷ 0 ∷ 0 ∷ 1 ∷ flags ++ codes "N"

-- names belong to the last SupBook before them; one before all to none
pub known_books : (books_of Biff8 Windows1252 (placed 0x23 (tot (0 ∷ [])) ∷ placed 0x1AE (0 ∷ 0 ∷ 1 ∷ 4 ∷ []) ∷ placed 0x1AE (0 ∷ 0 ∷ 1 ∷ 0x3A ∷ []) ∷ placed 0x3C (9 ∷ []) ∷ placed 0x23 (tot (0 ∷ [])) ∷ placed 0x23 (tot (0 ∷ [])) ∷ placed 0x17 (1 ∷ 0 ∷ 1 ∷ 0 ∷ 2 ∷ 0 ∷ 3 ∷ 0 ∷ []) ∷ []))
    ≡ record {
      version = Biff8;
      sources = bare kinds.This ∷ with_names (named 0 (codes "N") ∷ named 0 (codes "N") ∷ []) (bare kinds.Functions) ∷ [];
      entries = record { book = 1; first = 2; last = 3 } ∷ [];
    }
known_books = refl

pub known_early_books : books_of Biff5 Windows1252 (placed 0x17 (1 ∷ 2 ∷ []) ∷ placed 0x23 (tot []) ∷ placed 0x17 (1 ∷ 4 ∷ []) ∷ placed 0x1AE (0 ∷ 0 ∷ 1 ∷ 4 ∷ []) ∷ [])
    ≡ record { version = Biff5; sources = with_names (named 0 (codes "N") ∷ []) (bare kinds.Own) ∷ bare kinds.This ∷ []; entries = [] }
known_early_books = refl

-- a sheet's own, if it has some; none in BIFF8
pub known_own : own_books Biff5 Windows1252 (placed 0x17 (1 ∷ 4 ∷ []) ∷ []) ∷ own_books Biff5 Windows1252 (placed 6 [] ∷ []) ∷ own_books Biff8 Windows1252 (placed 0x17 (1 ∷ 4 ∷ []) ∷ []) ∷ []
    ≡ Some (record { version = Biff5; sources = bare kinds.This ∷ []; entries = [] }) ∷ None ∷ None ∷ []
known_own = refl
