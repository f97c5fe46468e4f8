-- A workbook whose formulas are cited by, for known values.
use Rattle.std.proofs.Common.{ℕ, ◌+◌, List, [], ◌∷◌, ◌++◌, map, length, take, codes}
use Rattle.std.specs.List.{concat}
use Rattle.xls_bytes.specs.Numbers.{le16}
use Rattle.xls_record.specs.declared.version.Biff.TheVariants.{Biff5, Biff8}
use Rattle.xls_other_books.specs.declared.entries.Entry.{Entry}
use Rattle.xls_defined_names.specs.Kinds.{kinds_of}
use Rattle.xls_defined_names.specs.Names.{Name}
use Rattle.xls_formula_books.specs.declared.sources.Kind.TheVariants as kinds
use Rattle.xls_formula_books.specs.ExternNames.{Name as ExternName}
use Rattle.xls_formula_books.specs.Sources.{Source, bare, program, with_names, with_sheets, workbook}
use Rattle.xls_shown_refs.specs.Origins.{Citing}
use Rattle.xls_shown_refs.specs.Items.{Citation}

-- ---- citations

abbrev pub area : List ℕ → ℕ × ℕ → ℕ × ℕ → Citation
area sheet first last = record { sheet = sheet; first = first; last = last }

abbrev pub cell : List ℕ → ℕ → ℕ → Citation
cell sheet row column = area sheet (row, column) (row, column)

-- in the sheet of the formulas
abbrev pub own : ℕ → ℕ → Citation
own row column = cell (codes "It's") row column

-- ---- tokens: A1 and B1, white space, and the operators of two

abbrev pub a1 : List ℕ
a1 = 0x24 ∷ 0 ∷ 0 ∷ 0 ∷ 0xC0 ∷ []

abbrev pub b1 : List ℕ
b1 = 0x44 ∷ 0 ∷ 0 ∷ 1 ∷ 0x00 ∷ []

abbrev pub plus : List ℕ
plus = 0x03 ∷ []

-- a name by its number; a cell on sheets, of row 1 and column 2, whose flags say that both are relative
abbrev pub named : ℕ → List ℕ
named number = 0x43 ∷ number ∷ 0 ∷ 0 ∷ 0 ∷ []

abbrev pub on_sheets : ℕ → List ℕ
on_sheets ixti = 0x5A ∷ ixti ∷ 0 ∷ 1 ∷ 0 ∷ 2 ∷ 0xC0 ∷ []

-- ---- names

-- the record (Lbl) of a name of BIFF8 that is called N, and of one before it, with a count of the tokens' bytes
abbrev pub head : ℕ → ℕ → List ℕ
head size cce = 0x18 ∷ 0 ∷ size ∷ 0 ∷ 0 ∷ 0 ∷ 0 ∷ 1 ∷ cce ∷ 0 ∷ 0 ∷ 0 ∷ 0 ∷ 0 ∷ 0 ∷ 0 ∷ 0 ∷ 0 ∷ []

abbrev pub lbl : ℕ → List ℕ → List ℕ
lbl cce bytes = head (16 + length bytes) cce ++ (0 ∷ 0x4E ∷ bytes)

abbrev pub early_lbl : ℕ → List ℕ → List ℕ
early_lbl cce bytes = head (15 + length bytes) cce ++ (0x4E ∷ bytes)

abbrev pub whole : List ℕ → List ℕ
whole tokens = lbl (length tokens) tokens

-- 1: A1. 2 and 3: each the other one, and 3 with B1 behind it. 4: a cell on sheets. 5: it can't be spelled. 6: a cell by offsets. 7: it is cut.
-- 8: the names 1 and 6. 9: an array, whose bytes stand behind the tokens, and A1. 10: itself, and B1
abbrev pub records : List (List ℕ)
records =
    whole a1 ∷ whole (named 3) ∷ whole (named 2 ++ (b1 ++ plus)) ∷ whole (on_sheets 0) ∷ whole (a1 ++ b1)
    ∷ whole (0x2C ∷ 0xFF ∷ 0xFF ∷ 0 ∷ 0xC0 ∷ []) ∷ lbl 6 a1 ∷ whole (named 1 ++ (named 6 ++ plus))
    ∷ lbl 14 (0x20 ∷ 0 ∷ 0 ∷ 0 ∷ 0 ∷ 0 ∷ 0 ∷ 0 ∷ a1 ++ (plus ++ (0 ∷ 0 ∷ 0 ∷ 4 ∷ 1 ∷ 0 ∷ 0 ∷ 0 ∷ 0 ∷ 0 ∷ 0 ∷ 0 ∷ []))) ∷ whole (named 10 ++ (b1 ++ plus)) ∷ []

-- the name whose record stands behind so many
abbrev pub name_behind : List (List ℕ) → ℕ → Name
name_behind records n = record { offset = length (concat (take n records)); kinds = kinds_of 0; sheet = 0; text = codes "N" }

-- ---- BIFF8

abbrev pub entry : ℕ → ℕ → ℕ → Entry
entry book first last = record { book = book; first = first; last = last }

-- one sheet, from one to another, one that is gone; those of another book, one of which is gone; a program; added functions; the sheet of the
-- formulas; no SupBook
abbrev pub entries : List Entry
entries =
    entry 0 0 0 ∷ entry 0 0 3 ∷ entry 0 0xFFFF 0xFFFF ∷ entry 1 0 0 ∷ entry 1 0 1 ∷ entry 1 0xFFFF 0xFFFF ∷ entry 2 0xFFFE 0xFFFE
    ∷ entry 3 0xFFFE 0xFFFE ∷ entry 0 1 1 ∷ entry 9 0 0 ∷ []

abbrev pub other : List ℕ → ExternName
other text = record { sheet = 0; text = text }

abbrev pub sources : List Source
sources =
    bare kinds.This
    ∷ with_names (other (codes "Tot") ∷ []) (with_sheets (codes "S" ∷ codes "T 1" ∷ []) (workbook (codes "C:\\d\\") (codes "b.xls")))
    ∷ with_names (other (codes "item") ∷ []) (program (codes "MTX") (codes "DATA"))
    ∷ with_names (other (codes "EDATE") ∷ []) (bare kinds.Functions) ∷ []

abbrev pub sheets : List (List ℕ)
sheets = codes "Jan" ∷ codes "It's" ∷ codes "A1" ∷ codes "Dec" ∷ []

-- the formulas of B3 in the second sheet, or another one
abbrev pub citing_in : ℕ → Citing
citing_in sheet = record {
  biff = Biff8;
  cell = record { row = 2; column = 1 };
  place = record { row = 2; column = 1 };
  here = record {
    books = record { version = Biff8; sources = sources; entries = entries };
    names = map (name_behind records) (0 ∷ 1 ∷ 2 ∷ 3 ∷ 4 ∷ 5 ∷ 6 ∷ 7 ∷ 8 ∷ 9 ∷ []);
    sheets = sheets;
    sheet = sheet;
  };
  globals = record { version = Biff8; sources = sources; entries = entries };
  stream = concat records;
}

abbrev pub citing : Citing
citing = citing_in 2

-- ---- before BIFF8

abbrev pub zeros : List ℕ
zeros = 0 ∷ 0 ∷ 0 ∷ 0 ∷ 0 ∷ 0 ∷ 0 ∷ 0 ∷ []

-- a cell on sheets: the number of an ExternSheet record, or of sheets below 0, and row 1 and column 2, both relative
abbrev pub early_on_sheets : List ℕ → ℕ → ℕ → List ℕ
early_on_sheets reference first last = 0x5A ∷ reference ++ (zeros ++ (le16 first ++ (le16 last ++ (1 ∷ 0xC0 ∷ 2 ∷ []))))

-- a name by reference, whose number stands at 0A
abbrev pub early_named : List ℕ → ℕ → List ℕ
early_named reference number = 0x59 ∷ reference ++ (zeros ++ (le16 number ++ (zeros ++ (0 ∷ 0 ∷ 0 ∷ 0 ∷ []))))

-- 1: a cell on sheets through the first record. 2: A1
abbrev pub early_records : List (List ℕ)
early_records =
    early_lbl 18 (early_on_sheets (1 ∷ 0 ∷ []) 0 0) ∷ early_lbl 4 (0x24 ∷ 0 ∷ 0xC0 ∷ 0 ∷ []) ∷ []

-- the sheet of the formula; a sheet by its name, and by that of none; a workbook's sheet, and a path alone; a program; this workbook, with an
-- ExternName; what couldn't be read
abbrev pub own_sources : List Source
own_sources =
    bare kinds.Own ∷ with_sheets (codes "Jan" ∷ []) (bare kinds.Sheet) ∷ with_sheets (codes "Feb" ∷ []) (bare kinds.Sheet)
    ∷ with_sheets (codes "S" ∷ []) (workbook [] (codes "b.xls")) ∷ workbook (codes "C:\\") (codes "b.xls")
    ∷ program (codes "MTX") (codes "DATA") ∷ with_names (other (codes "One") ∷ []) (bare kinds.This) ∷ bare kinds.Nothing ∷ []

-- the sheet has records of its own; those of the globals are others
abbrev pub early_citing : Citing
early_citing = record {
  biff = Biff5;
  cell = record { row = 2; column = 1 };
  place = record { row = 2; column = 1 };
  here = record {
    books = record { version = Biff5; sources = own_sources; entries = [] };
    names = map (name_behind early_records) (0 ∷ 1 ∷ []);
    sheets = sheets;
    sheet = 2;
  };
  globals = record { version = Biff5; sources = with_sheets (codes "Dec" ∷ []) (bare kinds.Sheet) ∷ []; entries = [] };
  stream = concat early_records;
}
