-- Values from outside, so that a wrong rule in the definitions does not check.
use Rattle.std.proofs.Common.{◌≡◌, ℕ, [], ◌∷◌, refl, pos, negsuc, codes, Some, None, Ok, Err, true, false}
use Rattle.xls_text.specs.declared.encoding.XlsEncoding.TheVariants.{Utf16}
use Rattle.xls_record.specs.declared.error.XlsError.TheVariants as errors
use Rattle.xls_record.specs.declared.version.Biff.TheVariants.{Biff8}
use Rattle.xls_formula.specs.Context.{Context}
use Rattle.xls_formula.specs.declared.numbers.NumberStyle.TheVariants.{Bits}
use Rattle.xls_refs.specs.Citations.{Citation, same_cells, distinct, cites_at}
use Rattle.xls_refs.specs.Cited.{on_own_sheet}

-- a workbook of two sheets, `A` and `B`, and of references to the second, to none and to the first
abbrev context : Context
context = record {
  sheets = codes "A" ∷ codes "B" ∷ [];
  names = [];
  refs = pos 1 ∷ negsuc 0 ∷ pos 0 ∷ [];
  page = Utf16;
  biff = Biff8;
  functions = (codes "PI", 0) ∷ (codes "SUM", 255) ∷ [];
  numbers = Bits;
}

-- A1+A1 cites one cell
known_repeat : cites_at context (11 ∷ 0 ∷ 0x24 ∷ 0 ∷ 0 ∷ 0 ∷ 0xC0 ∷ 0x24 ∷ 0 ∷ 0 ∷ 0 ∷ 0xC0 ∷ 3 ∷ []) ≡ Ok (record { sheet = None; first = (0, 0); last = (0, 0) } ∷ [])
known_repeat = refl

-- an area, its rows before its columns, and a cell on the sheet of the first reference
known_area : cites_at context (17 ∷ 0 ∷ 0x25 ∷ 9 ∷ 0 ∷ 2 ∷ 0 ∷ 3 ∷ 0xC0 ∷ 1 ∷ 0xC0 ∷ 0x3A ∷ 0 ∷ 0 ∷ 5 ∷ 0 ∷ 0 ∷ 0xC0 ∷ 8 ∷ []) ≡ Ok (record { sheet = None; first = (9, 3); last = (2, 1) } ∷ record { sheet = Some (codes "B"); first = (5, 0); last = (5, 0) } ∷ [])
known_area = refl

-- a reference that holds no sheet
known_no_sheet : cites_at context (7 ∷ 0 ∷ 0x5A ∷ 1 ∷ 0 ∷ 0 ∷ 0 ∷ 0 ∷ 0 ∷ []) ≡ Ok (record { sheet = Some (codes "#REF"); first = (0, 0); last = (0, 0) } ∷ [])
known_no_sheet = refl

-- a word, and operators without operands
known_word : cites_at context (5 ∷ 0 ∷ 0x23 ∷ 1 ∷ 0 ∷ 0 ∷ 0 ∷ []) ≡ Ok []
known_word = refl

known_refusal : cites_at context (1 ∷ 0 ∷ 3 ∷ []) ≡ Err errors.StackLen
known_refusal = refl

-- ---- equal citations

abbrev cell : ℕ → Citation
cell row = record { sheet = None; first = (row, 0); last = (row, 0) }

-- the first of equal ones stays where it is
known_order : distinct (cell 2 ∷ cell 1 ∷ cell 2 ∷ cell 0 ∷ cell 1 ∷ []) ≡ cell 2 ∷ cell 1 ∷ cell 0 ∷ []
known_order = refl

known_other_sheet : same_cells (cell 0) (on_own_sheet (codes "A") (cell 0)) ≡ false
known_other_sheet = refl

known_same : same_cells (on_own_sheet (codes "A") (cell 0)) (on_own_sheet (codes "A") (cell 0)) ≡ true
known_same = refl
