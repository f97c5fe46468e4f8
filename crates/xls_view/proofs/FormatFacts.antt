-- Known values of the XF indices of cells and of the codes of number formats, as tables.
use Rattle.std.proofs.Common.{◌≡◌, ℕ, pos, true, false, List, [], ◌∷◌, ◌++◌, map, refl, Some, None, codes}
use Rattle.std.specs.Prelude.{replicate}
use Rattle.xls_text.specs.declared.encoding.XlsEncoding.TheVariants.{Windows1252}
use Rattle.xls_stream.specs.Listing.{Kept}
use Rattle.xls_data.specs.Content.{int, float, text, truth}
use Rattle.xls_dates.specs.declared.numbers.Number.TheVariants.{Bits}
use Rattle.xls_record.specs.declared.version.Biff.TheVariants.{Biff8}
use Rattle.xls_biff.specs.Records.Rk.{rk_content}
use Rattle.xls_formula.specs.declared.numbers.NumberStyle.TheVariants as styles
use Rattle.xls_meaning.specs.Settings.{Settings}
use Rattle.xls_view.specs.Codes.{identifier_at, last_code}
use Rattle.xls_view.specs.Formats.{FormattedCell, formatted_after, no_formula, plain}
use Rattle.xls_view.specs.SheetContents.{cells_after, formatted_by}

-- ---- XF indices

abbrev settings : Settings
settings = record {
  cells = record { page = Windows1252; version = Biff8; classes = []; strings = codes "a" ∷ []; is_1904 = false };
  formulas = record {
    sheets = [];
    names = [];
    refs = [];
    page = Windows1252;
    biff = Biff8;
    functions = [];
    numbers = styles.Bits;
  };
}

abbrev kept : ℕ → List ℕ → Kept
kept typ body = record { typ = typ; body = body }

-- a row, a column and an XF index
abbrev cell : ℕ → ℕ → ℕ → List ℕ
cell row column xf = row ∷ 0x00 ∷ column ∷ 0x00 ∷ xf ∷ 0x00 ∷ []

-- a Formula of this value without tokens
abbrev formula : List ℕ → List ℕ → Kept
formula at value = kept 0x0006 (at ++ (value ++ replicate 6 0x00))

-- values that a String tells, and the double 2
abbrev reported : List ℕ
reported = replicate 6 0x00 ++ 0xFF ∷ 0xFF ∷ []

abbrev two : List ℕ
two = replicate 7 0x00 ++ 0x40 ∷ []

abbrev string : List ℕ → Kept
string cs = kept 0x0207 (0x01 ∷ 0x00 ∷ 0x00 ∷ cs)

-- a String before any Formula, Number, RK, BoolErr, Label, RString, LabelSst, a Formula, one whose text comes later, Dimensions
-- and that text, MulRk of three cells, Blank, which isn't read, and a cell that stands before those
abbrev records : List Kept
records =
    string (codes "s") ∷ kept 0x0203 (cell 0x02 0x00 0x0F ++ two) ∷ kept 0x027E (cell 0x02 0x01 0x10 ++ 0x06 ∷ 0x00 ∷ 0x00 ∷ 0x00 ∷ [])
    ∷ kept 0x0205 (cell 0x02 0x02 0x11 ++ 0x01 ∷ 0x00 ∷ []) ∷ kept 0x0204 (cell 0x02 0x03 0x12 ++ 0x01 ∷ 0x00 ∷ 0x00 ∷ codes "c")
    ∷ kept 0x00D6 (cell 0x02 0x04 0x13 ++ 0x01 ∷ 0x00 ∷ 0x00 ∷ codes "d") ∷ kept 0x00FD (cell 0x02 0x05 0x14 ++ replicate 4 0x00)
    ∷ formula (cell 0x03 0x00 0x15) two ∷ formula (cell 0x03 0x01 0x16) reported ∷ kept 0x0200 (replicate 14 0x00) ∷ string (codes "t")
    ∷ kept 0x00BD (0x04 ∷ 0x00 ∷ 0x07 ∷ 0x00 ∷ 0x17 ∷ 0x00 ∷ 0x06 ∷ 0x00 ∷ 0x00 ∷ 0x00 ∷ 0x18 ∷ 0x00 ∷ 0x0A ∷ 0x00 ∷ 0x00 ∷ 0x00 ∷ 0x19 ∷ 0x01 ∷ 0x0E ∷ 0x00 ∷ 0x00 ∷ 0x00 ∷ 0x09 ∷ 0x00 ∷ [])
    ∷ kept 0x0201 (cell 0x05 0x00 0x1A) ∷ kept 0x0205 (cell 0x00 0x01 0x1B ++ 0x01 ∷ 0x00 ∷ []) ∷ []

-- the cells in order, the first String's where no Formula stands
pub formatted : formatted_after settings no_formula records
    ≡ ((0, 0), (text (codes "s"), 0)) ∷ ((2, 0), (float (Bits 0x4000_0000_0000_0000), 0x000F)) ∷ ((2, 1), (int (pos 1), 0x0010)) ∷ ((2, 2), (truth true, 0x0011))
    ∷ ((2, 3), (text (codes "c"), 0x0012)) ∷ ((2, 4), (text (codes "d"), 0x0013)) ∷ ((2, 5), (text (codes "a"), 0x0014))
    ∷ ((3, 0), (float (Bits 0x4000_0000_0000_0000), 0x0015)) ∷ ((3, 1), (text (codes "t"), 0x0016))
    ∷ ((4, 7), (int (pos 1), 0x0017)) ∷ ((4, 8), (int (pos 2), 0x0018)) ∷ ((4, 9), (int (pos 3), 0x0119)) ∷ ((0, 1), (truth true, 0x001B)) ∷ []
unfolding rk_content
formatted = refl

-- by position
pub in_order : map {B = (ℕ × ℕ) × ℕ} (λ (c : FormattedCell). (c.0, c.1.1)) (formatted_by settings records)
    ≡ ((0, 0), 0) ∷ ((0, 1), 0x001B) ∷ ((2, 0), 0x000F) ∷ ((2, 1), 0x0010) ∷ ((2, 2), 0x0011) ∷ ((2, 3), 0x0012) ∷ ((2, 4), 0x0013) ∷ ((2, 5), 0x0014)
    ∷ ((3, 0), 0x0015) ∷ ((3, 1), 0x0016) ∷ ((4, 7), 0x0017) ∷ ((4, 8), 0x0018) ∷ ((4, 9), 0x0119) ∷ []
unfolding rk_content
in_order = refl

-- without their XF indices
pub without : map plain (formatted_after settings no_formula records) ≡ cells_after settings (0, 0) records
unfolding rk_content
without = refl

-- ---- formats

-- an identifier for each XF, and General where there is none
pub identified : map (identifier_at (0x0E ∷ 0xA4 ∷ 0xFFFF ∷ [])) (0 ∷ 1 ∷ 2 ∷ 3 ∷ 0xFFFF ∷ []) ≡ 0x0E ∷ 0xA4 ∷ 0xFFFF ∷ 0 ∷ 0 ∷ []
identified = refl

-- the last of two, one of an identifier that is built in, and none
pub coded : map (last_code ((0xA4, codes "0.0") ∷ (0x0E, codes "d") ∷ (0xA4, codes "@") ∷ [])) (0xA4 ∷ 0x0E ∷ 0x00 ∷ [])
    ≡ Some (codes "@") ∷ Some (codes "d") ∷ None ∷ []
coded = refl
