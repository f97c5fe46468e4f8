-- Known lines, so that a wrong rule of the listing does not check.
use Rattle.std.proofs.Common.{◌≡◌, [], ◌∷◌, map, true, false, refl, pos, negsuc, Some, None, codes}
use Rattle.std.specs.Str.{chars}
use Rattle.xls_data.specs.Content.{int, float, text, truth, date, iso_date, iso_duration, failure, nothing}
use Rattle.xls_dates.specs.declared.dates.ExcelDateTimeType.TheVariants.{DateTime, TimeDelta}
use Rattle.xls_data.specs.declared.errors.CellErrorType.TheVariants.{NA}
use Rattle.xls_dates.specs.declared.numbers.Number.TheVariants.{Whole}
use Rattle.xls_data.specs.declared.sheets.SheetType.TheVariants.{WorkSheet, ChartSheet}
use Rattle.xls_data.specs.declared.sheets.SheetVisible.TheVariants.{Visible, VeryHidden}
use Rattle.xls_meaning.specs.Reading.{BookView}
use Rattle.xls_readable.specs.Items as item
use Rattle.xls_readable.specs.declared.forms.Form.TheVariants.{Text}
use Rattle.xls_listing.specs.Listing.{Line, IsDisplayedLine, cell_lines, dump_lines, formula_lines, kind_and_value, ref_lines, sheet_lines}

-- two sheets, a name, and in the first sheet a cell, a blank, a formula, one without a text, and a merged region
abbrev book : BookView
book = record {
  sheets = record { name = 65 ∷ []; typ = WorkSheet; visible = Visible }
      ∷ record { name = 233 ∷ []; typ = ChartSheet; visible = VeryHidden } ∷ [];
  names = (codes "N", codes "A!$B$2") ∷ [];
  contents = record {
    cells = ((0, 0), float (Whole (pos 1))) ∷ ((0, 1), nothing) ∷ [];
    formulas = ((0, 0), codes "B1") ∷ ((1, 0), []) ∷ [];
    merges = record { start = (0, 1); end = (2, 3) } ∷ [];
  } ∷ record { cells = []; formulas = []; merges = [] } ∷ [];
  is_1904 = true;
  classes = [];
}

-- the lines of the first sheet, of the second with é in UTF-8, and of the formula
abbrev first_line : Line
first_line = record {
  word = codes "sheet";
  members = (codes "name", item.text (codes "A")) ∷ (codes "kind", item.word (codes "worksheet"))
      ∷ (codes "visibility", item.word (codes "visible")) ∷ [];
  shown = None;
}

abbrev second_line : Line
second_line = record {
  word = codes "sheet";
  members = (codes "name", item.text (195 ∷ 169 ∷ [])) ∷ (codes "kind", item.word (codes "chart"))
      ∷ (codes "visibility", item.word (codes "veryhidden")) ∷ [];
  shown = None;
}

abbrev known_formula : Line
known_formula = record {
  word = codes "formula";
  members = (codes "row", item.count 0) ∷ (codes "column", item.count 0) ∷ (codes "text", item.text (codes "B1")) ∷ [];
  shown = None;
}

pub known_sheets : sheet_lines book ≡ first_line ∷ second_line ∷ []
unfolding lib.Utf8.encode
known_sheets = refl

pub known_formulas : formula_lines book ≡ first_line ∷ known_formula ∷ second_line ∷ []
unfolding lib.Utf8.encode
known_formulas = refl

pub known_dump : dump_lines book ≡
    record { word = codes "dates"; members = (codes "year", item.word (codes "1904")) ∷ []; shown = None }
    ∷ record { word = codes "name"; members = (codes "name", item.text (codes "N")) ∷ (codes "text", item.text (codes "A!$B$2")) ∷ []; shown = None }
    ∷ first_line
    ∷ record {
      word = codes "cell";
      members = (codes "row", item.count 0) ∷ (codes "column", item.count 0) ∷ (codes "kind", item.word (codes "float"))
          ∷ (codes "value", item.number (Whole (pos 1))) ∷ [];
      shown = None;
    }
    ∷ known_formula
    ∷ record {
      word = codes "merge";
      members = (codes "first_row", item.count 0) ∷ (codes "first_column", item.count 1)
          ∷ (codes "last_row", item.count 2) ∷ (codes "last_column", item.count 3) ∷ [];
      shown = None;
    }
    ∷ second_line ∷ []
unfolding lib.Utf8.encode
known_dump = refl

-- the text of a line
pub known_text : IsDisplayedLine Text first_line (codes "sheet\tA\tworksheet\tvisible\n")
unfolding chars lib.Utf8.encode
known_text = (
  codes "\tA\tworksheet\tvisible",
  (
    codes "\tA",
    codes "\tworksheet\tvisible",
    (codes "A", refl, refl),
    (
      codes "\tworksheet",
      codes "\tvisible",
      (codes "worksheet", refl, refl),
      (codes "\tvisible", [], (codes "visible", refl, refl), refl, refl),
      refl,
    ),
    refl,
  ),
  refl,
)

-- the formula of row 4 and column 2 of the sheet B cites C1 to D2 of A; an index without a name has the empty text
pub known_refs : ref_lines (record {
  names = codes "A" ∷ codes "B" ∷ [];
  cites = record { sheet = 1; row = 4; col = 2; cite = record { sheet = Some (codes "A"); first = (0, 2); last = (1, 3) } }
      ∷ record { sheet = 2; row = 0; col = 0; cite = record { sheet = None; first = (0, 0); last = (0, 0) } } ∷ [];
}) ≡ record {
  word = codes "ref";
  members = (codes "sheet", item.text (codes "B")) ∷ (codes "row", item.count 4) ∷ (codes "column", item.count 2)
      ∷ (codes "cited_sheet", item.text (codes "A")) ∷ (codes "first_row", item.count 0) ∷ (codes "first_column", item.count 2)
      ∷ (codes "last_row", item.count 1) ∷ (codes "last_column", item.count 3) ∷ [];
  shown = None;
} ∷ record {
  word = codes "ref";
  members = (codes "sheet", item.text []) ∷ (codes "row", item.count 0) ∷ (codes "column", item.count 0)
      ∷ (codes "cited_sheet", item.text []) ∷ (codes "first_row", item.count 0) ∷ (codes "first_column", item.count 0)
      ∷ (codes "last_row", item.count 0) ∷ (codes "last_column", item.count 0) ∷ [];
  shown = None;
} ∷ []
unfolding lib.Utf8.encode
known_refs = refl

-- each kind of value; a blank has none
pub known_kinds : map kind_and_value (
    int (negsuc 0) ∷ float (Whole (pos 2)) ∷ text (233 ∷ []) ∷ truth true ∷ truth false
    ∷ date (record { number = Whole (pos 43831); kind = DateTime; is_1904 = false })
    ∷ date (record { number = Whole (pos 1); kind = TimeDelta; is_1904 = true })
    ∷ iso_date (codes "2020-01-01") ∷ iso_duration (codes "P1D") ∷ failure NA ∷ nothing ∷ [])
    ≡ Some (codes "int", item.int (negsuc 0)) ∷ Some (codes "float", item.number (Whole (pos 2)))
    ∷ Some (codes "text", item.text (195 ∷ 169 ∷ [])) ∷ Some (codes "bool", item.truth true) ∷ Some (codes "bool", item.truth false)
    ∷ Some (codes "date", item.moment (record { number = Whole (pos 43831); kind = DateTime; is_1904 = false }))
    ∷ Some (codes "span", item.moment (record { number = Whole (pos 1); kind = TimeDelta; is_1904 = true }))
    ∷ Some (codes "date", item.text (codes "2020-01-01")) ∷ Some (codes "span", item.text (codes "P1D"))
    ∷ Some (codes "error", item.failure NA) ∷ None ∷ []
unfolding lib.Utf8.encode
known_kinds = refl

pub known_blank : cell_lines (((0, 0), nothing), None) ≡ []
known_blank = refl
