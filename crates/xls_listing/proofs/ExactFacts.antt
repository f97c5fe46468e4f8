-- Known exact texts, so that a wrong rule in the specs does not check.
use Rattle.std.proofs.Common.{◌≡◌, [], ◌∷◌, ◌++◌, map, true, false, refl, pos, negsuc, Some, None, codes}
use Rattle.std.specs.Fmt.{digits}
use Rattle.std.specs.Str.{chars}
use Rattle.xls_data.specs.Content.{int, float, text, truth, date, iso_date, iso_duration, failure, nothing}
use Rattle.xls_dates.specs.declared.dates.ExcelDateTimeType.TheVariants.{DateTime, TimeDelta}
use Rattle.xls_data.specs.declared.errors.CellErrorType.TheVariants.{NA}
use Rattle.xls_dates.specs.declared.numbers.Number.TheVariants.{Whole, Hundredths}
use Rattle.xls_data.specs.declared.sheets.SheetType.TheVariants.{WorkSheet, DialogSheet, MacroSheet, ChartSheet, Vba}
use Rattle.xls_data.specs.declared.sheets.SheetVisible.TheVariants.{Visible, Hidden, VeryHidden}
use Rattle.xls_meaning.specs.Reading.{BookView}
use Rattle.xls_listing.specs.Listing.{cell_lines, dump_lines, exact_lines, ref_lines, sheet_lines}

-- two sheets, a name, and in the first sheet one cell, a formula, one without a text, and a merged region
abbrev book : BookView
book = record {
  sheets = record { name = 65 ∷ []; typ = WorkSheet; visible = Visible }
      ∷ record { name = 66 ∷ []; typ = ChartSheet; visible = VeryHidden } ∷ [];
  names = (codes "N", codes "A!$B$2") ∷ [];
  contents = record {
    cells = ((0, 0), float (Whole (pos 1))) ∷ [];
    formulas = ((0, 0), codes "B1") ∷ ((1, 0), []) ∷ [];
    merges = record { start = (0, 1); end = (2, 3) } ∷ [];
  } ∷ record { cells = []; formulas = []; merges = [] } ∷ [];
  is_1904 = true;
  classes = [];
}

pub known_dump : exact_lines (dump_lines book) ≡ codes "dates\t1904\nname\tN\tA!$B$2\nsheet\tA\tworksheet\tvisible\ncell\t0\t0\tfloat\t1\nformula\t0\t0\tB1\nmerge\t0\t1\t2\t3\nsheet\tB\tchart\tveryhidden\n"
unfolding digits chars lib.Utf8.encode
known_dump = refl

pub known_sheets : exact_lines (sheet_lines book) ≡ codes "sheet\tA\tworksheet\tvisible\nsheet\tB\tchart\tveryhidden\n"
unfolding chars lib.Utf8.encode
known_sheets = refl

-- each kind of value, and a blank, which has no line
pub known_kinds : map (λ c. exact_lines (cell_lines (((2, 3), c), None))) (
    int (negsuc 0) ∷ float (Hundredths (pos 150)) ∷ text (codes "a\t\n\\") ∷ truth true ∷ truth false
    ∷ date (record { number = Whole (pos 43831); kind = DateTime; is_1904 = false })
    ∷ date (record { number = Hundredths (pos 50); kind = TimeDelta; is_1904 = true })
    ∷ iso_date (codes "2020-01-01") ∷ iso_duration (codes "P1D") ∷ failure NA ∷ nothing ∷ [])
    ≡ codes "cell\t2\t3\tint\t-1\n" ∷ codes "cell\t2\t3\tfloat\t1.5\n" ∷ codes "cell\t2\t3\ttext\ta\\t\\n\\\\\n"
    ∷ codes "cell\t2\t3\tbool\ttrue\n" ∷ codes "cell\t2\t3\tbool\tfalse\n"
    ∷ codes "cell\t2\t3\tdate\t43831\n" ∷ codes "cell\t2\t3\tspan\t0.5\n"
    ∷ codes "cell\t2\t3\tdate\t2020-01-01\n" ∷ codes "cell\t2\t3\tspan\tP1D\n" ∷ codes "cell\t2\t3\terror\t#N/A\n" ∷ [] ∷ []
unfolding digits chars lib.Utf8.encode
known_kinds = refl

-- each kind of sheet and each state, in lines of names that are escaped
abbrev sheets : BookView
sheets = record {
  sheets = record { name = codes "a\t"; typ = WorkSheet; visible = Hidden }
      ∷ record { name = codes "b"; typ = DialogSheet; visible = Visible }
      ∷ record { name = codes "c"; typ = MacroSheet; visible = VeryHidden }
      ∷ record { name = codes "d"; typ = ChartSheet; visible = Visible }
      ∷ record { name = 0x20AC ∷ []; typ = Vba; visible = Hidden } ∷ [];
  names = (codes "M\n", codes "d!\\") ∷ (codes "N", []) ∷ [];
  contents = record { cells = []; formulas = []; merges = [] }
      ∷ record { cells = ((0, 0), truth true) ∷ []; formulas = []; merges = [] }
      ∷ record { cells = ((0, 0), nothing) ∷ ((0, 1), date (record { number = Whole (pos 2); kind = TimeDelta; is_1904 = false })) ∷ []; formulas = ((0, 1), codes "A1\n") ∷ []; merges = [] }
      ∷ record { cells = []; formulas = []; merges = record { start = (0, 1); end = (2, 3) } ∷ record { start = (4, 5); end = (6, 7) } ∷ [] }
      ∷ record { cells = []; formulas = []; merges = [] } ∷ [];
  is_1904 = false;
  classes = [];
}

pub known_sheets_dump : exact_lines (dump_lines sheets)
    ≡ codes "dates\t1900\nname\tM\\n\td!\\\\\nname\tN\t\nsheet\ta\\t\tworksheet\thidden\nsheet\tb\tdialog\tvisible\ncell\t0\t0\tbool\ttrue\nsheet\tc\tmacro\tveryhidden\ncell\t0\t1\tspan\t2\nformula\t0\t1\tA1\\n\nsheet\td\tchart\tvisible\nmerge\t0\t1\t2\t3\nmerge\t4\t5\t6\t7\nsheet\t"
    ++ (0xE2 ∷ 0x82 ∷ 0xAC ∷ codes "\tvba\thidden\n")
unfolding digits chars lib.Utf8.encode
known_sheets_dump = refl

-- a formula of the second sheet, in row 1 and column 2, that cites rows 3 to 5 and columns 4 to 6 of the
-- first, and one cell of its own
pub known_refs : exact_lines (ref_lines (record {
  names = codes "A" ∷ codes "b\t" ∷ [];
  cites = record { sheet = 1; row = 1; col = 2; cite = record { sheet = Some (codes "A"); first = (3, 4); last = (5, 6) } }
      ∷ record { sheet = 1; row = 1; col = 2; cite = record { sheet = Some (codes "b\t"); first = (7, 8); last = (7, 8) } } ∷ [];
}))
    ≡ codes "ref\tb\\t\t1\t2\tA\t3\t4\t5\t6\nref\tb\\t\t1\t2\tb\\t\t7\t8\t7\t8\n"
unfolding digits chars lib.Utf8.encode
known_refs = refl
