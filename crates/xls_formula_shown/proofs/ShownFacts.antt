-- Values from outside, so that a wrong rule in the definitions does not check: formulas as Excel shows them.
use Rattle.std.proofs.Common.{◌≡◌, ℕ, List, [], ◌∷◌, ◌++◌, Bool, refl, false, true, codes, Ok, Err, Result, replicate, map}
use Rattle.std.proofs.Common.{if◌then◌else◌, ◌==◌}
use Rattle.std.specs.Fmt.{digits}
use Rattle.xls_bytes.specs.Columns.{column_name, word_of}
use Rattle.xls_record.specs.declared.error.XlsError.TheVariants as errors
use Rattle.xls_record.specs.declared.version.Biff.TheVariants.{Biff8}
use Rattle.xls_stream.specs.declared.part.Part.TheVariants as parts
use Rattle.xls_text.specs.declared.encoding.XlsEncoding.TheVariants.{Windows1252}
use Rattle.xls_formula.specs.Functions.{shipped}
use Rattle.xls_formula.specs.Table.{from_index_72}
use Rattle.xls_formula_names.specs.Commands.{first_commands, second_commands, third_commands, fourth_commands}
use Rattle.xls_shown_ptg.specs.Reading.{shared}
use Rattle.xls_shown_ptg.specs.ShownTokens.{basic_by, by_link, classed_by, mem_by}
use Rattle.xls_shown_ptg.specs.declared.fault.Fault.{Fault}
use Rattle.xls_shown_ptg.specs.declared.fault.Fault.TheVariants as faults
use Rattle.xls_shown_ptg.specs.declared.tokens.NameLink.{NameLink}
use Rattle.xls_shown_ptg.specs.declared.tokens.NameLink.TheVariants as names
use Rattle.xls_shown_ptg.specs.declared.tokens.SheetLink.{SheetLink}
use Rattle.xls_shown_ptg.specs.declared.tokens.SheetLink.TheVariants as sheets
use Rattle.xls_formula_shown.specs.Scope.{Scope}
use Rattle.xls_formula_shown.specs.ShownFold.{bare, shown_text}

-- the sheet 0, and a name and functions by reference
abbrev sheet_of : SheetLink → List ℕ
sheet_of (sheets.Xti ixti) = if ixti == 0 then codes "Data" else codes "#REF"
sheet_of link = codes "#REF"

abbrev name_of : NameLink → List ℕ
name_of (names.Xti ixti index) =
    if ixti == 0 then codes "#NAME?" else if index == 1 then codes "EDATE" else codes "_xlfn.IFERROR"
name_of link = codes "#NAME?"

-- the place is B3
abbrev scope : Bool → Scope
scope is_name = record {
  biff = Biff8;
  page = Windows1252;
  place = record { row = 2; column = 1 };
  is_name = is_name;
  functions = shipped ++ from_index_72;
  sheets = sheet_of;
  name = λ n. codes "Rate";
  name_x = name_of;
}

abbrev shown : List ℕ → Result (List ℕ) Fault
shown tokens = shown_text (scope false) tokens []

-- A1 and B1
abbrev a1 : List ℕ
a1 = 0x24 ∷ 0 ∷ 0 ∷ 0 ∷ 0xC0 ∷ []

abbrev b1 : List ℕ
b1 = 0x44 ∷ 0 ∷ 0 ∷ 1 ∷ 0xC0 ∷ []

-- white space of a kind
abbrev white : ℕ → ℕ → List ℕ
white kind count = 0x19 ∷ 0x40 ∷ kind ∷ count ∷ []

-- operators, signs and parentheses
known_operators : map shown ((a1 ++ (b1 ++ (0x03 ∷ []))) ∷ (a1 ++ (b1 ++ (0x0C ∷ []))) ∷ (a1 ++ (0x13 ∷ 0x14 ∷ [])) ∷ (a1 ++ (b1
    ++ (0x05 ∷ 0x15 ∷ 0x12 ∷ []))) ∷ [])
    ≡ Ok (codes "A1+B1") ∷ Ok (codes "A1>=B1") ∷ Ok (codes "-A1%") ∷ Ok (codes "+(A1*B1)") ∷ []
unfolding shared basic_by classed_by by_link mem_by digits column_name word_of
known_operators = refl

-- calls: with a count and without, with an argument left out, SUM of one operand, a count that differs from the table's, a command
known_calls : map shown ((a1 ++ (b1 ++ (0x42 ∷ 2 ∷ 0x04 ∷ 0x00 ∷ []))) ∷ (a1 ++ (0x41 ∷ 0x18 ∷ 0x00 ∷ [])) ∷ (a1 ++ (0x16 ∷ 0x1E ∷ 2
    ∷ 0 ∷ 0x42 ∷ 0x83 ∷ 0x01 ∷ 0x00 ∷ []))
    ∷ (a1 ++ (0x19 ∷ 0x10 ∷ 0 ∷ 0 ∷ [])) ∷ (a1 ++ (b1 ++ (0x41 ∷ 0x4F ∷ 0x00 ∷ []))) ∷ (0x42 ∷ 0 ∷ 0x05 ∷ 0x80 ∷ []) ∷ [])
    ≡ Ok (codes "SUM(A1,B1)") ∷ Ok (codes "ABS(A1)") ∷ Ok (codes "IF(A1,,2)") ∷ Ok (codes "SUM(A1)") ∷ Ok (codes "ABSREF(A1,B1)")
    ∷ Ok (codes "SAVE.AS()") ∷ []
unfolding shared basic_by classed_by by_link mem_by digits column_name word_of first_commands
known_calls = refl

-- calls by name
known_calls_by_name : map shown ((0x39 ∷ 1 ∷ 0 ∷ 1 ∷ 0 ∷ 0 ∷ 0 ∷ a1 ++ (0x1E ∷ 1 ∷ 0 ∷ 0x42 ∷ 3 ∷ 0xFF ∷ 0x00 ∷ []))
    ∷ (0x39 ∷ 1 ∷ 0 ∷ 2 ∷ 0 ∷ 0 ∷ 0 ∷ a1 ++ (b1 ++ (0x42 ∷ 3 ∷ 0xFF ∷ 0x00 ∷ []))) ∷ (white 0 1 ++ (0x39 ∷ 1 ∷ 0 ∷ 2 ∷ 0 ∷ 0 ∷ 0
    ∷ 0x42 ∷ 1 ∷ 0xFF ∷ 0x00 ∷ [])) ∷ [])
    ≡ Ok (codes "EDATE(A1,1)") ∷ Ok (codes "IFERROR(A1,B1)") ∷ Ok (codes " IFERROR()") ∷ []
unfolding shared basic_by classed_by by_link mem_by digits column_name word_of
known_calls_by_name = refl

known_bare_names : map bare (codes "_xlfn._xlws.SORT" ∷ codes "_xlfn.IFS" ∷ codes "X_xlfn.IFS" ∷ codes "_xlfn" ∷ codes "_xlws.SORT"
    ∷ codes "_xlws._xlfn.IFS" ∷ []) ≡ codes "SORT"
    ∷ codes "IFS" ∷ codes "X_xlfn.IFS" ∷ codes "_xlfn" ∷ codes "SORT" ∷ codes "_xlfn.IFS" ∷ []
known_bare_names = refl

-- the marks stay where the name isn't called, and where the first operand is no name alone
known_marks : map shown ((0x39 ∷ 1 ∷ 0 ∷ 2 ∷ 0 ∷ 0 ∷ 0 ∷ []) ∷ (a1 ++ (0x39 ∷ 1 ∷ 0 ∷ 2 ∷ 0 ∷ 0 ∷ 0 ∷ 0x42 ∷ 2 ∷ 0xFF ∷ 0x00 ∷ [])) ∷ (0x39
    ∷ 1 ∷ 0 ∷ 2 ∷ 0 ∷ 0 ∷ 0 ∷ 0x14 ∷ 0x42 ∷ 1 ∷ 0xFF ∷ 0x00 ∷ []) ∷ (0x17 ∷ 6 ∷ 0 ∷ codes "_xlfn." ++ (0x42 ∷ 1 ∷ 0xFF ∷ 0x00 ∷ [])) ∷ [])
    ≡ Ok (codes "_xlfn.IFERROR") ∷ Ok (codes "A1(_xlfn.IFERROR)") ∷ Ok (codes "_xlfn.IFERROR%()") ∷ Ok (codes "\"_xlfn.\"()") ∷ []
unfolding shared basic_by classed_by by_link mem_by digits column_name word_of
known_marks = refl

-- white space: before leaves and operators, before a function's name and its parenthesis, in parentheses, at the front, and at the end,
-- where it is dropped
known_white_space : map shown ((a1 ++ (white 0 1 ++ (b1 ++ (white 0 1 ++ (0x03 ∷ []))))) ∷ (a1 ++ (white 0 2 ++ (white 4 1 ++ (0x41
    ∷ 0x18 ∷ 0x00 ∷ []))))
    ∷ (a1 ++ (white 1 1 ++ (white 3 1 ++ (white 5 1 ++ (0x15 ∷ []))))) ∷ (white 6 2 ++ (a1 ++ (white 0 1 ++ (0x14 ∷ [])))) ∷ (a1
    ++ white 0 1)
    ∷ (white 4 1 ++ (white 1 1 ++ (0x19 ∷ 0x02 ∷ 0 ∷ 0 ∷ a1))) ∷ [])
    ≡ Ok (codes "A1 + B1") ∷ Ok (codes "  ABS(A1 )") ∷ Ok (codes "\n\n(A1\n)") ∷ Ok (codes "  A1 %") ∷ Ok (codes "A1")
    ∷ Ok (codes "\n A1") ∷ []
unfolding shared basic_by classed_by by_link mem_by digits column_name word_of
known_white_space = refl

-- offsets from the place, B3; other sheets; what is gone; names
known_cells : map shown ((0x4C ∷ 0xFF ∷ 0xFF ∷ 0x01 ∷ 0xC0 ∷ []) ∷ (0x2D ∷ 0 ∷ 0 ∷ 9 ∷ 0 ∷ 0xFF ∷ 0x40 ∷ 3 ∷ 0x80 ∷ []) ∷ (0x3A ∷ 0
    ∷ 0 ∷ 1 ∷ 0 ∷ 2 ∷ 0xC0 ∷ []) ∷ (0x3A ∷ 9 ∷ 0 ∷ 0 ∷ 0 ∷ 0 ∷ 0xC0 ∷ [])
    ∷ (0x3C ∷ 0 ∷ 0 ∷ replicate 4 0) ∷ (0x3D ∷ 9 ∷ 0 ∷ replicate 8 0) ∷ (0x2B ∷ replicate 8 0) ∷ (0x23 ∷ 1 ∷ 0 ∷ 0 ∷ 0 ∷ []) ∷ (0x39
    ∷ replicate 6 0) ∷ [])
    ≡ Ok (codes "C2") ∷ Ok (codes "A$1:$D12") ∷ Ok (codes "Data!C2") ∷ Ok (codes "#REF!A1") ∷ Ok (codes "Data!#REF!")
    ∷ Ok (codes "#REF!") ∷ Ok (codes "#REF!")
    ∷ Ok (codes "Rate") ∷ Ok (codes "#NAME?") ∷ []
unfolding shared basic_by classed_by by_link mem_by digits column_name word_of
known_cells = refl

-- in a name a relative part of a cell on sheets counts from the place too
known_cells_of_a_name : shown_text (scope true) (0x3B ∷ 0 ∷ 0 ∷ 0xFE ∷ 0xFF ∷ 0 ∷ 0 ∷ 0 ∷ 0xC0 ∷ 3 ∷ 0x40 ∷ []) []
    ≡ Ok (codes "Data!B1:E$1")
unfolding shared basic_by classed_by by_link mem_by digits column_name word_of
known_cells_of_a_name = refl

-- extra bytes: of a union's area, then of two arrays
known_extra : shown_text (scope false) (0x26 ∷ replicate 6 0 ++ (a1 ++ (b1 ++ (0x10 ∷ 0x15 ∷ 0x20 ∷ replicate 7 0 ++ (0x60
    ∷ replicate 7 0 ++ (0x42 ∷ 3 ∷ 0x04 ∷ 0x00 ∷ []))))))
    (1 ∷ 0 ∷ replicate 8 9 ++ (0 ∷ 0 ∷ 0 ∷ 0x04 ∷ 1 ∷ replicate 7 0 ++ (0 ∷ 0 ∷ 0 ∷ 0x02 ∷ 1 ∷ 0 ∷ 0 ∷ 0x61 ∷ [])))
    ≡ Ok (codes "SUM((A1,B1),{TRUE},{\"a\"})")
unfolding shared basic_by classed_by by_link mem_by digits column_name word_of
known_extra = refl

-- faults: a token that isn't known here, too few operands, no operand for a call by name, none or two operands left, no such function or
-- command, an array without its bytes
known_faults : map shown ((0x01 ∷ replicate 4 0) ∷ (a1 ++ (0x03 ∷ [])) ∷ (0x42 ∷ 0 ∷ 0xFF ∷ 0x00 ∷ []) ∷ [] ∷ (a1 ++ b1) ∷ (0x42 ∷ 0
    ∷ 0x7D ∷ 0x01 ∷ []) ∷ (0x42 ∷ 0 ∷ 0x12 ∷ 0x80 ∷ []) ∷ (0x20 ∷ replicate 7 0) ∷ [])
    ≡ Err (faults.Xls (errors.Unrecognized parts.Ptg 0x01)) ∷ Err (faults.Xls errors.StackLen) ∷ Err (faults.Xls errors.StackLen)
    ∷ Err (faults.Xls (errors.InvalidFormula 0))
    ∷ Err (faults.Xls (errors.InvalidFormula 2)) ∷ Err (faults.Xls (errors.IfTab 0x017D)) ∷ Err (faults.Xls (errors.IfTab 0x8012))
    ∷ Err (faults.ExtraArray 3 0) ∷ []
unfolding shared basic_by classed_by by_link mem_by digits column_name word_of first_commands second_commands third_commands fourth_commands
known_faults = refl
