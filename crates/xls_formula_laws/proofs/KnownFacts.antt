-- Formulas of which the laws speak, so that neither is empty, and one of which they don't.
use Rattle.std.proofs.Common.{◌≡◌, ℕ, List, [], ◌∷◌, ◌++◌, true, false, map, refl, codes, Some, Ok, Err, replicate}
use Rattle.std.specs.Fmt.{digits}
use Rattle.xls_bytes.specs.Columns.{column_name, word_of}
use Rattle.xls_text.specs.declared.encoding.XlsEncoding.TheVariants.{Windows1252}
use Rattle.xls_record.specs.declared.error.XlsError.TheVariants as errors
use Rattle.xls_record.specs.declared.version.Biff.TheVariants.{Biff5, Biff8}
use Rattle.xls_rounding.specs.Fractions.{magnitude, places, places_up_to}
use Rattle.xls_rounding.specs.Rounding.{decimal_of, of_15_digits}
use Rattle.xls_ptg.specs.declared.corner.Corner.{Corner}
use Rattle.xls_ptg.specs.declared.operators.Operator.TheVariants as operators
use Rattle.xls_ptg.specs.declared.tokens.Ptg.TheVariants as ptg
use Rattle.xls_formula.specs.Context.{Context}
use Rattle.xls_formula.specs.Fold.{formula_text}
use Rattle.xls_formula.specs.Functions.{shipped}
use Rattle.xls_formula.specs.declared.numbers.NumberStyle.TheVariants as styles
use Rattle.xls_shown_ptg.specs.Reading.{shared}
use Rattle.xls_shown_ptg.specs.ShownTokens.{basic_by, by_link, classed_by, mem_by}
use Rattle.xls_shown_ptg.specs.declared.fault.Fault.TheVariants as faults
use Rattle.xls_formula_shown.specs.Scope.{Scope}
use Rattle.xls_formula_shown.specs.ShownFold.{shown_text}
use Rattle.xls_formula_laws.specs.Alike.{AreAlike, AreAlikeTokens, is_alike, keeps_count}
use Rattle.xls_formula_laws.specs.Shared.{is_shared}
use Rattle.xls_formula_laws.proofs.ReadingLemmas.{shared_are_alike}
use Rattle.xls_formula_laws.proofs.TextLemmas.{texts_agree}

-- ---- what they are read by

abbrev scope : Scope
scope = record {
  biff = Biff8;
  page = Windows1252;
  place = record { row = 0; column = 0 };
  is_name = false;
  functions = shipped;
  sheets = λ link. codes "#REF";
  name = λ n. codes "Rate";
  name_x = λ link. codes "#NAME?";
}

abbrev context : Context
context =
    record {
      sheets = codes "Data" ∷ [];
      names = [];
      refs = [];
      page = Windows1252;
      biff = Biff8;
      functions = shipped;
      numbers = styles.Decimal;
    }

are_alike : AreAlike context scope
are_alike = record { biff = refl; page = refl; functions = refl; numbers = refl }

-- ---- SUM(A1:B2)+1.5

sum : List ℕ
sum = 0x25 ∷ 0 ∷ 0 ∷ 1 ∷ 0 ∷ 0 ∷ 0xC0 ∷ 1 ∷ 0xC0 ∷ 0x19 ∷ 0x10 ∷ 0 ∷ 0 ∷ 0x1F ∷ 0 ∷ 0 ∷ 0 ∷ 0 ∷ 0 ∷ 0 ∷ 0xF8 ∷ 0x3F ∷ 0x03 ∷ []

sum_alike : AreAlikeTokens scope sum 0
unfolding shared basic_by classed_by by_link mem_by sum
sum_alike = (refl, (refl, refl), (refl, (refl, refl), (refl, (refl, refl), (refl, (refl, refl), tt))))

sum_shown : shown_text scope sum [] ≡ Ok (codes "SUM(A1:B2)+1.5")
unfolding decimal_of of_15_digits magnitude places places_up_to digits column_name word_of sum
sum_shown = texts_agree context scope (23 ∷ 0 ∷ sum) sum [] are_alike refl sum_alike

-- ---- IF("a"="b",-$C3%,PI()), with a jump (PtgAttrIf), and extra bytes that belong to no token

choice : List ℕ
choice =
    0x17 ∷ 1 ∷ 0 ∷ 0x61 ∷ 0x17 ∷ 1 ∷ 0 ∷ 0x62 ∷ 0x0B ∷ 0x19 ∷ 0x02 ∷ 9 ∷ 0 ∷ 0x44 ∷ 2 ∷ 0 ∷ 2 ∷ 0x80 ∷ 0x14 ∷ 0x13 ∷ 0x41 ∷ 19 ∷ 0
    ∷ 0x42 ∷ 3 ∷ 1 ∷ 0 ∷ []

choice_alike : AreAlikeTokens scope choice 0
unfolding choice
choice_alike = shared_are_alike scope choice refl

choice_shown : shown_text scope choice (1 ∷ 2 ∷ []) ≡ Ok (codes "IF(\"a\"=\"b\",-$C3%,PI())")
unfolding digits column_name word_of choice
choice_shown = texts_agree context scope (27 ∷ 0 ∷ choice ++ (1 ∷ 2 ∷ [])) choice (1 ∷ 2 ∷ []) are_alike refl choice_alike

-- ---- faults: an operator of one operand, and after it a token that neither knows

lone : List ℕ
lone = 0x1E ∷ 7 ∷ 0 ∷ 0x03 ∷ 0x00 ∷ []

lone_alike : AreAlikeTokens scope lone 0
unfolding shared basic_by classed_by by_link mem_by lone
lone_alike = (refl, (refl, refl), (refl, (refl, refl), refl))

lone_refused : shown_text scope lone [] ≡ Err (faults.Xls errors.StackLen)
unfolding lone
lone_refused = texts_agree context scope (5 ∷ 0 ∷ lone) lone [] are_alike refl lone_alike

-- ---- 7>=7, which the exact reading writes as 7>7

exchanged : List ℕ
exchanged = 0x1E ∷ 7 ∷ 0 ∷ 0x1E ∷ 7 ∷ 0 ∷ 0x0C ∷ []

not_alike : AreAlikeTokens scope exchanged 0 → ⊥
unfolding shared basic_by classed_by by_link mem_by exchanged
not_alike h = let e : false ≡ true = h.2.2.1.1 in absurd cc

not_equal : (shown_text scope exchanged [] ≡ Ok (codes "7>=7")) × (formula_text context (7 ∷ 0 ∷ exchanged) ≡ Ok (codes "7>7"))
unfolding shared basic_by classed_by by_link mem_by digits exchanged
not_equal = (refl, refl)

-- ---- tokens that differ: `>=` and `>`, a string with a quote, whole rows and whole columns, white space, names, other sheets, pointers

abbrev corner : ℕ → ℕ → Corner
corner row column = record { row = row; column = column; is_row_relative = true; is_column_relative = true }

known_differences : map (is_alike scope) (ptg.Exp ∷ ptg.Binary operators.Ge ∷ ptg.Binary operators.Gt ∷ ptg.Str (0x61 ∷ 0x22 ∷ []) 2 (Some false)
    ∷ ptg.Elf ∷ ptg.AttrSpace false 1 ∷ ptg.AttrSpaceSemi true 1 ∷ ptg.Array ∷ ptg.Name 1 ∷ ptg.Area (corner 0 0) (corner 2 255)
    ∷ ptg.Area (corner 0 0) (corner 65535 2) ∷ ptg.NameX ∷ ptg.Ref3d 0 (corner 0 0) ∷ ptg.Area3d 0 (corner 0 0) (corner 1 1)
    ∷ ptg.RefErr3d 0 ∷ ptg.AreaErr3d 0 ∷ []) ≡ replicate 16 false
known_differences = refl

-- a function of macro sheets whose count isn't the table's, and one whose count is
known_counts : keeps_count 79 (Some (codes "ABSREF", 255)) ∷ keeps_count 24 (Some (codes "ABS", 1)) ∷ [] ≡ false ∷ true ∷ []
known_counts = refl

-- ---- tokens by their bytes: +, PtgAttrIf, a call, an area of BIFF8, and none; not an area before, PtgExp, white space and a call by name

known_shared : map (is_shared Biff8) ((0x03 ∷ []) ∷ (0x19 ∷ 0x02 ∷ []) ∷ (0x42 ∷ 2 ∷ 4 ∷ 0 ∷ []) ∷ (0x65 ∷ []) ∷ (0x80 ∷ []) ∷ [])
    ≡ true ∷ true ∷ true ∷ true ∷ true ∷ []
known_shared = refl

known_not_shared : is_shared Biff5 (0x25 ∷ []) ∷ map (is_shared Biff8) ((0x01 ∷ []) ∷ (0x19 ∷ 0x40 ∷ []) ∷ (0x42 ∷ 2 ∷ 0xFF ∷ 0 ∷ []) ∷ [])
    ≡ false ∷ false ∷ false ∷ false ∷ []
known_not_shared = refl
