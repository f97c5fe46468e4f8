-- Formulas whose text isn't empty.
use Rattle.std.proofs.Common.{◌≡◌, ℕ, length, true, arith, List, [], ◌∷◌, map, refl, sym, ap, subst, ◌∙◌, string_bytes, String, Global}
use Rattle.std.specs.Prelude.{encode_utf8_all, ◌==◌}
use Rattle.std.specs.Str.{chars}
use Rattle.std.proofs.lemmas.Str.{IsUtf8-string_bytes, chars-IsAscii, encodes-chars}
use Rattle.std.proofs.lemmas.Str.Ascii.{IsAscii-nil}
use Rattle.xls_strings.specs.Texts.{text_of}
use Rattle.xls_range.specs.Positions.{Position}
use Rattle.xls_meaning.specs.SheetTable.{FormulaEntry, nonempty_formulas}
use Rattle.xls_open.specs.Workbook.{formula_content}
use Rattle.xls_book.specs.Steps.{BeginsDisplayed}

module _ (p : Position) (fs : List FormulaEntry) where
  displayed_none : (cs : List ℕ) → cs ≡ [] → nonempty_formulas ((p, cs) ∷ fs) ≡ nonempty_formulas fs
  displayed_none [] e = refl
  displayed_none (c ∷ cs) e = absurd cc

  displayed_some : (cs : List ℕ) → (cs ≡ [] → ⊥) → nonempty_formulas ((p, cs) ∷ fs) ≡ (p, cs) ∷ nonempty_formulas fs
  displayed_some [] h = absurd (h refl)
  displayed_some (c ∷ cs) h = refl

empty_text : (s : String Global) → string_bytes s ≡ [] → text_of s ≡ []
empty_text s e = ap chars e ∙ chars-IsAscii [] IsAscii-nil

filled_text : (s : String Global) → (string_bytes s ≡ [] → ⊥) → text_of s ≡ [] → ⊥
filled_text s h e = h (sym (encodes-chars (string_bytes s) (IsUtf8-string_bytes s)) ∙ ap encode_utf8_all e)

-- one that isn't shown is passed over
pub displayed_after : (f : Position × String Global) (fs : List (Position × String Global)) → string_bytes f.1 ≡ []
    → nonempty_formulas (map formula_content (f ∷ fs)) ≡ nonempty_formulas (map formula_content fs)
displayed_after f fs e = displayed_none f.0 (map formula_content fs) (text_of f.1) (empty_text f.1 e)

-- one that is shown stands in front
pub displayed_first : (f : Position × String Global) (fs : List (Position × String Global)) → BeginsDisplayed (f ∷ fs)
    → nonempty_formulas (map formula_content (f ∷ fs)) ≡ formula_content f ∷ nonempty_formulas (map formula_content fs)
displayed_first f fs h = displayed_some f.0 (map formula_content fs) (text_of f.1) (filled_text f.1 h)

-- the first of these cells isn't shown
pub passed : (all rest following : List (Position × String Global)) (f : Position × String Global) (text : String Global)
    → nonempty_formulas (map formula_content rest) ≡ nonempty_formulas (map formula_content all)
    → rest ≡ f ∷ following → text ≡ f.1 → true ≡ (length (string_bytes text) == 0)
    → nonempty_formulas (map formula_content following) ≡ nonempty_formulas (map formula_content all)
passed all rest following f text had split is none =
    sym (displayed_after f following (no_bytes (string_bytes f.1) (none ∙ ap (λ (s : String Global). length (string_bytes s) == 0) is)))
    ∙ ap (λ (l : List (Position × String Global)). nonempty_formulas (map formula_content l)) (sym split) ∙ had
  where
    no_bytes : (bs : List ℕ) → true ≡ (length bs == 0) → bs ≡ []
    no_bytes [] e = refl
    no_bytes (b ∷ bs) e = grind arith

-- the first of these cells is shown
pub begun : (all rest following : List (Position × String Global)) (f : Position × String Global) (row column : ℕ) (text : List ℕ)
    → nonempty_formulas (map formula_content rest) ≡ nonempty_formulas (map formula_content all) → BeginsDisplayed rest
    → rest ≡ f ∷ following → (row, column) ≡ f.0 → text ≡ string_bytes f.1
    → nonempty_formulas (map formula_content all) ≡ ((row, column), chars text) ∷ nonempty_formulas (map formula_content following)
begun all rest following f row column text same begins split place is =
    sym same ∙ ap (λ (l : List (Position × String Global)). nonempty_formulas (map formula_content l)) split
    ∙ displayed_first f following (subst BeginsDisplayed split begins)
    ∙ ap (λ (p : Position). (p, text_of f.1) ∷ nonempty_formulas (map formula_content following)) (sym place)
    ∙ ap (λ (bs : List ℕ). ((row, column), chars bs) ∷ nonempty_formulas (map formula_content following)) (sym is)
