-- The words for the marks of a font and for how a cell is protected.
use Rattle.std.specs.Prelude.{ℕ, List, [], ◌∷◌, ◌++◌, not, codes, Option, Some, None}
use Rattle.xls_styles.specs.declared.fonts.FontMarks.{FontMarks}
use Rattle.xls_styles.specs.declared.fonts.Script.{Script}
use Rattle.xls_styles.specs.declared.fonts.Script.TheVariants as scripts
use Rattle.xls_styles.specs.declared.fonts.Underline.{Underline}
use Rattle.xls_styles.specs.declared.fonts.Underline.TheVariants as underlines
use Rattle.xls_styles.specs.declared.marks.Protection.{Protection}
use Rattle.xls_styles.specs.declared.xfs.Xf.{Xf}
use Rattle.xls_styles.specs.Texts.{word_if, words}

abbrev pub underline_word : Underline → Option (List ℕ)
underline_word underlines.NoLine = None
underline_word underlines.Single = Some (codes "underline")
underline_word underlines.Double = Some (codes "double")

abbrev pub script_word : Script → Option (List ℕ)
script_word scripts.Normal = None
script_word scripts.Superscript = Some (codes "superscript")
script_word scripts.Subscript = Some (codes "subscript")

abbrev pub font_words : FontMarks → List (Option (List ℕ))
font_words m =
    word_if m.is_bold (codes "bold") ∷ word_if m.is_italic (codes "italic") ∷ word_if m.is_strike (codes "strike")
    ∷ underline_word m.underline ∷ script_word m.script ∷ []

-- in a protected sheet the cell may be edited, its formula isn't shown
abbrev pub protection_words : Protection → List (Option (List ℕ))
protection_words p = word_if p.is_unlocked (codes "unlocked") ∷ word_if p.is_concealed (codes "concealed") ∷ []

-- of a part of a text
abbrev pub font_marks_text : FontMarks → List ℕ
font_marks_text m = words (font_words m)

-- of a cell
abbrev pub cell_marks_text : FontMarks → Protection → List ℕ
cell_marks_text m p = words (font_words m ++ protection_words p)

abbrev pub protection_of : Xf → Protection
protection_of xf = record { is_unlocked = not xf.is_locked; is_concealed = xf.is_concealed }
