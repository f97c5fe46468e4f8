-- The lines around a cell and through it ([MS-XLS] BorderStyle, and grbitDiag of XF).
use Rattle.std.specs.Prelude.{ℕ, List, [], ◌∷◌, ◌++◌, ◌==◌, if◌then◌else◌, codes, Option, Some, None}
use Rattle.std.specs.Fmt.{decimal}
use Rattle.xls_record.specs.declared.version.Biff.{Biff}
use Rattle.xls_styles.specs.declared.borders.Border.{Border}
use Rattle.xls_styles.specs.declared.borders.Borders.{Borders}
use Rattle.xls_styles.specs.declared.borders.LineStyle.{LineStyle}
use Rattle.xls_styles.specs.declared.xfs.Line.{Line}
use Rattle.xls_styles.specs.declared.xfs.Xf.{Xf}
use Rattle.xls_styles.specs.Colors.{color_of, color_text}
use Rattle.xls_styles.specs.Texts.{words}

abbrev pub border_of : Biff → List ℕ → Line → Border
border_of version palette l = record { line = record { number = l.line }; color = color_of version palette l.color }

abbrev pub borders_of : Biff → List ℕ → Xf → Borders
borders_of version palette xf = record {
  left = border_of version palette xf.left;
  right = border_of version palette xf.right;
  top = border_of version palette xf.top;
  bottom = border_of version palette xf.bottom;
  diagonals = xf.diagonals;
  diagonal = border_of version palette xf.diagonal;
}

abbrev pub line_text : LineStyle → List ℕ
line_text l =
    if l.number == 1 then codes "thin"
    else if l.number == 2 then codes "medium"
    else if l.number == 3 then codes "dashed"
    else if l.number == 4 then codes "dotted"
    else if l.number == 5 then codes "thick"
    else if l.number == 6 then codes "double"
    else if l.number == 7 then codes "hair"
    else if l.number == 8 then codes "mediumDashed"
    else if l.number == 9 then codes "dashDot"
    else if l.number == 10 then codes "mediumDashDot"
    else if l.number == 11 then codes "dashDotDot"
    else if l.number == 12 then codes "mediumDashDotDot"
    else if l.number == 13 then codes "slantDashDot"
    else decimal l.number

-- a name, the line and its colour, where there is a line: 0 is none
abbrev pub border_word : List ℕ → Border → Option (List ℕ)
border_word name b =
    if b.line.number == 0 then None
    else Some (name ++ (0x3A ∷ (line_text b.line ++ (0x3A ∷ color_text b.color))))

-- 1 is the line down to the right, 2 that up to the right, 3 both
abbrev pub diagonal_name : ℕ → Option (List ℕ)
diagonal_name n =
    if n == 1 then Some (codes "down")
    else if n == 2 then Some (codes "up")
    else if n == 3 then Some (codes "cross")
    else None

abbrev pub diagonal_word_by : Option (List ℕ) → Border → Option (List ℕ)
diagonal_word_by None b = None
diagonal_word_by (Some name) b = border_word name b

abbrev pub borders_text : Borders → List ℕ
borders_text b = words (
    border_word (codes "left") b.left ∷ border_word (codes "right") b.right ∷ border_word (codes "top") b.top
    ∷ border_word (codes "bottom") b.bottom ∷ diagonal_word_by (diagonal_name b.diagonals) b.diagonal ∷ []
    )
