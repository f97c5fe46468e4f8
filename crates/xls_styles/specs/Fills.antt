-- What a cell is filled with: a pattern of two colours ([MS-XLS] FillPattern; fls of XF).
use Rattle.std.specs.Prelude.{ℕ, List, [], ◌∷◌, ◌++◌, ◌==◌, if◌then◌else◌}
use Rattle.std.specs.Fmt.{decimal}
use Rattle.xls_record.specs.declared.version.Biff.{Biff}
use Rattle.xls_styles.specs.declared.fills.Fill.{Fill}
use Rattle.xls_styles.specs.declared.xfs.Xf.{Xf}
use Rattle.xls_styles.specs.Colors.{color_of, color_text}

abbrev pub fill_of : Biff → List ℕ → Xf → Fill
fill_of version palette xf = record {
  pattern = xf.pattern;
  color = color_of version palette xf.color;
  back = color_of version palette xf.back;
}

-- Pattern 0 is none, and 1 all of one colour. Of the others the number, the colour of the pattern, and that of its background.
abbrev pub fill_text : Fill → List ℕ
fill_text f =
    if f.pattern == 0 then []
    else if f.pattern == 1 then color_text f.color
    else decimal f.pattern ++ (0x20 ∷ (color_text f.color ++ (0x20 ∷ color_text f.back)))
