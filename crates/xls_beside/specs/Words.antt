-- For the contracts: the words for how a cell looks, as they are kept.
use Rattle.std.specs.Prelude.{◌≡◌}
use Rattle.std.specs.String.{string_bytes}
use Rattle.xls_styles.specs.Alignments.{alignment_text}
use Rattle.xls_styles.specs.Borders.{borders_text}
use Rattle.xls_styles.specs.Colors.{color_text}
use Rattle.xls_styles.specs.Fills.{fill_text}
use Rattle.xls_styles.specs.Marks.{cell_marks_text, font_marks_text}
use Rattle.xls_styles.specs.Styles.{CellStyle, FontStyle}
use Rattle.xls_beside.specs.declared.styles.FontWords.{FontWords}
use Rattle.xls_beside.specs.declared.styles.StyleWords.{StyleWords}

pub record AreStyleWords (s : CellStyle) (w : StyleWords) : Type 0 where
  pub marks : string_bytes w.marks ≡ cell_marks_text s.font.marks s.protection
  pub color : string_bytes w.color ≡ color_text s.font.color
  pub fill : string_bytes w.fill ≡ fill_text s.fill
  pub alignment : string_bytes w.alignment ≡ alignment_text s.alignment
  pub borders : string_bytes w.borders ≡ borders_text s.borders

pub record AreFontWords (f : FontStyle) (w : FontWords) : Type 0 where
  pub marks : string_bytes w.marks ≡ font_marks_text f.marks
  pub color : string_bytes w.color ≡ color_text f.color
