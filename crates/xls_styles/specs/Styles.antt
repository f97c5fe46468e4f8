-- How the cells of a workbook look, by the records of its globals.
use Rattle.std.specs.Prelude.{ℕ, List, [], false, Option, Some, None}
use Rattle.std.specs.List.{slice_get}
use Rattle.std.specs.Str.{chars}
use Rattle.xls_parts.specs.PartRecords.{Placed}
use Rattle.xls_record.specs.declared.version.Biff.{Biff}
use Rattle.xls_text.specs.declared.encoding.XlsEncoding.{XlsEncoding}
use Rattle.xls_styles.specs.declared.alignments.Alignment.{Alignment}
use Rattle.xls_styles.specs.declared.borders.Border.{Border}
use Rattle.xls_styles.specs.declared.borders.Borders.{Borders}
use Rattle.xls_styles.specs.declared.colors.Color.{Color}
use Rattle.xls_styles.specs.declared.colors.Color.TheVariants.{Auto}
use Rattle.xls_styles.specs.declared.damage.Damage.{Damage}
use Rattle.xls_styles.specs.declared.fills.Fill.{Fill}
use Rattle.xls_styles.specs.declared.fonts.FontMarks.{FontMarks}
use Rattle.xls_styles.specs.declared.marks.Protection.{Protection}
use Rattle.xls_styles.specs.declared.sizes.Size.{Size}
use Rattle.xls_styles.specs.declared.styles.CellStyle.{CellStyle as CellFields}
use Rattle.xls_styles.specs.declared.styles.FontStyle.{FontStyle as FontFields}
use Rattle.xls_styles.specs.declared.xfs.Xf.{Xf}
use Rattle.xls_styles.specs.Alignments.{alignment_of}
use Rattle.xls_styles.specs.Borders.{borders_of}
use Rattle.xls_styles.specs.Colors.{color_of, palette_of}
use Rattle.xls_styles.specs.Damages.{damages_of}
use Rattle.xls_styles.specs.Fills.{fill_of}
use Rattle.xls_styles.specs.Fonts.{Font, fonts_of, font_at, no_marks}
use Rattle.xls_styles.specs.Formats.{Format, formats_of, code_of}
use Rattle.xls_styles.specs.Marks.{protection_of}
use Rattle.xls_styles.specs.Xfs.{xfs_of}

-- ---- what the globals say

pub record Styles : Type 0 where
  pub version : Biff
  pub fonts : List Font
  pub xfs : List Xf
  pub formats : List Format
  pub palette : List ℕ
  pub damages : List Damage

abbrev pub styles_of : Biff → XlsEncoding → List Placed → Styles
styles_of version page records = record {
  version = version;
  fonts = fonts_of version page records;
  xfs = xfs_of version records;
  formats = formats_of version page records;
  palette = palette_of records;
  damages = damages_of version records;
}

abbrev pub color_in : Styles → ℕ → Color
color_in s icv = color_of s.version s.palette icv

-- ---- the font of an index

-- its marks, its name, its size if it has one, and its colour
pub record FontStyle : Type 0 where
  pub marks : FontMarks
  pub name : List ℕ
  pub size : Option Size
  pub color : Color

-- of one that isn't there
abbrev pub no_font : FontStyle
no_font = record { marks = no_marks; name = []; size = None; color = Auto }

abbrev pub font_style : Styles → Option Font → FontStyle
font_style s None = no_font
font_style s (Some f) = record {
  marks = f.marks;
  name = f.name;
  size = Some (record { twentieths = f.height });
  color = color_in s f.color;
}

abbrev pub font_of : Styles → ℕ → FontStyle
font_of s index = font_style s (font_at s.fonts index)

-- ---- the style of an index of XF

pub record CellStyle : Type 0 where
  pub font : FontStyle
  pub protection : Protection
  pub code : List ℕ
  pub fill : Fill
  pub alignment : Alignment
  pub borders : Borders

abbrev pub no_border : Border
no_border = record { line = record { number = 0 }; color = Auto }

-- of one that isn't there: nothing is told; 2 is the bottom
abbrev pub no_style : CellStyle
no_style = record {
  font = no_font;
  protection = record { is_unlocked = false; is_concealed = false };
  code = [];
  fill = record { pattern = 0; color = Auto; back = Auto };
  alignment = record { across = 0; down = 2; is_wrapped = false; is_shrunk = false; indent = 0; turn = 0 };
  borders = record { left = no_border; right = no_border; top = no_border; bottom = no_border; diagonals = 0; diagonal = no_border };
}

abbrev pub xf_style : Styles → Option Xf → CellStyle
xf_style s None = no_style
xf_style s (Some xf) = record {
  font = font_of s xf.font;
  protection = protection_of xf;
  code = code_of s.formats xf.format;
  fill = fill_of s.version s.palette xf;
  alignment = alignment_of xf;
  borders = borders_of s.version s.palette xf;
}

abbrev pub style_of : Styles → ℕ → CellStyle
style_of s xf = xf_style s (slice_get s.xfs xf)

-- ---- for the contracts

-- one as the code lends it
abbrev pub font_style_view : FontFields → FontStyle
font_style_view f = record { marks = f.marks; name = chars f.name.now; size = f.size; color = f.color }

abbrev pub style_view : CellFields → CellStyle
style_view c = record {
  font = font_style_view c.font;
  protection = c.protection;
  code = chars c.code.now;
  fill = c.fill;
  alignment = c.alignment;
  borders = c.borders;
}
