-- Font ([MS-XLS] 2.4.122), 15 bytes or more: dyHeight, the height in twentieths of a point, at 0; bits at 2; icv, the
-- colour, at 4; bls, the weight, at 6; sss at 8; uls, a byte, at 10; from 14 on the name, a short string.
use Rattle.std.specs.Prelude.{ℕ, List, [], ◌∷◌, drop, length, nat_lt, nat_le, ◌-◌, false, ◌==◌, ◌||◌, if◌then◌else◌, Option, None, Result, Ok, Err}
use Rattle.std.specs.List.{slice_get}
use Rattle.std.specs.Option.{option_map}
use Rattle.xls_parts.specs.PartRecords.{Placed}
use Rattle.xls_record.specs.declared.error.XlsError.{XlsError}
use Rattle.xls_record.specs.declared.version.Biff.{Biff}
use Rattle.xls_text.specs.declared.encoding.XlsEncoding.{XlsEncoding}
use Rattle.xls_strings.specs.Strings.{short_string_at}
use Rattle.xls_strings.specs.Texts.{text_of}
use Rattle.xls_styles.specs.declared.types.TheConstants.{FONT}
use Rattle.xls_styles.specs.declared.fonts.Font.{Font as FontFields}
use Rattle.xls_styles.specs.declared.fonts.FontMarks.{FontMarks}
use Rattle.xls_styles.specs.declared.fonts.Script.{Script}
use Rattle.xls_styles.specs.declared.fonts.Script.TheVariants as scripts
use Rattle.xls_styles.specs.declared.fonts.Underline.{Underline}
use Rattle.xls_styles.specs.declared.fonts.Underline.TheVariants as underlines
use Rattle.xls_styles.specs.Fields.{field_at, is_set}

-- sss: 1 is superscript, 2 subscript
abbrev pub script_of : ℕ → Script
script_of n = if n == 1 then scripts.Superscript else if n == 2 then scripts.Subscript else scripts.Normal

-- uls: 01 and 21 are a single line, 02 and 22 a double one
abbrev pub underline_of : ℕ → Underline
underline_of n =
    if (n == 0x01) || (n == 0x21) then underlines.Single
    else if (n == 0x02) || (n == 0x22) then underlines.Double
    else underlines.NoLine

-- bold is a weight of 600 or more; fItalic is bit 0002 at 2, fStrikeOut bit 0008
abbrev pub marks_at : List ℕ → FontMarks
marks_at body = record {
  is_bold = nat_le 600 (field_at (6, 0, 16) body);
  is_italic = is_set (2, 1, 1) body;
  is_strike = is_set (2, 3, 1) body;
  underline = underline_of (field_at (10, 0, 8) body);
  script = script_of (field_at (8, 0, 16) body);
}

abbrev pub no_marks : FontMarks
no_marks = record {
  is_bold = false;
  is_italic = false;
  is_strike = false;
  underline = underlines.NoLine;
  script = scripts.Normal;
}

-- ---- fonts

pub record Font : Type 0 where
  pub height : ℕ
  pub color : ℕ
  pub marks : FontMarks
  pub name : List ℕ

-- a text that is refused is empty
abbrev pub or_empty : Result (List ℕ) XlsError → List ℕ
or_empty (Ok text) = text
or_empty (Err e) = []

-- a damaged one: of size 0, in the colour of the system
abbrev pub damaged_font : Font
damaged_font = record { height = 0; color = 0x7FFF; marks = no_marks; name = [] }

abbrev pub font_of : Biff → XlsEncoding → List ℕ → Font
font_of version page body =
    if nat_lt (length body) 15 then damaged_font
    else record {
      height = field_at (0, 0, 16) body;
      color = field_at (4, 0, 16) body;
      marks = marks_at body;
      name = or_empty (short_string_at page version (drop 14 body));
    }

-- of the records of the globals, in order
abbrev pub fonts_of : Biff → XlsEncoding → List Placed → List Font
fonts_of version page [] = []
fonts_of version page (r ∷ rs) =
    if r.typ == FONT then font_of version page r.body ∷ fonts_of version page rs else fonts_of version page rs

-- the font of an index (2.5.129 FontIndex): 0 to 3 are the first four, 4 is none, 5 is the fifth
abbrev pub font_at : List Font → ℕ → Option Font
font_at fonts index =
    if index == 4 then None
    else if nat_lt index 4 then slice_get fonts index
    else slice_get fonts (index - 1)

-- ---- for the contracts

-- one as the code keeps it
abbrev pub font_view : FontFields → Font
font_view f = record { height = f.height; color = f.color; marks = f.marks; name = text_of f.name }

abbrev pub font_view_if : Option FontFields → Option Font
font_view_if font = option_map font_view font
