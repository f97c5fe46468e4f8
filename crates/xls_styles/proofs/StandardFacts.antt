-- Known values, in the bytes of records, so that a wrong rule in the definitions does not check.
use Rattle.std.proofs.Common.{◌≡◌, ℕ, ◌-◌, ◌*◌, ◌^◌, List, [], ◌∷◌, ◌++◌, map, replicate, refl, Bool, true, false, Some, None, codes, take}
use Rattle.std.specs.Fmt.{digits}
use Rattle.std.specs.List.{range_with_len}
use Rattle.xls_bytes.specs.Numbers.{le16}
use Rattle.xls_parts.specs.PartRecords.{Placed}
use Rattle.xls_record.specs.declared.version.Biff.TheVariants.{Biff5, Biff8}
use Rattle.xls_stream.specs.declared.types.TheConstants as streams
use Rattle.xls_text.specs.declared.encoding.XlsEncoding.TheVariants.{Windows1252}
use Rattle.xls_styles.specs.declared.alignments.Alignment.{Alignment}
use Rattle.xls_styles.specs.declared.borders.Border.{Border}
use Rattle.xls_styles.specs.declared.borders.Borders.{Borders}
use Rattle.xls_styles.specs.declared.colors.Color.{Color}
use Rattle.xls_styles.specs.declared.colors.Color.TheVariants.{Auto, Rgb}
use Rattle.xls_styles.specs.declared.damage.Damage.{Damage}
use Rattle.xls_styles.specs.declared.damage.DamagedRecord.TheVariants as names
use Rattle.xls_styles.specs.declared.damage.Flaw.TheVariants.{Short}
use Rattle.xls_styles.specs.declared.fills.Fill.{Fill}
use Rattle.xls_styles.specs.declared.fonts.FontMarks.{FontMarks}
use Rattle.xls_styles.specs.declared.fonts.Script.{Script}
use Rattle.xls_styles.specs.declared.fonts.Script.TheVariants as scripts
use Rattle.xls_styles.specs.declared.fonts.Underline.{Underline}
use Rattle.xls_styles.specs.declared.fonts.Underline.TheVariants as underlines
use Rattle.xls_styles.specs.declared.types.TheConstants as types
use Rattle.xls_styles.specs.declared.xfs.Line.{Line}
use Rattle.xls_styles.specs.declared.xfs.Xf.{Xf}
use Rattle.xls_styles.specs.Alignments.{across_word, down_word, alignment_text}
use Rattle.xls_styles.specs.Borders.{line_text, diagonal_name, borders_text}
use Rattle.xls_styles.specs.Colors.{color_of, color_text, palette_of, record_colors}
use Rattle.xls_styles.specs.Damages.{damages_of}
use Rattle.xls_styles.specs.Fields.{Field}
use Rattle.xls_styles.specs.Fills.{fill_text}
use Rattle.xls_styles.specs.Fonts.{Font, font_of, font_at, marks_at, script_of, underline_of, no_marks}
use Rattle.xls_styles.specs.Formats.{last_code, told_code}
use Rattle.xls_styles.specs.Marks.{cell_marks_text, font_marks_text}
use Rattle.xls_styles.specs.Sizes.{size_text}
use Rattle.xls_styles.specs.Texts.{flaw_text, record_text}
use Rattle.xls_styles.specs.Xfs.{Layout, layout_of_biff8, layout_before_biff8, xf_of}

-- the numbers of the record types
pub known_types : types.FONT ∷ types.PALETTE ∷ streams.XF ∷ streams.FORMAT ∷ [] ≡ 0x31 ∷ 0x92 ∷ 0xE0 ∷ 0x41E ∷ []
known_types = refl

-- ---- fonts

-- 14 points, colour 0A, in all ways, of the name Ab
abbrev font_body : List ℕ
font_body = 0x18 ∷ 0x01 ∷ 0x0A ∷ 0x00 ∷ 0x0A ∷ 0x00 ∷ 0xBC ∷ 0x02 ∷ 0x02 ∷ 0x00 ∷ 0x22 ∷ 0x01 ∷ 0x00 ∷ 0x00 ∷ 0x02 ∷ 0x00 ∷ 0x41 ∷ 0x62 ∷ []

-- two bytes at 2, at 6 and at 8, one at 10
abbrev marked : ℕ → ℕ → ℕ → ℕ → List ℕ
marked flags weight script underline = 0x00 ∷ 0x00 ∷ le16 flags ++ 0x00 ∷ 0x00 ∷ le16 weight ++ le16 script ++ underline ∷ 0x00 ∷ 0x00 ∷ 0x00 ∷ 0x00 ∷ []

abbrev marks : Bool → Bool → Bool → Underline → Script → FontMarks
marks bold italic strike underline script = record { is_bold = bold; is_italic = italic; is_strike = strike; underline = underline; script = script }

pub known_font : font_of Biff8 Windows1252 font_body ≡ record {
  height = 280;
  color = 0x0A;
  marks = marks true true true underlines.Double scripts.Subscript;
  name = codes "Ab";
}
known_font = refl

-- of 14 bytes
pub known_damaged_font : font_of Biff8 Windows1252 (take 14 font_body) ≡ record { height = 0; color = 0x7FFF; marks = no_marks; name = [] }
known_damaged_font = refl

-- a mask for each bit of 16: 0002 is italic, 0008 strike
pub known_font_bits : map (λ flags. marks_at (marked flags 0 0 0))
    (0x0001 ∷ 0x0002 ∷ 0x0004 ∷ 0x0008 ∷ 0x0010 ∷ 0x0020 ∷ 0x0040 ∷ 0x0080 ∷ 0x0100 ∷ 0x0200 ∷ 0x0400 ∷ 0x0800 ∷ 0x1000 ∷ 0x2000 ∷ 0x4000 ∷ 0x8000 ∷ [])
    ≡ no_marks ∷ marks false true false underlines.NoLine scripts.Normal ∷ no_marks ∷ marks false false true underlines.NoLine scripts.Normal ∷ replicate 12 no_marks
known_font_bits = refl

pub known_weights : map (λ weight. marks_at (marked 0 weight 0 0)) (0 ∷ 400 ∷ 599 ∷ 600 ∷ 700 ∷ 1000 ∷ [])
    ≡ no_marks ∷ no_marks ∷ no_marks ∷ replicate 3 (marks true false false underlines.NoLine scripts.Normal)
known_weights = refl

pub known_scripts : map script_of (0 ∷ 1 ∷ 2 ∷ 3 ∷ 0x0101 ∷ []) ≡ scripts.Normal ∷ scripts.Superscript ∷ scripts.Subscript ∷ scripts.Normal ∷ scripts.Normal ∷ []
known_scripts = refl

pub known_underlines : map underline_of (0x00 ∷ 0x01 ∷ 0x02 ∷ 0x03 ∷ 0x15 ∷ 0x16 ∷ 0x20 ∷ 0x21 ∷ 0x22 ∷ 0x23 ∷ 0xFF ∷ [])
    ≡ underlines.NoLine ∷ underlines.Single ∷ underlines.Double ∷ underlines.NoLine ∷ underlines.NoLine ∷ underlines.NoLine ∷ underlines.NoLine
    ∷ underlines.Single ∷ underlines.Double ∷ underlines.NoLine ∷ underlines.NoLine ∷ []
known_underlines = refl

abbrev named : ℕ → Font
named letter = record { height = 200; color = 0x7FFF; marks = no_marks; name = letter ∷ [] }

-- font 4 doesn't exist, and 5 is the fifth
pub known_indices : map (font_at (map named (0x41 ∷ 0x42 ∷ 0x43 ∷ 0x44 ∷ 0x45 ∷ 0x46 ∷ []))) (0 ∷ 1 ∷ 2 ∷ 3 ∷ 4 ∷ 5 ∷ 6 ∷ 7 ∷ 0xFFFF ∷ [])
    ≡ map Some (map named (0x41 ∷ 0x42 ∷ 0x43 ∷ 0x44 ∷ [])) ++ None ∷ map Some (map named (0x45 ∷ 0x46 ∷ [])) ++ None ∷ None ∷ []
known_indices = refl

-- ---- XF

-- the place of a field's number, and its bits in it
abbrev mask : Field → ℕ × ℕ
mask f = (f.0, (2 ^ f.2 - 1) * 2 ^ f.1)

abbrev fields : Layout → List Field
fields l =
    l.font ∷ l.format ∷ l.locked ∷ l.concealed ∷ l.across ∷ l.wrap ∷ l.down ∷ l.turn ∷ l.indent ∷ l.shrink
    ∷ l.left ∷ l.right ∷ l.top ∷ l.bottom ∷ l.left_color ∷ l.right_color ∷ l.top_color ∷ l.bottom_color
    ∷ l.diagonals ∷ l.diagonal ∷ l.diagonal_color ∷ l.pattern ∷ l.color ∷ l.back ∷ []

pub known_fields : map mask (fields layout_of_biff8)
    ≡ (0, 0xFFFF) ∷ (2, 0xFFFF) ∷ (4, 0x1) ∷ (4, 0x2) ∷ (6, 0x7) ∷ (6, 0x8) ∷ (6, 0x70) ∷ (7, 0xFF) ∷ (8, 0xF) ∷ (8, 0x10)
    ∷ (10, 0xF) ∷ (10, 0xF0) ∷ (10, 0xF00) ∷ (10, 0xF000) ∷ (10, 0x7F0000) ∷ (10, 0x3F800000) ∷ (14, 0x7F) ∷ (14, 0x3F80)
    ∷ (10, 0xC0000000) ∷ (14, 0x1E00000) ∷ (14, 0x1FC000) ∷ (14, 0xFC000000) ∷ (18, 0x7F) ∷ (18, 0x3F80) ∷ []
known_fields = refl

pub known_fields_before : map mask (fields layout_before_biff8)
    ≡ (0, 0xFFFF) ∷ (2, 0xFFFF) ∷ (4, 0x1) ∷ (4, 0x2) ∷ (6, 0x7) ∷ (6, 0x8) ∷ (6, 0x70) ∷ (7, 0x3) ∷ (0, 0x0) ∷ (0, 0x0)
    ∷ (12, 0x38) ∷ (12, 0x1C0) ∷ (12, 0x7) ∷ (8, 0x1C00000) ∷ (12, 0x7F0000) ∷ (12, 0x3F800000) ∷ (12, 0xFE00) ∷ (8, 0xFE000000)
    ∷ (0, 0x0) ∷ (0, 0x0) ∷ (0, 0x0) ∷ (8, 0x3F0000) ∷ (8, 0x7F) ∷ (8, 0x3F80) ∷ []
known_fields_before = refl

abbrev line : ℕ → ℕ → Line
line n color = record { line = n; color = color }

-- all fields of a body, and of one in which each bit is the other
pub known_biff8 : xf_of Biff8 (0x4D ∷ 0x85 ∷ 0x33 ∷ 0xA7 ∷ 0x56 ∷ 0x0D ∷ 0xD2 ∷ 0xD0 ∷ 0x26 ∷ 0x34 ∷ 0x40 ∷ 0xA3 ∷ 0xF2 ∷ 0xE6 ∷ 0xD2 ∷ 0x6A ∷ 0x66 ∷ 0xA2 ∷ 0xAB ∷ 0xA8 ∷ []) ≡ record {
  font = 0x854D;
  format = 0xA733;
  is_locked = false;
  is_concealed = true;
  across = 0x02;
  is_wrapped = false;
  down = 0x05;
  turn = 0xD0;
  indent = 0x06;
  is_shrunk = false;
  left = line 0x0 0x72;
  right = line 0x4 0x4D;
  top = line 0x3 0x52;
  bottom = line 0xA 0x55;
  diagonals = 0x03;
  diagonal = line 0x3 0x19;
  pattern = 0x28;
  color = 0x2B;
  back = 0x51;
}
known_biff8 = refl

pub known_biff8_inverse : xf_of Biff8 (0xB2 ∷ 0x7A ∷ 0xCC ∷ 0x58 ∷ 0xA9 ∷ 0xF2 ∷ 0x2D ∷ 0x2F ∷ 0xD9 ∷ 0xCB ∷ 0xBF ∷ 0x5C ∷ 0x0D ∷ 0x19 ∷ 0x2D ∷ 0x95 ∷ 0x99 ∷ 0x5D ∷ 0x54 ∷ 0x57 ∷ []) ≡ record {
  font = 0x7AB2;
  format = 0x58CC;
  is_locked = true;
  is_concealed = false;
  across = 0x05;
  is_wrapped = true;
  down = 0x02;
  turn = 0x2F;
  indent = 0x09;
  is_shrunk = true;
  left = line 0xF 0x0D;
  right = line 0xB 0x32;
  top = line 0xC 0x2D;
  bottom = line 0x5 0x2A;
  diagonals = 0x00;
  diagonal = line 0xC 0x66;
  pattern = 0x17;
  color = 0x54;
  back = 0x2E;
}
known_biff8_inverse = refl

pub known_biff5 : xf_of Biff5 (0xDA ∷ 0x2F ∷ 0xFB ∷ 0xCF ∷ 0x29 ∷ 0x69 ∷ 0x7C ∷ 0x11 ∷ 0x67 ∷ 0x30 ∷ 0x2A ∷ 0x61 ∷ 0x81 ∷ 0x91 ∷ 0x9C ∷ 0x83 ∷ []) ≡ record {
  font = 0x2FDA;
  format = 0xCFFB;
  is_locked = true;
  is_concealed = false;
  across = 0x04;
  is_wrapped = true;
  down = 0x07;
  turn = 0xFF;
  indent = 0x00;
  is_shrunk = false;
  left = line 0x0 0x1C;
  right = line 0x6 0x07;
  top = line 0x1 0x48;
  bottom = line 0x4 0x30;
  diagonals = 0x00;
  diagonal = line 0x0 0x00;
  pattern = 0x2A;
  color = 0x67;
  back = 0x60;
}
known_biff5 = refl

pub known_biff5_inverse : xf_of Biff5 (0x25 ∷ 0xD0 ∷ 0x04 ∷ 0x30 ∷ 0xD6 ∷ 0x96 ∷ 0x83 ∷ 0xEE ∷ 0x98 ∷ 0xCF ∷ 0xD5 ∷ 0x9E ∷ 0x7E ∷ 0x6E ∷ 0x63 ∷ 0x7C ∷ []) ≡ record {
  font = 0xD025;
  format = 0x3004;
  is_locked = false;
  is_concealed = true;
  across = 0x03;
  is_wrapped = false;
  down = 0x00;
  turn = 0x5A;
  indent = 0x00;
  is_shrunk = false;
  left = line 0x7 0x63;
  right = line 0x1 0x78;
  top = line 0x6 0x37;
  bottom = line 0x3 0x4F;
  diagonals = 0x00;
  diagonal = line 0x0 0x00;
  pattern = 0x15;
  color = 0x18;
  back = 0x1F;
}
known_biff5_inverse = refl

abbrev turn_by : ℕ → ℕ
turn_by b = (xf_of Biff5 (0 ∷ 0 ∷ 0 ∷ 0 ∷ 0 ∷ 0 ∷ 0 ∷ b ∷ [])).turn

-- the turns before BIFF8
pub known_turns : map turn_by (0 ∷ 1 ∷ 2 ∷ 3 ∷ 4 ∷ 0xFF ∷ []) ≡ 0 ∷ 255 ∷ 90 ∷ 180 ∷ 0 ∷ 180 ∷ []
known_turns = refl

abbrev no_lines : ℕ → ℕ → Bool → ℕ → ℕ → Xf
no_lines font format locked across turn = record {
  font = font;
  format = format;
  is_locked = locked;
  is_concealed = false;
  across = across;
  is_wrapped = false;
  down = 0;
  turn = turn;
  indent = 0;
  is_shrunk = false;
  left = line 0 0;
  right = line 0 0;
  top = line 0 0;
  bottom = line 0 0;
  diagonals = 0;
  diagonal = line 0 0;
  pattern = 0;
  color = 0;
  back = 0;
}

-- what isn't there counts as 0
pub known_short : map (xf_of Biff8) ([] ∷ (0x07 ∷ []) ∷ (0x07 ∷ 0x01 ∷ 0x0E ∷ 0x00 ∷ 0x01 ∷ 0x00 ∷ 0x03 ∷ 0x2D ∷ []) ∷ [])
    ≡ no_lines 0 0 false 0 0 ∷ no_lines 7 0 false 0 0 ∷ no_lines 0x0107 14 true 3 45 ∷ []
known_short = refl

-- ---- colours

-- each number that stands in the palette, of BIFF8
pub known_colors : map (color_of Biff8 []) (range_with_len 0 64) ≡ map Rgb (
    0x000000 ∷ 0xffffff ∷ 0xff0000 ∷ 0x00ff00 ∷ 0x0000ff ∷ 0xffff00 ∷ 0xff00ff ∷ 0x00ffff
    ∷ 0x000000 ∷ 0xffffff ∷ 0xff0000 ∷ 0x00ff00 ∷ 0x0000ff ∷ 0xffff00 ∷ 0xff00ff ∷ 0x00ffff
    ∷ 0x800000 ∷ 0x008000 ∷ 0x000080 ∷ 0x808000 ∷ 0x800080 ∷ 0x008080 ∷ 0xc0c0c0 ∷ 0x808080
    ∷ 0x9999ff ∷ 0x993366 ∷ 0xffffcc ∷ 0xccffff ∷ 0x660066 ∷ 0xff8080 ∷ 0x0066cc ∷ 0xccccff
    ∷ 0x000080 ∷ 0xff00ff ∷ 0xffff00 ∷ 0x00ffff ∷ 0x800080 ∷ 0x800000 ∷ 0x008080 ∷ 0x0000ff
    ∷ 0x00ccff ∷ 0xccffff ∷ 0xccffcc ∷ 0xffff99 ∷ 0x99ccff ∷ 0xff99cc ∷ 0xcc99ff ∷ 0xffcc99
    ∷ 0x3366ff ∷ 0x33cccc ∷ 0x99cc00 ∷ 0xffcc00 ∷ 0xff9900 ∷ 0xff6600 ∷ 0x666699 ∷ 0x969696
    ∷ 0x003366 ∷ 0x339966 ∷ 0x003300 ∷ 0x333300 ∷ 0x993300 ∷ 0x993366 ∷ 0x333399 ∷ 0x333333 ∷ []
    )
known_colors = refl

-- and before it
pub known_colors_before : map (color_of Biff5 []) (range_with_len 0 64) ≡ map Rgb (
    0x000000 ∷ 0xffffff ∷ 0xff0000 ∷ 0x00ff00 ∷ 0x0000ff ∷ 0xffff00 ∷ 0xff00ff ∷ 0x00ffff
    ∷ 0x000000 ∷ 0xffffff ∷ 0xff0000 ∷ 0x00ff00 ∷ 0x0000ff ∷ 0xffff00 ∷ 0xff00ff ∷ 0x00ffff
    ∷ 0x800000 ∷ 0x008000 ∷ 0x000080 ∷ 0x808000 ∷ 0x800080 ∷ 0x008080 ∷ 0xc0c0c0 ∷ 0x808080
    ∷ 0x8080ff ∷ 0x802060 ∷ 0xffffc0 ∷ 0xa0e0e0 ∷ 0x600080 ∷ 0xff8080 ∷ 0x0080c0 ∷ 0xc0c0ff
    ∷ 0x000080 ∷ 0xff00ff ∷ 0xffff00 ∷ 0x00ffff ∷ 0x800080 ∷ 0x800000 ∷ 0x008080 ∷ 0x0000ff
    ∷ 0x00cfff ∷ 0x69ffff ∷ 0xe0ffe0 ∷ 0xffff80 ∷ 0xa6caf0 ∷ 0xdd9cb3 ∷ 0xb38fee ∷ 0xe3e3e3
    ∷ 0x2a6ff9 ∷ 0x3fb8cd ∷ 0x488436 ∷ 0x958c41 ∷ 0x8e5e42 ∷ 0xa0627a ∷ 0x624fac ∷ 0x969696
    ∷ 0x1d2fbe ∷ 0x286676 ∷ 0x004500 ∷ 0x453e01 ∷ 0x6a2813 ∷ 0x85396a ∷ 0x4a3285 ∷ 0x424242 ∷ []
    )
known_colors_before = refl

-- all others are the system's
pub known_others : map (color_of Biff8 (replicate 56 0)) (0x40 ∷ 0x41 ∷ 0x48 ∷ 0x7F ∷ 0x7FFF ∷ 0xFFFF ∷ []) ≡ replicate 6 Auto
known_others = refl

abbrev palette_body : List ℕ
palette_body = 0x03 ∷ 0x00 ∷ 0x01 ∷ 0x02 ∷ 0x03 ∷ 0x00 ∷ 0x04 ∷ 0x05 ∷ 0x06 ∷ 0xFF ∷ 0x07 ∷ 0x08 ∷ 0x09 ∷ []

-- the whole ones that are there, and no more than the count says
pub known_palettes : map record_colors ([] ∷ (0x05 ∷ []) ∷ palette_body ∷ (0x01 ∷ 0x00 ∷ 0x01 ∷ 0x02 ∷ 0x03 ∷ 0x00 ∷ 0x04 ∷ 0x05 ∷ 0x06 ∷ 0x00 ∷ []) ∷ [])
    ≡ [] ∷ [] ∷ (0x010203 ∷ 0x040506 ∷ []) ∷ (0x010203 ∷ []) ∷ []
known_palettes = refl

-- 56 at most
pub known_longest : record_colors (0x39 ∷ 0x00 ∷ replicate 228 0x01) ≡ replicate 56 0x010101
known_longest = refl

-- colours 8 and 9 by the record, and not 0 to 7
pub known_replaced : map (color_of Biff8 (record_colors palette_body)) (0x00 ∷ 0x01 ∷ 0x07 ∷ 0x08 ∷ 0x09 ∷ 0x0A ∷ [])
    ≡ Rgb 0x000000 ∷ Rgb 0xFFFFFF ∷ Rgb 0x00FFFF ∷ Rgb 0x010203 ∷ Rgb 0x040506 ∷ Rgb 0xFF0000 ∷ []
known_replaced = refl

abbrev placed : ℕ → ℕ → List ℕ → Placed
placed offset typ body = record { offset = offset; typ = typ; body = body }

-- the last record counts
pub known_last : palette_of (placed 0 0x92 palette_body ∷ placed 20 0x92 (0x01 ∷ 0x00 ∷ 0x11 ∷ 0x12 ∷ 0x13 ∷ 0x00 ∷ []) ∷ placed 40 0x93 palette_body ∷ []) ≡ 0x111213 ∷ []
known_last = refl

pub known_color_texts : map color_text (Auto ∷ Rgb 0x000000 ∷ Rgb 0x00ABCD ∷ Rgb 0xFFFFFF ∷ []) ≡ codes "auto" ∷ codes "#000000" ∷ codes "#00abcd" ∷ codes "#ffffff" ∷ []
unfolding digits
known_color_texts = refl

-- ---- codes

pub known_codes : map told_code (0 ∷ 1 ∷ 2 ∷ 3 ∷ 4 ∷ 5 ∷ 6 ∷ 7 ∷ 8 ∷ 9 ∷ 10 ∷ 11 ∷ 12 ∷ 13 ∷ 14 ∷ 15 ∷ 16 ∷ 17 ∷ 18 ∷ 19 ∷ 20 ∷ 21 ∷ 22 ∷ [])
    ≡ codes "General" ∷ codes "0" ∷ codes "0.00" ∷ codes "#,##0" ∷ codes "#,##0.00" ∷ codes "$#,##0_);($#,##0)" ∷ codes "$#,##0_);[Red]($#,##0)" ∷ codes "$#,##0.00_);($#,##0.00)" ∷ codes "$#,##0.00_);[Red]($#,##0.00)" ∷ codes "0%" ∷ codes "0.00%" ∷ codes "0.00E+00" ∷ codes "# ?/?" ∷ codes "# ??/??" ∷ codes "m/d/yy" ∷ codes "d-mmm-yy" ∷ codes "d-mmm" ∷ codes "mmm-yy" ∷ codes "h:mm AM/PM" ∷ codes "h:mm:ss AM/PM" ∷ codes "h:mm" ∷ codes "h:mm:ss" ∷ codes "m/d/yy h:mm" ∷ []
known_codes = refl

pub known_codes_of_languages : map told_code (23 ∷ 24 ∷ 25 ∷ 26 ∷ 27 ∷ 28 ∷ 29 ∷ 30 ∷ 31 ∷ 32 ∷ 33 ∷ 34 ∷ 35 ∷ 36 ∷ [])
    ≡ codes "General" ∷ codes "General" ∷ codes "General" ∷ codes "General" ∷ codes "" ∷ codes "" ∷ codes "" ∷ codes "" ∷ codes "" ∷ codes "" ∷ codes "" ∷ codes "" ∷ codes "" ∷ codes "" ∷ []
known_codes_of_languages = refl

pub known_later_codes : map told_code (37 ∷ 38 ∷ 39 ∷ 40 ∷ 41 ∷ 42 ∷ 43 ∷ 44 ∷ 45 ∷ 46 ∷ 47 ∷ 48 ∷ 49 ∷ 50 ∷ 51 ∷ 52 ∷ 53 ∷ 54 ∷ 55 ∷ 56 ∷ 57 ∷ 58 ∷ 59 ∷ 163 ∷ 164 ∷ 65535 ∷ [])
    ≡ codes "#,##0_);(#,##0)" ∷ codes "#,##0_);[Red](#,##0)" ∷ codes "#,##0.00_);(#,##0.00)" ∷ codes "#,##0.00_);[Red](#,##0.00)" ∷ codes "_(* #,##0_);_(* (#,##0);_(* \"-\"_);_(@_)" ∷ codes "_($* #,##0_);_($* (#,##0);_($* \"-\"_);_(@_)" ∷ codes "_(* #,##0.00_);_(* (#,##0.00);_(* \"-\"??_);_(@_)" ∷ codes "_($* #,##0.00_);_($* (#,##0.00);_($* \"-\"??_);_(@_)" ∷ codes "mm:ss" ∷ codes "[h]:mm:ss" ∷ codes "mm:ss.0" ∷ codes "##0.0E+0" ∷ codes "@" ∷ codes "" ∷ codes "" ∷ codes "" ∷ codes "" ∷ codes "" ∷ codes "" ∷ codes "" ∷ codes "" ∷ codes "" ∷ codes "General" ∷ codes "General" ∷ codes "General" ∷ codes "General" ∷ []
known_later_codes = refl

-- the last format of an identifier
pub known_last_code : map (last_code ((164, codes "a") ∷ (14, codes "b") ∷ (164, codes "c") ∷ [])) (14 ∷ 164 ∷ 165 ∷ []) ≡ Some (codes "b") ∷ Some (codes "c") ∷ None ∷ []
known_last_code = refl

-- ---- words

pub known_marks : cell_marks_text (marks true true true underlines.Single scripts.Superscript) (record { is_unlocked = true; is_concealed = true })
    ≡ codes "bold italic strike underline superscript unlocked concealed"
known_marks = refl

pub known_font_marks : map font_marks_text (no_marks ∷ marks false true false underlines.Double scripts.Subscript ∷ []) ≡ [] ∷ codes "italic double subscript" ∷ []
known_font_marks = refl

pub known_across : map across_word (range_with_len 0 9)
    ≡ None ∷ map Some (codes "left" ∷ codes "center" ∷ codes "right" ∷ codes "fill" ∷ codes "justify" ∷ codes "centerContinuous" ∷ codes "distributed" ∷ []) ++ None ∷ []
known_across = refl

pub known_down : map down_word (range_with_len 0 8) ≡ Some (codes "top") ∷ Some (codes "center") ∷ None ∷ Some (codes "justify") ∷ Some (codes "distributed") ∷ None ∷ None ∷ None ∷ []
known_down = refl

abbrev aligned : ℕ → ℕ → Bool → Bool → ℕ → ℕ → Alignment
aligned across down wrapped shrunk indent turn = record {
  across = across;
  down = down;
  is_wrapped = wrapped;
  is_shrunk = shrunk;
  indent = indent;
  turn = turn;
}

pub known_alignments : map alignment_text (aligned 0 2 false false 0 0 ∷ aligned 3 1 true false 2 45 ∷ aligned 4 2 false true 15 180 ∷ aligned 0 0 true true 0 255 ∷ [])
    ≡ [] ∷ codes "right center wrap indent:2 turn:45" ∷ codes "fill shrink indent:15 turn:180" ∷ codes "top wrap shrink turn:255" ∷ []
unfolding digits
known_alignments = refl

pub known_lines : map (λ n. line_text (record { number = n })) (range_with_len 1 15)
    ≡ codes "thin" ∷ codes "medium" ∷ codes "dashed" ∷ codes "dotted" ∷ codes "thick" ∷ codes "double" ∷ codes "hair" ∷ codes "mediumDashed" ∷ codes "dashDot"
    ∷ codes "mediumDashDot" ∷ codes "dashDotDot" ∷ codes "mediumDashDotDot" ∷ codes "slantDashDot" ∷ codes "14" ∷ codes "15" ∷ []
unfolding digits
known_lines = refl

pub known_diagonals : map diagonal_name (range_with_len 0 5) ≡ None ∷ Some (codes "down") ∷ Some (codes "up") ∷ Some (codes "cross") ∷ None ∷ []
known_diagonals = refl

abbrev border : ℕ → Color → Border
border n color = record { line = record { number = n }; color = color }

abbrev diagonal : ℕ → Border → Borders
diagonal which b = record { left = border 0 Auto; right = border 0 Auto; top = border 0 Auto; bottom = border 0 Auto; diagonals = which; diagonal = b }

pub known_borders : borders_text (record {
  left = border 1 (Rgb 0x000000);
  right = border 2 (Rgb 0xFF0000);
  top = border 0 (Rgb 0x00FF00);
  bottom = border 14 Auto;
  diagonals = 3;
  diagonal = border 7 (Rgb 0x00ABCD);
}) ≡ codes "left:thin:#000000 right:medium:#ff0000 bottom:14:auto cross:hair:#00abcd"
unfolding digits
known_borders = refl

-- a diagonal without a line, and a line of none
pub known_no_borders : map borders_text (diagonal 1 (border 0 Auto) ∷ diagonal 0 (border 1 Auto) ∷ []) ≡ [] ∷ [] ∷ []
known_no_borders = refl

abbrev filled : ℕ → Fill
filled pattern = record { pattern = pattern; color = Rgb 0xFF0000; back = Auto }

pub known_fills : map fill_text (map filled (0 ∷ 1 ∷ 4 ∷ 63 ∷ [])) ≡ [] ∷ codes "#ff0000" ∷ codes "4 #ff0000 auto" ∷ codes "63 #ff0000 auto" ∷ []
unfolding digits
known_fills = refl

pub known_sizes : map (λ n. size_text (record { twentieths = n })) (0 ∷ 1 ∷ 2 ∷ 10 ∷ 19 ∷ 200 ∷ 201 ∷ 205 ∷ 210 ∷ 8180 ∷ 65535 ∷ [])
    ≡ codes "0" ∷ codes "0.05" ∷ codes "0.1" ∷ codes "0.5" ∷ codes "0.95" ∷ codes "10" ∷ codes "10.05" ∷ codes "10.25" ∷ codes "10.5" ∷ codes "409" ∷ codes "3276.75" ∷ []
unfolding digits
known_sizes = refl

-- ---- damage

abbrev damage : ℕ → ℕ → ℕ → Damage
damage offset least found = record { record_name = names.Font; offset = offset; flaw = Short least found }

abbrev xf_damage : ℕ → ℕ → ℕ → Damage
xf_damage offset least found = record { record_name = names.Xf; offset = offset; flaw = Short least found }

abbrev some_records : List Placed
some_records = placed 8 0x31 (replicate 14 0) ∷ placed 26 0xE0 (replicate 19 0) ∷ placed 49 0x31 (replicate 15 0) ∷ placed 68 0xE0 (replicate 15 0) ∷ placed 87 0xE0 (replicate 20 0) ∷ placed 111 0xE0 [] ∷ placed 115 0x92 [] ∷ []

pub known_damages : damages_of Biff8 some_records ≡ damage 8 15 14 ∷ xf_damage 26 20 19 ∷ xf_damage 68 20 15 ∷ xf_damage 111 20 0 ∷ []
known_damages = refl

pub known_damages_before : damages_of Biff5 some_records ≡ damage 8 15 14 ∷ xf_damage 68 16 15 ∷ xf_damage 111 16 0 ∷ []
known_damages_before = refl

pub known_sentences : map record_text (names.Font ∷ names.Xf ∷ []) ++ flaw_text (Short 15 14) ∷ flaw_text (Short 20 0) ∷ []
    ≡ codes "Font" ∷ codes "XF" ∷ codes "shorter than 15 bytes: 14" ∷ codes "shorter than 20 bytes: 0" ∷ []
unfolding digits
known_sentences = refl
