-- What a style says, as numbers. A colour is 00rrggbb.
use Rattle.std.specs.Prelude.{ℕ, ◌+◌, Bool, nat_lt, ◌==◌, if◌then◌else◌, Option, Some, None}
use Rattle.xls_styles.specs.declared.alignments.Alignment.{Alignment}
use Rattle.xls_styles.specs.declared.borders.Border.{Border}
use Rattle.xls_styles.specs.declared.colors.Color.{Color}
use Rattle.xls_styles.specs.declared.colors.Color.TheVariants.{Auto, Rgb}
use Rattle.xls_styles.specs.declared.fills.Fill.{Fill}
use Rattle.xls_styles.specs.declared.fonts.FontMarks.{FontMarks}
use Rattle.xls_styles.specs.declared.fonts.Script.{Script}
use Rattle.xls_styles.specs.declared.fonts.Script.TheVariants as scripts
use Rattle.xls_styles.specs.declared.fonts.Underline.{Underline}
use Rattle.xls_styles.specs.declared.fonts.Underline.TheVariants as underlines
use Rattle.xls_styles.specs.declared.marks.Protection.{Protection}
use Rattle.xls_styles.specs.declared.sizes.Size.{Size}
use Rattle.xls_beside_arrays.specs.declared.items.BorderItem.{BorderItem}

-- of a font that isn't there it isn't known
abbrev pub size_number : Option Size → ℕ
size_number None = 0xFFFFFFFF
size_number (Some s) = s.twentieths

-- ---- colours

abbrev pub colour_number : Color → ℕ
colour_number Auto = 0xFFFFFFFF
colour_number (Rgb n) = n

-- of what isn't there
abbrev pub no_colour : ℕ
no_colour = 0xFFFFFFFE

abbrev pub border_item : Border → BorderItem
border_item b =
    record { line = b.line.number; colour = if b.line.number == 0 then no_colour else colour_number b.color }

-- pattern 0 is no fill
abbrev pub fill_number : Fill → ℕ
fill_number f = if f.pattern == 0 then no_colour else colour_number f.color

-- pattern 1 leaves nothing of what is behind it
abbrev pub back_number : Fill → ℕ
back_number f = if nat_lt f.pattern 2 then no_colour else colour_number f.back

-- ---- marks, a bit each

abbrev pub mark : Bool → ℕ → ℕ
mark is bit = if is then bit else 0

abbrev pub underline_mark : Underline → ℕ
underline_mark underlines.NoLine = 0
underline_mark underlines.Single = 0x08
underline_mark underlines.Double = 0x10

abbrev pub script_mark : Script → ℕ
script_mark scripts.Normal = 0
script_mark scripts.Superscript = 0x20
script_mark scripts.Subscript = 0x40

abbrev pub font_marks : FontMarks → ℕ
font_marks m = mark m.is_bold 0x01 + mark m.is_italic 0x02 + mark m.is_strike 0x04 + underline_mark m.underline + script_mark m.script

abbrev pub style_marks : FontMarks → Protection → Alignment → ℕ
style_marks m p a =
    font_marks m + mark p.is_unlocked 0x80 + mark p.is_concealed 0x100 + mark a.is_wrapped 0x200 + mark a.is_shrunk 0x400
