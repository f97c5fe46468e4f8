-- How the cells of a workbook look, as items.
use Rattle.std.specs.Prelude.{ℕ, List, length, map, encode_utf8_all, None}
use Rattle.std.specs.List.{fold, range_with_len}
use Rattle.xls_styles.specs.Styles.{CellStyle, Styles, style_of, styles_of}
use Rattle.xls_styles.specs.Texts.{flaw_text}
use Rattle.xls_styles.specs.declared.damage.Damage.{Damage}
use Rattle.xls_styles.specs.declared.damage.DamagedRecord.{DamagedRecord}
use Rattle.xls_styles.specs.declared.damage.DamagedRecord.TheVariants as names
use Rattle.xls_styles.specs.declared.types.TheConstants.{FONT}
use Rattle.xls_stream.specs.declared.types.TheConstants.{XF}
use Rattle.xls_open.specs.Globals.{State}
use Rattle.xls_parts.specs.PartRecords.{globals_records}
use Rattle.xls_arrays.specs.declared.faults.Fault.{Fault}
use Rattle.xls_arrays.specs.declared.items.Span.{Span}
use Rattle.xls_arrays.specs.declared.options.Options.{Options}
use Rattle.xls_beside_arrays.specs.Answers.{Fills}
use Rattle.xls_beside_arrays.specs.Arrays.{Arrays, nothing, with_two}
use Rattle.xls_beside_arrays.specs.Damages.{with_damage}
use Rattle.xls_beside_arrays.specs.Opened.{IsOfBook, RefusesBook}
use Rattle.xls_beside_arrays.specs.StyleNumbers.{border_item, colour_number, fill_number, back_number, size_number, style_marks}
use Rattle.xls_beside_arrays.specs.declared.damage.Damaged.{Damaged}
use Rattle.xls_beside_arrays.specs.declared.items.Counts.{Counts}
use Rattle.xls_beside_arrays.specs.declared.items.StyleItem.{StyleItem}

abbrev pub style_item : CellStyle → Span → Span → StyleItem
style_item s font format =
    record {
      font = font;
      format = format;
      size = size_number s.font.size;
      marks = style_marks s.font.marks s.protection s.alignment;
      colour = colour_number s.font.color;
      pattern = s.fill.pattern;
      fill = fill_number s.fill;
      back = back_number s.fill;
      across = s.alignment.across;
      down = s.alignment.down;
      indent = s.alignment.indent;
      turn = s.alignment.turn;
      left = border_item s.borders.left;
      right = border_item s.borders.right;
      top = border_item s.borders.top;
      bottom = border_item s.borders.bottom;
      diagonal = border_item s.borders.diagonal;
      diagonals = s.borders.diagonals;
      reserved = 0;
    }

-- the name of its font, the code of its format, and its item
abbrev pub with_style : Arrays StyleItem → CellStyle → Arrays StyleItem
with_style a s = with_two (style_item s) (encode_utf8_all s.font.name) (encode_utf8_all s.code) a

-- ---- damage

abbrev pub record_number : DamagedRecord → ℕ
record_number names.Font = FONT
record_number names.Xf = XF

-- it stands in no cell
abbrev pub damaged_of : Damage → Damaged
damaged_of d = record { record_type = record_number d.record_name; offset = d.offset; row = None; column = None }

abbrev pub with_damaged : Arrays StyleItem → Damage → Arrays StyleItem
with_damaged a d = with_damage a (damaged_of d) (flaw_text d.flaw)

-- ---- all

-- the style of each XF, and the damaged records
abbrev pub with_styles : Arrays StyleItem → Styles → Arrays StyleItem
with_styles a s =
    fold with_damaged (fold with_style a (map (style_of s) (range_with_len 0 (length s.xfs)))) s.damages

abbrev pub styles_arrays : State → List ℕ → Arrays StyleItem
styles_arrays globals stream = with_styles nothing (styles_of globals.version globals.page (globals_records stream))

abbrev pub AreStyles : Options → List ℕ → Arrays StyleItem → Type 0
AreStyles = IsOfBook styles_arrays

abbrev pub FillsStyles : Options → List ℕ → Arrays StyleItem → Counts → Fault → ℕ → Type 0
FillsStyles options stream = Fills (AreStyles options stream) (RefusesBook options stream)
