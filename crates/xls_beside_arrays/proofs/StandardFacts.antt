-- Values that the header and [MS-XLS] give, so that a wrong rule in the specs does not check.
use Rattle.std.proofs.Common.{◌≡◌, ◌∷◌, [], ◌++◌, List, map, true, false, refl, codes, Some, None, Ok}
use Rattle.xls_comments.specs.Items as comments
use Rattle.xls_comments.specs.declared.damage.DamagedRecord.TheVariants as notes
use Rattle.xls_comments.specs.declared.damage.Flaw.TheVariants.{ContinuesNothing}
use Rattle.xls_comments.specs.declared.items.Visibility.TheVariants as visibilities
use Rattle.xls_hidden.specs.declared.damage.DamagedRecord.TheVariants as lines
use Rattle.xls_hidden.specs.declared.damage.Flaw.TheVariants.{PastLastRow}
use Rattle.xls_hidden.specs.declared.lines.Why.TheVariants as whys
use Rattle.xls_hidden.specs.declared.sheet.HiddenItem.TheVariants as items
use Rattle.xls_links.specs.Items as links
use Rattle.xls_links.specs.declared.damage.DamagedRecord.TheVariants as h_links
use Rattle.xls_links.specs.declared.items.LinkKind.TheVariants as kinds
use Rattle.xls_other_books.specs.declared.books.Linked.TheVariants as linked
use Rattle.xls_other_books.specs.declared.damage.DamagedRecord.TheVariants as supporting
use Rattle.xls_other_books.specs.declared.damage.Flaw.TheVariants.{NamesMissing}
use Rattle.xls_styles.specs.declared.alignments.Alignment.{Alignment}
use Rattle.xls_styles.specs.declared.colors.Color.TheVariants.{Auto, Rgb}
use Rattle.xls_styles.specs.declared.damage.DamagedRecord.TheVariants as looks
use Rattle.xls_styles.specs.declared.fonts.FontMarks.{FontMarks}
use Rattle.xls_styles.specs.declared.fonts.Script.TheVariants as scripts
use Rattle.xls_styles.specs.declared.fonts.Underline.TheVariants as underlines
use Rattle.xls_styles.specs.declared.marks.Protection.{Protection}
use Rattle.xls_beside_arrays.specs.Books as books
use Rattle.xls_beside_arrays.specs.Comments as notes_laid
use Rattle.xls_beside_arrays.specs.Hidden as hidden
use Rattle.xls_beside_arrays.specs.Links as links_laid
use Rattle.xls_beside_arrays.specs.Outside as outside
use Rattle.xls_beside_arrays.specs.Styles as styles
use Rattle.xls_beside_arrays.specs.Arrays.{nothing}
use Rattle.xls_beside_arrays.specs.Books.{linked_number, name_number, sheet_number}
use Rattle.xls_beside_arrays.specs.Comments.{visible_number}
use Rattle.xls_beside_arrays.specs.Damages.{number_or_unknown}
use Rattle.xls_beside_arrays.specs.Hidden.{why_number}
use Rattle.xls_beside_arrays.specs.Links.{kind_number}
use Rattle.xls_beside_arrays.specs.StyleNumbers.{border_item, colour_number, fill_number, back_number, size_number}
use Rattle.xls_beside_arrays.specs.StyleNumbers.{script_mark, style_marks, underline_mark}
use Rattle.xls_styles.specs.declared.borders.Border.{Border}
use Rattle.xls_styles.specs.declared.fills.Fill.{Fill}

-- ---- types of damaged records, by [MS-XLS] 2.3

pub known_hidden_records : map hidden.record_number (lines.Row ∷ lines.ColInfo ∷ lines.DefaultRowHeight ∷ [])
    ≡ 0x0208 ∷ 0x007D ∷ 0x0225 ∷ []
known_hidden_records = refl

pub known_comment_records : map notes_laid.record_number (notes.Note ∷ []) ≡ 0x001C ∷ []
known_comment_records = refl

pub known_link_records : map links_laid.record_number (h_links.HLink ∷ []) ≡ 0x01B8 ∷ []
known_link_records = refl

pub known_book_records : map books.record_number (supporting.SupBook ∷ supporting.ExternName ∷ supporting.ExternSheet ∷ [])
    ≡ 0x01AE ∷ 0x0023 ∷ 0x0017 ∷ []
known_book_records = refl

pub known_style_records : map styles.record_number (looks.Font ∷ looks.Xf ∷ []) ≡ 0x0031 ∷ 0x00E0 ∷ []
known_style_records = refl

-- ---- numbers of the header

pub known_unknown : map number_or_unknown (None ∷ Some 0 ∷ Some 65_535 ∷ []) ≡ 0xFFFFFFFF ∷ 0 ∷ 65_535 ∷ []
known_unknown = refl

pub known_whys : map why_number (whys.Hidden ∷ whys.Filtered ∷ whys.Flat ∷ []) ≡ 1 ∷ 2 ∷ 4 ∷ []
known_whys = refl

pub known_visible : map visible_number (visibilities.Visible ∷ visibilities.Hidden ∷ []) ≡ 1 ∷ 0 ∷ []
known_visible = refl

pub known_link_kinds : map kind_number (kinds.Url ∷ kinds.File ∷ kinds.Unc ∷ kinds.Place ∷ []) ≡ 0 ∷ 1 ∷ 2 ∷ 3 ∷ []
known_link_kinds = refl

pub known_books : map linked_number (linked.Nothing ∷ linked.Functions ∷ linked.Book ∷ linked.Program ∷ [])
    ≡ None ∷ None ∷ Some 0 ∷ Some 1 ∷ []
known_books = refl

pub known_book_parts : sheet_number ∷ map name_number (linked.Nothing ∷ linked.Functions ∷ linked.Book ∷ linked.Program ∷ [])
    ≡ 2 ∷ 3 ∷ 4 ∷ 3 ∷ 3 ∷ []
known_book_parts = refl

-- ---- styles

pub known_underlines : map underline_mark (underlines.NoLine ∷ underlines.Single ∷ underlines.Double ∷ []) ≡ 0 ∷ 0x08 ∷ 0x10 ∷ []
known_underlines = refl

pub known_scripts : map script_mark (scripts.Normal ∷ scripts.Superscript ∷ scripts.Subscript ∷ []) ≡ 0 ∷ 0x20 ∷ 0x40 ∷ []
known_scripts = refl

abbrev no_marks : FontMarks
no_marks = record { is_bold = false; is_italic = false; is_strike = false; underline = underlines.NoLine; script = scripts.Normal }

abbrev locked : Protection
locked = record { is_unlocked = false; is_concealed = false }

abbrev as_usual : Alignment
as_usual = record { across = 0; down = 2; is_wrapped = false; is_shrunk = false; indent = 0; turn = 0 }

-- each mark alone, from bold to shrunk
pub known_marks :
    style_marks (record no_marks { is_bold = true }) locked as_usual
    ∷ style_marks (record no_marks { is_italic = true }) locked as_usual
    ∷ style_marks (record no_marks { is_strike = true }) locked as_usual
    ∷ style_marks (record no_marks { underline = underlines.Single }) locked as_usual
    ∷ style_marks (record no_marks { underline = underlines.Double }) locked as_usual
    ∷ style_marks (record no_marks { script = scripts.Superscript }) locked as_usual
    ∷ style_marks (record no_marks { script = scripts.Subscript }) locked as_usual
    ∷ style_marks no_marks (record locked { is_unlocked = true }) as_usual
    ∷ style_marks no_marks (record locked { is_concealed = true }) as_usual
    ∷ style_marks no_marks locked (record as_usual { is_wrapped = true })
    ∷ style_marks no_marks locked (record as_usual { is_shrunk = true }) ∷ []
    ≡ 0x0001 ∷ 0x0002 ∷ 0x0004 ∷ 0x0008 ∷ 0x0010 ∷ 0x0020 ∷ 0x0040 ∷ 0x0080 ∷ 0x0100 ∷ 0x0200 ∷ 0x0400 ∷ []
known_marks = refl

pub known_sizes : map size_number (None ∷ Some (record { twentieths = 210 }) ∷ []) ≡ 0xFFFFFFFF ∷ 210 ∷ []
known_sizes = refl

pub known_colours : map colour_number (Auto ∷ Rgb 0xFF8000 ∷ []) ≡ 0xFFFFFFFF ∷ 0xFF8000 ∷ []
known_colours = refl

abbrev red_line : Border
red_line = record { line = record { number = 13 }; color = Rgb 0xFF0000 }

pub known_borders : map border_item (red_line ∷ record red_line { line = record { number = 0 } } ∷ record red_line { color = Auto } ∷ [])
    ≡ record { line = 13; colour = 0xFF0000 } ∷ record { line = 0; colour = 0xFFFFFFFE } ∷ record { line = 13; colour = 0xFFFFFFFF } ∷ []
known_borders = refl

-- none, all of one colour, and a pattern
abbrev fills : List Fill
fills =
    record { pattern = 0; color = Rgb 1; back = Rgb 2 } ∷ record { pattern = 1; color = Rgb 1; back = Rgb 2 }
    ∷ record { pattern = 2; color = Rgb 1; back = Rgb 2 } ∷ []

pub known_fills : map fill_number fills ≡ 0xFFFFFFFE ∷ 1 ∷ 1 ∷ []
known_fills = refl

pub known_backs : map back_number fills ≡ 0xFFFFFFFE ∷ 0xFFFFFFFE ∷ 2 ∷ []
known_backs = refl

-- ---- items

-- rows 3 to 5, a Row past the last at 0x40, and column 1; frozen panes have no item
pub known_runs :
    hidden.with_hidden (hidden.with_hidden (hidden.with_hidden (hidden.with_hidden nothing
    (items.Rows (record { first = 3; last = 5; why = whys.Filtered })))
    (items.Damaged (record { record_name = lines.Row; offset = 0x40; row = Some 16_384; column = None; flaw = PastLastRow })))
    (items.Frozen (record { rows = 1; columns = 2 })))
    (items.Columns (record { first = 1; last = 1; why = whys.Flat }))
    ≡ record {
      items = record { first = 3; last = 5; why = 2; is_column = 0 } ∷ record { first = 1; last = 1; why = 4; is_column = 1 } ∷ [];
      damages =
          record {
            offset = 0x40;
            why = record { offset = 0; length = 23 };
            row = 16_384;
            column = 0xFFFFFFFF;
            record_type = 0x0208;
            reserved = 0;
          }
          ∷ [];
      texts = codes "it is past the last row";
    }
known_runs = refl

-- the comment `é` of `Bo`, and a Note without one
pub known_comments :
    notes_laid.with_comment (notes_laid.with_comment nothing
    (comments.comment (record { row = 7; column = 2; visibility = visibilities.Visible; author = codes "Bo"; text = 0xE9 ∷ [] })))
    (comments.damaged (record { record_name = notes.Note; offset = 9; row = None; column = None; flaw = ContinuesNothing }))
    ≡ record {
      items =
          record {
            row = 7;
            column = 2;
            author = record { offset = 0; length = 2 };
            words = record { offset = 2; length = 2 };
            visible = 1;
            reserved = 0;
          }
          ∷ [];
      damages =
          record {
            offset = 9;
            why = record { offset = 4; length = 23 };
            row = 0xFFFFFFFF;
            column = 0xFFFFFFFF;
            record_type = 0x001C;
            reserved = 0;
          }
          ∷ [];
      texts = codes "Bo" ++ 0xC3 ∷ 0xA9 ∷ codes "it continues no comment";
    }
unfolding lib.Utf8.encode
known_comments = refl

-- a link of B3 to C5
pub known_links :
    links_laid.with_link nothing
    (links.link (record {
      first_row = 2;
      last_row = 4;
      first_column = 1;
      last_column = 2;
      kind = kinds.File;
      target = codes "ab";
      place = codes "c";
      shown = codes "def";
      tip = [];
    }))
    ≡ record {
      items =
          record {
            first_row = 2;
            first_column = 1;
            last_row = 4;
            last_column = 2;
            target = record { offset = 0; length = 2 };
            place = record { offset = 2; length = 1 };
            shown = record { offset = 3; length = 3 };
            tip = record { offset = 6; length = 0 };
            kind = 1;
            reserved = 0;
          }
          ∷ [];
      damages = [];
      texts = codes "abcdef";
    }
unfolding lib.Utf8.encode
known_links = refl

-- a workbook `p` with a sheet `s` and a name `n`, which ends before its names do
pub known_linked :
    books.with_book nothing (record {
      linked = linked.Book;
      path = codes "p";
      topic = [];
      sheets = codes "s" ∷ [];
      names = Ok (codes "n") ∷ [];
      damage = Some (record { record_name = supporting.SupBook; offset = 3; flaw = NamesMissing });
    })
    ≡ record {
      items =
          record { path = record { offset = 0; length = 1 }; topic = record { offset = 1; length = 0 }; kind = 0; reserved = 0 }
          ∷ record { path = record { offset = 1; length = 1 }; topic = record { offset = 2; length = 0 }; kind = 2; reserved = 0 }
          ∷ record { path = record { offset = 2; length = 1 }; topic = record { offset = 3; length = 0 }; kind = 3; reserved = 0 }
          ∷ [];
      damages =
          record {
            offset = 3;
            why = record { offset = 3; length = 27 };
            row = 0xFFFFFFFF;
            column = 0xFFFFFFFF;
            record_type = 0x01AE;
            reserved = 0;
          }
          ∷ [];
      texts = codes "psnit ends before its names do";
    }
unfolding lib.Utf8.encode
known_linked = refl

-- what the formula in C2 cites
pub known_outside :
    outside.with_outside (outside.with_outside nothing None)
    (Some (record { row = 1; column = 2; cited = record { book = codes "b"; sheet = codes "s"; name = [] } ∷ [] }))
    ≡ record {
      items =
          record {
            row = 1;
            column = 2;
            book = record { offset = 0; length = 1 };
            sheet = record { offset = 1; length = 1 };
            name = record { offset = 2; length = 0 };
          }
          ∷ [];
      damages = [];
      texts = codes "bs";
    }
unfolding lib.Utf8.encode
known_outside = refl
