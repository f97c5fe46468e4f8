-- Known values, in the bytes of records, so that a wrong rule in the definitions does not check.
use Rattle.std.proofs.Common.{◌≡◌, ℕ, List, [], ◌∷◌, ◌++◌, map, replicate, take, drop, refl, Bool, true, false, Option, Some, None, get_or}
use Rattle.xls_bytes.specs.Numbers.{le16}
use Rattle.xls_record.specs.declared.version.Biff.TheVariants.{Biff5, Biff8}
use Rattle.xls_hidden.specs.declared.damage.DamagedRecord.TheVariants as names
use Rattle.xls_hidden.specs.declared.damage.Flaw.{Flaw}
use Rattle.xls_hidden.specs.declared.damage.Flaw.TheVariants as flaws
use Rattle.xls_hidden.specs.declared.fields.ColumnMarks.{ColumnMarks}
use Rattle.xls_hidden.specs.declared.fields.Mark.{Mark}
use Rattle.xls_hidden.specs.declared.fields.Mark.TheVariants.{Shown, Hidden, Flat}
use Rattle.xls_hidden.specs.declared.fields.Pane.{Pane}
use Rattle.xls_hidden.specs.declared.fields.RowMark.{RowMark}
use Rattle.xls_hidden.specs.declared.fields.Window.{Window}
use Rattle.xls_hidden.specs.declared.filter_areas.SheetArea.{SheetArea}
use Rattle.xls_hidden.specs.declared.lines.FilterArea.{FilterArea}
use Rattle.xls_hidden.specs.declared.lines.Run.{Run}
use Rattle.xls_hidden.specs.declared.lines.Why.{Why}
use Rattle.xls_hidden.specs.declared.lines.Why.TheVariants as whys
use Rattle.xls_hidden.specs.declared.said.Said.{Said}
use Rattle.xls_hidden.specs.declared.said.Said.TheVariants as says
use Rattle.xls_hidden.specs.declared.sheet.HiddenItem.TheVariants as items
use Rattle.xls_hidden.specs.declared.types.TheConstants as types
use Rattle.xls_parts.specs.PartRecords.{Placed}
use Rattle.xls_hidden.specs.Fields.{row_at, columns_at, default_hides_at, window_at, pane_at}
use Rattle.xls_hidden.specs.Said.{said_of}
use Rattle.xls_hidden.specs.States.{row_why, column_why}
use Rattle.xls_hidden.specs.Runs.{runs_from}
use Rattle.xls_hidden.specs.Windows.{first_window, frozen_by, hides_zeros_by}
use Rattle.xls_hidden.specs.FilterAreas.{lbl_area, first_area}
use Rattle.xls_hidden.specs.Hidden.{damages_in, items_of}

-- the numbers of the record types and of the rows and columns
pub known_types : types.PANE ∷ types.COL_INFO ∷ types.FILTER_MODE ∷ types.ROW ∷ types.DEFAULT_ROW_HEIGHT ∷ types.WINDOW_2 ∷ []
    ≡ 0x41 ∷ 0x7D ∷ 0x9B ∷ 0x208 ∷ 0x225 ∷ 0x23E ∷ []
known_types = refl

pub known_sizes : types.COLUMNS ∷ types.ROWS ∷ types.ROWS_BEFORE_BIFF8 ∷ [] ≡ 256 ∷ 65536 ∷ 16384 ∷ []
known_sizes = refl

-- ---- fields

-- a mask for each bit of 16
abbrev masks : List ℕ
masks = 0x0001 ∷ 0x0002 ∷ 0x0004 ∷ 0x0008 ∷ 0x0010 ∷ 0x0020 ∷ 0x0040 ∷ 0x0080 ∷ 0x0100 ∷ 0x0200 ∷ 0x0400 ∷ 0x0800 ∷ 0x1000 ∷ 0x2000 ∷ 0x4000 ∷ 0x8000 ∷ []

-- row 0102, first and last column, height, six bytes, flags, format
abbrev row_body : ℕ → ℕ → List ℕ
row_body height flags = 0x02 ∷ 0x01 ∷ 9 ∷ 9 ∷ 9 ∷ 9 ∷ le16 height ++ 9 ∷ 9 ∷ 9 ∷ 9 ∷ le16 flags ++ 9 ∷ 9 ∷ []

abbrev row_0102 : Mark → Option RowMark
row_0102 mark = Some (record { row = 0x0102; mark = mark })

-- of the bits of a Row 0020 alone hides it
pub known_row_bits : map (λ flags. row_at (row_body 0x00FF flags)) masks
    ≡ map row_0102 (Shown ∷ Shown ∷ Shown ∷ Shown ∷ Shown ∷ Hidden ∷ Shown ∷ Shown ∷ Shown ∷ Shown ∷ Shown ∷ Shown ∷ Shown ∷ Shown ∷ Shown ∷ Shown ∷ [])
known_row_bits = refl

-- flat is the height 0, and no other; a hidden row isn't flat
pub known_row_heights : map (λ height. row_at (row_body height 0)) (0x0000 ∷ 0x0001 ∷ 0x0100 ∷ 0x8000 ∷ []) ≡ map row_0102 (Flat ∷ Shown ∷ Shown ∷ Shown ∷ [])
known_row_heights = refl

pub known_row_hidden : row_at (row_body 0 0xFFFF) ∷ row_at (row_body 0 0xFFDF) ∷ [] ≡ row_0102 Hidden ∷ row_0102 Flat ∷ []
known_row_hidden = refl

-- first and last column, width, format, flags
abbrev column_body : ℕ → ℕ → ℕ → ℕ → List ℕ
column_body first last width flags = le16 first ++ le16 last ++ le16 width ++ 9 ∷ 9 ∷ le16 flags

abbrev columns_3_to_4 : Mark → Option ColumnMarks
columns_3_to_4 mark = Some (record { first = 3; last = 4; mark = mark })

-- of the bits of a ColInfo 0001 alone hides its columns
pub known_column_bits : map (λ flags. columns_at (column_body 3 4 0x0100 flags)) masks
    ≡ map columns_3_to_4 (Hidden ∷ Shown ∷ Shown ∷ Shown ∷ Shown ∷ Shown ∷ Shown ∷ Shown ∷ Shown ∷ Shown ∷ Shown ∷ Shown ∷ Shown ∷ Shown ∷ Shown ∷ Shown ∷ [])
known_column_bits = refl

-- the last column is 255 at most, and a width of 0 is flat
pub known_columns : map columns_at (column_body 250 300 0 0 ∷ column_body 256 65535 0 1 ∷ column_body 0 255 1 0 ∷ [])
    ≡ Some (record { first = 250; last = 255; mark = Flat }) ∷ Some (record { first = 256; last = 255; mark = Hidden }) ∷ Some (record { first = 0; last = 255; mark = Shown }) ∷ []
known_columns = refl

-- of the bits of a DefaultRowHeight 0002 alone hides the other rows
pub known_default_bits : map (λ flags. default_hides_at (le16 flags ++ 9 ∷ 9 ∷ [])) masks
    ≡ map Some (false ∷ true ∷ false ∷ false ∷ false ∷ false ∷ false ∷ false ∷ false ∷ false ∷ false ∷ false ∷ false ∷ false ∷ false ∷ false ∷ [])
known_default_bits = refl

abbrev window : Bool → Bool → Window
window is_frozen shows_zeros = record { is_frozen = is_frozen; shows_zeros = shows_zeros }

-- of the bits of a Window2 0008 says frozen, and 0010 that zeros are shown
pub known_window_bits : map (λ flags. window_at (le16 flags)) masks
    ≡ map Some (window false false ∷ window false false ∷ window false false ∷ window true false ∷ window false true ∷ window false false ∷ window false false ∷ window false false
    ∷ window false false ∷ window false false ∷ window false false ∷ window false false ∷ window false false ∷ window false false ∷ window false false ∷ window false false ∷ [])
known_window_bits = refl

-- columns stand before rows
pub known_pane : pane_at (0x02 ∷ 0x00 ∷ 0x03 ∷ 0x01 ∷ []) ≡ Some (record { rows = 0x0103; columns = 2 })
known_pane = refl

-- ---- what a record says

abbrev at_9 : ℕ → List ℕ → Placed
at_9 typ body = record { offset = 9; typ = typ; body = body }

-- a byte less than each record needs, and as many
pub known_lengths : row_at (take 15 (row_body 1 0)) ≡ None
known_lengths = refl

pub known_length_of_columns : columns_at (take 9 (column_body 3 4 1 0)) ∷ columns_at (column_body 3 4 1 0 ++ 9 ∷ 9 ∷ []) ∷ [] ≡ None ∷ columns_3_to_4 Shown ∷ []
known_length_of_columns = refl

pub known_length_of_default : default_hides_at (2 ∷ 0 ∷ 9 ∷ []) ≡ None
known_length_of_default = refl

-- a Window2 and a Pane that are too short count for nothing
pub known_windows : map (said_of Biff8) (at_9 0x23E (0x18 ∷ []) ∷ at_9 0x23E (0x18 ∷ 0x00 ∷ []) ∷ at_9 0x041 (1 ∷ 0 ∷ 1 ∷ []) ∷ at_9 0x041 (1 ∷ 0 ∷ 4 ∷ 0 ∷ []) ∷ [])
    ≡ says.Nothing ∷ says.Window (window true true) ∷ says.Nothing ∷ says.Pane (record { rows = 4; columns = 1 }) ∷ []
known_windows = refl

-- FilterMode is its type alone; records of other types say nothing: a Dimensions, a Number, the same bodies
pub known_others : map (said_of Biff8) (at_9 0x09B [] ∷ at_9 0x200 (row_body 0 0x20) ∷ at_9 0x203 (row_body 0 0x20) ∷ at_9 0x055 (8 ∷ 0 ∷ []) ∷ at_9 0x099 (8 ∷ 0 ∷ []) ∷ at_9 0x09D (8 ∷ 0 ∷ []) ∷ [])
    ≡ says.Filter ∷ says.Nothing ∷ says.Nothing ∷ says.Nothing ∷ says.Nothing ∷ says.Nothing ∷ []
known_others = refl

abbrev row_damage : Option ℕ → Flaw → Said
row_damage row flaw = says.Damaged (record { record_name = names.Row; offset = 9; row = row; column = None; flaw = flaw })

-- a Row is damaged where it is too short, and before BIFF8 past the last row
pub known_row_damage : said_of Biff8 (at_9 0x208 (take 15 (row_body 1 0))) ∷ said_of Biff8 (at_9 0x208 (2 ∷ 1 ∷ [])) ∷ said_of Biff8 (at_9 0x208 (2 ∷ [])) ∷ []
    ≡ row_damage (Some 0x0102) (flaws.Short 16 15) ∷ row_damage (Some 0x0102) (flaws.Short 16 2) ∷ row_damage None (flaws.Short 16 1) ∷ []
known_row_damage = refl

abbrev row_at_number : ℕ → Placed
row_at_number row = at_9 0x208 (le16 row ++ drop 2 (row_body 1 0))

pub known_last_row : said_of Biff5 (row_at_number 16383) ∷ said_of Biff5 (row_at_number 16384) ∷ said_of Biff8 (row_at_number 16384) ∷ said_of Biff8 (row_at_number 65535) ∷ []
    ≡ says.Row (record { row = 16383; mark = Shown }) ∷ row_damage (Some 16384) flaws.PastLastRow
    ∷ says.Row (record { row = 16384; mark = Shown }) ∷ says.Row (record { row = 65535; mark = Shown }) ∷ []
known_last_row = refl

-- of a ColInfo the first column is told, and of a DefaultRowHeight neither
pub known_other_damage : said_of Biff8 (at_9 0x07D (3 ∷ 0 ∷ 5 ∷ 0 ∷ 0 ∷ 0 ∷ 0 ∷ 0 ∷ [])) ∷ said_of Biff8 (at_9 0x07D []) ∷ said_of Biff8 (at_9 0x225 (2 ∷ 0 ∷ [])) ∷ []
    ≡ says.Damaged (record { record_name = names.ColInfo; offset = 9; row = None; column = Some 3; flaw = flaws.Short 10 8 })
    ∷ says.Damaged (record { record_name = names.ColInfo; offset = 9; row = None; column = None; flaw = flaws.Short 10 0 })
    ∷ says.Damaged (record { record_name = names.DefaultRowHeight; offset = 9; row = None; column = None; flaw = flaws.Short 4 2 }) ∷ []
known_other_damage = refl

-- ---- all records together

abbrev row : ℕ → Mark → Said
row number mark = says.Row (record { row = number; mark = mark })

abbrev columns : ℕ → ℕ → Mark → Said
columns first last mark = says.Columns (record { first = first; last = last; mark = mark })

abbrev area : Option FilterArea
area = Some (record { first = 2; last = 5 })

-- the last Row of a row counts, and other rows are as the last DefaultRowHeight says
pub known_rows : map (row_why None (row 1 Hidden ∷ row 2 Hidden ∷ says.OtherRows true ∷ row 3 Flat ∷ row 2 Shown ∷ row 4 Shown ∷ row 4 Hidden ∷ [])) (0 ∷ 1 ∷ 2 ∷ 3 ∷ 4 ∷ 5 ∷ [])
    ≡ Some whys.Hidden ∷ Some whys.Hidden ∷ None ∷ Some whys.Flat ∷ Some whys.Hidden ∷ Some whys.Hidden ∷ []
known_rows = refl

pub known_default_last : map (row_why None (says.OtherRows true ∷ row 1 Shown ∷ says.OtherRows false ∷ [])) (0 ∷ 1 ∷ []) ≡ None ∷ None ∷ []
known_default_last = refl

-- a filter's area begins below its first row and ends with its last; rows that are flat, or hidden by default, stay so
pub known_filter : map (row_why area (row 2 Hidden ∷ row 3 Hidden ∷ row 4 Flat ∷ says.Filter ∷ row 5 Hidden ∷ row 6 Hidden ∷ [])) (1 ∷ 2 ∷ 3 ∷ 4 ∷ 5 ∷ 6 ∷ [])
    ≡ None ∷ Some whys.Hidden ∷ Some whys.Filtered ∷ Some whys.Flat ∷ Some whys.Filtered ∷ Some whys.Hidden ∷ []
known_filter = refl

pub known_filter_default : map (row_why area (says.OtherRows true ∷ says.Filter ∷ row 4 Hidden ∷ [])) (3 ∷ 4 ∷ []) ≡ Some whys.Hidden ∷ Some whys.Filtered ∷ []
known_filter_default = refl

-- without a FilterMode, or without an area, rows are hidden
pub known_no_filter : row_why area (row 3 Hidden ∷ []) 3 ∷ row_why None (says.Filter ∷ row 3 Hidden ∷ []) 3 ∷ [] ≡ Some whys.Hidden ∷ Some whys.Hidden ∷ []
known_no_filter = refl

-- the last ColInfo of a column counts; a filter and a DefaultRowHeight say nothing of columns
pub known_column_whys : map (column_why (columns 1 3 Hidden ∷ says.OtherRows true ∷ says.Filter ∷ columns 2 2 Flat ∷ columns 3 4 Shown ∷ columns 7 6 Hidden ∷ [])) (0 ∷ 1 ∷ 2 ∷ 3 ∷ 4 ∷ 6 ∷ 7 ∷ [])
    ≡ None ∷ Some whys.Hidden ∷ Some whys.Flat ∷ None ∷ None ∷ None ∷ None ∷ []
known_column_whys = refl

-- ---- runs

abbrev run : ℕ → ℕ → Why → Run
run first last why = record { first = first; last = last; why = why }

-- runs that meet, that don't, and one line alone
pub known_runs : runs_from
    (λ line. get_or (Some whys.Hidden ∷ Some whys.Hidden ∷ Some whys.Flat ∷ None ∷ Some whys.Flat ∷ Some whys.Flat ∷ Some whys.Flat ∷ Some whys.Filtered ∷ None ∷ Some whys.Hidden ∷ []) line None) 0 10
    ≡ run 0 1 whys.Hidden ∷ run 2 2 whys.Flat ∷ run 4 6 whys.Flat ∷ run 7 7 whys.Filtered ∷ run 9 9 whys.Hidden ∷ []
unfolding runs_from
known_runs = refl

-- ---- windows

abbrev pane : ℕ → ℕ → Pane
pane above left = record { rows = above; columns = left }

-- the first Window2 counts, and the Pane between it and the second
pub known_first_window : first_window (says.Pane (pane 9 9) ∷ says.Window (window true true) ∷ row 1 Hidden ∷ says.Pane (pane 3 2) ∷ says.Window (window false false) ∷ says.Pane (pane 8 7) ∷ [])
    ≡ Some (window true true, Some (pane 3 2))
known_first_window = refl

pub known_second_pane : first_window (says.Window (window true false) ∷ says.Window (window false true) ∷ says.Pane (pane 8 7) ∷ []) ≡ Some (window true false, None)
known_second_pane = refl

pub known_no_window : first_window (says.Pane (pane 9 9) ∷ []) ≡ None
known_no_window = refl

-- panes are frozen where the window says so and one number isn't 0
pub known_frozen : map frozen_by (Some (window true true, Some (pane 3 0)) ∷ Some (window true true, Some (pane 0 2)) ∷ Some (window true true, Some (pane 0 0)) ∷ Some (window false true, Some (pane 3 2)) ∷ Some (window true true, None) ∷ None ∷ [])
    ≡ Some (pane 3 0) ∷ Some (pane 0 2) ∷ None ∷ None ∷ None ∷ None ∷ []
known_frozen = refl

pub known_zeros : map hides_zeros_by (Some (window false false, None) ∷ Some (window true true, None) ∷ None ∷ []) ≡ true ∷ false ∷ false ∷ []
known_zeros = refl

-- ---- items

-- each kind in its order
pub known_items : items_of (run 1 2 whys.Hidden ∷ []) (run 3 3 whys.Flat ∷ []) (Some (pane 1 0)) true []
    ≡ items.Rows (run 1 2 whys.Hidden) ∷ items.Columns (run 3 3 whys.Flat) ∷ items.Frozen (pane 1 0) ∷ items.Zeros ∷ []
known_items = refl

-- damaged records keep their order
pub known_damages : damages_in (says.Nothing ∷ row_damage None (flaws.Short 16 1) ∷ row 1 Hidden ∷ row_damage (Some 16384) flaws.PastLastRow ∷ [])
    ≡ record { record_name = names.Row; offset = 9; row = None; column = None; flaw = flaws.Short 16 1 }
    ∷ record { record_name = names.Row; offset = 9; row = Some 16384; column = None; flaw = flaws.PastLastRow } ∷ []
known_damages = refl

-- ---- areas of filters

-- the bits, the count of the name's units, that of the tokens' bytes, the sheet's number, and name and tokens
abbrev lbl : ℕ → ℕ → ℕ → ℕ → List ℕ → List ℕ
lbl bits units size number rest = le16 bits ++ 0 ∷ units ∷ le16 size ++ 0 ∷ 0 ∷ le16 number ++ 0 ∷ 0 ∷ 0 ∷ 0 ∷ rest

-- a token, a reference, rows 2 and 8, columns 0 and 3
abbrev area_token : ℕ → List ℕ
area_token token = token ∷ 9 ∷ 9 ∷ 2 ∷ 0 ∷ 8 ∷ 0 ∷ 0 ∷ 0 ∷ 3 ∷ 0 ∷ []

-- the same of BIFF5: two bits of each row don't count
abbrev area_token_5 : ℕ → List ℕ
area_token_5 token = token ∷ replicate 14 9 ++ 0x02 ∷ 0xC0 ∷ 0x08 ∷ 0x40 ∷ 0 ∷ 3 ∷ []

abbrev rows_2_to_8 : ℕ → Option SheetArea
rows_2_to_8 number = Some (record { number = number; area = record { first = 2; last = 8 } })

-- each class of the token; a place alone, and areas of the own sheet, are no areas
pub known_tokens : map (λ token. lbl_area Biff8 (lbl 0x0021 1 11 7 (0x00 ∷ 0x0D ∷ area_token token))) (0x3B ∷ 0x5B ∷ 0x7B ∷ 0x3A ∷ 0x25 ∷ 0x1B ∷ 0x9B ∷ [])
    ≡ rows_2_to_8 7 ∷ rows_2_to_8 7 ∷ rows_2_to_8 7 ∷ None ∷ None ∷ None ∷ None ∷ []
known_tokens = refl

pub known_tokens_5 : map (λ token. lbl_area Biff5 (lbl 0x0020 1 21 7 (0x0D ∷ area_token_5 token))) (0x3B ∷ 0x5B ∷ 0x7B ∷ 0x3A ∷ [])
    ≡ rows_2_to_8 7 ∷ rows_2_to_8 7 ∷ rows_2_to_8 7 ∷ None ∷ []
known_tokens_5 = refl

-- a name in units of two bytes; then one that isn't built in, one of two units, and another one
pub known_names : lbl_area Biff8 (lbl 0x0020 1 11 1 (0x01 ∷ 0x0D ∷ 0x00 ∷ area_token 0x3B)) ∷ lbl_area Biff8 (lbl 0xFFDF 1 11 1 (0x00 ∷ 0x0D ∷ area_token 0x3B))
    ∷ lbl_area Biff8 (lbl 0x0020 2 11 1 (0x00 ∷ 0x0D ∷ 0x0D ∷ area_token 0x3B)) ∷ lbl_area Biff8 (lbl 0x0020 1 11 1 (0x00 ∷ 0x06 ∷ area_token 0x3B)) ∷ []
    ≡ rows_2_to_8 1 ∷ None ∷ None ∷ None ∷ []
known_names = refl

-- tokens that are cut, tokens that aren't all there, and no tokens
pub known_cut_tokens : lbl_area Biff8 (lbl 0x0020 1 10 1 (0x00 ∷ 0x0D ∷ take 10 (area_token 0x3B))) ∷ lbl_area Biff5 (lbl 0x0020 1 20 1 (0x0D ∷ take 20 (area_token_5 0x3B)))
    ∷ lbl_area Biff8 (lbl 0x0020 1 99 1 (0x00 ∷ 0x0D ∷ area_token 0x3B)) ∷ lbl_area Biff8 (lbl 0x0020 1 0 1 (0x00 ∷ 0x0D ∷ [])) ∷ lbl_area Biff8 (0x20 ∷ 0 ∷ []) ∷ []
    ≡ None ∷ None ∷ None ∷ None ∷ None ∷ []
known_cut_tokens = refl

-- of a sheet's areas the first that is told counts; a record of another type tells none
pub known_first_area : map (λ sheet. first_area Biff8 sheet
    (at_9 0x018 (lbl 0x0020 1 11 1 (0x00 ∷ 0x0D ∷ area_token 0x3A)) ∷ at_9 0x218 (lbl 0x0020 1 11 2 (0x00 ∷ 0x0D ∷ area_token 0x3B)) ∷ at_9 0x018 (lbl 0x0020 1 11 1 (0x00 ∷ 0x0D ∷ area_token 0x3B))
    ∷ at_9 0x018 (lbl 0x0020 1 11 1 (0x00 ∷ 0x0D ∷ 0x3B ∷ 9 ∷ 9 ∷ 4 ∷ 0 ∷ 5 ∷ 0 ∷ 0 ∷ 0 ∷ 3 ∷ 0 ∷ [])) ∷ [])) (0 ∷ 1 ∷ [])
    ≡ Some (record { first = 2; last = 8 }) ∷ None ∷ []
known_first_area = refl
