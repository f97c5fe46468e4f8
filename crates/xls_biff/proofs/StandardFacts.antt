-- Values from outside, in the bytes of records, so that a wrong rule in the definitions does not check.
use Rattle.std.proofs.Common.{◌≡◌, ℕ, [], ◌∷◌, ◌++◌, map, replicate, refl, pos, negsuc, codes, true, false, Some, None, Ok, Err}
use Rattle.xls_stream.specs.Substreams.{sheet_types}
use Rattle.xls_stream.specs.declared.part.Part.TheVariants as parts
use Rattle.xls_text.specs.declared.encoding.XlsEncoding.TheVariants.{Utf16, Windows1252}
use Rattle.xls_text.specs.declared.error.CfbError.TheVariants.{CodePageNotFound}
use Rattle.xls_data.specs.Content.{int, float, text, truth, failure}
use Rattle.xls_dates.specs.declared.numbers.Number.TheVariants.{Bits, Hundredths, BitsOver100}
use Rattle.xls_dates.specs.declared.formats.CellFormat.TheVariants.{Other, DateTime, TimeDelta}
use Rattle.xls_data.specs.declared.errors.CellErrorType.TheVariants as failures
use Rattle.xls_data.specs.declared.sheets.SheetType.TheVariants as kinds
use Rattle.xls_data.specs.declared.sheets.SheetVisible.TheVariants as states
use Rattle.xls_record.specs.declared.version.Biff.TheVariants.{Biff2, Biff3, Biff4, Biff5, Biff8}
use Rattle.xls_record.specs.declared.error.XlsError.TheVariants as errors
use Rattle.xls_record.specs.Reading.{fault_in, gives}
use Rattle.xls_biff.specs.declared.records.bof.Bof.{Bof}
use Rattle.xls_biff.specs.Cells.{cell_error}
use Rattle.xls_biff.specs.Records.Bof.{bof_at}
use Rattle.xls_biff.specs.Records.BoolErr.{bes_content, bool_err_at}
use Rattle.xls_biff.specs.Records.BoundSheet.{bound_sheet_at, kind_at, visible_at}
use Rattle.xls_biff.specs.Records.CodePage.{code_page_at}
use Rattle.xls_biff.specs.Records.DateMode.{date_mode_at}
use Rattle.xls_biff.specs.Records.Dimensions.{bounds, dimensions_at}
use Rattle.xls_biff.specs.Records.ExternSheet.{refs_at}
use Rattle.xls_biff.specs.Records.FilePass.{file_pass_at}
use Rattle.xls_biff.specs.Records.Format.{format_at, format_code_at, class_from}
use Rattle.xls_biff.specs.Records.Formula.{formula_at, formula_value_at}
use Rattle.xls_biff.specs.Records.Label.{label_at, label_prefix}
use Rattle.xls_biff.specs.Records.LabelSst.{label_sst_at}
use Rattle.xls_biff.specs.Records.MergeCells.{merges_at}
use Rattle.xls_biff.specs.Records.Number.{number_at}
use Rattle.xls_biff.specs.Records.Rk.{rk_at, rk_content, rk_whole, mul_rk_at}
use Rattle.xls_biff.specs.Records.Xf.{xf_at}
use Rattle.xls_biff.specs.SheetTable.{sheet_table, weight_of_type}

-- ---- the globals

-- 0600, 0500, 0400, 0300 and 0200, and 0000 with and without a second number of 1000
pub known_bof : map (λ body. gives (λ (b : Bof). b.biff) (bof_at body)) (
    (0x00 ∷ 0x06 ∷ 0x05 ∷ 0x00 ∷ []) ∷ (0x00 ∷ 0x05 ∷ []) ∷ (0x00 ∷ 0x04 ∷ []) ∷ (0x00 ∷ 0x03 ∷ [])
    ∷ (0x00 ∷ 0x02 ∷ []) ∷ (0x00 ∷ 0x00 ∷ 0x00 ∷ 0x10 ∷ []) ∷ (0x00 ∷ 0x00 ∷ 0x00 ∷ []) ∷ [])
    ≡ Ok Biff8 ∷ Ok Biff5 ∷ Ok Biff4 ∷ Ok Biff3 ∷ Ok Biff2 ∷ Ok Biff5 ∷ Ok Biff8 ∷ []
known_bof = refl

-- RC4 and others, and XOR obfuscation, under which the records are read as they stand
pub known_file_pass : map file_pass_at ((0x01 ∷ 0x00 ∷ []) ∷ (0x02 ∷ 0x00 ∷ []) ∷ (0x00 ∷ 0x01 ∷ []) ∷ (0x00 ∷ 0x00 ∷ []) ∷ [])
    ≡ Err errors.Password ∷ Err errors.Password ∷ Err errors.Password ∷ Ok tt ∷ []
known_file_pass = refl

-- the pages 1200 and 1252, and 437, which isn't kept
pub known_code_page : map code_page_at ((0xB0 ∷ 0x04 ∷ []) ∷ (0xE4 ∷ 0x04 ∷ []) ∷ (0xB5 ∷ 0x01 ∷ []) ∷ [])
    ≡ Ok Utf16 ∷ Ok Windows1252 ∷ Err (errors.Cfb (CodePageNotFound 437)) ∷ []
known_code_page = refl

pub known_date_mode : map date_mode_at ((0x01 ∷ 0x00 ∷ []) ∷ (0x00 ∷ 0x00 ∷ []) ∷ (0x01 ∷ 0x01 ∷ []) ∷ [])
    ≡ Ok true ∷ Ok false ∷ Ok false ∷ []
known_date_mode = refl

-- the format `[h]` of BIFF5, and the identifier 0
pub known_format : map (format_at Windows1252 Biff5) ((0xA4 ∷ 0x00 ∷ 0x03 ∷ 0x5B ∷ 0x68 ∷ 0x5D ∷ [])
    ∷ (0x00 ∷ 0x00 ∷ []) ∷ [])
    ≡ Ok (164, TimeDelta) ∷ Err (errors.InvalidFormat 0) ∷ []
known_format = refl

-- with their texts, also of an identifier that no Format may have: in BIFF8, and before
pub known_format_codes : format_code_at Utf16 Biff8 (0x32 ∷ 0x00 ∷ 0x03 ∷ 0x00 ∷ 0x00 ∷ 0x5B ∷ 0x68 ∷ 0x5D ∷ []) ∷ format_code_at Windows1252 Biff5 (0xA4 ∷ 0x00 ∷ 0x01 ∷ 0x80 ∷ [])
    ∷ format_code_at Windows1252 Biff5 (0xA4 ∷ []) ∷ []
    ≡ Ok (0x32, codes "[h]") ∷ Ok (0xA4, 0x20AC ∷ []) ∷ Err (errors.Len 2 1 parts.Format) ∷ []
known_format_codes = refl

-- the class of a code counts for some identifiers alone
pub known_format_classes : map class_from ((0xA4, codes "[h]") ∷ (0x32, codes "[h]") ∷ (0x0E, codes "yyyy") ∷ (0x17E, codes "yyyy") ∷ (0x17F, codes "yyyy") ∷ [])
    ≡ Some (0xA4, TimeDelta) ∷ None ∷ None ∷ Some (0x17E, DateTime) ∷ None ∷ []
known_format_classes = refl

pub known_xf : xf_at (0x05 ∷ 0x00 ∷ 0xA4 ∷ 0x00 ∷ []) ≡ Ok 164
known_xf = refl

-- a worksheet `A` at 25; a very hidden VBA sheet of the name `A`, NUL, `B`, whose byte 4 has its high
-- bits set; the state 3 before the kind 3; and that kind
pub known_bound_sheet : map (bound_sheet_at Utf16 Biff8) (
    (0x19 ∷ 0x00 ∷ 0x00 ∷ 0x00 ∷ 0x00 ∷ 0x00 ∷ 0x01 ∷ 0x00 ∷ 0x41 ∷ [])
    ∷ (0x00 ∷ 0x01 ∷ 0x00 ∷ 0x00 ∷ 0xC2 ∷ 0x06 ∷ 0x03 ∷ 0x00 ∷ 0x41 ∷ 0x00 ∷ 0x42 ∷ [])
    ∷ (0x19 ∷ 0x00 ∷ 0x00 ∷ 0x00 ∷ 0x43 ∷ 0x03 ∷ []) ∷ (0x19 ∷ 0x00 ∷ 0x00 ∷ 0x00 ∷ 0x41 ∷ 0x03 ∷ []) ∷ [])
    ≡ Ok (25, record { name = codes "A"; typ = kinds.WorkSheet; visible = states.Visible })
    ∷ Ok (256, record { name = codes "AB"; typ = kinds.Vba; visible = states.VeryHidden })
    ∷ Err (errors.Unrecognized parts.HsState 3) ∷ Err (errors.Unrecognized parts.SheetKind 3) ∷ []
known_bound_sheet = refl

-- the kinds 00, 01, 02 and 06, and those beside them; the states 00, 01 and 02
pub known_kinds : map kind_at (0x00 ∷ 0x01 ∷ 0x02 ∷ 0x06 ∷ 0x03 ∷ 0x05 ∷ 0x07 ∷ [])
    ≡ Ok kinds.WorkSheet ∷ Ok kinds.MacroSheet ∷ Ok kinds.ChartSheet ∷ Ok kinds.Vba
    ∷ Err (errors.Unrecognized parts.SheetKind 0x03) ∷ Err (errors.Unrecognized parts.SheetKind 0x05)
    ∷ Err (errors.Unrecognized parts.SheetKind 0x07) ∷ []
known_kinds = refl

pub known_states : map visible_at (0x00 ∷ 0x01 ∷ 0x02 ∷ 0x03 ∷ [])
    ≡ Ok states.Visible ∷ Ok states.Hidden ∷ Ok states.VeryHidden ∷ Err (errors.Unrecognized parts.HsState 0x03) ∷ []
known_states = refl

-- a reference to sheet 1, and half of another one
pub known_refs : refs_at Biff8 (0x02 ∷ 0x00 ∷ 0x00 ∷ 0x00 ∷ 0x01 ∷ 0x00 ∷ 0x01 ∷ 0x00 ∷ 0x00 ∷ 0x00
    ∷ 0xFE ∷ [])
    ≡ Ok (pos 1 ∷ [])
known_refs = refl

-- ---- cells

-- 3 in row 3, column 1, of class 0
pub known_number : number_at (Other ∷ []) false (0x03 ∷ 0x00 ∷ 0x01 ∷ 0x00 ∷ 0x00 ∷ 0x00 ∷ 0x00
    ∷ 0x00 ∷ 0x00 ∷ 0x00 ∷ 0x00 ∷ 0x00 ∷ 0x08 ∷ 0x40 ∷ [])
    ≡ Ok ((3, 1), float (Bits 0x4008_0000_0000_0000))
known_number = refl

-- the RK numbers of 123.45 in hundredths, of the whole numbers 1 and 1,234,567 over 100 twice, of the
-- double 1 and of the double 1 over 100
pub known_rk : map (λ rk. rk_content None rk false) (0xC0E7 ∷ 0x6 ∷ 0x193 ∷ 0x3FF0_0000 ∷ 0x3FF0_0001 ∷ [])
    ≡ float (Hundredths (pos 12345)) ∷ int (pos 1) ∷ int (pos 1) ∷ float (Bits 0x3FF0_0000_0000_0000)
    ∷ float (BitsOver100 0x3FF0_0000_0000_0000) ∷ []
unfolding rk_content
known_rk = refl

-- the whole numbers -1 and -2^29, and the greatest one
pub known_signs : map rk_whole (0xFFFF_FFFE ∷ 0x8000_0002 ∷ 0x7FFF_FFFE ∷ [])
    ≡ negsuc 0 ∷ negsuc 536_870_911 ∷ pos 536_870_911 ∷ []
known_signs = refl

-- 2 in row 1, column 2
pub known_rk_cell : rk_at [] false (0x01 ∷ 0x00 ∷ 0x02 ∷ 0x00 ∷ 0x00 ∷ 0x00 ∷ 0x0A ∷ 0x00 ∷ 0x00 ∷ 0x00 ∷ [])
    ≡ Ok ((1, 2), int (pos 2))
unfolding rk_content
known_rk_cell = refl

-- 2 and 2.5 in row 2, columns 0 and 1; and a last column before the first
pub known_row : map (mul_rk_at [] false) (
    (0x02 ∷ 0x00 ∷ 0x00 ∷ 0x00 ∷ 0x00 ∷ 0x00 ∷ 0x0A ∷ 0x00 ∷ 0x00 ∷ 0x00 ∷ 0x00 ∷ 0x00 ∷ 0xEB ∷ 0x03
    ∷ 0x00 ∷ 0x00 ∷ 0x01 ∷ 0x00 ∷ [])
    ∷ (0x00 ∷ 0x00 ∷ 0x02 ∷ 0x00 ∷ 0x00 ∷ 0x00 ∷ 0x06 ∷ 0x00 ∷ 0x00 ∷ 0x00 ∷ 0x01 ∷ 0x00 ∷ []) ∷ [])
    ≡ Ok (((2, 0), int (pos 2)) ∷ ((2, 1), float (Hundredths (pos 250))) ∷ [])
    ∷ Err (errors.Len 65_536 12 parts.Rk) ∷ []
unfolding rk_content
known_row = refl

-- #NULL!, #DIV/0!, #VALUE!, #REF!, #NAME?, #NUM!, #N/A, and the one of data that isn't there yet
pub known_errors : map cell_error (0x00 ∷ 0x07 ∷ 0x0F ∷ 0x17 ∷ 0x1D ∷ 0x24 ∷ 0x2A ∷ 0x2B ∷ 0x01 ∷ [])
    ≡ Ok failures.Null ∷ Ok failures.Div0 ∷ Ok failures.Value ∷ Ok failures.Ref ∷ Ok failures.Name
    ∷ Ok failures.Num ∷ Ok failures.NA ∷ Ok failures.GettingData
    ∷ Err (errors.Unrecognized parts.CellError 1) ∷ []
known_errors = refl

-- a byte and whether it is an error's code: 00 is false, all else true
pub known_bes : map (λ (bes : ℕ × ℕ). bes_content bes.0 bes.1) (
    (0x00, 0x00) ∷ (0x01, 0x00) ∷ (0x02, 0x00) ∷ (0x2A, 0x00) ∷ (0x00, 0x01) ∷ (0x2A, 0x01) ∷ (0x01, 0x01) ∷ (0x00, 0x02) ∷ [])
    ≡ Ok (truth false) ∷ Ok (truth true) ∷ Ok (truth true) ∷ Ok (truth true) ∷ Ok (failure failures.Null)
    ∷ Ok (failure failures.NA) ∷ Err (errors.Unrecognized parts.CellError 0x01) ∷ Err (errors.Unrecognized parts.FError 0x02) ∷ []
known_bes = refl

pub known_bool_err : map bool_err_at (
    (0x01 ∷ 0x00 ∷ 0x00 ∷ 0x00 ∷ 0x00 ∷ 0x00 ∷ 0x2A ∷ 0x01 ∷ [])
    ∷ (0x00 ∷ 0x00 ∷ 0x00 ∷ 0x01 ∷ 0x00 ∷ 0x00 ∷ 0x01 ∷ 0x00 ∷ [])
    ∷ (0x00 ∷ 0x00 ∷ 0x00 ∷ 0x00 ∷ 0x00 ∷ 0x00 ∷ 0x01 ∷ 0x02 ∷ []) ∷ [])
    ≡ Ok ((1, 0), failure failures.NA) ∷ Ok ((0, 256), truth true)
    ∷ Err (errors.Unrecognized parts.FError 2) ∷ []
known_bool_err = refl

-- `A` in BIFF8, and U+20AC in BIFF5
pub known_label : label_at Utf16 Biff8 (0x00 ∷ 0x00 ∷ 0x03 ∷ 0x00 ∷ 0x00 ∷ 0x00 ∷ 0x01 ∷ 0x00 ∷ 0x00
    ∷ 0x41 ∷ [])
    ≡ Ok ((0, 3), text (codes "A"))
known_label = refl

pub known_label_5 : label_at Windows1252 Biff5 (0x00 ∷ 0x00 ∷ 0x03 ∷ 0x00 ∷ 0x00 ∷ 0x00 ∷ 0x01 ∷ 0x00
    ∷ 0x80 ∷ [])
    ≡ Ok ((0, 3), text (0x20AC ∷ []))
known_label_5 = refl

-- row 1, column 3, and the three bytes of the string; and a body of five bytes
pub known_label_prefix : map label_prefix (
    (0x01 ∷ 0x00 ∷ 0x03 ∷ 0x00 ∷ 0x00 ∷ 0x00 ∷ 0x01 ∷ 0x00 ∷ 0x80 ∷ [])
    ∷ (0x01 ∷ 0x00 ∷ 0x03 ∷ 0x00 ∷ 0x00 ∷ []) ∷ [])
    ≡ Ok ((1, 3), 0x01 ∷ 0x00 ∷ 0x80 ∷ []) ∷ Err (errors.Len 6 5 parts.Label) ∷ []
known_label_prefix = refl

pub known_shared : map (label_sst_at (codes "a" ∷ codes "b" ∷ [])) (
    (0x04 ∷ 0x00 ∷ 0x00 ∷ 0x00 ∷ 0x00 ∷ 0x00 ∷ 0x01 ∷ 0x00 ∷ 0x00 ∷ 0x00 ∷ [])
    ∷ (0x04 ∷ 0x00 ∷ 0x00 ∷ 0x00 ∷ 0x00 ∷ 0x00 ∷ 0x02 ∷ 0x00 ∷ 0x00 ∷ 0x00 ∷ []) ∷ [])
    ≡ Ok (Some ((4, 0), text (codes "b"))) ∷ Ok None ∷ []
known_shared = refl

-- the double 6, text that follows, true, #DIV/0!, the empty text, and another kind
pub known_values : map (formula_value_at None false) (
    (0x00 ∷ 0x00 ∷ 0x00 ∷ 0x00 ∷ 0x00 ∷ 0x00 ∷ 0x18 ∷ 0x40 ∷ [])
    ∷ (0x00 ∷ 0x00 ∷ 0x00 ∷ 0x00 ∷ 0x00 ∷ 0x00 ∷ 0xFF ∷ 0xFF ∷ [])
    ∷ (0x01 ∷ 0x00 ∷ 0x01 ∷ 0x00 ∷ 0x00 ∷ 0x00 ∷ 0xFF ∷ 0xFF ∷ [])
    ∷ (0x02 ∷ 0x00 ∷ 0x07 ∷ 0x00 ∷ 0x00 ∷ 0x00 ∷ 0xFF ∷ 0xFF ∷ [])
    ∷ (0x03 ∷ 0x00 ∷ 0x00 ∷ 0x00 ∷ 0x00 ∷ 0x00 ∷ 0xFF ∷ 0xFF ∷ [])
    ∷ (0x04 ∷ 0x00 ∷ 0x00 ∷ 0x00 ∷ 0x00 ∷ 0x00 ∷ 0xFF ∷ 0xFF ∷ []) ∷ [])
    ≡ Ok (Some (float (Bits 0x4018_0000_0000_0000))) ∷ Ok None ∷ Ok (Some (truth true))
    ∷ Ok (Some (failure failures.Div0)) ∷ Ok (Some (text []))
    ∷ Err (errors.Unrecognized parts.CellError 4) ∷ []
known_values = refl

-- true in row 1, column 2, and the tokens of 5
pub known_formula : formula_at [] false (
    0x01 ∷ 0x00 ∷ 0x02 ∷ 0x00 ∷ 0x00 ∷ 0x00 ∷ 0x01 ∷ 0x00 ∷ 0x01 ∷ 0x00 ∷ 0x00 ∷ 0x00 ∷ 0xFF ∷ 0xFF
    ∷ 0x00 ∷ 0x00 ∷ 0x00 ∷ 0x00 ∷ 0x00 ∷ 0x00 ∷ 0x03 ∷ 0x00 ∷ 0x1E ∷ 0x05 ∷ 0x00 ∷ [])
    ≡ Ok ((1, 2), Some (truth true), 0x03 ∷ 0x00 ∷ 0x1E ∷ 0x05 ∷ 0x00 ∷ [])
known_formula = refl

-- ---- the table of a sheet

-- its types by their numbers in [MS-XLS]: Number, Dimensions, Label, RString, BoolErr, String, RK, LabelSst, MulRk,
-- MergeCells and Formula
pub known_types : map (λ line. line.0) sheet_table
    ≡ 0x0203 ∷ 0x0200 ∷ 0x0204 ∷ 0x00D6 ∷ 0x0205 ∷ 0x0207 ∷ 0x027E ∷ 0x00FD ∷ 0x00BD ∷ 0x00E5 ∷ 0x0006 ∷ []
known_types = refl

-- they are those of a sheet's records
pub same_types : map (λ line. line.0) sheet_table ≡ sheet_types
same_types = refl

-- ---- weights

-- Formula, RString, LabelSst, Number, Label, BoolErr, String and RK are one cell each; MulRk, MergeCells, Dimensions and
-- BLANK aren't
pub known_weights : map weight_of_type (0x0006 ∷ 0x00D6 ∷ 0x00FD ∷ 0x0203 ∷ 0x0204 ∷ 0x0205 ∷ 0x0207 ∷ 0x027E ∷ 0x00BD ∷ 0x00E5 ∷ 0x0200 ∷ 0x0201 ∷ [])
    ≡ replicate 8 1 ++ replicate 4 0
known_weights = refl

-- ---- regions

-- no rows, and a first column after the last
pub known_bounds : bounds 0 0 0 0 ≡ record { start = (0, 0); end = (0, 0) }
known_bounds = refl

pub known_columns : bounds 1 3 5 4 ≡ record { start = (1, 0); end = (2, 3) }
known_columns = refl

-- the first column 255 before 256 stands; 256 before 257 becomes 0, and so does one behind the last
pub known_first_columns : map dimensions_at (
    (0x01 ∷ 0x00 ∷ 0x04 ∷ 0x00 ∷ 0xFF ∷ 0x00 ∷ 0x00 ∷ 0x01 ∷ 0x00 ∷ 0x00 ∷ [])
    ∷ (0x01 ∷ 0x00 ∷ 0x04 ∷ 0x00 ∷ 0x00 ∷ 0x01 ∷ 0x01 ∷ 0x01 ∷ 0x00 ∷ 0x00 ∷ [])
    ∷ (0x01 ∷ 0x00 ∷ 0x04 ∷ 0x00 ∷ 0x06 ∷ 0x00 ∷ 0x05 ∷ 0x00 ∷ 0x00 ∷ 0x00 ∷ []) ∷ [])
    ≡ Ok (record { start = (1, 0xFF); end = (3, 0xFF) }) ∷ Ok (record { start = (1, 0); end = (3, 0x100) })
    ∷ Ok (record { start = (1, 0); end = (3, 4) }) ∷ []
known_first_columns = refl

-- rows 1 to 3 and columns 2 to 4, in 32 bits and in 16
pub known_dimensions : map dimensions_at (
    (0x01 ∷ 0x00 ∷ 0x00 ∷ 0x00 ∷ 0x04 ∷ 0x00 ∷ 0x00 ∷ 0x00 ∷ 0x02 ∷ 0x00 ∷ 0x05 ∷ 0x00 ∷ 0x00 ∷ 0x00 ∷ [])
    ∷ (0x01 ∷ 0x00 ∷ 0x04 ∷ 0x00 ∷ 0x02 ∷ 0x00 ∷ 0x05 ∷ 0x00 ∷ 0x00 ∷ 0x00 ∷ []) ∷ [])
    ≡ Ok (record { start = (1, 2); end = (3, 4) }) ∷ Ok (record { start = (1, 2); end = (3, 4) }) ∷ []
known_dimensions = refl

-- rows 0 to 0 and columns 1 to 2
pub known_merges : merges_at (0x01 ∷ 0x00 ∷ 0x00 ∷ 0x00 ∷ 0x00 ∷ 0x00 ∷ 0x01 ∷ 0x00 ∷ 0x02 ∷ 0x00 ∷ [])
    ≡ Ok (record { start = (0, 1); end = (0, 2) } ∷ [])
known_merges = refl

-- ---- least lengths

-- FilePass, BOF, CodePage, DateMode, Format, XF, BoundSheet8 and ExternSheet
pub known_lengths : file_pass_at [] ∷ fault_in (bof_at []) ∷ fault_in (code_page_at [])
    ∷ fault_in (date_mode_at []) ∷ fault_in (format_at Utf16 Biff8 []) ∷ fault_in (xf_at [])
    ∷ fault_in (bound_sheet_at Utf16 Biff8 []) ∷ fault_in (refs_at Biff8 []) ∷ []
    ≡ Err (errors.Len 2 0 parts.FilePass) ∷ Err (errors.Len 2 0 parts.Bof)
    ∷ Err (errors.Len 2 0 parts.CodePage)
    ∷ Err (errors.Len 2 0 parts.DateMode) ∷ Err (errors.Len 2 0 parts.Format) ∷ Err (errors.Len 4 0 parts.Xf)
    ∷ Err (errors.Len 6 0 parts.BoundSheet) ∷ Err (errors.Len 2 0 parts.ExternSheet) ∷ []
known_lengths = refl

-- Number, RK, MulRk, BoolErr, Label, LabelSst, Formula, Dimensions and MergeCells
pub known_sheet_lengths : fault_in (number_at [] false []) ∷ fault_in (rk_at [] false [])
    ∷ fault_in (mul_rk_at [] false []) ∷ fault_in (bool_err_at []) ∷ fault_in (label_at Utf16 Biff8 [])
    ∷ fault_in (label_sst_at [] []) ∷ fault_in (formula_at [] false []) ∷ fault_in (dimensions_at [])
    ∷ fault_in (merges_at []) ∷ []
    ≡ Err (errors.Len 14 0 parts.Number) ∷ Err (errors.Len 10 0 parts.Rk) ∷ Err (errors.Len 6 0 parts.Rk)
    ∷ Err (errors.Len 8 0 parts.BoolErr) ∷ Err (errors.Len 6 0 parts.Label)
    ∷ Err (errors.Len 10 0 parts.LabelSst)
    ∷ Err (errors.Len 20 0 parts.Formula) ∷ Err (errors.Len 14 0 parts.Dimensions)
    ∷ Err (errors.Len 2 0 parts.MergeCells) ∷ []
known_sheet_lengths = refl
