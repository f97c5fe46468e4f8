-- Known values of the first fault: for each kind of place, and for each record that has faults, a short
-- stream.
use Rattle.std.proofs.Common.{◌≡◌, ℕ, List, [], ◌∷◌, ◌++◌, refl, lit<, lit≤, inr, None, Some, replicate}
use Rattle.xls_stream.specs.Stream.{record_bytes}
use Rattle.xls_stream.specs.Cut.{Cut}
use Rattle.xls_stream.specs.Listing.{sheet_item, no_table, table_without}
use Rattle.xls_stream.specs.StringTable.{short_head, no_units, no_tail, units_at, tail_at}
use Rattle.xls_stream.specs.declared.part.Part.{Part}
use Rattle.xls_stream.specs.declared.part.Part.TheVariants as parts
use Rattle.xls_text.specs.declared.error.CfbError.TheVariants.{CodePageNotFound}
use Rattle.xls_record.specs.declared.error.XlsError.TheVariants as errors
use Rattle.xls_formula.specs.declared.numbers.NumberStyle.TheVariants.{Bits}
use Rattle.xls_meaning.specs.Faults.{FirstFault, outer_fault}
use Rattle.xls_meaning.specs.Rules.{Rules}
use Rattle.xls_meaning.proofs.SampleStreams.{bare, eof, in_globals, in_sheet, following, held, nothing_starts}
use Rattle.xls_meaning.proofs.SampleStreams.{plain_fault, table_fault, bound_sheet_fault, sheet_fault}

abbrev rules : Rules
rules = record { force_codepage = None; max_bytes = 1000; max_cells = 2; functions = []; numbers = Bits }

-- ---- before the records: the byte limit comes before the forced page

pub too_large : FirstFault (record { force_codepage = Some 437; max_bytes = 3; max_cells = 0; functions = []; numbers = Bits }) eof (errors.TooLarge 3)
too_large = refl

pub forced_page : FirstFault (record { force_codepage = Some 437; max_bytes = 4; max_cells = 0; functions = []; numbers = Bits }) eof
    (errors.Cfb (CodePageNotFound 437))
forced_page = refl

-- ---- the walk

-- the globals are bytes that are cut so
cut_fault : (bytes : List ℕ) (p : Part) → Cut bytes p → outer_fault rules bytes ≡ None → FirstFault rules bytes (errors.EoStream p)
cut_fault bytes p c o = following rules bytes (errors.EoStream p) [] (Some p) o (record {
  groups = [];
  globals = record { no_eof = tt; rest = bytes; ends = inr (refl, c) };
  items_are = tt;
}) refl

pub cut_header : FirstFault rules (0x0A ∷ 0x00 ∷ 0x00 ∷ []) (errors.EoStream parts.RecordHeader)
cut_header = cut_fault (0x0A ∷ 0x00 ∷ 0x00 ∷ []) parts.RecordHeader (lit< tt, lit< tt) refl

pub cut_body : FirstFault rules (0x2F ∷ 0x00 ∷ 0x02 ∷ 0x00 ∷ 0x01 ∷ []) (errors.EoStream parts.RecordLength)
cut_body = cut_fault (0x2F ∷ 0x00 ∷ 0x02 ∷ 0x00 ∷ 0x01 ∷ []) parts.RecordLength (record { header = lit≤ tt; short = lit< tt }) refl

-- a FilePass with a password, whose Continue is cut: its own fault doesn't count
abbrev continued : List ℕ
continued = 0x3C ∷ 0x00 ∷ 0x02 ∷ 0x00 ∷ 0x00 ∷ []

pub cut_continue : FirstFault rules (record_bytes 0x002F (1 ∷ 0 ∷ []) ++ continued) (errors.EoStream parts.ContinueLength)
cut_continue = cut_fault (record_bytes 0x002F (1 ∷ 0 ∷ []) ++ continued) parts.ContinueLength (
  bare 0x002F (1 ∷ 0 ∷ []),
  continued,
  record {
    whole = refl;
    fits = record { typ = lit< tt; body = lit< tt; tail = tt };
    room = tt;
    begun = record { room = lit< tt; typ = refl };
    cut = record { header = lit≤ tt; short = lit< tt };
  },
) refl

-- a sheet at 18 of a stream of 17 bytes
abbrev far_head : List ℕ
far_head = 18 ∷ 0 ∷ 0 ∷ 0 ∷ 0 ∷ 0 ∷ 1 ∷ 0 ∷ 0x41 ∷ []

pub past_the_end : FirstFault rules (in_globals 0x0085 far_head) (errors.EoStream parts.SheetOffset)
past_the_end = following rules (in_globals 0x0085 far_head) (errors.EoStream parts.SheetOffset)
    (sheet_item far_head [] (Some parts.SheetOffset) ∷ []) None refl
    (held 0x0085 far_head [] (sheet_item far_head [] (Some parts.SheetOffset)) tt tt refl nothing_starts
    (refl, refl, inr (lit< tt, refl, refl))) refl

-- ---- the globals

pub bof : FirstFault rules (in_globals 0x0809 (0 ∷ [])) (errors.Len 2 1 parts.Bof)
bof = plain_fault rules 0x0809 (0 ∷ []) (errors.Len 2 1 parts.Bof) tt tt refl refl refl refl

pub file_pass : FirstFault rules (in_globals 0x002F (1 ∷ [])) (errors.Len 2 1 parts.FilePass)
file_pass = plain_fault rules 0x002F (1 ∷ [])
    (errors.Len 2 1 parts.FilePass) tt tt refl refl refl refl

pub password : FirstFault rules (in_globals 0x002F (1 ∷ 0 ∷ [])) errors.Password
password = plain_fault rules 0x002F (1 ∷ 0 ∷ []) errors.Password tt tt refl refl refl refl

pub code_page : FirstFault rules (in_globals 0x0042 (0xB0 ∷ [])) (errors.Len 2 1 parts.CodePage)
code_page = plain_fault rules 0x0042 (0xB0 ∷ [])
    (errors.Len 2 1 parts.CodePage) tt tt refl refl refl refl

pub page_437 : FirstFault rules (in_globals 0x0042 (0xB5 ∷ 1 ∷ []))
    (errors.Cfb (CodePageNotFound 437))
page_437 = plain_fault rules 0x0042 (0xB5 ∷ 1 ∷ [])
    (errors.Cfb (CodePageNotFound 437)) tt tt refl refl refl refl

pub date_mode : FirstFault rules (in_globals 0x0022 (1 ∷ [])) (errors.Len 2 1 parts.DateMode)
date_mode = plain_fault rules 0x0022 (1 ∷ [])
    (errors.Len 2 1 parts.DateMode) tt tt refl refl refl refl

pub xf : FirstFault rules (in_globals 0x00E0 (0 ∷ 0 ∷ 1 ∷ [])) (errors.Len 4 3 parts.Xf)
xf = plain_fault rules 0x00E0 (0 ∷ 0 ∷ 1 ∷ []) (errors.Len 4 3 parts.Xf) tt tt refl refl refl refl

pub extern_sheet : FirstFault rules (in_globals 0x0017 (1 ∷ [])) (errors.Len 2 1 parts.ExternSheet)
extern_sheet = plain_fault rules 0x0017 (1 ∷ [])
    (errors.Len 2 1 parts.ExternSheet) tt tt refl refl refl refl

-- the part of the sheet begins where the stream ends
pub bound_sheet : FirstFault rules (in_globals 0x0085 (13 ∷ 0 ∷ 0 ∷ 0 ∷ 0 ∷ []))
    (errors.Len 6 5 parts.BoundSheet)
bound_sheet = bound_sheet_fault rules (13 ∷ 0 ∷ 0 ∷ 0 ∷ 0 ∷ [])
    (errors.Len 6 5 parts.BoundSheet) tt tt refl refl refl

-- by the low six bits of the byte, and before the kind
pub state : FirstFault rules (in_globals 0x0085 (14 ∷ 0 ∷ 0 ∷ 0 ∷ 0x43 ∷ 3 ∷ []))
    (errors.Unrecognized parts.HsState 3)
state = bound_sheet_fault rules (14 ∷ 0 ∷ 0 ∷ 0 ∷ 0x43 ∷ 3 ∷ [])
    (errors.Unrecognized parts.HsState 3) tt tt refl refl refl

pub kind : FirstFault rules (in_globals 0x0085 (14 ∷ 0 ∷ 0 ∷ 0 ∷ 0x42 ∷ 3 ∷ []))
    (errors.Unrecognized parts.SheetKind 3)
kind = bound_sheet_fault rules (14 ∷ 0 ∷ 0 ∷ 0 ∷ 0x42 ∷ 3 ∷ [])
    (errors.Unrecognized parts.SheetKind 3) tt tt refl refl refl

pub sheet_name : FirstFault rules (in_globals 0x0085 (15 ∷ 0 ∷ 0 ∷ 0 ∷ 2 ∷ 6 ∷ 0 ∷ []))
    (errors.Len 2 1 parts.ShortString)
sheet_name = bound_sheet_fault rules (15 ∷ 0 ∷ 0 ∷ 0 ∷ 2 ∷ 6 ∷ 0 ∷ [])
    (errors.Len 2 1 parts.ShortString) tt tt refl refl refl

pub lbl : FirstFault rules (in_globals 0x0018 (replicate 13 0)) (errors.Len 14 13 parts.Lbl)
lbl = plain_fault rules 0x0018 (replicate 13 0)
    (errors.Len 14 13 parts.Lbl) tt tt refl refl refl refl

-- a name of two wide units, of which one byte is there
pub lbl_name : FirstFault rules (in_globals 0x0018 ((0 ∷ 0 ∷ 0 ∷ 2 ∷ []) ++ (replicate 10 0 ++ (1 ∷ 0x41 ∷ []))))
    (errors.Len 5 2 parts.NoCch)
lbl_name = plain_fault rules 0x0018 ((0 ∷ 0 ∷ 0 ∷ 2 ∷ []) ++ (replicate 10 0 ++ (1 ∷ 0x41 ∷ [])))
    (errors.Len 5 2 parts.NoCch) tt tt refl refl refl refl

pub lbl_formula : FirstFault rules (in_globals 0x0018 ((0 ∷ 0 ∷ 0 ∷ 0 ∷ 16 ∷ []) ++ replicate 10 0))
    (errors.Len 16 15 parts.NameFormula)
lbl_formula = plain_fault rules 0x0018 ((0 ∷ 0 ∷ 0 ∷ 0 ∷ 16 ∷ []) ++ replicate 10 0)
    (errors.Len 16 15 parts.NameFormula) tt tt refl refl refl refl

pub lbl_token : FirstFault rules (in_globals 0x0018 ((0 ∷ 0 ∷ 0 ∷ 0 ∷ 2 ∷ []) ++ (replicate 10 0 ++ (0x3A ∷ 0 ∷ []))))
    (errors.Len 6 1 parts.Ptg)
lbl_token = plain_fault rules 0x0018 ((0 ∷ 0 ∷ 0 ∷ 0 ∷ 2 ∷ []) ++ (replicate 10 0 ++ (0x3A ∷ 0 ∷ [])))
    (errors.Len 6 1 parts.Ptg) tt tt refl refl refl refl

pub sst : FirstFault rules (in_globals 0x00FC (replicate 7 0)) (errors.Len 8 7 parts.Sst)
sst = table_fault rules (replicate 7 0) no_table (errors.Len 8 7 parts.Sst) tt (lit< tt) refl refl

pub string_head : FirstFault rules (in_globals 0x00FC (replicate 8 0 ++ (1 ∷ 0 ∷ [])))
    (errors.Len 3 2 parts.RichString)
string_head = table_fault rules (replicate 8 0 ++ (1 ∷ 0 ∷ [])) (table_without (short_head 3 2)) (errors.Len 3 2 parts.RichString) tt
    (lit≤ tt, record { strings = []; rest = _; before = refl; some = λ u. cc; fault = refl }) refl refl

-- with a count of runs and the length of an extension
pub rich_head : FirstFault rules (in_globals 0x00FC (replicate 8 0 ++ (1 ∷ 0 ∷ 0x0C ∷ 0 ∷ [])))
    (errors.Len 9 4 parts.RichString)
rich_head = table_fault rules (replicate 8 0 ++ (1 ∷ 0 ∷ 0x0C ∷ 0 ∷ [])) (table_without (short_head 9 4)) (errors.Len 9 4 parts.RichString) tt
    (lit≤ tt, record { strings = []; rest = _; before = refl; some = λ u. cc; fault = refl }) refl refl

pub string_units : FirstFault rules (in_globals 0x00FC (replicate 8 0 ++ (2 ∷ 0 ∷ 0 ∷ 0x41 ∷ [])))
    (errors.EoStream parts.Dbcs)
unfolding units_at tail_at
string_units = table_fault rules (replicate 8 0 ++ (2 ∷ 0 ∷ 0 ∷ 0x41 ∷ [])) (table_without no_units) (errors.EoStream parts.Dbcs) tt
    (lit≤ tt, record { strings = []; rest = _; before = refl; some = λ u. cc; fault = refl }) refl refl

-- an extension of one byte, which is not there
pub string_tail : FirstFault rules (in_globals 0x00FC (replicate 8 0 ++ (1 ∷ 0 ∷ 4 ∷ 1 ∷ 0 ∷ 0 ∷ 0 ∷ 0x41 ∷ [])))
    errors.ContinueRecordTooShort
unfolding units_at tail_at
string_tail = table_fault rules (replicate 8 0 ++ (1 ∷ 0 ∷ 4 ∷ 1 ∷ 0 ∷ 0 ∷ 0 ∷ 0x41 ∷ [])) (table_without no_tail) errors.ContinueRecordTooShort tt
    (lit≤ tt, record { strings = []; rest = _; before = refl; some = λ u. cc; fault = refl }) refl refl

-- ---- the sheets

pub dimensions : FirstFault rules (in_sheet 0x0200 (replicate 12 0))
    (errors.Len 14 12 parts.Dimensions)
dimensions = sheet_fault rules 0x0200 (replicate 12 0)
    (errors.Len 14 12 parts.Dimensions) tt tt refl refl refl

pub number : FirstFault rules (in_sheet 0x0203 (replicate 13 0)) (errors.Len 14 13 parts.Number)
number = sheet_fault rules 0x0203 (replicate 13 0)
    (errors.Len 14 13 parts.Number) tt tt refl refl refl

pub label : FirstFault rules (in_sheet 0x0204 (replicate 5 0)) (errors.Len 6 5 parts.Label)
label = sheet_fault rules 0x0204 (replicate 5 0) (errors.Len 6 5 parts.Label) tt tt refl refl refl

-- of the count of its text one byte is there
pub r_string : FirstFault rules (in_sheet 0x00D6 (replicate 7 0)) (errors.Len 3 1 parts.Text)
r_string = sheet_fault rules 0x00D6 (replicate 7 0) (errors.Len 3 1 parts.Text) tt tt refl refl refl

pub bool_err : FirstFault rules (in_sheet 0x0205 (replicate 7 0)) (errors.Len 8 7 parts.BoolErr)
bool_err = sheet_fault rules 0x0205 (replicate 7 0)
    (errors.Len 8 7 parts.BoolErr) tt tt refl refl refl

pub bool_err_kind : FirstFault rules (in_sheet 0x0205 (0 ∷ 0 ∷ 0 ∷ 0 ∷ 0 ∷ 0 ∷ 1 ∷ 2 ∷ []))
    (errors.Unrecognized parts.FError 2)
bool_err_kind = sheet_fault rules 0x0205 (0 ∷ 0 ∷ 0 ∷ 0 ∷ 0 ∷ 0 ∷ 1 ∷ 2 ∷ [])
    (errors.Unrecognized parts.FError 2) tt tt refl refl refl

pub bool_err_code : FirstFault rules (in_sheet 0x0205 (0 ∷ 0 ∷ 0 ∷ 0 ∷ 0 ∷ 0 ∷ 8 ∷ 1 ∷ []))
    (errors.Unrecognized parts.CellError 8)
bool_err_code = sheet_fault rules 0x0205 (0 ∷ 0 ∷ 0 ∷ 0 ∷ 0 ∷ 0 ∷ 8 ∷ 1 ∷ [])
    (errors.Unrecognized parts.CellError 8) tt tt refl refl refl

pub string : FirstFault rules (in_sheet 0x0207 (1 ∷ [])) (errors.Len 3 1 parts.Text)
string = sheet_fault rules 0x0207 (1 ∷ []) (errors.Len 3 1 parts.Text) tt tt refl refl refl

pub rk : FirstFault rules (in_sheet 0x027E (replicate 9 0)) (errors.Len 10 9 parts.Rk)
rk = sheet_fault rules 0x027E (replicate 9 0) (errors.Len 10 9 parts.Rk) tt tt refl refl refl

pub label_sst : FirstFault rules (in_sheet 0x00FD (replicate 9 0)) (errors.Len 10 9 parts.LabelSst)
label_sst = sheet_fault rules 0x00FD (replicate 9 0)
    (errors.Len 10 9 parts.LabelSst) tt tt refl refl refl

pub mul_rk : FirstFault rules (in_sheet 0x00BD (replicate 5 0)) (errors.Len 6 5 parts.Rk)
mul_rk = sheet_fault rules 0x00BD (replicate 5 0) (errors.Len 6 5 parts.Rk) tt tt refl refl refl

-- from column 2 to column 1
pub mul_rk_columns : FirstFault rules (in_sheet 0x00BD (0 ∷ 0 ∷ 2 ∷ 0 ∷ 0 ∷ 0 ∷ 6 ∷ 0 ∷ 0 ∷ 0 ∷ 1 ∷ 0 ∷ []))
    (errors.Len 65_536 12 parts.Rk)
mul_rk_columns = sheet_fault rules 0x00BD (0 ∷ 0 ∷ 2 ∷ 0 ∷ 0 ∷ 0 ∷ 6 ∷ 0 ∷ 0 ∷ 0 ∷ 1 ∷ 0 ∷ [])
    (errors.Len 65_536 12 parts.Rk) tt tt refl refl refl

-- from column 1 to column 2
pub mul_rk_length : FirstFault rules (in_sheet 0x00BD (0 ∷ 0 ∷ 1 ∷ 0 ∷ 0 ∷ 0 ∷ 6 ∷ 0 ∷ 0 ∷ 0 ∷ 2 ∷ 0 ∷ []))
    (errors.Len 18 12 parts.Rk)
mul_rk_length = sheet_fault rules 0x00BD (0 ∷ 0 ∷ 1 ∷ 0 ∷ 0 ∷ 0 ∷ 6 ∷ 0 ∷ 0 ∷ 0 ∷ 2 ∷ 0 ∷ [])
    (errors.Len 18 12 parts.Rk) tt tt refl refl refl

pub merge_cells : FirstFault rules (in_sheet 0x00E5 (1 ∷ [])) (errors.Len 2 1 parts.MergeCells)
merge_cells = sheet_fault rules 0x00E5 (1 ∷ [])
    (errors.Len 2 1 parts.MergeCells) tt tt refl refl refl

pub merge_cells_count : FirstFault rules (in_sheet 0x00E5 (1 ∷ 0 ∷ []))
    (errors.Len 10 2 parts.MergeCells)
merge_cells_count = sheet_fault rules 0x00E5 (1 ∷ 0 ∷ [])
    (errors.Len 10 2 parts.MergeCells) tt tt refl refl refl

pub formula : FirstFault rules (in_sheet 0x0006 (replicate 19 0)) (errors.Len 20 19 parts.Formula)
formula = sheet_fault rules 0x0006 (replicate 19 0)
    (errors.Len 20 19 parts.Formula) tt tt refl refl refl

pub formula_value : FirstFault rules (in_sheet 0x0006 (replicate 6 0 ++ ((4 ∷ 0 ∷ 0 ∷ 0 ∷ 0 ∷ 0 ∷ 0xFF ∷ 0xFF ∷ []) ++ replicate 6 0)))
    (errors.Unrecognized parts.CellError 4)
formula_value = sheet_fault rules 0x0006 (replicate 6 0 ++ ((4 ∷ 0 ∷ 0 ∷ 0 ∷ 0 ∷ 0 ∷ 0xFF ∷ 0xFF ∷ []) ++ replicate 6 0))
    (errors.Unrecognized parts.CellError 4) tt tt refl refl refl

pub formula_error : FirstFault rules (in_sheet 0x0006 (replicate 6 0 ++ ((2 ∷ 0 ∷ 8 ∷ 0 ∷ 0 ∷ 0 ∷ 0xFF ∷ 0xFF ∷ []) ++ replicate 6 0)))
    (errors.Unrecognized parts.CellError 8)
formula_error = sheet_fault rules 0x0006 (replicate 6 0 ++ ((2 ∷ 0 ∷ 8 ∷ 0 ∷ 0 ∷ 0 ∷ 0xFF ∷ 0xFF ∷ []) ++ replicate 6 0))
    (errors.Unrecognized parts.CellError 8) tt tt refl refl refl

-- three cells where a sheet may have two
pub too_many_cells : FirstFault rules (in_sheet 0x00BD (replicate 22 0 ++ (2 ∷ 0 ∷ [])))
    (errors.TooManyCells 2)
too_many_cells = sheet_fault rules 0x00BD (replicate 22 0 ++ (2 ∷ 0 ∷ []))
    (errors.TooManyCells 2) tt tt refl refl refl
