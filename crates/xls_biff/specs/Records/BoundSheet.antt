-- BoundSheet8 ([MS-XLS] 2.4.28): the offset of the sheet's part (lbPlyPos) in bytes 0 to 3, its state
-- (hsState) in byte 4, its kind (dt) in byte 5, and its name, a short string. The standard gives the
-- state the low two bits of its byte; that the low six count is this project's rule.
use Rattle.std.specs.Prelude.{ℕ, ◌%◌, List, ◌==◌, if◌then◌else◌, nat_lt, take, drop, slice_index, Result, Ok, Err}
use Rattle.std.specs.List.{filter}
use Rattle.xls_bytes.specs.Numbers.{le}
use Rattle.xls_text.specs.declared.encoding.XlsEncoding.{XlsEncoding}
use Rattle.xls_stream.specs.declared.part.Part.TheVariants as parts
use Rattle.xls_data.specs.Sheets.{SheetContent}
use Rattle.xls_data.specs.declared.sheets.SheetType.{SheetType}
use Rattle.xls_data.specs.declared.sheets.SheetType.TheVariants as kinds
use Rattle.xls_data.specs.declared.sheets.SheetVisible.{SheetVisible}
use Rattle.xls_data.specs.declared.sheets.SheetVisible.TheVariants as states
use Rattle.xls_record.specs.declared.version.Biff.{Biff}
use Rattle.xls_record.specs.declared.error.XlsError.{XlsError}
use Rattle.xls_record.specs.declared.error.XlsError.TheVariants.{Unrecognized}
use Rattle.xls_record.specs.Reading.{◌>>=◌, ◌>>◌, at_least}
use Rattle.xls_strings.specs.Strings.{short_string_at}

abbrev pub visible_at : ℕ → Result SheetVisible XlsError
visible_at state =
    if state == 0x00 then Ok states.Visible
    else if state == 0x01 then Ok states.Hidden
    else if state == 0x02 then Ok states.VeryHidden
    else Err (Unrecognized parts.HsState state)

abbrev pub kind_at : ℕ → Result SheetType XlsError
kind_at dt =
    if dt == 0x00 then Ok kinds.WorkSheet
    else if dt == 0x01 then Ok kinds.MacroSheet
    else if dt == 0x02 then Ok kinds.ChartSheet
    else if dt == 0x06 then Ok kinds.Vba
    else Err (Unrecognized parts.SheetKind dt)

-- the characters of a name, without NULs
abbrev pub without_nuls : List ℕ → List ℕ
without_nuls cs = filter (λ c. nat_lt 0 c) cs

-- what the record tells of the sheet, by byte 4, byte 5 and the bytes after them
abbrev pub sheet_by : XlsEncoding → Biff → (state kind : ℕ) → (name : List ℕ) → Result SheetContent XlsError
sheet_by page biff state kind name = do
  visible ← visible_at (state % 64)
  typ ← kind_at kind
  cs ← short_string_at page biff name
  Ok (record { name = without_nuls cs; typ = typ; visible = visible })

-- the offset and the sheet
abbrev pub bound_sheet_at : XlsEncoding → Biff → List ℕ → Result (ℕ × SheetContent) XlsError
bound_sheet_at page biff body = do
  at_least 6 parts.BoundSheet body
  sheet ← sheet_by page biff (slice_index body 4) (slice_index body 5) (drop 6 body)
  Ok (le (take 4 body), sheet)
