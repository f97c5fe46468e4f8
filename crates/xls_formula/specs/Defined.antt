-- Defined names: Lbl ([MS-XLS] 2.4.150) and the tokens of its formula, of which the first is read.
use Rattle.std.specs.Prelude.{ℕ, ◌-◌, ◌%◌, false, List, [], ◌∷◌, ◌++◌, length, drop, slice_index, Bool, ◌||◌, ◌==◌, nat_lt, if◌then◌else◌, codes, String, Option, Some, None, Result, Ok}
use Rattle.std.specs.Fmt.{digits}
use Rattle.std.specs.Global.{Global}
use Rattle.xls_text.specs.declared.encoding.XlsEncoding.{XlsEncoding}
use Rattle.xls_text.specs.Pages.{string_text}
use Rattle.xls_stream.specs.declared.part.Part.TheVariants as parts
use Rattle.xls_record.specs.Version.{is_biff8}
use Rattle.xls_record.specs.declared.error.XlsError.{XlsError}
use Rattle.xls_record.specs.declared.version.Biff.{Biff}
use Rattle.xls_strings.specs.Texts.{text_of}
use Rattle.xls_formula.specs.declared.defined.Lbl.{Lbl}
use Rattle.xls_formula.specs.declared.defined.Place.{Place}
use Rattle.xls_formula.specs.declared.defined.Place.TheVariants as places
use Rattle.xls_ptg.specs.Fields.{word_at, sized, sized_as}
use Rattle.xls_ptg.specs.Corners.{pinned}
use Rattle.xls_ptg.specs.PtgStr.{no_cch_at}
use Rattle.xls_ptg.specs.References3d.{ixti_size, ixti_at, ref3d_size, ref3d_corner, area3d_size, area3d_first, area3d_last}
use Rattle.xls_formula.specs.Tree.{corner_text, area_text}
use Rattle.xls_record.specs.Reading.{◌>>=◌, gives}

-- 3A (PtgRef3d)
abbrev pub ref3d_place : Biff → List ℕ → Result Place XlsError
ref3d_place biff rest =
    sized (ref3d_size biff) rest
    (Ok (places.Ref3d (ixti_at biff rest) (ref3d_corner biff rest)))

-- 3B (PtgArea3d)
abbrev pub area3d_place : Biff → List ℕ → Result Place XlsError
area3d_place biff rest =
    sized (area3d_size biff) rest
    (Ok (places.Area3d (ixti_at biff rest) (area3d_first biff rest) (area3d_last biff rest)))

-- 3C and 3D (PtgRefErr3d, PtgAreaErr3d), of which the index alone is needed
abbrev pub err3d_place : Biff → List ℕ → Result Place XlsError
err3d_place biff rest = sized (ixti_size biff) rest (Ok (places.Err3d (ixti_at biff rest)))

-- the families of 3A to 3D, by the low five bits of a token from 20 to 7F
abbrev pub place_by : Biff → ℕ → List ℕ → Result Place XlsError
place_by biff ptg rest =
    if nat_lt ptg 0x20 || nat_lt 0x7F ptg then Ok (places.Unsupported ptg)
    else if ptg % 0x20 == 0x1A then ref3d_place biff rest
    else if ptg % 0x20 == 0x1B then area3d_place biff rest
    else if (ptg % 0x20 == 0x1C) || (ptg % 0x20 == 0x1D) then err3d_place biff rest
    else Ok (places.Unsupported ptg)

abbrev pub place_at : Biff → List ℕ → Result Place XlsError
place_at biff [] = Ok places.Nothing
place_at biff (ptg ∷ rest) = place_by biff ptg rest

-- the text, with `$` before every row and column
abbrev pub place_text : Place → List ℕ
place_text places.Nothing = codes "empty rgce"
place_text (places.Unsupported ptg) = codes "Unsupported ptg: " ++ digits 16 false ptg
place_text (places.Ref3d ixti corner) = corner_text (pinned corner)
place_text (places.Area3d ixti first last) = area_text (pinned first) (pinned last)
place_text (places.Err3d ixti) = codes "#REF!"

-- the index of the reference, where there is one
abbrev pub place_sheet : Place → Option ℕ
place_sheet places.Nothing = None
place_sheet (places.Unsupported ptg) = None
place_sheet (places.Ref3d ixti corner) = Some ixti
place_sheet (places.Area3d ixti first last) = Some ixti
place_sheet (places.Err3d ixti) = Some ixti

-- both
abbrev pub Located : Type 0
Located = Option ℕ × List ℕ

abbrev pub located : Place → Located
located place = (place_sheet place, place_text place)

abbrev pub defined_at : Biff → List ℕ → Result Located XlsError
defined_at biff rgce = gives located (place_at biff rgce)

-- ---- Lbl

-- the flag of the width if there is one, the count of the name's units, and their bytes
abbrev pub NameUnits : Type 0
NameUnits = Option Bool × ℕ × List ℕ

abbrev pub unit_bytes : ℕ → Result (Bool × List ℕ) XlsError → Result NameUnits XlsError
unit_bytes count read = gives (λ units. (Some units.0, count, units.1)) read

-- a string without a count, or before BIFF8 at most so many bytes
abbrev pub name_units : Biff → ℕ → List ℕ → Result NameUnits XlsError
name_units biff count bytes =
    if is_biff8 biff then unit_bytes count (no_cch_at count bytes) else Ok (None, count, bytes)

abbrev pub name_of : XlsEncoding → NameUnits → List ℕ
name_of page units = string_text page units.0 units.2 units.1

-- the tokens are the last bytes of the body, so many as bytes 4 and 5 say
abbrev pub name_tokens : List ℕ → Result (List ℕ) XlsError
name_tokens body =
    sized_as parts.NameFormula (word_at 4 body) body
    (Ok (drop (length body - word_at 4 body) body))

-- the name, whose count is byte 3 and which stands at byte 14, and what it names
abbrev pub lbl_parts : Biff → List ℕ → Result (NameUnits × Place) XlsError
lbl_parts biff body =
    sized_as parts.Lbl 14 body
    (do
      units ← name_units biff (slice_index body 3) (drop 14 body)
      tokens ← name_tokens body
      place ← place_at biff tokens
      Ok (units, place))

abbrev pub lbl_at : XlsEncoding → Biff → List ℕ → Result (List ℕ × Located) XlsError
lbl_at page biff body = gives (λ lbl. (name_of page lbl.0, located lbl.1)) (lbl_parts biff body)

-- ---- results, as definitions have them

abbrev pub located_of : Option ℕ × String Global → Located
located_of x = (x.0, text_of x.1)

abbrev pub named_of : String Global × (Option ℕ × String Global) → List ℕ × Located
named_of x = (text_of x.0, located_of x.1)

abbrev pub name_parts_of : Lbl → NameUnits × Place
name_parts_of lbl = ((lbl.high_byte, lbl.count, lbl.name.now), lbl.place)
