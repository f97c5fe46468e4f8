-- Known values, so that a wrong rule in the specs does not check.
use Rattle.std.proofs.Common.{◌≡◌, ℕ, [], ◌∷◌, map, codes, refl, None, lit<, arith}
use Rattle.xls_stream.specs.Stream.{Group, record_bytes, group_bytes, Begins}
use Rattle.xls_stream.specs.declared.types.TheConstants as types
use Rattle.xls_stream.specs.declared.part.Part.TheVariants as parts
use Rattle.xls_stream.specs.PartText.{part_text}
use Rattle.xls_stream.specs.Listing.{globals_types}
use Rattle.xls_stream.specs.Substreams.{none, plain, nested, Outline, own_closed, groups_of_outline, outer_in, kept_groups}
use Rattle.xls_stream.specs.Counting.{found_from}

-- the types of records by their numbers in [MS-XLS]: BOF, EOF and Continue
pub known_marks : types.BOF ∷ types.EOF ∷ types.CONTINUE ∷ [] ≡ 0x0809 ∷ 0x000A ∷ 0x003C ∷ []
known_marks = refl

-- BOF, FilePass, CodePage, DateMode, Format, XF, Lbl, ExternSheet, SST and BoundSheet8
pub known_globals : globals_types ≡ 0x0809 ∷ 0x002F ∷ 0x0042 ∷ 0x0022 ∷ 0x041E ∷ 0x00E0 ∷ 0x0018 ∷ 0x0017 ∷ 0x00FC ∷ 0x0085 ∷ []
known_globals = refl

-- an EOF record is its type and no byte
pub eof_bytes : record_bytes 0x000A [] ≡ 10 ∷ 0 ∷ 0 ∷ 0 ∷ []
eof_bytes = refl

-- type 0203, 14 bytes: the low byte stands first
pub number_header : record_bytes 0x0203 (1 ∷ 2 ∷ []) ≡ 3 ∷ 2 ∷ 2 ∷ 0 ∷ 1 ∷ 2 ∷ []
number_header = refl

abbrev group : ℕ → Group
group typ = record { typ = typ; body = []; tail = [] }

-- a sheet with a chart between two of its records
abbrev sheet_with_chart : Outline
sheet_with_chart = own_closed [] (group 2057) (plain (group 515) (nested (group 2057) (plain (group 516) none) (group 10) (plain (group 638) none))) (group 10)

pub chart_groups : groups_of_outline sheet_with_chart ≡ group 2057 ∷ group 515 ∷ group 2057 ∷ group 516 ∷ group 10 ∷ group 638 ∷ group 10 ∷ []
chart_groups = refl

-- the chart's records aren't the sheet's
pub chart_outer : outer_in sheet_with_chart ≡ group 515 ∷ group 638 ∷ []
chart_outer = refl

-- counting finds the same
pub chart_counted : found_from 0 (groups_of_outline sheet_with_chart) None ≡ (group 515 ∷ group 638 ∷ [], None)
unfolding found_from
chart_counted = refl

-- a record of a type that isn't named is no kept record
pub kept_types : kept_groups (group 515 ∷ group 520 ∷ group 6 ∷ []) ≡ group 515 ∷ group 6 ∷ []
kept_types = refl

-- a whole Continue after a record belongs to it
abbrev continued : Group
continued = record { typ = 252; body = 1 ∷ []; tail = (2 ∷ []) ∷ [] }

pub continued_bytes : group_bytes continued ≡ 252 ∷ 0 ∷ 1 ∷ 0 ∷ 1 ∷ 60 ∷ 0 ∷ 1 ∷ 0 ∷ 2 ∷ []
continued_bytes = refl

pub continued_begins : Begins (252 ∷ 0 ∷ 1 ∷ 0 ∷ 1 ∷ 60 ∷ 0 ∷ 1 ∷ 0 ∷ 2 ∷ []) continued []
continued_begins = record {
  whole = refl;
  fits = record { typ = lit< tt; body = lit< tt; tail = (lit< tt, tt) };
  room = (lit< tt, tt);
  ended = λ s. let r = s.room in omega arith;
}

-- the words of each part
pub part_texts : map part_text (
    parts.RecordHeader ∷ parts.RecordLength ∷ parts.ContinueLength ∷ parts.SheetOffset ∷ parts.Dbcs ∷ parts.Bof
    ∷ parts.FilePass ∷ parts.CodePage ∷ parts.DateMode ∷ parts.Xf ∷ parts.BoundSheet ∷ parts.HsState
    ∷ parts.SheetKind ∷ parts.Lbl ∷ parts.NameFormula ∷ parts.ExternSheet ∷ parts.Sst ∷ parts.RichString
    ∷ parts.ShortString ∷ parts.Text ∷ parts.NoCch ∷ parts.Dimensions ∷ parts.Number ∷ parts.Label ∷ parts.BoolErr
    ∷ parts.FError ∷ parts.CellError ∷ parts.Rk ∷ parts.LabelSst ∷ parts.MergeCells ∷ parts.Formula ∷ parts.Format
    ∷ parts.Rgce ∷ parts.Ptg ∷ parts.PtgExp ∷ parts.PtgStr ∷ parts.SpaceKind ∷ parts.BErr ∷ [])
    ≡ codes "record type and length" ∷ codes "record length" ∷ codes "continue record length" ∷ codes "sheet offset"
    ∷ codes "dbcs" ∷ codes "BOF" ∷ codes "FilePass" ∷ codes "CodePage" ∷ codes "DateMode" ∷ codes "xf"
    ∷ codes "BoundSheet8" ∷ codes "BoundSheet8:hsState" ∷ codes "BoundSheet8:dt" ∷ codes "Lbl"
    ∷ codes "name formula" ∷ codes "ExternSheet" ∷ codes "sst" ∷ codes "rich extended string"
    ∷ codes "short string" ∷ codes "string" ∷ codes "XLUnicodeStringNoCch" ∷ codes "dimensions" ∷ codes "number"
    ∷ codes "label" ∷ codes "BoolErr" ∷ codes "fError" ∷ codes "error" ∷ codes "rk" ∷ codes "label sst"
    ∷ codes "merge cells" ∷ codes "Formula" ∷ codes "format" ∷ codes "rgce" ∷ codes "ptg" ∷ codes "PtgExp"
    ∷ codes "PtgStr" ∷ codes "PtgAttrSpaceType" ∷ codes "BErr" ∷ []
part_texts = refl
