-- The parts of a stream by their numbers, from 1.
use Rattle.std.specs.Prelude.{ℕ, ◌-◌, ◌==◌, if◌then◌else◌, List, [], ◌∷◌, Option, None, slice_get}
use Rattle.xls_stream.specs.declared.part.Part.{Part}
use Rattle.xls_stream.specs.declared.part.Part.TheVariants as parts

abbrev pub part_number : Part → ℕ
part_number parts.RecordHeader = 1
part_number parts.RecordLength = 2
part_number parts.ContinueLength = 3
part_number parts.SheetOffset = 4
part_number parts.Dbcs = 5
part_number parts.Bof = 6
part_number parts.FilePass = 7
part_number parts.CodePage = 8
part_number parts.DateMode = 9
part_number parts.Xf = 10
part_number parts.BoundSheet = 11
part_number parts.HsState = 12
part_number parts.SheetKind = 13
part_number parts.Lbl = 14
part_number parts.NameFormula = 15
part_number parts.ExternSheet = 16
part_number parts.Sst = 17
part_number parts.RichString = 18
part_number parts.ShortString = 19
part_number parts.Text = 20
part_number parts.NoCch = 21
part_number parts.Dimensions = 22
part_number parts.Number = 23
part_number parts.Label = 24
part_number parts.BoolErr = 25
part_number parts.FError = 26
part_number parts.CellError = 27
part_number parts.Rk = 28
part_number parts.LabelSst = 29
part_number parts.MergeCells = 30
part_number parts.Formula = 31
part_number parts.Format = 32
part_number parts.Rgce = 33
part_number parts.Ptg = 34
part_number parts.PtgExp = 35
part_number parts.PtgStr = 36
part_number parts.SpaceKind = 37
part_number parts.BErr = 38

abbrev pub all_parts : List Part
all_parts =
    parts.RecordHeader ∷ parts.RecordLength ∷ parts.ContinueLength ∷ parts.SheetOffset
    ∷ parts.Dbcs ∷ parts.Bof ∷ parts.FilePass ∷ parts.CodePage ∷ parts.DateMode ∷ parts.Xf
    ∷ parts.BoundSheet ∷ parts.HsState ∷ parts.SheetKind ∷ parts.Lbl ∷ parts.NameFormula
    ∷ parts.ExternSheet ∷ parts.Sst ∷ parts.RichString ∷ parts.ShortString ∷ parts.Text
    ∷ parts.NoCch ∷ parts.Dimensions ∷ parts.Number ∷ parts.Label ∷ parts.BoolErr ∷ parts.FError
    ∷ parts.CellError ∷ parts.Rk ∷ parts.LabelSst ∷ parts.MergeCells ∷ parts.Formula
    ∷ parts.Format ∷ parts.Rgce ∷ parts.Ptg ∷ parts.PtgExp ∷ parts.PtgStr ∷ parts.SpaceKind
    ∷ parts.BErr ∷ []

-- the part of a number, if there is one
abbrev pub part_numbered : ℕ → Option Part
part_numbered number = if number == 0 then None else slice_get all_parts (number - 1)
