-- The formatting runs of a text: FormatRun ([MS-XLS]) says from which unit on (ich) the text has a font (ifnt).
use Rattle.std.specs.Prelude.{ℕ, zero, suc, ◌+◌, ◌*◌, List, [], ◌∷◌, drop, Bool, true, false, if◌then◌else◌, Option, Some, None}
use Rattle.xls_record.specs.declared.version.Biff.{Biff}
use Rattle.xls_record.specs.Version.{is_biff8}
use Rattle.xls_style_cells.specs.declared.runs.Run.{Run}
use Rattle.xls_style_cells.specs.Fields.{number_of, u16_at}

-- a number of one byte or of two, and what follows
abbrev pub number_at : Bool → List ℕ → Option (ℕ × List ℕ)
number_at true (b ∷ bytes) = Some (b, bytes)
number_at false (b ∷ c ∷ bytes) = Some (b + 256 * c, bytes)
number_at narrow bytes = None

-- the font of a run from this unit on
abbrev pub with_font : ℕ → Option (ℕ × List ℕ) → Option (Run × List ℕ)
with_font unit None = None
with_font unit (Some x) = Some (record { unit = unit; font = x.0 }, x.1)

abbrev pub with_unit : Bool → Option (ℕ × List ℕ) → Option (Run × List ℕ)
with_unit narrow None = None
with_unit narrow (Some x) = with_font x.0 (number_at narrow x.1)

-- the run that is there whole, and what follows
abbrev pub run_at : Bool → List ℕ → Option (Run × List ℕ)
run_at narrow bytes = with_unit narrow (number_at narrow bytes)

-- a run and those behind it
abbrev pub with_others : (List ℕ → List Run) → Option (Run × List ℕ) → List Run
with_others others None = []
with_others others (Some x) = x.0 ∷ others x.1

-- so many runs: those that are there whole
unfoldable pub runs_in : Bool → ℕ → List ℕ → List Run
runs_in narrow zero bytes = []
runs_in narrow (suc n) bytes = with_others (runs_in narrow n) (run_at narrow bytes)

-- those behind the text of an RString: in BIFF8 a count of two bytes and numbers of two, before it of one
abbrev pub own_list : Biff → List ℕ → List Run
own_list version bytes =
    if is_biff8 version then runs_in false (u16_at 0 bytes) (drop 2 bytes)
    else runs_in true (number_of 1 bytes) (drop 1 bytes)
