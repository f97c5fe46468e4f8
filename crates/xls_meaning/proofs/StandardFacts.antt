-- Values that the rules for records, formulas and names give, so that a wrong rule in the specs does not check.
use Rattle.std.proofs.Common.{◌≡◌, [], ◌∷◌, map, false, refl, None, Some}
use Rattle.std.specs.Prelude.{pos, codes}
use Rattle.std.specs.Fmt.{digits}
use Rattle.std.specs.List.{filter}
use Rattle.xls_text.specs.declared.encoding.XlsEncoding.TheVariants.{Utf16}
use Rattle.xls_stream.specs.Listing.{Kept, globals_types, is_plain_type}
use Rattle.xls_biff.specs.SheetTable.{CellContext}
use Rattle.xls_record.specs.declared.error.XlsError.TheVariants.{StackLen}
use Rattle.xls_record.specs.declared.version.Biff.TheVariants.{Biff5, Biff8}
use Rattle.xls_meaning.specs.GlobalsTable.{globals_table}
use Rattle.xls_meaning.specs.Settings.{known_refs, placed_text, resolved_name}
use Rattle.xls_meaning.specs.SheetTable.{nonempty_formulas, refusal_bytes, last_formula}

-- the table of the globals has the types of their records but for SST and BoundSheet8
pub same_types : map (λ line. line.0) globals_table ≡ filter is_plain_type globals_types
same_types = refl

-- why a formula is refused, and where
pub refused : refusal_bytes (0, 0) StackLen ≡ codes "Unrecognised formula for cell (0, 0): Invalid stack length"
unfolding digits
refused = refl

-- before BIFF8 each of two sheets has a reference of its own
pub own : known_refs Biff5 2 [] ≡ pos 0 ∷ pos 1 ∷ []
own = refl

-- unless an ExternSheet has some, and never in BIFF8
pub kept : known_refs Biff5 2 (pos 1 ∷ []) ≡ pos 1 ∷ []
kept = refl

pub none : known_refs Biff8 2 [] ≡ []
none = refl

-- a name on a sheet, one whose reference is missing, and one without a reference
pub placed : resolved_name (codes "Data" ∷ []) (pos 0 ∷ []) (codes "Total", (Some 0, codes "$B$2")) ≡ (codes "Total", codes "Data!$B$2")
placed = refl

pub lost : placed_text (codes "Data" ∷ []) (pos 0 ∷ []) (Some 1, codes "$B$2") ≡ codes "#REF!$B$2"
lost = refl

pub unplaced : placed_text (codes "Data" ∷ []) (pos 0 ∷ []) (None, codes "empty rgce") ≡ codes "empty rgce"
unplaced = refl

-- a Formula of row 3 and column 1, a Number, and a Formula that is too short
abbrev formula : Kept
formula = record { typ = 0x0006; body = 3 ∷ 0 ∷ 1 ∷ 0 ∷ 0 ∷ 0 ∷ 0 ∷ 0 ∷ 0 ∷ 0 ∷ 0 ∷ 0 ∷ 0 ∷ 0 ∷ 0 ∷ 0 ∷ 0 ∷ 0 ∷ 0 ∷ 0 ∷ [] }

abbrev short : Kept
short = record { typ = 0x0006; body = 3 ∷ 0 ∷ 1 ∷ [] }

abbrev number : Kept
number = record { typ = 0x0203; body = 9 ∷ 0 ∷ 9 ∷ 0 ∷ 0 ∷ 0 ∷ 0 ∷ 0 ∷ 0 ∷ 0 ∷ 0 ∷ 0 ∷ 0 ∷ 0 ∷ [] }

abbrev plain : CellContext
plain = record { page = Utf16; version = Biff8; classes = []; strings = []; is_1904 = false }

pub last_place : last_formula plain (formula ∷ number ∷ short ∷ []) ≡ (3, 1)
last_place = refl

pub first_place : last_formula plain (number ∷ []) ≡ (0, 0)
first_place = refl

-- an empty text isn't shown
pub displayed : nonempty_formulas (((2, 0), []) ∷ ((5, 1), codes "A1") ∷ []) ≡ ((5, 1), codes "A1") ∷ []
displayed = refl
