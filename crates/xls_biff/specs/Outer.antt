-- What a step over a sheet part gives, where some BOF records are open.
use Rattle.std.specs.Prelude.{◌≡◌, true, ℕ, ◌<◌, ◌≤◌, List, [], ◌∷◌, ◌++◌, length, Option, Some, None, Result, Ok, Err, ◌⊎◌}
use Rattle.std.specs.Borrow.{Bor}
use Rattle.xls_stream.specs.Stream.{Group, Begins, Run}
use Rattle.xls_stream.specs.Cut.{Cut}
use Rattle.xls_stream.specs.Substreams.{is_sheet_type}
use Rattle.xls_stream.specs.Counting.{found_from, with_group}
use Rattle.xls_stream.specs.declared.part.Part.{Part}
use Rattle.xls_record.specs.declared.record.Record.{Record}
use Rattle.xls_record.specs.declared.error.XlsError.{XlsError}
use Rattle.xls_record.specs.declared.error.XlsError.TheVariants.{EoStream}
use Rattle.xls_biff.specs.Walking.{group_of}

-- some groups lead from these bytes to those, and none of them is kept
pub record Skips (before : List ℕ) (was : ℕ) (after : List ℕ) (now : ℕ) : Type 0 where
  pub groups : List Group
  pub run : Run before groups after
  pub kept : (more : List Group) (cut : Option Part) → found_from was (groups ++ more) cut ≡ found_from now more cut
  pub fewer : length after ≤ length before

-- the next kept group, after some that aren't
pub record Keeps (before : List ℕ) (was : ℕ) (g : Group) (after : List ℕ) (now : ℕ) : Type 0 where
  pub groups : List Group
  pub is_kept : is_sheet_type g ≡ true
  pub run : Run before (groups ++ g ∷ []) after
  pub kept : (more : List Group) (cut : Option Part) → found_from was (groups ++ g ∷ more) cut ≡ with_group g (found_from now more cut)
  pub fewer : length after < length before

-- the part is over, at its EOF or at the end of the bytes, and has no more kept groups
pub record Over (before : List ℕ) (was : ℕ) : Type 0 where
  pub groups : List Group
  pub rest : List ℕ
  pub run : Run before groups rest
  pub over : ((rest ≡ []) × (found_from was groups None ≡ ([], None))) ⊎ ((more : List Group) (cut : Option Part) → found_from was (groups ++ more) cut ≡ ([], None))

-- the part is cut before it is over
pub record CutShort (before : List ℕ) (was : ℕ) (e : XlsError) : Type 0 where
  pub rest : List ℕ
  pub now : ℕ
  pub skipped : Skips before was rest now
  pub part : Part
  pub error : e ≡ EoStream part
  pub cut : Cut rest part

abbrev pub OuterSteps : List ℕ → ℕ → Option (Result Record XlsError) → List ℕ → ℕ → Type 0
OuterSteps before was None after now = Over before was × (after ≡ [])
OuterSteps before was (Some (Ok r)) after now = Keeps before was (group_of r) after now
OuterSteps before was (Some (Err e)) after now = CutShort before was e × (after ≡ []) × (0 < length before)

-- likewise with the bytes from the record's header on: the record begins them, and they end the bytes before
abbrev pub PlacedSteps : List ℕ → ℕ → Option (Result (Bor (List ℕ) × Record) XlsError) → List ℕ → ℕ → Type 0
PlacedSteps before was None after now = OuterSteps before was None after now
PlacedSteps before was (Some (Ok x)) after now =
    OuterSteps before was (Some (Ok x.1)) after now
    × ((rest : List ℕ) × Begins x.0.now (group_of x.1) rest)
    × ((skipped : List ℕ) × (before ≡ skipped ++ x.0.now))
PlacedSteps before was (Some (Err e)) after now = OuterSteps before was (Some (Err e)) after now
