-- The files that a host is told to make.
use Rattle.std.specs.Prelude.{◌≡◌, ◌⊎◌, ◌++◌, ℕ, Bool, true, if◌then◌else◌, List, [], ◌∷◌, codes, Option, Some, Result, IsOk}
use Rattle.std.specs.List.{AllByRecursion}
use Rattle.std.specs.Str.{bytes_eq}
use Rattle.xls_output.specs.SinkState.{SinkState}

-- ---- what a host was told

-- a file that was ended, and the path that it was given; whether it could take the place of what stood there
pub record Placed (F : Type 0) : Type 0 where
  pub file : F
  pub path : List ℕ
  pub over : Bool

-- the paths at which files were begun, and the files that were given their paths; the last one of each is the first
pub record HostFiles (F : Type 0) : Type 0 where
  pub begun : List (List ℕ)
  pub placed : List (Placed F)

-- one more is begun, where that has no fault and the host tells of it
abbrev pub Begins : {F X E : Type 0} → List ℕ → HostFiles F → HostFiles F → Result X E → Type 0
Begins path before after result =
    (after ≡ before) ⊎ (IsOk result × (after ≡ record { begun = path ∷ before.begun; placed = before.placed }))

-- one more is given its path, where that has no fault and the host tells of it
abbrev pub Places : {F X E : Type 0} → Placed F → HostFiles F → HostFiles F → Result X E → Type 0
Places placed before after result =
    (after ≡ before) ⊎ (IsOk result × (after ≡ record { begun = before.begun; placed = placed ∷ before.placed }))

-- nothing is written yet, where files tell what they hold
abbrev pub IsEmpty : Bool → SinkState → Type 0
IsEmpty tells state = tells ≡ true → state.written ≡ Some []

-- all files that were begun may be, and so may all that were given their paths
pub record AreAllowed {F : Type 0} (MayBegin : List ℕ → Type 0) (MayPlace : Placed F → Type 0) (files : HostFiles F) : Type 0 where
  pub begun : AllByRecursion MayBegin files.begun
  pub placed : AllByRecursion MayPlace files.placed

-- ---- parts

-- the path of a part: a file is written there, beside its own path
abbrev pub part_path : List ℕ → List ℕ
part_path path = path ++ codes ".part"

-- ---- what stands at the paths

-- what stands at a path that is no part: the text of the file that was given it last, or what stood there before
abbrev pub text_at : {F : Type 0} → (F → SinkState) → (List ℕ → Option (List ℕ)) → List (Placed F) → List ℕ → Option (List ℕ)
text_at state old [] path = old path
text_at state old (placed ∷ earlier) path =
    if bytes_eq placed.path path then (state placed.file).written else text_at state old earlier path

-- as it was before, or the text of a file that was ended whole
abbrev pub IsOldOrWhole : {F : Type 0} → (Placed F → Type 0) → (F → SinkState) → (List ℕ → Option (List ℕ)) → List (Placed F) → List ℕ → Type 0
IsOldOrWhole {F = F} IsWhole state old placed path =
    (text_at state old placed path ≡ old path)
    ⊎ ((one : Placed F) × IsWhole one × (text_at state old placed path ≡ (state one.file).written))
