-- How a token of a shown formula is read: a value or its first fault, from left to right.
use Rattle.std.specs.Prelude.{◌≡◌, ℕ, List, length, nat_lt, if◌then◌else◌, Result, Ok, Err}
use Rattle.std.specs.Borrow.{Bor}
use Rattle.xls_stream.specs.declared.part.Part.TheVariants as parts
use Rattle.xls_record.specs.declared.error.XlsError.{XlsError}
use Rattle.xls_record.specs.declared.error.XlsError.TheVariants as errors
use Rattle.xls_record.specs.declared.version.Biff.{Biff}
use Rattle.xls_ptg.specs.Readings.{ptg_of}
use Rattle.xls_ptg.specs.Tokens.{ptg_by}
use Rattle.xls_shown_ptg.specs.declared.fault.Fault.{Fault}
use Rattle.xls_shown_ptg.specs.declared.fault.Fault.TheVariants as faults
use Rattle.xls_shown_ptg.specs.declared.tokens.ShownPtg.{ShownPtg}
use Rattle.xls_shown_ptg.specs.declared.tokens.ShownPtg.TheVariants as shown

infixl 10 ◌>>=◌
-- ---- definitions

-- what follows goes on with the value; a fault is the answer of all
abbrev pub ◌>>=◌ : {X Y : Type 0} → Result X Fault → (X → Result Y Fault) → Result Y Fault
(Ok x) >>= f = f x
(Err e) >>= f = Err e

-- the value changed, or the same fault
abbrev pub gives : {X Y : Type 0} → (X → Y) → Result X Fault → Result Y Fault
gives f r = r >>= λ x. Ok (f x)

-- the value that another reading changes to, or the fault that it has
abbrev pub lifted : {X Y : Type 0} → (X → Y) → Result X XlsError → Result Y Fault
lifted f (Ok x) = Ok (f x)
lifted f (Err e) = Err (faults.Xls e)

-- a token that is too short, and one that isn't known
abbrev pub short : ℕ → ℕ → Fault
short expected found = faults.Xls (errors.Len expected found parts.Ptg)

abbrev pub unknown : ℕ → Fault
unknown token = faults.Xls (errors.Unrecognized parts.Ptg token)

-- what is read where so many bytes are there
abbrev pub sized : {X : Type 0} → ℕ → List ℕ → Result X Fault → Result X Fault
sized size bytes read = if nat_lt (length bytes) size then Err (short size (length bytes)) else read

-- a token, and how many bytes of it stand after its first
abbrev pub Shown : Type 0
Shown = Result (ShownPtg (List ℕ) × ℕ) Fault

-- a token that is in every reading what it is in one
unfoldable pub shared : Biff → ℕ → List ℕ → Shown
shared biff token rest = lifted (λ x. (shown.Known x.0, x.1)) (ptg_by biff token rest)

-- ---- answers

-- what was returned, seen by view, is what the definition gives
abbrev pub Exactly : {X Y : Type 0} → (X → Y) → Result X Fault → Result Y Fault → Type 0
Exactly view (Ok x) input = input ≡ Ok (view x)
Exactly view (Err e) input = input ≡ Err e

-- a token that code holds: a string by the bytes of its units, all others as they are
abbrev pub shown_of : ShownPtg (Bor (List ℕ)) → ShownPtg (List ℕ)
shown_of (shown.Known token) = shown.Known (ptg_of token)
shown_of shown.Nothing = shown.Nothing
shown_of shown.ElfRadicalS = shown.ElfRadicalS
shown_of (shown.AttrSpace space) = shown.AttrSpace space
shown_of (shown.Command count cetab) = shown.Command count cetab
shown_of (shown.UserFunc count) = shown.UserFunc count
shown_of shown.MemArea = shown.MemArea
shown_of (shown.RefN corner) = shown.RefN corner
shown_of (shown.AreaN first last) = shown.AreaN first last
shown_of (shown.NameX link) = shown.NameX link
shown_of (shown.Ref3d sheets corner) = shown.Ref3d sheets corner
shown_of (shown.Area3d sheets first last) = shown.Area3d sheets first last
shown_of (shown.Err3d sheets) = shown.Err3d sheets

-- what was read, as definitions have it
abbrev pub as_shown : ShownPtg (Bor (List ℕ)) × ℕ → ShownPtg (List ℕ) × ℕ
as_shown x = (shown_of x.0, x.1)
