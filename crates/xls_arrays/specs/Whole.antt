-- Bytes that are put into an array, all of them or none.
use Rattle.std.specs.Prelude.{◌≡◌, ℕ, ◌<◌, List, ◌++◌, ◌⊎◌, length, drop, Bool, true, false, Result, Ok, Err, String}
use Rattle.std.specs.Global.{Global}
use Rattle.std.specs.String.{string_bytes}
use Rattle.std.specs.declared.alloc.AllocError.{AllocError}

-- the array begins with them and keeps what it has after them; or it is too short, and is as it was
abbrev pub PutsBytes : List ℕ → List ℕ → List ℕ → Bool → Type 0
PutsBytes bytes before after true = after ≡ bytes ++ drop (length bytes) before
PutsBytes bytes before after false = (length before < length bytes) × (after ≡ before)

-- and their count is told
abbrev pub PutsWhole : List ℕ → List ℕ → List ℕ → ℕ → Bool → Type 0
PutsWhole bytes before after size whole = (size ≡ length bytes) × PutsBytes bytes before after whole

-- a text that was made is put into the array (0), or its length alone is told (2); or there is none, since memory
-- ran out (1)
abbrev pub PutsBuilt : Result (String Global) AllocError → List ℕ → List ℕ → ℕ → ℕ → Type 0
PutsBuilt (Ok text) before after size code =
    ((code ≡ 0) × PutsWhole (string_bytes text) before after size true)
    ⊎ ((code ≡ 2) × PutsWhole (string_bytes text) before after size false)
PutsBuilt (Err e) before after size code = (code ≡ 1) × (size ≡ 0) × (after ≡ before)
