-- Chains of sectors ([MS-CFB] 2.3), for any `next`, which gives for a sector's number the number that
-- follows it, and None for a number that is no sector.
use Rattle.std.specs.Prelude.{◌≡◌, ◌⊎◌, ℕ, ◌-◌, List, [], ◌∷◌, length, Contains, slice_get, Option, Some, None, Result, Ok, Err}
use Rattle.xls_sectors.specs.declared.error.SectorFault.{SectorFault}

-- from the number `first` on these sectors follow one another, and after the last the number `after`
abbrev pub Path : (ℕ → Option ℕ) → ℕ → List ℕ → ℕ → Type 0
Path next first [] after = first ≡ after
Path next first (sector ∷ sectors) after =
    (first ≡ sector) × ((then : ℕ) × (next sector ≡ Some then) × Path next then sectors after)

-- the chain is these sectors: the number after them is no sector
pub record Stops (next : ℕ → Option ℕ) (first : ℕ) (sectors : List ℕ) (after : ℕ) : Type 0 where
  pub path : Path next first sectors after
  pub stop : next after ≡ None

-- the chain comes back to a sector that is in it
pub record Loops (next : ℕ → Option ℕ) (first : ℕ) : Type 0 where
  pub sectors : List ℕ
  pub after : ℕ
  pub path : Path next first sectors after
  pub again : Contains sectors after

-- what is read of a chain, by its sectors and the number after them; a loop is refused
abbrev pub OfChain : {X : Type 0} → (ℕ → Option ℕ) → ℕ → SectorFault → (List ℕ → ℕ → Result X SectorFault) → Result X SectorFault → Type 0
OfChain next first looped read result =
    ((sectors : List ℕ) × ((after : ℕ) × Stops next first sectors after × (result ≡ read sectors after)))
    ⊎ (Loops next first × (result ≡ Err looped))

-- the last of some sectors
abbrev pub last_of : List ℕ → Option ℕ
last_of sectors = slice_get sectors (length sectors - 1)

-- the sectors of a chain, and the number after them
abbrev pub Sectors : (ℕ → Option ℕ) → ℕ → SectorFault → Result (List ℕ × ℕ) SectorFault → Type 0
Sectors next first looped result =
    OfChain next first looped (λ sectors after. Ok (sectors, after)) result
