-- For the proofs: each storage stands before what it holds.
use Rattle.std.specs.Prelude.{◌≡◌, ℕ, ◌+◌, ◌<◌, List, Option, Some, None}
use Rattle.std.specs.List.{slice_get}
use Rattle.xls_compound.specs.Items.{Item}

abbrev pub AreHeld : List Item → Type 0
AreHeld items = (place : ℕ) (item : Item) (parent : ℕ) → slice_get items place ≡ Some item
    → item.parent ≡ Some parent → parent < place

-- at most so many steps lead up
abbrev pub steps_up : Option ℕ → ℕ
steps_up None = 0
steps_up (Some place) = place + 1
