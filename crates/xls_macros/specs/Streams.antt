-- Streams of a compound file, by the names that lead to them from the root on.
use Rattle.std.specs.Prelude.{◌≡◌, ℕ, List, Option, Some, None, Ok, true}
use Rattle.std.specs.List.{slice_get}
use Rattle.xls_compound.specs.Items.{Item, find_from}
use Rattle.xls_compound.specs.Compound.{Compound, ItemBytes, RefusesItem}
use Rattle.xls_compound.specs.declared.error.CompoundError.{CompoundError}
use Rattle.xls_compound.specs.declared.error.CompoundError.TheVariants as errors

-- the names lead to this item, and it is a stream
pub record IsStreamAt (compound : Compound) (path : List (List ℕ)) (item : Item) : Type 0 where
  pub place : ℕ
  pub is_found : find_from compound.listing.items None path ≡ Some place
  pub is_item : slice_get compound.listing.items place ≡ Some item
  pub is_stream : item.is_stream ≡ true

-- the bytes of the stream, or none where there is no such stream
abbrev pub HasStreamAt : Compound → List (List ℕ) → Option (List ℕ) → Type 0
HasStreamAt compound path None = (item : Item) → IsStreamAt compound path item → ⊥
HasStreamAt compound path (Some bytes) = (item : Item) × IsStreamAt compound path item × ItemBytes compound item (Ok bytes)

-- why its bytes are refused: the first fault of its chain; unless memory ran out
abbrev pub RefusesStreamAt : Compound → List (List ℕ) → CompoundError → Type 0
RefusesStreamAt compound path error = (item : Item) × IsStreamAt compound path item × RefusesItem compound item error

-- the same where memory may run out before the stream is looked for
abbrev pub RefusesStreamIn : Compound → List (List ℕ) → CompoundError → Type 0
RefusesStreamIn compound path errors.Memory = Unit {0}
RefusesStreamIn compound path error = RefusesStreamAt compound path error
