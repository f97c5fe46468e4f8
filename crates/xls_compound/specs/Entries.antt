-- What a compound file lists, by places in its listing.
use Rattle.std.specs.Prelude.{◌≡◌, ℕ, ◌-◌, List, length, map, Some}
use Rattle.std.specs.List.{range_with_len, slice_get}
use Rattle.xls_compound.specs.Items.{Item}
use Rattle.xls_compound.specs.Directory.{Listing}

-- an entry: a place in a listing, and what stands there
pub record Entry : Type 0 where
  pub listing : Listing
  pub place : ℕ

-- the item at its place
abbrev pub IsItem : Entry → Item → Type 0
IsItem entry item = slice_get entry.listing.items entry.place ≡ Some item

abbrev pub entry_at : Listing → ℕ → Entry
entry_at listing place = record { listing = listing; place = place }

-- the entries from a place on
unfoldable pub entries_from : Listing → ℕ → List Entry
entries_from listing place =
    map (entry_at listing) (range_with_len place (length listing.items - place))
