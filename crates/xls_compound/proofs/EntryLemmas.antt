-- The entries from a place on.
use Rattle.std.proofs.Common.{◌≡◌, ℕ, ◌+◌, ◌-◌, ◌<◌, ◌≤◌, suc, [], ◌∷◌, length, map, ap, arith}
use Rattle.std.specs.List.{range_with_len}
use Rattle.xls_compound.specs.Directory.{Listing}
use Rattle.xls_compound.specs.Entries.{entry_at, entries_from}

pub entries_from_more : (listing : Listing) (place : ℕ) → place < length listing.items
    → entries_from listing place ≡ entry_at listing place ∷ entries_from listing (place + 1)
unfolding entries_from
entries_from_more listing place h =
    let one_more : length listing.items - place ≡ suc (length listing.items - (place + 1)) = omega arith in
    ap (λ (n : ℕ). map (entry_at listing) (range_with_len place n)) one_more

pub entries_from_none : (listing : Listing) (place : ℕ) → length listing.items ≤ place → entries_from listing place ≡ []
unfolding entries_from
entries_from_none listing place h =
    let none : length listing.items - place ≡ 0 = omega arith in
    ap (λ (n : ℕ). map (entry_at listing) (range_with_len place n)) none
