-- Entries by their numbers, and the text of a name.
use Rattle.std.proofs.Common.{◌≡◌, ℕ, min, ◌*◌, ◌/◌, ◌<◌, ◌≤◌, List, length, drop, take, Bool, Some, None, ◌∙◌, ap, arith}
use Rattle.std.specs.List.{slice_get}
use Rattle.std.proofs.lemmas.List.FromFn.{get_or-map-range_with_len, length-map-range_with_len}
use Rattle.std.proofs.lemmas.Option.{slice_get_past, slice_get-get_or}
use Rattle.std.proofs.lemmas.Grind.{common_steps}
use Rattle.xls_compound.specs.DirectoryEntries.{directory_entry_of, entries_of}

pub length-entries_of : (is_wide : Bool) (bytes : List ℕ) → length (entries_of is_wide bytes) ≡ length bytes / 128
unfolding entries_of
length-entries_of is_wide bytes = length-map-range_with_len (λ i. directory_entry_of is_wide (drop (128 * i) bytes)) 0 (length bytes / 128)

-- an entry is the bytes at its number
pub entry_within : (is_wide : Bool) (bytes : List ℕ) (number : ℕ) → number < length bytes / 128
    → slice_get (entries_of is_wide bytes) number ≡ Some (directory_entry_of is_wide (drop (128 * number) bytes))
unfolding entries_of
entry_within is_wide bytes number h =
    let f = λ (i : ℕ). directory_entry_of is_wide (drop (128 * i) bytes) in
    let within : number < length (entries_of is_wide bytes) = omega (arith, length-entries_of is_wide bytes) in
    slice_get-get_or (entries_of is_wide bytes) number (f 0) within
    ∙ ap (λ e. Some e) (get_or-map-range_with_len f 0 (length bytes / 128) number number (f 0) h (omega arith))

pub entry_past : (is_wide : Bool) (bytes : List ℕ) (number : ℕ) → length bytes / 128 ≤ number
    → slice_get (entries_of is_wide bytes) number ≡ None
entry_past is_wide bytes number h =
    slice_get_past (entries_of is_wide bytes) number (omega (arith, length-entries_of is_wide bytes))

-- no more than there is
pub take_within : (n k : ℕ) (xs : List ℕ) → length xs ≡ k → take (min n k) xs ≡ take n xs
take_within n k xs h = grind (arith, common_steps)
