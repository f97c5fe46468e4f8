-- What stands beside the workbook, and that it isn't written.
use Rattle.std.proofs.Common.{◌≡◌, ℕ, List, [], ◌∷◌, Option, Some, None, Result, Err, refl, sym, subst, true}
use Rattle.std.proofs.KnownBytes.{Keeps-refl}
use Rattle.std.specs.List.{position}
use Rattle.std.specs.Option.{option_map}
use Rattle.xls_compound.specs.Items.{Item, find_from, is_child, onward}
use Rattle.xls_compound.specs.Compound.{Compound}
use Rattle.xls_compound.specs.Entries.{Entry, IsItem, entry_at}
use Rattle.xls_container.proofs.EntryLemmas.{HasAt, found_at, place_of}
use Rattle.xls_files.specs.Paths.{names_in}
use Rattle.xls_output.specs.SinkState.{SinkState}
use Rattle.xls_tool.specs.Beside.{IsRefused, IsStreamAt}
use Rattle.xls_tool.specs.declared.problem.Problem.{Problem}

-- nothing was written
pub refused : (p : Problem) (s : SinkState) (result : Result (Unit {0}) Problem) → result ≡ Err p → IsRefused p s s result
refused p s result is = (is, (Keeps-refl s.written, refl))

-- ---- by a path

onward-at : (items : List Item) (path : List (List ℕ)) (place : ℕ) (found : Option ℕ)
    → ((parent : Option ℕ) → ((p : ℕ) → parent ≡ Some p → HasAt items p) → find_from items parent path ≡ Some place → HasAt items place)
    → ((p : ℕ) → found ≡ Some p → HasAt items p) → onward (λ p. find_from items p path) found ≡ Some place → HasAt items place
onward-at items path place None next at h = absurd (let none : None ≡ Some place = h in cc none)
onward-at items path place (Some p) next at h = next (Some p) at h

-- what is found stands among the items
found-by : (items : List Item) (path : List (List ℕ)) (place : ℕ) (parent : Option ℕ)
    → ((p : ℕ) → parent ≡ Some p → HasAt items p) → find_from items parent path ≡ Some place → HasAt items place
found-by items [] place parent at h = at place h
found-by items (name ∷ path) place parent at h =
    onward-at items path place (position (is_child parent name) items) (found-by items path place) (found_at (is_child parent name) items) h

-- the item of an entry that was found, where it is a stream
pub stream-at : (compound : Compound) (path : List ℕ) (entry : Entry)
    → option_map (entry_at compound.listing) (find_from compound.listing.items None (names_in path)) ≡ Some entry
    → ((item : Item) → IsItem entry item → true ≡ item.is_stream)
    → (item : Item) × IsStreamAt compound path item × IsItem entry item
stream-at compound path entry h stream =
    let at = place_of compound.listing (find_from compound.listing.items None (names_in path)) entry h in
    let found = found-by compound.listing.items (names_in path) at.0 None (λ p none. absurd (cc none)) at.1 in
    let is_item = subst (λ (e : Entry). IsItem e found.0) (sym at.2) found.1 in
    (found.0, (record { place = at.0; is_found = at.1; is_item = found.1; is_stream = sym (stream found.0 is_item) }), is_item)
