-- The stream that names lead to, and why its bytes are refused.
use Rattle.std.proofs.Common.{◌≡◌, ℕ, List, [], ◌∷◌, Option, Some, None, sym, subst, true}
use Rattle.std.specs.List.{position}
use Rattle.std.specs.Option.{option_map}
use Rattle.xls_compound.specs.Items.{Item, find_from, is_child, onward}
use Rattle.xls_compound.specs.Compound.{Compound}
use Rattle.xls_compound.specs.Entries.{Entry, IsItem, entry_at}
use Rattle.xls_compound.specs.declared.error.CompoundError.{CompoundError}
use Rattle.xls_compound.specs.declared.error.CompoundError.TheVariants as errors
use Rattle.xls_container.proofs.EntryLemmas.{HasAt, found_at, place_of}
use Rattle.xls_macros.specs.Streams.{IsStreamAt, RefusesStreamAt, RefusesStreamIn}

onward_at : (items : List Item) (path : List (List ℕ)) (place : ℕ) (found : Option ℕ)
    → ((parent : Option ℕ) → ((p : ℕ) → parent ≡ Some p → HasAt items p) → find_from items parent path ≡ Some place → HasAt items place)
    → ((p : ℕ) → found ≡ Some p → HasAt items p) → onward (λ p. find_from items p path) found ≡ Some place → HasAt items place
onward_at items path place None next at h = absurd (let none : None ≡ Some place = h in cc none)
onward_at items path place (Some p) next at h = next (Some p) at h

-- what is found stands among the items
found_by : (items : List Item) (path : List (List ℕ)) (place : ℕ) (parent : Option ℕ)
    → ((p : ℕ) → parent ≡ Some p → HasAt items p) → find_from items parent path ≡ Some place → HasAt items place
found_by items [] place parent at h = at place h
found_by items (name ∷ path) place parent at h =
    onward_at items path place (position (is_child parent name) items) (found_by items path place) (found_at (is_child parent name) items) h

-- the item of an entry that was found, where it is a stream
pub stream_item : (compound : Compound) (path : List (List ℕ)) (entry : Entry)
    → option_map (entry_at compound.listing) (find_from compound.listing.items None path) ≡ Some entry
    → ((item : Item) → IsItem entry item → true ≡ item.is_stream)
    → (item : Item) × IsStreamAt compound path item × IsItem entry item
stream_item compound path entry h stream =
    let at = place_of compound.listing (find_from compound.listing.items None path) entry h in
    let found = found_by compound.listing.items path at.0 None (λ p none. absurd (cc none)) at.1 in
    let is_item = subst (λ (e : Entry). IsItem e found.0) (sym at.2) found.1 in
    (found.0, (record { place = at.0; is_found = at.1; is_item = found.1; is_stream = sym (stream found.0 is_item) }), is_item)

pub refused_in : (compound : Compound) (path : List (List ℕ)) (error : CompoundError) → RefusesStreamAt compound path error
    → RefusesStreamIn compound path error
refused_in compound path errors.Memory h = tt
refused_in compound path (errors.Stream stream fault) h = h
refused_in compound path (errors.Tables fault) h = h
refused_in compound path (errors.DirectoryChain fault) h = h
refused_in compound path (errors.Directory fault) h = h
refused_in compound path (errors.MiniFat fault) h = h
refused_in compound path (errors.MiniStream fault) h = h
