-- What is found in a compound file, and why its bytes are refused.
use Rattle.std.proofs.Common.{◌≡◌, ℕ, List, [], ◌∷◌, Option, Some, None, sym, subst, true}
use Rattle.std.specs.List.{position}
use Rattle.std.specs.Option.{option_map}
use Rattle.xls_compound.specs.Items.{Item, find_from, is_child, onward}
use Rattle.xls_compound.specs.Compound.{Compound, RefusesItem}
use Rattle.xls_compound.specs.Entries.{Entry, IsItem, entry_at}
use Rattle.xls_compound.specs.declared.error.CompoundError.{CompoundError}
use Rattle.xls_compound.specs.declared.error.CompoundError.TheVariants as errors
use Rattle.xls_container.specs.Files.{fault_of}
use Rattle.xls_container.proofs.EntryLemmas.{HasAt, found_at, place_of}
use Rattle.xls_documents.specs.PropertyStreams.{IsStreamNamed, RefusesStream}

-- ---- by a name in the root

onward_at : (items : List Item) (found : Option ℕ) (place : ℕ) → ((p : ℕ) → found ≡ Some p → HasAt items p)
    → onward (λ p. find_from items p []) found ≡ Some place → HasAt items place
onward_at items None place at h = absurd (let none : None ≡ Some place = h in cc none)
onward_at items (Some p) place at h = at place h

named_at : (items : List Item) (name : List ℕ) (place : ℕ) → find_from items None (name ∷ []) ≡ Some place → HasAt items place
named_at items name place h =
    onward_at items (position (is_child None name) items) place (found_at (is_child None name) items) h

-- the item of an entry that was found, where it is a stream
pub stream_item : (compound : Compound) (name : List ℕ) (entry : Entry)
    → option_map (entry_at compound.listing) (find_from compound.listing.items None (name ∷ [])) ≡ Some entry
    → ((item : Item) → IsItem entry item → true ≡ item.is_stream)
    → (item : Item) × IsStreamNamed compound name item × IsItem entry item
stream_item compound name entry h stream =
    let at = place_of compound.listing (find_from compound.listing.items None (name ∷ [])) entry h in
    let found = named_at compound.listing.items name at.0 at.1 in
    let is_item = subst (λ (e : Entry). IsItem e found.0) (sym at.2) found.1 in
    (found.0, (record { place = at.0; is_found = at.1; is_item = found.1; is_stream = sym (stream found.0 is_item) }), is_item)

pub stream_refused : (compound : Compound) (name : List ℕ) (item : Item) → IsStreamNamed compound name item → (error : CompoundError)
    → RefusesItem compound item error → RefusesStream compound name (fault_of error)
stream_refused compound name item is errors.Memory h = tt
stream_refused compound name item is (errors.Stream stream fault) h = (item, is, (λ e. cc e), h)
stream_refused compound name item is (errors.Tables fault) h = absurd h
stream_refused compound name item is (errors.DirectoryChain fault) h = absurd h
stream_refused compound name item is (errors.Directory fault) h = absurd h
stream_refused compound name item is (errors.MiniFat fault) h = absurd h
stream_refused compound name item is (errors.MiniStream fault) h = absurd h
