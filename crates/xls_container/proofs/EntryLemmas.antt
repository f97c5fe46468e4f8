-- The entry of a workbook's stream, and why its bytes are refused.
use Rattle.std.proofs.Common.{◌∙◌, ap, Bool, ◌≡◌, ℕ, List, [], ◌∷◌, Option, Some, None, refl, sym, subst}
use Rattle.std.proofs.Math.ListN.{get_or}
use Rattle.std.proofs.lemmas.List.Quantifiers.{position-Some}
use Rattle.std.proofs.lemmas.Option.{slice_get-get_or}
use Rattle.std.specs.List.{position, slice_get}
use Rattle.std.specs.Option.{option_map, option_or}
use Rattle.xls_compound.specs.Items.{Item, workbook}
use Rattle.xls_compound.specs.Directory.{Listing}
use Rattle.xls_compound.specs.Compound.{Compound, RefusesItem}
use Rattle.xls_compound.specs.Entries.{Entry, IsItem, entry_at}
use Rattle.xls_compound.specs.declared.error.CompoundError.{CompoundError}
use Rattle.xls_compound.specs.declared.error.CompoundError.TheVariants as errors
use Rattle.xls_container.specs.Files.{compound_file, IsWorkbookItem, RefusesWorkbook, fault_of}

abbrev pub HasAt : {X : Type 0} → List X → ℕ → Type 0
HasAt {X = X} xs i = (x : X) × (slice_get xs i ≡ Some x)

-- what is found stands in the list
pub found_at : {X : Type 0} (p : X → Bool) (xs : List X) (i : ℕ) → position p xs ≡ Some i → HasAt xs i
found_at p [] i h = absurd (let none : None ≡ Some i = h in cc none)
found_at p (x ∷ xs) i h =
    let found = position-Some p (x ∷ xs) i x h in
    (get_or (x ∷ xs) i x, slice_get-get_or (x ∷ xs) i x found.0)

either_at : {X : Type 0} (xs : List X) (a b : Option ℕ) (i : ℕ) → (a ≡ Some i → HasAt xs i) → (b ≡ Some i → HasAt xs i)
    → option_or a b ≡ Some i → HasAt xs i
either_at xs None b i f g h = g h
either_at xs (Some a) b i f g h = f h

workbook_at : (items : List Item) (place : ℕ) → workbook items ≡ Some place → HasAt items place
workbook_at items place h = either_at items _ _ place (found_at _ items place) (found_at _ items place) h

-- where an entry was found
pub place_of : (listing : Listing) (found : Option ℕ) (entry : Entry) → option_map (entry_at listing) found ≡ Some entry
    → (place : ℕ) × (found ≡ Some place) × (entry ≡ entry_at listing place)
place_of listing None entry h = absurd (let none : None ≡ Some entry = h in cc none)
place_of listing (Some place) entry h = (place, refl, (let same : Some (entry_at listing place) ≡ Some entry = h in cc same))

pub workbook_item : (compound : Compound) (entry : Entry)
    → option_map (entry_at compound.listing) (workbook compound.listing.items) ≡ Some entry
    → (item : Item) × IsWorkbookItem compound item × IsItem entry item
workbook_item compound entry h =
    let at = place_of compound.listing (workbook compound.listing.items) entry h in
    let found = workbook_at compound.listing.items at.0 at.1 in (
      found.0,
      (record { place = at.0; is_found = at.1; is_item = found.1 }),
      subst (λ (e : Entry). IsItem e found.0) (sym at.2) found.1,
    )

-- where nothing was found
pub no_workbook : (compound : Compound) → option_map (entry_at compound.listing) (workbook compound.listing.items) ≡ None
    → workbook compound.listing.items ≡ None
no_workbook compound h = no_place (workbook compound.listing.items) h where
  no_place : (found : Option ℕ) → option_map (entry_at compound.listing) found ≡ None → found ≡ None
  no_place None h = refl
  no_place (Some place) h = absurd (cc h)

pub refused : (compound : Compound) (item : Item) → IsWorkbookItem compound item → (error : CompoundError)
    → RefusesItem compound item error → RefusesWorkbook (compound_file compound) (fault_of error)
refused compound item is errors.Memory h = tt
refused compound item is (errors.Stream name fault) h = (item, is, (λ e. cc e), h)
refused compound item is (errors.Tables fault) h = absurd h
refused compound item is (errors.DirectoryChain fault) h = absurd h
refused compound item is (errors.Directory fault) h = absurd h
refused compound item is (errors.MiniFat fault) h = absurd h
refused compound item is (errors.MiniStream fault) h = absurd h

-- a compound has one entry of a workbook's stream
pub one_item : (compound : Compound) (item other : Item) → IsWorkbookItem compound item → IsWorkbookItem compound other → item ≡ other
one_item compound item other h k =
    let places : Some h.place ≡ Some k.place = sym h.is_found ∙ k.is_found in
    let place : h.place ≡ k.place = cc places in
    let items : Some item ≡ Some other = sym h.is_item ∙ ap (slice_get compound.listing.items) place ∙ k.is_item in
    cc items
