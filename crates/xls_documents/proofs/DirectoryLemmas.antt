-- The directory of a macro project, by its path and by its place.
use Rattle.std.proofs.Common.{◌≡◌, ◌⊎◌, inl, inr, ℕ, ◌+◌, ◌<◌, ◌≤◌, List, [], ◌∷◌, length, Some, None, sym, ◌∙◌, subst, true, false, arith}
use Rattle.std.proofs.Math.ListN.{get_or}
use Rattle.std.proofs.lemmas.Bool.{cases_lt}
use Rattle.std.proofs.lemmas.Option.{slice_get_cases}
use Rattle.std.specs.List.{slice_get}
use Rattle.xls_compound.specs.Items.{Item}
use Rattle.xls_compound.specs.Directory.{Listing}
use Rattle.xls_compound.proofs.EntryLemmas.{entries_from_more, entries_from_none}
use Rattle.xls_compound.specs.Compound.{Compound, RefusesItem}
use Rattle.xls_compound.specs.Entries.{Entry, IsItem, entry_at, entries_from}
use Rattle.xls_compound.specs.declared.error.CompoundError.{CompoundError}
use Rattle.xls_compound.specs.declared.error.CompoundError.TheVariants as errors
use Rattle.xls_container.specs.Files.{fault_of}
use Rattle.xls_vba.specs.Container as compressed
use Rattle.xls_vba.specs.declared.compression_error.OvbaError.{OvbaError}
use Rattle.xls_vba.specs.declared.compression_error.OvbaError.TheVariants as ovba
use Rattle.xls_vba.specs.Directory as directories
use Rattle.xls_vba.specs.declared.error.VbaError.{VbaError}
use Rattle.xls_vba.specs.declared.error.VbaError.TheVariants as vba
use Rattle.xls_documents.specs.MacroDirectory.{TestsAs, IsFirstDirectory, HasNoDirectory, IsDirectoryItem, RefusesDirectory, RefusesProjectFrom, of_file, of_compression, of_directory}

-- ---- entries one after another

-- the entries before a place were looked at, and none of them is a directory
pub record LookedAt (listing : Listing) (left : List Entry) : Type 0 where
  pub place : ℕ
  pub rest : left ≡ entries_from listing place
  pub none_before : (k : ℕ) → k < place → TestsAs (entry_at listing k) false

pub looked_first : (listing : Listing) (left : List Entry) → left ≡ entries_from listing 0 → LookedAt listing left
looked_first listing left e = record { place = 0; rest = e; none_before = λ k below. absurd (omega (arith, below)) }

-- the next entry
next_at : (listing : Listing) (place : ℕ) (entry : Entry) (left : List Entry) → entries_from listing place ≡ entry ∷ left
    → (place < length listing.items) × (entry ≡ entry_at listing place) × (left ≡ entries_from listing (place + 1))
next_at listing place entry left e = cases (cases_lt place (length listing.items)) where
  cases : (place < length listing.items) ⊎ (length listing.items ≤ place)
      → (place < length listing.items) × (entry ≡ entry_at listing place) × (left ≡ entries_from listing (place + 1))
  cases (inr past) = absurd (let none : [] ≡ entry ∷ left = sym (entries_from_none listing place past) ∙ e in cc none)
  cases (inl within) =
      let same : entry_at listing place ∷ entries_from listing (place + 1) ≡ entry ∷ left = sym (entries_from_more listing place within) ∙ e in
      (within, (cc same), (cc same))

below_next : (listing : Listing) (place : ℕ) → ((k : ℕ) → k < place → TestsAs (entry_at listing k) false) → TestsAs (entry_at listing place) false
    → (k : ℕ) → k < place + 1 → TestsAs (entry_at listing k) false
below_next listing place before here k below = cases (cases_lt k place) where
  cases : (k < place) ⊎ (place ≤ k) → TestsAs (entry_at listing k) false
  cases (inr least) = let same : place ≡ k = omega arith in subst (λ (n : ℕ). TestsAs (entry_at listing n) false) same here
  cases (inl less) = before k less

pub looked_next : (listing : Listing) (old left : List Entry) (entry : Entry) → LookedAt listing old → old ≡ entry ∷ left → TestsAs entry false
    → LookedAt listing left
looked_next listing old left entry p e isnt =
    let next = next_at listing p.place entry left (sym p.rest ∙ e) in
    record {
      place = p.place + 1;
      rest = next.2;
      none_before = below_next listing p.place p.none_before (subst (λ (x : Entry). TestsAs x false) next.1 isnt);
    }

pub looked_found : (listing : Listing) (old left : List Entry) (entry : Entry) → LookedAt listing old → old ≡ entry ∷ left → TestsAs entry true
    → (place : ℕ) × (entry ≡ entry_at listing place) × IsFirstDirectory listing place
looked_found listing old left entry p e is =
    let next = next_at listing p.place entry left (sym p.rest ∙ e) in (
      p.place,
      next.1,
      record {
        within = next.0;
        is_directory = subst (λ (x : Entry). TestsAs x true) next.1 is;
        is_first = p.none_before;
      },
    )

pub looked_all : (listing : Listing) (left : List Entry) → LookedAt listing left → left ≡ [] → HasNoDirectory listing
looked_all listing left p e k within = cases (cases_lt p.place (length listing.items)) where
  cases : (p.place < length listing.items) ⊎ (length listing.items ≤ p.place) → TestsAs (entry_at listing k) false
  cases (inr past) = p.none_before k (omega (arith, past, within))
  cases (inl less) = absurd (let none : [] ≡ entry_at listing p.place ∷ entries_from listing (p.place + 1)
      = sym e ∙ p.rest ∙ entries_from_more listing p.place less in cc none)

-- ---- the item of a directory

item_at : (items : List Item) (place : ℕ) → place < length items → (item : Item) × (slice_get items place ≡ Some item)
item_at items place within = cases (slice_get_cases items place).1 where
  cases : ((x : Item) × (place < length items) × (slice_get items place ≡ Some x) × (get_or items place x ≡ x))
      ⊎ ((length items ≤ place) × (slice_get items place ≡ None)) → (item : Item) × (slice_get items place ≡ Some item)
  cases (inl (x, inside, is, same)) = (x, is)
  cases (inr (past, none)) = absurd (omega (arith, past, within))

pub directory_item : (compound : Compound) (entry : Entry) (place : ℕ) → entry ≡ entry_at compound.listing place → IsFirstDirectory compound.listing place
    → (item : Item) × IsDirectoryItem compound item × IsItem entry item
directory_item compound entry place e first =
    let found = item_at compound.listing.items place first.within in
    (found.0, (record { place = place; is_first = first; is_item = found.1 }), subst (λ (x : Entry). IsItem x found.0) (sym e) found.1)

-- ---- refusals

pub directory_refused : (compound : Compound) (item : Item) → IsDirectoryItem compound item → (error : CompoundError)
    → RefusesItem compound item error → RefusesDirectory compound (of_file (fault_of error))
directory_refused compound item is errors.Memory h = tt
directory_refused compound item is (errors.Stream stream fault) h = (item, is, (λ e. cc e), h)
directory_refused compound item is (errors.Tables fault) h = absurd h
directory_refused compound item is (errors.DirectoryChain fault) h = absurd h
directory_refused compound item is (errors.Directory fault) h = absurd h
directory_refused compound item is (errors.MiniFat fault) h = absurd h
directory_refused compound item is (errors.MiniStream fault) h = absurd h

pub compression_refused : (bytes : List ℕ) (e : OvbaError) → compressed.FailsIn e (compressed.IsContainerFault bytes) → RefusesProjectFrom bytes (of_compression e)
compression_refused bytes ovba.Memory h = tt
compression_refused bytes (ovba.Cut part at expected found) h = ((λ e. cc e), h)
compression_refused bytes (ovba.ContainerSignature found) h = ((λ e. cc e), h)
compression_refused bytes (ovba.ChunkSignature at found) h = ((λ e. cc e), h)
compression_refused bytes (ovba.RawChunkSize at found) h = ((λ e. cc e), h)
compression_refused bytes (ovba.BeforeChunk at offset input) h = ((λ e. cc e), h)
compression_refused bytes (ovba.ChunkTooLong at) h = ((λ e. cc e), h)
compression_refused bytes (ovba.OffsetPastEnd offset size) h = ((λ e. cc e), h)

pub project_refused : (bytes plain : List ℕ) → compressed.Decompresses bytes plain → (e : VbaError) → directories.FailsIn e (directories.IsProjectFault plain)
    → RefusesProjectFrom bytes (of_directory e)
project_refused bytes plain says vba.Memory h = tt
project_refused bytes plain says vba.Truncated h = (plain, says, (λ e. cc e), h)
project_refused bytes plain says (vba.Unknown typ val) h = (plain, says, (λ e. cc e), h)
project_refused bytes plain says (vba.InvalidRecordId expected found) h = (plain, says, (λ e. cc e), h)
project_refused bytes plain says vba.LibId h = (plain, says, (λ e. cc e), h)
project_refused bytes plain says (vba.Cfb error) h = (plain, says, (λ e. cc e), h)
project_refused bytes plain says (vba.ModuleNotFound name) h = (plain, says, (λ e. cc e), h)
