-- A file has one answer: each step that reads it has at most one.
use Rattle.std.proofs.Common.{◌≡◌, ◌≢◌, inl, inr, ℕ, List, ◌++◌, codes, Bool, true, false, Some, None, Result, Ok, Err, refl, sym, ◌∙◌, ap}
use Rattle.std.specs.String.{string_bytes}
use Rattle.xls_bytes.specs.Numbers.{u32s_of}
use Rattle.xls_sectors.specs.declared.error.SectorFault.{SectorFault}
use Rattle.xls_sectors.specs.Errors as sectors
use Rattle.xls_sectors.specs.Laws.{StreamsHaveOneAnswer, WholeChainsHaveOneAnswer, FilesHaveOneAnswer}
use Rattle.xls_sectors.specs.Tables.{Opened, OpensSectors as OpensTables, sectors_of}
use Rattle.xls_compound.specs.declared.fault.DirectoryFault.{DirectoryFault}
use Rattle.xls_compound.specs.Items.{Item, workbook}
use Rattle.xls_compound.specs.Directory.{Listing, IsDirectory, IsDirectoryFault}
use Rattle.xls_compound.specs.Compound.{Compound, HoldsCompound, Refuses, ItemBytes, RefusesItem, DirectoryBytes, MiniFatBytes, MiniStream, mini_sectors, is_wide, space_of, size_of}
use Rattle.xls_compound.specs.declared.error.CompoundError.{CompoundError}
use Rattle.xls_compound.specs.declared.error.CompoundError.TheVariants as errors
use Rattle.xls_container.specs.declared.fault.FileFault.{FileFault}
use Rattle.xls_container.specs.declared.fault.FileFault.TheVariants as faults
use Rattle.xls_container.specs.Kinds.{is_compound, is_bare, kind_of}
use Rattle.xls_container.specs.Files.{Container, compound_file, bare_stream, OpensContainer, IsWorkbookItem, HasWorkbook, WorkbookBytes, RefusesToOpen, RefusesWorkbook, RefusesFile}
use Rattle.xls_container.specs.Laws.{HasOneAnswer}
use Rattle.xls_container.specs.Texts.{fault_text}
use Rattle.xls_container.proofs.StepLemmas.{IsUnique, Seen, Then, seen_once, once_then}
use Rattle.xls_container.proofs.EntryLemmas.{one_item}

abbrev Text : Type 0
Text = List ℕ

abbrev damage : CompoundError → Text
damage error = fault_text (faults.Compound error)

-- ---- the steps; their faults are seen as texts

abbrev Tables : List ℕ → Result Opened Text → Type 0
Tables file = Seen (λ opened. opened) (λ fault. damage (errors.Tables fault)) (OpensTables file)

abbrev Chain : Opened → Result (List ℕ) Text → Type 0
Chain opened = Seen (λ bytes. bytes) (λ fault. damage (errors.DirectoryChain fault)) (DirectoryBytes opened)

abbrev Lists : Bool → List ℕ → Result Listing DirectoryFault → Type 0
Lists is_wide bytes (Ok listing) = IsDirectory is_wide bytes listing
Lists is_wide bytes (Err fault) = IsDirectoryFault is_wide bytes fault

abbrev Directory : Opened → List ℕ → Result Listing Text → Type 0
Directory opened bytes = Seen (λ listing. listing) (λ fault. damage (errors.Directory fault)) (Lists (is_wide opened.header) bytes)

abbrev MiniFat : Opened → Result (List ℕ) Text → Type 0
MiniFat opened = Seen (λ bytes. bytes) (λ fault. damage (errors.MiniFat fault)) (MiniFatBytes opened)

abbrev compound_of : Opened → Listing → List ℕ → List ℕ → Compound
compound_of opened listing mini_fat stream = record {
  sectors = sectors_of opened;
  mini = mini_sectors (u32s_of mini_fat) stream;
  listing = listing;
}

abbrev Mini : Opened → Listing → List ℕ → Result Compound Text → Type 0
Mini opened listing mini_fat =
    Seen (compound_of opened listing mini_fat) (λ fault. damage (errors.MiniStream fault)) (MiniStream opened listing)

abbrev AfterListing : Opened → Listing → Result Compound Text → Type 0
AfterListing opened listing = Then (MiniFat opened) (Mini opened listing)

abbrev AfterChain : Opened → List ℕ → Result Compound Text → Type 0
AfterChain opened bytes = Then (Directory opened bytes) (AfterListing opened)

abbrev AfterTables : Opened → Result Compound Text → Type 0
AfterTables opened = Then (Chain opened) (AfterChain opened)

abbrev Whole : List ℕ → Result Compound Text → Type 0
Whole file = Then (Tables file) AfterTables

abbrev Found : Compound → Result Item Text → Type 0
Found compound (Ok item) = IsWorkbookItem compound item
Found compound (Err text) = (workbook compound.listing.items ≡ None) × (text ≡ fault_text faults.NoWorkbook)

abbrev stream_damage : Item → SectorFault → Text
stream_damage item fault =
    codes "a damaged compound file: " ++ (codes "Stream " ++ (item.name ++ (codes ": " ++ sectors.fault_text fault)))

abbrev Bytes : Compound → Item → Result (List ℕ) Text → Type 0
Bytes compound item = Seen (λ bytes. bytes) (stream_damage item) (ItemBytes compound item)

abbrev Workbook : Compound → Result (List ℕ) Text → Type 0
Workbook compound = Then (Found compound) (Bytes compound)

-- the answer of a file by its first bytes: a compound file, a bare stream, or another kind
abbrev Answers : Bool → Bool → List ℕ → Result (List ℕ) Text → Type 0
Answers true is_bare file r = Then (Whole file) Workbook r
Answers false true file r = r ≡ Ok file
Answers false false file r = r ≡ Err (fault_text (faults.Kind (kind_of file)))

-- ---- each has at most one answer

abbrev pub OneListing : Type 0
OneListing = (is_wide : Bool) (bytes : List ℕ) (l m : Listing) → IsDirectory is_wide bytes l → IsDirectory is_wide bytes m → l ≡ m

abbrev pub OneFault : Type 0
OneFault = (is_wide : Bool) (bytes : List ℕ) (e f : DirectoryFault) → IsDirectoryFault is_wide bytes e → IsDirectoryFault is_wide bytes f → e ≡ f

abbrev pub NeverBoth : Type 0
NeverBoth = (is_wide : Bool) (bytes : List ℕ) (l : Listing) (e : DirectoryFault) → IsDirectory is_wide bytes l → IsDirectoryFault is_wide bytes e → ⊥

found_once : (compound : Compound) → IsUnique (Found compound)
found_once compound (Ok item) (Ok other) h k = ap (λ x. Ok x) (one_item compound item other h k)
found_once compound (Ok item) (Err text) h (none, k) = absurd (let e : Some h.place ≡ None = sym h.is_found ∙ none in cc e)
found_once compound (Err text) (Ok item) (none, h) k = absurd (let e : Some k.place ≡ None = sym k.is_found ∙ none in cc e)
found_once compound (Err text) (Err other) (none, h) (none', k) = ap (λ x. Err x) (h ∙ sym k)

module _ (files : FilesHaveOneAnswer) (chains : WholeChainsHaveOneAnswer) (streams : StreamsHaveOneAnswer)
    (listings : OneListing) (directory_faults : OneFault) (apart : NeverBoth) where
  lists_once : (is_wide : Bool) (bytes : List ℕ) → IsUnique (Lists is_wide bytes)
  lists_once is_wide bytes (Ok l) (Ok m) h k = ap (λ x. Ok x) (listings is_wide bytes l m h k)
  lists_once is_wide bytes (Ok l) (Err e) h k = absurd (apart is_wide bytes l e h k)
  lists_once is_wide bytes (Err e) (Ok l) h k = absurd (apart is_wide bytes l e k h)
  lists_once is_wide bytes (Err e) (Err f) h k = ap (λ x. Err x) (directory_faults is_wide bytes e f h k)

  tables_once : (file : List ℕ) → IsUnique (Tables file)
  tables_once file = seen_once _ _ (OpensTables file) (files file).same

  chain_once : (opened : Opened) → IsUnique (Chain opened)
  chain_once opened = seen_once _ _ (DirectoryBytes opened) (chains (sectors_of opened) opened.header.first_directory).same

  directory_once : (opened : Opened) (bytes : List ℕ) → IsUnique (Directory opened bytes)
  directory_once opened bytes = seen_once _ _ (Lists (is_wide opened.header) bytes) (lists_once (is_wide opened.header) bytes)

  mini_fat_once : (opened : Opened) → IsUnique (MiniFat opened)
  mini_fat_once opened = seen_once _ _ (MiniFatBytes opened) (chains (sectors_of opened) opened.header.first_mini_fat).same

  mini_once : (opened : Opened) (listing : Listing) (mini_fat : List ℕ) → IsUnique (Mini opened listing mini_fat)
  mini_once opened listing mini_fat =
      seen_once _ _ (MiniStream opened listing) (streams (sectors_of opened) listing.mini_start listing.mini_size).same

  after_listing_once : (opened : Opened) (listing : Listing) → IsUnique (AfterListing opened listing)
  after_listing_once opened listing = once_then (MiniFat opened) (Mini opened listing) (mini_fat_once opened) (mini_once opened listing)

  after_chain_once : (opened : Opened) (bytes : List ℕ) → IsUnique (AfterChain opened bytes)
  after_chain_once opened bytes =
      once_then (Directory opened bytes) (AfterListing opened) (directory_once opened bytes) (after_listing_once opened)

  after_tables_once : (opened : Opened) → IsUnique (AfterTables opened)
  after_tables_once opened = once_then (Chain opened) (AfterChain opened) (chain_once opened) (after_chain_once opened)

  whole_once : (file : List ℕ) → IsUnique (Whole file)
  whole_once file = once_then (Tables file) AfterTables (tables_once file) after_tables_once

  bytes_once : (compound : Compound) (item : Item) → IsUnique (Bytes compound item)
  bytes_once compound item =
      seen_once _ _ (ItemBytes compound item) (streams (space_of compound (size_of item)) item.start (size_of item)).same

  workbook_once : (compound : Compound) → IsUnique (Workbook compound)
  workbook_once compound = once_then (Found compound) (Bytes compound) (found_once compound) (bytes_once compound)

  answers_once : (compound bare : Bool) (file : List ℕ) → IsUnique (Answers compound bare file)
  answers_once true bare file r s h k = once_then (Whole file) Workbook (whole_once file) workbook_once r s h k
  answers_once false true file r s h k = h ∙ sym k
  answers_once false false file r s h k = h ∙ sym k

-- ---- what the definitions say is such an answer

whole_ok : (file : List ℕ) (c : Compound) → HoldsCompound file c → Whole file (Ok c)
whole_ok file c h =
    let built : c ≡ compound_of h.opened c.listing h.mini_fat h.mini_stream =
    ap (λ s. record { sectors = s; mini = c.mini; listing = c.listing }) h.sectors
    ∙ ap (λ s. record { sectors = sectors_of h.opened; mini = s; listing = c.listing }) h.mini in
    inr (
      h.opened,
      inl (h.opened, h.is_opened, refl),
      inr (
        h.directory,
        inl (h.directory, h.is_directory, refl),
        inr (
          c.listing,
          inl (c.listing, h.is_listing, refl),
          inr (
            h.mini_fat,
            inl (h.mini_fat, h.is_mini_fat, refl),
            inl (h.mini_stream, h.is_mini_stream, ap (λ x. Ok x) built),
          ),
        ),
      ),
    )

whole_err : (file : List ℕ) (error : CompoundError) → error ≢ errors.Memory → Refuses file error → Whole file (Err (damage error))
whole_err file errors.Memory some h = absurd (some refl)
whole_err file (errors.Tables fault) some h = inl (_, inr (fault, h, refl), refl)
whole_err file (errors.DirectoryChain fault) some (opened, is_opened, h) =
    inr (opened, inl (opened, is_opened, refl), inl (_, inr (fault, h, refl), refl))
whole_err file (errors.Directory fault) some (opened, bytes, is_opened, chain, h) =
    inr (opened, inl (opened, is_opened, refl), inr (bytes, inl (bytes, chain, refl), inl (_, inr (fault, h, refl), refl)))
whole_err file (errors.MiniFat fault) some (opened, listing, held, h) =
    inr (
      opened,
      inl (opened, held.is_opened, refl),
      inr (
        held.directory,
        inl (held.directory, held.is_directory, refl),
        inr (listing, inl (listing, held.is_listing, refl), inl (_, inr (fault, h, refl), refl)),
      ),
    )
whole_err file (errors.MiniStream fault) some (opened, listing, mini_fat, held, mini, h) =
    inr (
      opened,
      inl (opened, held.is_opened, refl),
      inr (
        held.directory,
        inl (held.directory, held.is_directory, refl),
        inr (listing, inl (listing, held.is_listing, refl), inr (mini_fat, inl (mini_fat, mini, refl), inr (fault, h, refl))),
      ),
    )
whole_err file (errors.Stream name fault) some h = absurd h

not_both : {x : Bool} → x ≡ true → x ≡ false → ⊥
not_both is isnt = absurd (let e : true ≡ false = sym is ∙ isnt in cc e)

answers_ok : (compound bare : Bool) (file bytes : List ℕ) → is_compound file ≡ compound → is_bare file ≡ bare
    → (container : Container) → OpensContainer file container → HasWorkbook container bytes → Answers compound bare file (Ok bytes)
answers_ok true bare file bytes is isnt (compound_file c) (same, holds) (item, found, h) =
    inr (c, whole_ok file c holds, inr (item, found, inl (bytes, h, refl)))
answers_ok false bare file bytes is isnt (compound_file c) (same, holds) h = absurd (not_both same is)
answers_ok true bare file bytes is isnt (bare_stream stream) (same, starts, e) h = absurd (not_both is same)
answers_ok false false file bytes is isnt (bare_stream stream) (same, starts, e) h = absurd (not_both starts isnt)
answers_ok false true file bytes is isnt (bare_stream stream) (same, starts, e) h = ap (λ x. Ok x) (h ∙ e)

stream_text : (item : Item) (name : _) (fault : SectorFault) → string_bytes name ≡ item.name
    → damage (errors.Stream name fault) ≡ stream_damage item fault
stream_text item name fault named =
    ap (λ x. codes "a damaged compound file: " ++ (codes "Stream " ++ (x ++ (codes ": " ++ sectors.fault_text fault)))) named

workbook_err : (c : Compound) (item : Item) → IsWorkbookItem c item → (error : CompoundError) → error ≢ errors.Memory
    → RefusesItem c item error → Workbook c (Err (damage error))
workbook_err c item found errors.Memory some h = absurd (some refl)
workbook_err c item found (errors.Stream name fault) some (named, h) =
    inr (item, found, inr (fault, h, ap (λ x. Err x) (stream_text item name fault named)))
workbook_err c item found (errors.Tables fault) some h = absurd h
workbook_err c item found (errors.DirectoryChain fault) some h = absurd h
workbook_err c item found (errors.Directory fault) some h = absurd h
workbook_err c item found (errors.MiniFat fault) some h = absurd h
workbook_err c item found (errors.MiniStream fault) some h = absurd h

to_open : (compound bare : Bool) (file : List ℕ) → is_compound file ≡ compound → is_bare file ≡ bare
    → (fault : FileFault) → fault ≢ faults.Memory → RefusesToOpen file fault → Answers compound bare file (Err (fault_text fault))
to_open true bare file is isnt (faults.Kind kind) some (other, another, h) = absurd (not_both is other)
to_open false true file is isnt (faults.Kind kind) some (other, another, h) = absurd (not_both isnt another)
to_open false false file is isnt (faults.Kind kind) some (other, another, h) = ap (λ x. Err (fault_text (faults.Kind x))) h
to_open true bare file is isnt (faults.Compound error) some (same, reported, h) = inl (_, whole_err file error reported h, refl)
to_open false bare file is isnt (faults.Compound error) some (same, reported, h) = absurd (not_both same is)
to_open compound bare file is isnt faults.NoWorkbook some h = absurd h
to_open compound bare file is isnt faults.Memory some h = absurd (some refl)

in_compound : (c : Compound) (fault : FileFault) → fault ≢ faults.Memory → RefusesWorkbook (compound_file c) fault
    → Workbook c (Err (fault_text fault))
in_compound c faults.NoWorkbook some h = inl (_, (h, refl), refl)
in_compound c (faults.Compound error) some (item, found, reported, h) = workbook_err c item found error reported h
in_compound c faults.Memory some h = absurd (some refl)
in_compound c (faults.Kind kind) some h = absurd h

in_bare : (stream : List ℕ) (fault : FileFault) → fault ≢ faults.Memory → RefusesWorkbook (bare_stream stream) fault → ⊥
in_bare stream faults.Memory some h = absurd (some refl)
in_bare stream (faults.Kind kind) some h = h
in_bare stream (faults.Compound error) some h = h
in_bare stream faults.NoWorkbook some h = h

opened_err : (compound bare : Bool) (file : List ℕ) → is_compound file ≡ compound → is_bare file ≡ bare
    → (fault : FileFault) → fault ≢ faults.Memory → (container : Container) → OpensContainer file container
    → RefusesWorkbook container fault → Answers compound bare file (Err (fault_text fault))
opened_err true bare file is isnt fault some (compound_file c) (same, holds) h =
    inr (c, whole_ok file c holds, in_compound c fault some h)
opened_err false bare file is isnt fault some (compound_file c) (same, holds) h = absurd (not_both same is)
opened_err compound bare file is isnt fault some (bare_stream stream) opened h = absurd (in_bare stream fault some h)

answers_err : (file : List ℕ) (fault : FileFault) → fault ≢ faults.Memory → RefusesFile file fault
    → Answers (is_compound file) (is_bare file) file (Err (fault_text fault))
answers_err file fault some (inl h) = to_open _ _ file refl refl fault some h
answers_err file fault some (inr (container, opened, h)) = opened_err _ _ file refl refl fault some container opened h

memory_or : (fault : FileFault) → ((fault ≢ faults.Memory) → ⊥) → fault ≡ faults.Memory
memory_or faults.Memory h = refl
memory_or (faults.Kind kind) h = absurd (h (λ e. cc e))
memory_or (faults.Compound error) h = absurd (h (λ e. cc e))
memory_or faults.NoWorkbook h = absurd (h (λ e. cc e))

pub one_answer_held : FilesHaveOneAnswer → WholeChainsHaveOneAnswer → StreamsHaveOneAnswer → OneListing → OneFault → NeverBoth
    → (file : List ℕ) → HasOneAnswer file
one_answer_held files chains streams listings directory_faults apart file =
    let once = answers_once files chains streams listings directory_faults apart (is_compound file) (is_bare file) file in
    let read : (bytes : List ℕ) → WorkbookBytes file bytes → Answers (is_compound file) (is_bare file) file (Ok bytes)
    = λ bytes h. answers_ok _ _ file bytes refl refl h.container h.is_opened h.has in
    record {
      workbook = λ a b h k. (let same = once (Ok a) (Ok b) (read a h) (read b k) in cc same);
      either = λ bytes fault h k. memory_or fault (λ some.
          (let same = once (Ok bytes) (Err (fault_text fault)) (read bytes h) (answers_err file fault some k) in absurd (cc same)));
      fault = λ e f h k some other.
          (let same = once (Err (fault_text e)) (Err (fault_text f)) (answers_err file e some h) (answers_err file f other k) in cc same);
    }
