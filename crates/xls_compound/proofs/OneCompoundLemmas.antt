-- A file holds at most one compound, since each part of it has one answer.
use Rattle.std.proofs.Common.{◌≡◌, ℕ, List, Bool, Result, Ok, sym, ◌∙◌, ap, subst}
use Rattle.xls_bytes.specs.Numbers.{u32s_of}
use Rattle.xls_sectors.specs.declared.error.SectorFault.{SectorFault}
use Rattle.xls_sectors.specs.Laws.{OneAnswer, StreamsHaveOneAnswer, WholeChainsHaveOneAnswer, FilesHaveOneAnswer}
use Rattle.xls_sectors.specs.Streams.{Space}
use Rattle.xls_sectors.specs.Tables.{Opened, OpensSectors, sectors_of}
use Rattle.xls_compound.specs.Directory.{Listing, IsDirectory}
use Rattle.xls_compound.specs.Compound.{Compound, HoldsCompound, DirectoryBytes, MiniFatBytes, MiniStream, mini_sectors, is_wide}

-- one value where there is one answer
one_ok : {X : Type 0} (Answers : Result X SectorFault → Type 0) (x y : X) → OneAnswer Answers → Answers (Ok x) → Answers (Ok y) → x ≡ y
one_ok Answers x y one h k = let same = one.same (Ok x) (Ok y) h k in cc same

abbrev compound : Space → Space → Listing → Compound
compound sectors mini listing = record { sectors = sectors; mini = mini; listing = listing }

pub one_held : FilesHaveOneAnswer → WholeChainsHaveOneAnswer → StreamsHaveOneAnswer
    → ((is_wide : Bool) (bytes : List ℕ) (l m : Listing) → IsDirectory is_wide bytes l → IsDirectory is_wide bytes m → l ≡ m)
    → (file : List ℕ) (c d : Compound) → HoldsCompound file c → HoldsCompound file d → c ≡ d
one_held files chains streams listings file c d h k =
    let opened : h.opened ≡ k.opened = one_ok (OpensSectors file) h.opened k.opened (files file) h.is_opened k.is_opened in
    let directory : h.directory ≡ k.directory = one_ok (DirectoryBytes k.opened) h.directory k.directory
    (chains (sectors_of k.opened) k.opened.header.first_directory)
    (subst (λ (o : Opened). DirectoryBytes o (Ok h.directory)) opened h.is_directory) k.is_directory in
    let listing : c.listing ≡ d.listing = listings (is_wide k.opened.header) k.directory c.listing d.listing
    (subst (λ (xs : List ℕ). IsDirectory (is_wide k.opened.header) xs c.listing) directory
    (subst (λ (o : Opened). IsDirectory (is_wide o.header) h.directory c.listing) opened h.is_listing)) k.is_listing in
    let mini_fat : h.mini_fat ≡ k.mini_fat = one_ok (MiniFatBytes k.opened) h.mini_fat k.mini_fat
    (chains (sectors_of k.opened) k.opened.header.first_mini_fat)
    (subst (λ (o : Opened). MiniFatBytes o (Ok h.mini_fat)) opened h.is_mini_fat) k.is_mini_fat in
    let mini_stream : h.mini_stream ≡ k.mini_stream = one_ok (MiniStream k.opened d.listing) h.mini_stream k.mini_stream
    (streams (sectors_of k.opened) d.listing.mini_start d.listing.mini_size)
    (subst (λ (l : Listing). MiniStream k.opened l (Ok h.mini_stream)) listing
    (subst (λ (o : Opened). MiniStream o c.listing (Ok h.mini_stream)) opened h.is_mini_stream)) k.is_mini_stream in
    let sectors : c.sectors ≡ d.sectors = h.sectors ∙ ap sectors_of opened ∙ sym k.sectors in
    let mini : c.mini ≡ d.mini = h.mini ∙ ap (λ (xs : List ℕ). mini_sectors (u32s_of xs) h.mini_stream) mini_fat
    ∙ ap (mini_sectors (u32s_of k.mini_fat)) mini_stream ∙ sym k.mini in
    ap (λ (s : Space). compound s c.mini c.listing) sectors ∙ ap (λ (s : Space). compound d.sectors s c.listing) mini
    ∙ ap (compound d.sectors d.mini) listing
