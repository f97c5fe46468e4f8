-- What is laid is read.
use Rattle.std.proofs.Common.{◌≡◌, ℕ, ◌+◌, ◌-◌, ◌*◌, ◌<◌, ◌≤◌, min, zero, suc, List, [], ◌∷◌, ◌++◌, length, take, Bool, cond, Option, Some, None, Result, Ok, Err, slice_get, inl, refl, sym, ◌∙◌, ap, subst, length-append, arith}
use Rattle.std.specs.List.{AllByRecursion}
use Rattle.std.proofs.lemmas.Bool.{lt-ltb, le-ltb}
use Rattle.std.proofs.lemmas.Grind.{common_steps}
use Rattle.std.proofs.lemmas.List.{take-append-le}
use Rattle.xls_bytes.specs.Numbers.{u32s_of}
use Rattle.xls_sectors.specs.declared.error.SectorFault.{SectorFault}
use Rattle.xls_sectors.specs.declared.error.SectorFault.TheVariants as faults
use Rattle.xls_sectors.specs.Header.{SPECIAL, END_OF_CHAIN}
use Rattle.xls_sectors.specs.Reading.{◌>>=◌}
use Rattle.xls_sectors.specs.Chains.{Path, Stops}
use Rattle.xls_sectors.specs.Streams.{Space, next_in, sector_at, part_of, gathered, too_short, Stream, WholeChain}
use Rattle.xls_sectors.specs.Tables.{sectors_of}
use Rattle.xls_compound.specs.Items.{onward}
use Rattle.xls_compound.specs.Directory.{Listing}
use Rattle.xls_compound.specs.Compound.{Compound, HoldsCompound, mini_sectors, space_of, size_of}
use Rattle.xls_compound.specs.Layout.{IsLinked, StandsIn, LiesIn, Fills, NamedStream, IsLaid, IsLayout, IsFound}

-- a sector's entry is what follows it
next-entry : (space : Space) (sector then : ℕ) → sector < SPECIAL → slice_get space.entries sector ≡ Some then
    → next_in space sector ≡ Some then
next-entry space sector then less h = ap (λ (b : Bool). cond b (slice_get space.entries sector) None) (lt-ltb sector SPECIAL less) ∙ h

linked-path : (space : Space) (first : ℕ) (sectors : List ℕ) → IsLinked space first sectors
    → Path (next_in space) first sectors END_OF_CHAIN
linked-path space first [] h = h
linked-path space first (sector ∷ sectors) (then, same, less, entry, others) =
    (same, (then, next-entry space sector then less entry, linked-path space then sectors others))

linked-stops : (space : Space) (first : ℕ) (sectors : List ℕ) → IsLinked space first sectors
    → Stops (next_in space) first sectors END_OF_CHAIN
linked-stops space first sectors h = record { path = linked-path space first sectors h; stop = refl }

-- the bytes are at most those of the sectors
stands-room : (space : Space) (sectors bytes : List ℕ) → StandsIn space sectors bytes → length bytes ≤ length sectors * space.sector_size
stands-room space [] bytes h = omega (arith, ap length h)
stands-room space (sector ∷ sectors) bytes (piece, padding, others, whole, size, there, rest) =
    let room : length others ≤ length sectors * space.sector_size = stands-room space sectors others rest in
    let sum : length bytes ≡ length piece + length others = ap length whole ∙ length-append piece others in
    let product : suc (length sectors) * space.sector_size ≡ length sectors * space.sector_size + space.sector_size = grind arith in
    omega arith

take-of-all : (n : ℕ) (xs : List ℕ) → length xs ≤ n → take n xs ≡ xs
take-of-all n xs h = grind (arith, common_steps)

-- the part of a sector that the bytes take
stands-part : (space : Space) (sector n : ℕ) (piece padding : List ℕ) → length piece ≡ n → sector_at space sector ≡ piece ++ padding
    → part_of space n sector ≡ Ok piece
stands-part space sector n piece padding size there =
    let room : n ≤ length (sector_at space sector) = omega (arith, ap length there, length-append piece padding) in
    let within : n ≤ length piece = omega arith in
    ap (λ (b : Bool). cond b (Err (faults.Cut space.table sector n (length (sector_at space sector)))) (Ok (take n (sector_at space sector))))
    (le-ltb (length (sector_at space sector)) n room)
    ∙ ap (λ (xs : List ℕ). Ok xs) (ap (take n) there ∙ take-append-le n piece padding within ∙ take-of-all n piece (omega arith))

-- the sectors put together, up to the size, are the bytes
pub stands-gathered : (space : Space) (sectors bytes : List ℕ) → StandsIn space sectors bytes
    → gathered space (length bytes) sectors ≡ Ok bytes
unfolding gathered
stands-gathered space [] bytes h = ap (λ (xs : List ℕ). Ok xs) (sym h)
stands-gathered space (sector ∷ sectors) bytes (piece, padding, others, whole, size, there, rest) =
    let sum : length bytes ≡ length piece + length others = ap length whole ∙ length-append piece others in
    let left : length bytes - space.sector_size ≡ length others = omega arith in
    let part = stands-part space sector (min (length bytes) space.sector_size) piece padding size there in
    let more : gathered space (length bytes - space.sector_size) sectors ≡ Ok others =
    ap (λ (n : ℕ). gathered space n sectors) left ∙ stands-gathered space sectors others rest in
    ap (λ (r : Result (List ℕ) SectorFault). r >>= λ one. (gathered space (length bytes - space.sector_size) sectors >>= λ two. Ok (one ++ two))) part
    ∙ ap (λ (r : Result (List ℕ) SectorFault). r >>= λ two. Ok (piece ++ two)) more
    ∙ ap (λ (xs : List ℕ). Ok xs) (sym whole)

-- bytes that lie in a chain are those of the stream
lies-of : (space : Space) (first size : ℕ) (bytes : List ℕ) → length bytes ≡ size → LiesIn space first bytes → Stream space first size (Ok bytes)
lies-of space first zero [] e h = refl
lies-of space first zero (b ∷ bytes) e h = absurd (omega arith)
lies-of space first (suc n) bytes e h =
    let room : suc n ≤ length h.sectors * space.sector_size = subst (λ (k : ℕ). k ≤ length h.sectors * space.sector_size) e (stands-room space h.sectors bytes h.stands) in
    inl (
      h.sectors,
      (
        END_OF_CHAIN,
        linked-stops space first h.sectors h.linked,
        sym (ap (λ (b : Bool). cond b (Err (too_short space first (suc n) h.sectors END_OF_CHAIN)) (gathered space (suc n) h.sectors)) (le-ltb (length h.sectors * space.sector_size) (suc n) room)
            ∙ ap (λ (k : ℕ). gathered space k h.sectors) (sym e) ∙ stands-gathered space h.sectors bytes h.stands),
      ),
    )

-- bytes that fill a chain are those of the whole chain
fills-of : (space : Space) (first : ℕ) (bytes : List ℕ) → Fills space first bytes → WholeChain space first (Ok bytes)
fills-of space first bytes h =
    inl (
      h.sectors,
      (
        END_OF_CHAIN,
        linked-stops space first h.sectors h.linked,
        sym (ap (λ (n : ℕ). gathered space n h.sectors) (sym h.all) ∙ stands-gathered space h.sectors bytes h.stands),
      ),
    )

-- each stream that is laid is found
module _ (sectors mini : Space) (listing : Listing) where
  abbrev whole : Compound
  whole = record { sectors = sectors; mini = mini; listing = listing }

  one_found : (stream : NamedStream) → IsLaid sectors mini listing stream → IsFound whole stream
  one_found stream h =
      let size : size_of h.item ≡ h.item.size = ap (λ (b : Bool). cond b h.item.size 0) h.kind in
      let lies : LiesIn (space_of whole (size_of h.item)) h.item.start stream.bytes =
      subst (λ (n : ℕ). LiesIn (space_of whole n) h.item.start stream.bytes) (sym size) h.lies in (
        h.place,
        h.item,
        ap (onward (λ (place : Option ℕ). place)) h.is_first,
        h.is_item,
        lies-of (space_of whole (size_of h.item)) h.item.start (size_of h.item) stream.bytes (sym h.size ∙ sym size) lies,
      )

  pub all_found : (streams : List NamedStream) → AllByRecursion (IsLaid sectors mini listing) streams → AllByRecursion (IsFound whole) streams
  all_found [] h = h
  all_found (stream ∷ streams) h = (one_found stream h.0, all_found streams h.1)

pub laid_held : (file : List ℕ) (streams : List NamedStream) → IsLayout file streams
    → (compound : Compound) × HoldsCompound file compound × AllByRecursion (IsFound compound) streams
laid_held file streams h = (
  whole (sectors_of h.opened) (mini_sectors (u32s_of h.mini_fat) h.mini_stream) h.listing,
  record {
    opened = h.opened;
    is_opened = h.is_opened;
    sectors = refl;
    directory = h.directory;
    is_directory = fills-of (sectors_of h.opened) h.opened.header.first_directory h.directory h.directory_fills;
    is_listing = h.is_listing;
    mini_fat = h.mini_fat;
    is_mini_fat = fills-of (sectors_of h.opened) h.opened.header.first_mini_fat h.mini_fat h.mini_fat_fills;
    mini_stream = h.mini_stream;
    is_mini_stream = lies-of (sectors_of h.opened) h.listing.mini_start h.listing.mini_size h.mini_stream (sym h.mini_stream_size) h.mini_stream_lies;
    mini = refl;
  },
  all_found (sectors_of h.opened) (mini_sectors (u32s_of h.mini_fat) h.mini_stream) h.listing streams h.streams_laid,
)
