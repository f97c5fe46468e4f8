-- A law over the records of a part.
use Rattle.std.specs.Prelude.{◌≡◌, ℕ, List, map, Bool, not, ◌==◌, None}
use Rattle.std.specs.List.{filter}
use Rattle.xls_stream.specs.Stream.{Group}
use Rattle.xls_stream.specs.Substreams.{SheetPart, outer_in}
use Rattle.xls_stream.specs.Listing.{Kept, kept_group}
use Rattle.xls_stream.specs.declared.types.TheConstants.{CONTINUE}
use Rattle.xls_parts.specs.PartRecords.{Placed, records_at, outer_from}

-- a record without its place
abbrev pub kept_of : Placed → Kept
kept_of r = record { typ = r.typ; body = r.body }

abbrev pub is_no_continue : Kept → Bool
is_no_continue k = not (k.typ == CONTINUE)

-- those of some records that are no Continue records, without their places
abbrev pub kinds_of : List Placed → List Kept
kinds_of rs = filter is_no_continue (map kept_of rs)

-- of a sheet part that isn't cut the records outside nested substreams are those that its grammar finds
abbrev pub OuterAreThose : Type 0
OuterAreThose = (part : List ℕ) (kept : List Group) (p : SheetPart part kept None) (offset : ℕ)
    → kinds_of (outer_from 0 (records_at offset part)) ≡ filter is_no_continue (map kept_group (outer_in p.outline))
