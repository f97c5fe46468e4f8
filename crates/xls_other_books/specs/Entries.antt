-- ExternSheet (2.4.106) of BIFF8: a count (cXTI) at 0, and from 2 on as many entries of six bytes: the number of the
-- SupBook (iSupBook), those of the first and the last sheet (itabFirst, itabLast). The whole ones that are there count.
use Rattle.std.specs.Prelude.{ℕ, zero, suc, List, [], ◌∷◌, ◌++◌, take, drop, length, nat_lt, ◌==◌, if◌then◌else◌}
use Rattle.xls_bytes.specs.Numbers.{le}
use Rattle.xls_parts.specs.PartRecords.{Placed}
use Rattle.xls_ptg.specs.Fields.{word_at}
use Rattle.xls_stream.specs.declared.types.TheConstants.{EXTERN_SHEET}
use Rattle.xls_other_books.specs.declared.entries.Entry.{Entry}

-- the one that some bytes begin with
abbrev pub entry_at : List ℕ → Entry
entry_at bytes = record { book = word_at 0 bytes; first = word_at 2 bytes; last = word_at 4 bytes }

-- so many, up to the first that isn't whole
abbrev pub entries_in : ℕ → List ℕ → List Entry
entries_in zero bytes = []
entries_in (suc n) bytes = if nat_lt (length bytes) 6 then [] else entry_at bytes ∷ entries_in n (drop 6 bytes)

abbrev pub record_entries : List ℕ → List Entry
record_entries body = if nat_lt (length body) 2 then [] else entries_in (le (take 2 body)) (drop 2 body)

-- of all records
abbrev pub entries_of : List Placed → List Entry
entries_of [] = []
entries_of (r ∷ rs) = if r.typ == EXTERN_SHEET then record_entries r.body ++ entries_of rs else entries_of rs
