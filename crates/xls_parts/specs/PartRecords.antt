-- The records of a sheet's own, with their places in the stream: those of its part ([MS-XLS] 2.1.7.20.5) up to the
-- part's EOF (2.4.103), outside nested substreams, which begin with a BOF (2.4.21), and outside custom views, from
-- UserSViewBegin (2.4.325) to UserSViewEnd (2.4.327).
use Rattle.std.specs.Prelude.{ℕ, zero, suc, ◌+◌, ◌-◌, List, [], ◌∷◌, length, take, drop, Bool, true, false, nat_le, ◌==◌, if◌then◌else◌}
use Rattle.xls_bytes.specs.Numbers.{le}
use Rattle.xls_stream.specs.declared.types.TheConstants.{BOF, EOF}
use Rattle.xls_parts.specs.declared.types.TheConstants.{USER_S_VIEW_BEGIN, USER_S_VIEW_END}
use Rattle.xls_parts.specs.declared.part_records.PartRecord.{PartRecord}

-- a record ([MS-XLS] 2.1.4): the place of its header in the stream, its type and its body
pub record Placed : Type 0 where
  pub offset : ℕ
  pub typ : ℕ
  pub body : List ℕ

-- a record as the code lends it
abbrev pub placed_of : PartRecord → Placed
placed_of r = record { offset = r.offset; typ = r.typ; body = r.body.now }

-- ---- all records

-- the length of the body, by the third and fourth byte of a header
abbrev pub size_at : List ℕ → ℕ
size_at bytes = le (take 2 (drop 2 bytes))

-- the first record is there whole
abbrev pub starts_whole : List ℕ → Bool
starts_whole bytes = nat_le (4 + size_at bytes) (length bytes)

abbrev pub first_at : ℕ → List ℕ → Placed
first_at offset bytes = record {
  offset = offset;
  typ = le (take 2 bytes);
  body = take (size_at bytes) (drop 4 bytes);
}

-- the records of some bytes up to the first that isn't whole: at most n of them
unfoldable pub records_within : ℕ → ℕ → List ℕ → List Placed
records_within zero offset bytes = []
records_within (suc n) offset bytes =
    if starts_whole bytes
    then first_at offset bytes
    ∷ records_within n (offset + (4 + size_at bytes)) (drop (4 + size_at bytes) bytes)
    else []

-- all of them, where the bytes begin at this offset
abbrev pub records_at : ℕ → List ℕ → List Placed
records_at offset bytes = records_within (length bytes) offset bytes

-- those before the first EOF
unfoldable pub until_eof : List Placed → List Placed
until_eof [] = []
until_eof (r ∷ rs) = if r.typ == EOF then [] else r ∷ until_eof rs

-- the records of the globals, which a stream begins with
abbrev pub globals_records : List ℕ → List Placed
globals_records stream = until_eof (records_at 0 stream)

-- ---- those of the sheet's own

-- The records outside nested substreams, up to the EOF of the part, where so many BOF records are open: none, the
-- part's own, or that and those of substreams inside it.
unfoldable pub outer_from : ℕ → List Placed → List Placed
outer_from depth [] = []
outer_from depth (r ∷ rs) =
    if r.typ == BOF then outer_from (depth + 1) rs
    else if r.typ == EOF then (if nat_le depth 1 then [] else outer_from (depth - 1) rs)
    else if nat_le depth 1 then r ∷ outer_from depth rs
    else outer_from depth rs

-- the records outside custom views, begun inside one or not
unfoldable pub own_from : Bool → List Placed → List Placed
own_from inside [] = []
own_from inside (r ∷ rs) =
    if r.typ == USER_S_VIEW_BEGIN then own_from true rs
    else if r.typ == USER_S_VIEW_END then own_from false rs
    else if inside then own_from true rs
    else r ∷ own_from false rs

-- the records of a sheet's own, where its part begins with the first byte
abbrev pub own_records : ℕ → List ℕ → List Placed
own_records offset part = own_from false (outer_from 0 (records_at offset part))
