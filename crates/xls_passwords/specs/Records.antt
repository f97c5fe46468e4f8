-- The records of an encrypted stream ([MS-XLS] 2.1.4): each has four bytes of type and length, and a body. A
-- Continue record is a record like others here.
use Rattle.std.specs.Prelude.{ℕ, zero, suc, ◌+◌, List, take, drop, length, nat_lt, Bool, true, not, ◌&&◌, ◌==◌, if◌then◌else◌, Option, Some, None}
use Rattle.std.specs.List.{list_any}
use Rattle.xls_stream.specs.declared.types.TheConstants as types
use Rattle.xls_passwords.specs.Schemes.{u16_at}
use Rattle.xls_passwords.specs.declared.records.TheConstants as constants
use Rattle.xls_passwords.specs.declared.records.FilePass.{FilePass}

-- records from an offset on, each with its offset, its type and length as they stand, and its body as far as the
-- stream goes. After the last one fewer than four bytes may stand.
pub data Records : Type 0 where
  rest : (bytes : List ℕ) → Records
  record_at : (offset : ℕ) (head body : List ℕ) (others : Records) → Records

abbrev pub typ_of : List ℕ → ℕ
typ_of head = u16_at 0 head

abbrev pub size_of : List ℕ → ℕ
size_of head = u16_at 2 head

-- those of these bytes, which stand at an offset: at most n
unfoldable pub records_within : ℕ → ℕ → List ℕ → Records
records_within zero offset bytes = rest bytes
records_within (suc n) offset bytes =
    let size = size_of (take 4 bytes) in
    if nat_lt (length bytes) 4 then rest bytes
    else record_at offset (take 4 bytes) (take size (drop 4 bytes)) (records_within n (offset + 4 + size) (drop (4 + size) bytes))

-- a record has at least four bytes, so there are no more than the bytes
abbrev pub records_from : ℕ → List ℕ → Records
records_from offset bytes = records_within (length bytes) offset bytes

abbrev pub records_of : List ℕ → Records
records_of stream = records_from 0 stream

-- ---- FilePass

-- whether the records after a BOF ([MS-XLS] 2.4.21) have the layouts of BIFF8: by its first number, and where that
-- is 0 by the second one. A body of fewer than two bytes says nothing.
abbrev pub is_biff8_after : Bool → List ℕ → Bool
is_biff8_after before body =
    if nat_lt (length body) 2 then before
    else not (list_any (λ n. n == u16_at 0 body) constants.OLDER_VERSIONS)
    && not (u16_at 0 body == 0 && not (nat_lt (length body) 4) && u16_at 2 body == 0x1000)

-- the first FilePass, unless an EOF stands before it, under the version of the last BOF before it
abbrev pub file_pass_in : Bool → Records → Option FilePass
file_pass_in is_biff8 (rest bytes) = None
file_pass_in is_biff8 (record_at offset head body others) =
    if typ_of head == types.EOF then None
    else if typ_of head == types.FILE_PASS then Some (record { offset = offset; end = offset + 4 + length body; is_biff8 = is_biff8 })
    else file_pass_in (if typ_of head == types.BOF then is_biff8_after is_biff8 body else is_biff8) others

-- of a stream, whose version is BIFF8 at first
abbrev pub file_pass_of : List ℕ → Option FilePass
file_pass_of stream = file_pass_in true (records_of stream)
