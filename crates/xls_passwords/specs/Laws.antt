-- Laws of the definitions.
use Rattle.std.specs.Prelude.{◌≡◌, ℕ, List, [], ◌∷◌, ◌++◌, length, ◌==◌, if◌then◌else◌}
use Rattle.xls_stream.specs.declared.types.TheConstants as types
use Rattle.xls_passwords.specs.Keys.{along, xored}
use Rattle.xls_passwords.specs.Records.{Records, rest, record_at, typ_of, size_of, records_of}
use Rattle.xls_passwords.specs.Plain.{plain}
use Rattle.xls_passwords.specs.declared.keys.BlockKeys.{BlockKeys}
use Rattle.xls_passwords.specs.declared.passwords.Key.{Key}

-- xor with the key streams twice gives the bytes again
abbrev pub XorsBack : Type 0
XorsBack = (keys : BlockKeys) (p : ℕ) (bytes : List ℕ) → along (xored keys) p (along (xored keys) p bytes) ≡ bytes

-- the records' bytes, one after another
abbrev pub written : Records → List ℕ
written (rest bytes) = bytes
written (record_at offset head body others) = head ++ body ++ written others

-- a stream is its records
abbrev pub RecordsAreAll : Type 0
RecordsAreAll = (stream : List ℕ) → written (records_of stream) ≡ stream

-- the plain stream has the stream's length
abbrev pub KeepsLength : Type 0
KeepsLength = (key : Key) (stream : List ℕ) → length (plain key stream) ≡ length stream

-- what a walk sees of a record: where it stands, its type, the length of its body by its header, and that of what is there
pub record Outline : Type 0 where
  pub offset : ℕ
  pub typ : ℕ
  pub size : ℕ
  pub len : ℕ

abbrev pub outlines : Records → List Outline
outlines (rest bytes) = []
outlines (record_at offset head body others) =
    record { offset = offset; typ = typ_of head; size = size_of head; len = length body } ∷ outlines others

-- the first FilePass becomes a record of type 0
abbrev pub with_none : List Outline → List Outline
with_none [] = []
with_none (o ∷ os) = if o.typ == types.FILE_PASS then record o { typ = 0 } ∷ os else o ∷ with_none os

-- the plain stream has the same records, but for the first FilePass
abbrev pub KeepsRecords : Type 0
KeepsRecords = (key : Key) (stream : List ℕ) → outlines (records_of (plain key stream)) ≡ with_none (outlines (records_of stream))
