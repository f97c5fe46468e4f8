-- Where a stream ends inside a record.
use Rattle.std.specs.Prelude.{◌≡◌, ℕ, ◌+◌, ◌<◌, ◌≤◌, List, ◌++◌, length, take, drop}
use Rattle.xls_bytes.specs.Numbers.{le}
use Rattle.xls_stream.specs.Stream.{Group, group_bytes, IsGroup, HasRoom, StartsContinue}
use Rattle.xls_stream.specs.declared.part.Part.{Part}
use Rattle.xls_stream.specs.declared.part.Part.TheVariants.{RecordHeader, RecordLength, ContinueLength}

-- at least a header is there, and the body passes the end
pub record PassesEnd (bytes : List ℕ) : Type 0 where
  pub header : 4 ≤ length bytes
  pub short : length bytes < 4 + le (take 2 (drop 2 bytes))

-- a whole record with whole Continues, and then a Continue that is attached and cut
pub record CutsContinue (bytes : List ℕ) (g : Group) (after : List ℕ) : Type 0 where
  pub whole : bytes ≡ group_bytes g ++ after
  pub fits : IsGroup g
  pub room : HasRoom g.tail after
  pub begun : StartsContinue after
  pub cut : PassesEnd after

abbrev pub Cut : List ℕ → Part → Type 0
Cut bytes RecordHeader = (0 < length bytes) × (length bytes < 4)
Cut bytes RecordLength = PassesEnd bytes
Cut bytes ContinueLength = (g : Group) × (after : List ℕ) × CutsContinue bytes g after
Cut bytes other = ⊥
