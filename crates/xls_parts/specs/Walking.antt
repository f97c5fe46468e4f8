-- For the proofs: the first record of some bytes.
use Rattle.std.specs.Prelude.{◌≡◌, ℕ, ◌+◌, List, take, drop, length, true}
use Rattle.xls_bytes.specs.Numbers.{le}
use Rattle.xls_parts.specs.PartRecords.{size_at, starts_whole}

-- the bytes begin with a whole record of this type and body, and then the rest
pub record SplitsFirst (bytes : List ℕ) (typ : ℕ) (body rest : List ℕ) : Type 0 where
  pub whole : starts_whole bytes ≡ true
  pub typ_is : typ ≡ le (take 2 bytes)
  pub body_is : body ≡ take (size_at bytes) (drop 4 bytes)
  pub size_is : length body ≡ size_at bytes
  pub rest_is : rest ≡ drop (4 + size_at bytes) bytes
