-- The groups of a list of bytes, and how the bytes end after them.
use Rattle.std.specs.Prelude.{◌≡◌, ℕ, ◌<◌, List, [], ◌⊎◌, slice_index, Option, Some, None}
use Rattle.xls_stream.specs.Stream.{Group, Run}
use Rattle.xls_stream.specs.Cut.{Cut}
use Rattle.xls_stream.specs.declared.part.Part.{Part}

abbrev pub IsBytes : List ℕ → Type 0
IsBytes bytes = (i : ℕ) → slice_index bytes i < 256

-- nothing is left, or the stream is cut there
abbrev pub IsOver : List ℕ → Type 0
IsOver rest = (rest ≡ []) ⊎ ((p : Part) × Cut rest p)

-- nothing is left, or what is left is cut so
abbrev pub AtEnd : List ℕ → Option Part → Type 0
AtEnd rest None = rest ≡ []
AtEnd rest (Some p) = Cut rest p

-- the bytes are these groups, and then they end so
pub record Groups (bytes : List ℕ) (groups : List Group) (stop : Option Part) : Type 0 where
  pub rest : List ℕ
  pub run : Run bytes groups rest
  pub end : AtEnd rest stop
