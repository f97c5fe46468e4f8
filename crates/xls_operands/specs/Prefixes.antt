-- What was put before leaves: pieces of one list of bytes, each chained to the piece that was put before
-- the same leaf before it.
use Rattle.std.specs.Prelude.{ℕ, suc, ◌<◌, ◌≤◌, List, [], ◌∷◌, ◌++◌, length, slice_range, slice_index_or, Option, Some, None}
use Rattle.xls_operands.specs.declared.prefixes.Piece.{Piece}

-- the text of a chain, by the number of its newest piece, where each piece has a text
abbrev pub prefix_at : List (List ℕ) → Option ℕ → List ℕ
prefix_at texts None = []
prefix_at texts (Some i) = slice_index_or texts i []

-- a chain of the first n pieces
abbrev pub IsChain : ℕ → Option ℕ → Type 0
IsChain n None = Unit {0}
IsChain n (Some i) = i < n

-- the text of each piece, after those of earlier pieces: its bytes, and then the chain behind it
abbrev pub texts_after : List (List ℕ) → List ℕ → List Piece → List (List ℕ)
texts_after earlier bytes [] = earlier
texts_after earlier bytes (p ∷ ps) =
    texts_after (earlier ++ (slice_range bytes p.start p.end ++ prefix_at earlier p.older) ∷ []) bytes ps

abbrev pub prefixes_of : List ℕ → List Piece → List (List ℕ)
prefixes_of bytes pieces = texts_after [] bytes pieces

-- after n pieces: each is a range of the bytes, and what is chained to it stands before it
abbrev pub ArePieces : ℕ → List ℕ → List Piece → Type 0
ArePieces n bytes [] = Unit {0}
ArePieces n bytes (p ∷ ps) =
    (p.start ≤ p.end) × (p.end ≤ length bytes) × IsChain n p.older × ArePieces (suc n) bytes ps
