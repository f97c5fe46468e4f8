-- For the proofs: how records and strings are kept in memory.
use Rattle.std.specs.Prelude.{ℕ, ◌+◌, List, [], ◌∷◌, take, drop}
use Rattle.xls_stream.specs.Listing.{Kept}
use Rattle.xls_lay.specs.declared.kept.RecordHead.{RecordHead}

-- the sum of sizes
abbrev pub total : List ℕ → ℕ
total [] = 0
total (n ∷ ns) = n + total ns

-- a run cut into parts of these sizes
abbrev pub parts_of : List ℕ → List ℕ → List (List ℕ)
parts_of [] run = []
parts_of (n ∷ ns) run = take n run ∷ parts_of ns (drop n run)

-- the sum of the sizes of bodies
abbrev pub sizes_sum : List RecordHead → ℕ
sizes_sum [] = 0
sizes_sum (h ∷ hs) = h.size + sizes_sum hs

-- the records of these heads, whose bodies stand one after the other
abbrev pub records_of : List RecordHead → List ℕ → List Kept
records_of [] bytes = []
records_of (h ∷ hs) bytes =
    record { typ = h.typ; body = take h.size bytes } ∷ records_of hs (drop h.size bytes)
