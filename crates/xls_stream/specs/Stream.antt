-- A stream of records, as a concatenation.
use Rattle.std.specs.Prelude.{◌≡◌, ℕ, zero, suc, ◌+◌, ◌<◌, ◌^◌, List, [], ◌∷◌, ◌++◌, length, take, drop}
use Rattle.std.specs.List.{flat_map, AllByRecursion}
use Rattle.xls_bytes.specs.Numbers.{le, le16}

-- a record: its type, the length of its body, and its body
abbrev pub record_bytes : ℕ → List ℕ → List ℕ
record_bytes typ body = le16 typ ++ le16 (length body) ++ body

-- the bytes are a record and then the rest
pub record IsRecord (bytes : List ℕ) (typ : ℕ) (body rest : List ℕ) : Type 0 where
  pub whole : bytes ≡ record_bytes typ body ++ rest
  pub typ_fits : typ < 2 ^ 16
  pub body_fits : length body < 2 ^ 16

-- a record and the bodies of the Continue records attached to it
pub record Group : Type 0 where
  pub typ : ℕ
  pub body : List ℕ
  pub tail : List (List ℕ)

-- Continue records with these bodies
abbrev pub continues : List (List ℕ) → List ℕ
continues bodies = flat_map (record_bytes 0x003C) bodies

abbrev pub group_bytes : Group → List ℕ
group_bytes g = record_bytes g.typ g.body ++ continues g.tail

-- a body has a 16-bit length
abbrev pub IsBody : List ℕ → Type 0
IsBody body = length body < 2 ^ 16

pub record IsGroup (g : Group) : Type 0 where
  pub typ : g.typ < 2 ^ 16
  pub body : IsBody g.body
  pub tail : AllByRecursion IsBody g.tail

-- more than four bytes are left, and the first two are those of a Continue record
pub record StartsContinue (bytes : List ℕ) : Type 0 where
  pub room : 4 < length bytes
  pub typ : take 2 bytes ≡ 60 ∷ 0 ∷ []

-- each of these Continue records begins where more than four bytes are left
abbrev pub HasRoom : List (List ℕ) → List ℕ → Type 0
HasRoom [] after = Unit {0}
HasRoom (c ∷ cs) after = (4 < length (continues (c ∷ cs) ++ after)) × HasRoom cs after

-- the bytes are a group and then the rest, and the group is whole: no Continue that belongs to it
-- stands in the rest
pub record Begins (bytes : List ℕ) (g : Group) (rest : List ℕ) : Type 0 where
  pub whole : bytes ≡ group_bytes g ++ rest
  pub fits : IsGroup g
  pub room : HasRoom g.tail rest
  pub ended : ¬ StartsContinue rest

-- the bytes are these groups in order and then the rest
abbrev pub Run : List ℕ → List Group → List ℕ → Type 0
Run bytes [] rest = bytes ≡ rest
Run bytes (g ∷ gs) rest = (after : List ℕ) × Begins bytes g after × Run after gs rest

-- the bodies of Continue records that fill the bytes: at most n of them
unfoldable pub bodies_within : ℕ → List ℕ → List (List ℕ)
bodies_within zero bytes = []
bodies_within (suc n) [] = []
bodies_within (suc n) (b ∷ bs) =
    let bytes = b ∷ bs in
    let size = le (take 2 (drop 2 bytes)) in
    take size (drop 4 bytes) ∷ bodies_within n (drop (4 + size) bytes)

unfoldable pub bodies_of : List ℕ → List (List ℕ)
bodies_of bytes = bodies_within (length bytes) bytes

-- the bytes are Continue records, and nothing else
pub record AreContinues (bytes : List ℕ) : Type 0 where
  pub bodies : List (List ℕ)
  pub fit : AllByRecursion IsBody bodies
  pub whole : bytes ≡ continues bodies

-- from the start on stand whole Continue records up to what comes after, each with its room
pub record Gathers (start after : List ℕ) : Type 0 where
  pub bodies : List (List ℕ)
  pub fit : AllByRecursion IsBody bodies
  pub room : HasRoom bodies after
  pub whole : start ≡ continues bodies ++ after
