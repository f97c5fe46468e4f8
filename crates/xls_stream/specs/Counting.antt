-- The same parts, by a walk over the groups that counts the open substreams.
use Rattle.std.specs.Prelude.{◌≡◌, ℕ, zero, suc, List, [], ◌∷◌, ◌==◌, if◌then◌else◌, Option, None}
use Rattle.xls_stream.specs.Stream.{Group}
use Rattle.xls_stream.specs.Walks.{Groups}
use Rattle.xls_stream.specs.Substreams.{is_sheet_type}
use Rattle.xls_stream.specs.declared.part.Part.{Part}
use Rattle.xls_stream.specs.declared.types.TheConstants.{BOF, EOF}

pub data Kind : Type 0 where
  bof : Kind
  eof : Kind
  other : Kind

abbrev pub group_kind : Group → Kind
group_kind g = if g.typ == BOF then bof else if g.typ == EOF then eof else other

-- the groups found, and the cut if they end in one
abbrev pub Found : Type 0
Found = List Group × Option Part

abbrev pub with_group : Group → Found → Found
with_group g f = (g ∷ f.0, f.1)

-- a group is found where its type is one of a sheet's
abbrev pub keep : Group → Found → Found
keep g f = if is_sheet_type g then with_group g f else f

-- what is found at a group of this kind, where n BOF records are open and the others give what on says
abbrev pub found_at : (ℕ → Found) → Group → ℕ → Kind → Found
found_at on g zero bof = on (suc zero)
found_at on g (suc zero) bof = on (suc (suc zero))
found_at on g (suc (suc n)) bof = on (suc (suc (suc n)))
found_at on g zero eof = ([], None)
found_at on g (suc zero) eof = ([], None)
found_at on g (suc (suc n)) eof = on (suc n)
found_at on g zero other = keep g (on zero)
found_at on g (suc zero) other = keep g (on (suc zero))
found_at on g (suc (suc n)) other = on (suc (suc n))

-- The kept groups of a part, of which n BOF records are open: none, its own, or its own and n - 1
-- substreams. The groups end in this cut, which no longer counts after the EOF of the part.
unfoldable pub found_from : ℕ → List Group → Option Part → Found
found_from n [] cut = ([], cut)
found_from n (g ∷ gs) cut = found_at (λ k. found_from k gs cut) g n (group_kind g)

-- the groups before the first EOF, after which a cut no longer counts
abbrev pub globals_of : List Group → Option Part → Found
globals_of [] cut = ([], cut)
globals_of (g ∷ gs) cut = if g.typ == EOF then ([], None) else with_group g (globals_of gs cut)

-- the groups of these bytes and their end give these
pub record From (found : List Group → Option Part
    → Found) (bytes : List ℕ) (groups : List Group) (cut : Option Part) : Type 0 where
  pub all : List Group
  pub stop : Option Part
  pub walk : Groups bytes all stop
  pub is : found all stop ≡ (groups, cut)
