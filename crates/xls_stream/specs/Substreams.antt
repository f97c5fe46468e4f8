-- The globals and the sheet parts of a stream, as a grammar of groups ([MS-XLS] 2.1.7.20: a
-- substream is from a BOF record, 2.4.21, to an EOF record, 2.4.103). That a sheet part may lack its
-- BOF, its EOF or the EOF of substreams inside it is this project's rule.
use Rattle.std.specs.Prelude.{◌≡◌, ◌≢◌, ◌⊎◌, ℕ, List, [], ◌∷◌, ◌++◌, Bool, false, ◌||◌, ◌==◌, Option, None}
use Rattle.std.specs.List.{filter, AllByRecursion}
use Rattle.xls_stream.specs.Stream.{Group, Run}
use Rattle.xls_stream.specs.Walks.{AtEnd}
use Rattle.xls_stream.specs.declared.part.Part.{Part}
use Rattle.xls_stream.specs.declared.types.TheConstants.{BOF, EOF}
use Rattle.xls_stream.specs.declared.types.TheConstants as types

abbrev pub IsBof : Group → Type 0
IsBof g = g.typ ≡ BOF

abbrev pub IsEof : Group → Type 0
IsEof g = g.typ ≡ EOF

abbrev pub IsPlain : Group → Type 0
IsPlain g = (g.typ ≢ BOF) × (g.typ ≢ EOF)

-- ---- the records that are kept

abbrev pub is_among : ℕ → List ℕ → Bool
is_among typ [] = false
is_among typ (t ∷ ts) = typ == t || is_among typ ts

-- the types of a sheet's records
abbrev pub sheet_types : List ℕ
sheet_types = types.SHEET_TYPES

abbrev pub is_sheet_type : Group → Bool
is_sheet_type g = is_among g.typ sheet_types

-- those of these groups whose type is one of a sheet's
abbrev pub kept_groups : List Group → List Group
kept_groups gs = filter is_sheet_type gs

-- ---- nested substreams

-- items one after another: a plain group, or a nested substream, which is a BOF, items and an EOF
pub data Items : Type 0 where
  none : Items
  plain : (g : Group) (others : Items) → Items
  nested : (bof : Group) (inner : Items) (eof : Group) (others : Items) → Items

-- a substream that isn't closed: a BOF, items, and the end or another such substream
pub data Open : Type 0 where
  no_more : Open
  open_at : (bof : Group) (inner : Items) (deeper : Open) → Open

abbrev pub AreItems : Items → Type 0
AreItems none = Unit {0}
AreItems (plain g others) = IsPlain g × AreItems others
AreItems (nested bof inner eof others) = IsBof bof × AreItems inner × IsEof eof × AreItems others

abbrev pub IsOpen : Open → Type 0
IsOpen no_more = Unit {0}
IsOpen (open_at bof inner deeper) = IsBof bof × AreItems inner × IsOpen deeper

abbrev pub groups_of : Items → List Group
groups_of none = []
groups_of (plain g others) = g ∷ groups_of others
groups_of (nested bof inner eof others) = bof ∷ (groups_of inner ++ eof ∷ groups_of others)

abbrev pub open_groups : Open → List Group
open_groups no_more = []
open_groups (open_at bof inner deeper) = bof ∷ (groups_of inner ++ open_groups deeper)

-- the plain groups outside nested substreams
abbrev pub outer_of : Items → List Group
outer_of none = []
outer_of (plain g others) = g ∷ outer_of others
outer_of (nested bof inner eof others) = outer_of others

-- ---- a sheet part

-- plain groups; then an EOF, or the end, or a BOF, items and one of an EOF, the end and unclosed
-- substreams
pub data Outline : Type 0 where
  bare_closed : (prefix : List Group) (eof : Group) → Outline
  bare_open : (prefix : List Group) → Outline
  own_closed : (prefix : List Group) (bof : Group) (items : Items) (eof : Group) → Outline
  own_open : (prefix : List Group) (bof : Group) (items : Items) (deeper : Open) → Outline

abbrev pub IsOutline : Outline → Type 0
IsOutline (bare_closed prefix eof) = AllByRecursion IsPlain prefix × IsEof eof
IsOutline (bare_open prefix) = AllByRecursion IsPlain prefix
IsOutline (own_closed prefix bof items eof) =
    AllByRecursion IsPlain prefix × IsBof bof × AreItems items × IsEof eof
IsOutline (own_open prefix bof items deeper) =
    AllByRecursion IsPlain prefix × IsBof bof × AreItems items × IsOpen deeper

abbrev pub groups_of_outline : Outline → List Group
groups_of_outline (bare_closed prefix eof) = prefix ++ eof ∷ []
groups_of_outline (bare_open prefix) = prefix
groups_of_outline (own_closed prefix bof items eof) = prefix ++ bof ∷ (groups_of items ++ eof ∷ [])
groups_of_outline (own_open prefix bof items deeper) = prefix ++ bof ∷ (groups_of items ++ open_groups deeper)

abbrev pub outer_in : Outline → List Group
outer_in (bare_closed prefix eof) = prefix
outer_in (bare_open prefix) = prefix
outer_in (own_closed prefix bof items eof) = prefix ++ outer_of items
outer_in (own_open prefix bof items deeper) = prefix ++ outer_of items

-- closed, a part isn't cut, and else it ends with the bytes or in a cut
abbrev pub EndsSo : Outline → List ℕ → Option Part → Type 0
EndsSo (bare_closed prefix eof) rest cut = cut ≡ None
EndsSo (bare_open prefix) rest cut = AtEnd rest cut
EndsSo (own_closed prefix bof items eof) rest cut = cut ≡ None
EndsSo (own_open prefix bof items deeper) rest cut = AtEnd rest cut

-- the bytes begin with a sheet part of these kept groups; whole, or broken by this cut
pub record SheetPart (bytes : List ℕ) (kept : List Group) (cut : Option Part) : Type 0 where
  pub outline : Outline
  pub is_outline : IsOutline outline
  pub rest : List ℕ
  pub run : Run bytes (groups_of_outline outline) rest
  pub kept_is : kept ≡ kept_groups (outer_in outline)
  pub ends : EndsSo outline rest cut

-- ---- the globals

abbrev pub IsNotEof : Group → Type 0
IsNotEof g = g.typ ≢ EOF

-- the bytes begin with the globals of these groups, their EOF apart: an EOF stands after them, or
-- they end with the bytes or in this cut
pub record GlobalsPart (bytes : List ℕ) (groups : List Group) (cut : Option Part) : Type 0 where
  pub no_eof : AllByRecursion IsNotEof groups
  pub rest : List ℕ
  pub ends : ((eof : Group) × IsEof eof × Run bytes (groups ++ eof ∷ []) rest × (cut ≡ None))
      ⊎ (Run bytes groups rest × AtEnd rest cut)
