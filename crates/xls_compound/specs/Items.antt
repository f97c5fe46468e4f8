-- What a directory lists: its entries below the root in the order of the tree, that is what is on the
-- left of an entry, then the entry, its children, and what is on its right.
use Rattle.std.specs.Prelude.{◌≡◌, ℕ, ◌+◌, ◌&&◌, List, [], ◌∷◌, ◌++◌, codes, reverse, nat_eq, Bool, Option, Some, None}
use Rattle.std.specs.List.{slice_get, position}
use Rattle.std.specs.Option.{option_or, option_eq}
use Rattle.xls_compound.specs.DirectoryEntries.{Entry, is_stream, name_of}
use Rattle.xls_compound.specs.Tree.{Tree, empty, node}
use Rattle.xls_compound.specs.Names.{is_same_name}

pub record Item : Type 0 where
  -- in UTF-8
  pub name : List ℕ
  -- a stream, or else a storage
  pub is_stream : Bool
  -- the place in the list of the storage that holds it; None for the root
  pub parent : Option ℕ
  pub start : ℕ
  pub size : ℕ

abbrev pub item_of : Option ℕ → Entry → Item
item_of parent entry = record {
  name = name_of entry;
  is_stream = is_stream entry;
  parent = parent;
  start = entry.start;
  size = entry.size;
}

-- how many entries a tree has
abbrev pub count : Tree → ℕ
count empty = 0
count (node number entry left children right) = count left + 1 + count children + count right

-- the items of a tree, the first of which has this place; they are held by the parent
abbrev pub items_from : Option ℕ → ℕ → Tree → List Item
items_from parent place empty = []
items_from parent place (node number entry left children right) =
    items_from parent place left
    ++ (item_of parent entry
    ∷ (items_from (Some (place + count left)) (place + count left + 1) children
    ++ items_from parent (place + count left + 1 + count children) right))

-- held by the parent, and of this name
abbrev pub is_child : Option ℕ → List ℕ → Item → Bool
is_child parent name item = option_eq nat_eq item.parent parent && is_same_name item.name name

-- goes on from a place, where there is one
abbrev pub onward : (Option ℕ → Option ℕ) → Option ℕ → Option ℕ
onward go None = None
onward go (Some place) = go (Some place)

-- the place of what the names lead to from a parent on: each time the first that is held and has the name
abbrev pub find_from : List Item → Option ℕ → List (List ℕ) → Option ℕ
find_from items parent [] = parent
find_from items parent (name ∷ path) =
    onward (λ place. find_from items place path) (position (is_child parent name) items)

-- the place of a stream in the root
abbrev pub stream_named : List Item → List ℕ → Option ℕ
stream_named items name = position (λ item. item.is_stream && is_child None name item) items

-- `Workbook` (BIFF8), or else `Book` (BIFF5)
abbrev pub workbook : List Item → Option ℕ
workbook items = option_or (stream_named items (codes "Workbook")) (stream_named items (codes "Book"))

-- the names on the way up from a place to the root, its own first
abbrev pub Climbs : List Item → Option ℕ → List (List ℕ) → Type 0
Climbs items place [] = place ≡ None
Climbs items place (name ∷ names) = (at : ℕ) × (item : Item) × (place ≡ Some at)
    × (slice_get items at ≡ Some item) × (name ≡ item.name) × Climbs items item.parent names

-- the names of the storages that hold what stands at a place, the outermost first, and then its own
abbrev pub IsPath : List Item → ℕ → List (List ℕ) → Type 0
IsPath items place path = Climbs items (Some place) (reverse path)
