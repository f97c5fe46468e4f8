-- A directory's tree ([MS-CFB] 2.6.4): what an entry has on its left, below it and on its right. Its
-- colours, and whether its names ascend, are not looked at.
use Rattle.std.specs.Prelude.{◌≡◌, ℕ, ◌==◌, ◌||◌, ◌≢◌, List, ◌∷◌, Bool, if◌then◌else◌, Option, Some, None, Result, Ok, Err}
use Rattle.std.specs.List.{list_any, slice_get}
use Rattle.xls_compound.specs.declared.fault.DirectoryFault.{DirectoryFault}
use Rattle.xls_compound.specs.declared.fault.DirectoryFault.TheVariants as faults
use Rattle.xls_compound.specs.DirectoryEntries.{Entry, none, is_storage, is_stream, is_name_size, child_of}

-- an entry with its number, and what is on its left, below it and on its right
pub data Tree : Type 0 where
  empty : Tree
  node : (number : ℕ) → (entry : Entry) → (left children right : Tree) → Tree

-- an entry below the root is a storage or a stream, and its name has a size that names have
abbrev pub checked : ℕ → Entry → Result Entry DirectoryFault
checked number entry =
    if is_storage entry || is_stream entry
    then (if is_name_size entry.name_size then Ok entry else Err (faults.NameSize number entry.name_size))
    else Err (faults.Kind number entry.kind)

abbrev pub listed : ℕ → Option Entry → Result Entry DirectoryFault
listed number None = Err (faults.Missing number)
listed number (Some entry) = checked number entry

-- whether a number is among those that were met
abbrev pub is_met : List ℕ → ℕ → Bool
is_met met number = list_any (λ m. m == number) met

-- the entry of a number, or the first thing that is wrong with it, where some were met before
abbrev pub tree_entry_at : List Entry → List ℕ → ℕ → Result Entry DirectoryFault
tree_entry_at entries met number =
    if is_met met number then Err (faults.Twice number) else listed number (slice_get entries number)

-- those met before and then those of the tree: an entry, its left, its children, its right
abbrev pub met_after : List ℕ → Tree → List ℕ
met_after met empty = met
met_after met (node number entry left children right) =
    met_after (met_after (met_after (number ∷ met) left) children) right

-- from a number on stands this tree, none of whose entries is met twice
abbrev pub IsTree : List Entry → List ℕ → ℕ → Tree → Type 0
IsTree entries met number empty = number ≡ none
IsTree entries met number (node n entry left children right) = (n ≡ number) × (number ≢ none)
    × (tree_entry_at entries met number ≡ Ok entry)
    × IsTree entries (number ∷ met) entry.left left
    × IsTree entries (met_after (number ∷ met) left) (child_of entry) children
    × IsTree entries (met_after (met_after (number ∷ met) left) children) entry.right right

-- where the first fault is: at an entry, or on its left, below it or on its right, where the trees
-- before it are whole
pub data Way : Type 0 where
  here : Way
  on_left : (entry : Entry) → Way → Way
  below : (entry : Entry) → (left : Tree) → Way → Way
  on_right : (entry : Entry) → (left children : Tree) → Way → Way

-- from a number on, this fault is the first, and there
abbrev pub IsFirst : List Entry → List ℕ → ℕ → DirectoryFault → Way → Type 0
IsFirst entries met number fault here = (number ≢ none) × (tree_entry_at entries met number ≡ Err fault)
IsFirst entries met number fault (on_left entry way) = (number ≢ none)
    × (tree_entry_at entries met number ≡ Ok entry)
    × IsFirst entries (number ∷ met) entry.left fault way
IsFirst entries met number fault (below entry left way) = (number ≢ none)
    × (tree_entry_at entries met number ≡ Ok entry)
    × IsTree entries (number ∷ met) entry.left left
    × IsFirst entries (met_after (number ∷ met) left) (child_of entry) fault way
IsFirst entries met number fault (on_right entry left children way) = (number ≢ none)
    × (tree_entry_at entries met number ≡ Ok entry)
    × IsTree entries (number ∷ met) entry.left left
    × IsTree entries (met_after (number ∷ met) left) (child_of entry) children
    × IsFirst entries (met_after (met_after (number ∷ met) left) children) entry.right fault way
