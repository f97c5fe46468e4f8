-- What the bytes of a directory hold, or the first fault in them.
use Rattle.std.specs.Prelude.{◌≡◌, ℕ, ◌⊎◌, List, [], ◌∷◌, Bool, None, Result, Ok, Err, if◌then◌else◌}
use Rattle.xls_compound.specs.declared.fault.DirectoryFault.{DirectoryFault}
use Rattle.xls_compound.specs.declared.fault.DirectoryFault.TheVariants as faults
use Rattle.xls_compound.specs.declared.fault.DirectoryError.{DirectoryError}
use Rattle.xls_compound.specs.declared.fault.DirectoryError.TheVariants as errors
use Rattle.xls_compound.specs.DirectoryEntries.{Entry, entries_of, is_root}
use Rattle.xls_compound.specs.Tree.{Tree, IsTree, Way, IsFirst}
use Rattle.xls_compound.specs.Items.{Item, items_from}

-- what the root lists, and where the mini stream, the root's own stream, begins and how long it is
pub record Listing : Type 0 where
  pub mini_start : ℕ
  pub mini_size : ℕ
  pub items : List Item

-- entry 0, which has to be a root
abbrev pub root_in : List Entry → Result Entry DirectoryFault
root_in [] = Err faults.NoRoot
root_in (entry ∷ others) = if is_root entry then Ok entry else Err faults.NoRoot

-- the root, the tree of its children, in which it isn't met again, and what that lists
pub record ListsEntries (entries : List Entry) (listing : Listing) : Type 0 where
  pub root : Entry
  pub is_root : root_in entries ≡ Ok root
  pub tree : Tree
  pub is_tree : IsTree entries (0 ∷ []) root.child tree
  pub start : listing.mini_start ≡ root.start
  pub size : listing.mini_size ≡ root.size
  pub items : listing.items ≡ items_from None 0 tree

-- no root, or the first fault of the tree of its children
abbrev pub HasFault : List Entry → DirectoryFault → Type 0
HasFault entries fault = (root_in entries ≡ Err fault)
    ⊎ ((root : Entry) × (way : Way) × (root_in entries ≡ Ok root) × IsFirst entries (0 ∷ []) root.child fault way)

abbrev pub IsDirectory : Bool → List ℕ → Listing → Type 0
IsDirectory is_wide bytes listing = ListsEntries (entries_of is_wide bytes) listing

abbrev pub IsDirectoryFault : Bool → List ℕ → DirectoryFault → Type 0
IsDirectoryFault is_wide bytes fault = HasFault (entries_of is_wide bytes) fault

-- a refusal has its cause in the bytes, unless memory ran out
abbrev pub IsRefusal : Bool → List ℕ → DirectoryError → Type 0
IsRefusal is_wide bytes errors.Memory = Unit {0}
IsRefusal is_wide bytes (errors.Fault fault) = IsDirectoryFault is_wide bytes fault
