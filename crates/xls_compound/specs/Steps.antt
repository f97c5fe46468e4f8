-- For the proofs: a walk over a directory's tree, with what is still to be read.
use Rattle.std.specs.Prelude.{◌≡◌, ℕ, ◌+◌, ◌⊎◌, List, [], ◌∷◌, ◌++◌, length, slice_index_or, slice_set, replicate, Bool, true, false, Some, None}
use Rattle.std.specs.List.{sum_by}
use Rattle.xls_compound.specs.declared.fault.DirectoryFault.{DirectoryFault}
use Rattle.xls_compound.specs.declared.fault.DirectoryError.{DirectoryError}
use Rattle.xls_compound.specs.declared.fault.DirectoryError.TheVariants as errors
use Rattle.xls_compound.specs.declared.tasks.Task.{Task}
use Rattle.xls_compound.specs.declared.tasks.Task.TheVariants as tasks
use Rattle.xls_compound.specs.DirectoryEntries.{Entry, child_of}
use Rattle.xls_compound.specs.Tree.{Tree, is_met, met_after, IsTree, Way, IsFirst}
use Rattle.xls_compound.specs.Items.{Item, item_of, items_from, count}

-- the tasks, the next one first; which entries were met; the items so far
pub record State : Type 0 where
  pub tasks : List Task
  pub met : List Bool
  pub items : List Item

-- before a task was taken
abbrev pub before : Task → State → State
before task state = record { tasks = task ∷ state.tasks; met = state.met; items = state.items }

-- once an entry was met, and once an item was listed
abbrev pub after_meeting : ℕ → State → State
after_meeting number state = record { tasks = state.tasks; met = slice_set state.met number true; items = state.items }

abbrev pub with_item : Item → State → State
with_item item state = record { tasks = state.tasks; met = state.met; items = state.items ++ item ∷ [] }

-- at the tree that a number leads to, where of so many entries the root alone was met
abbrev pub at_first : ℕ → ℕ → State
at_first number n = record {
  tasks = tasks.Tree number None ∷ [];
  met = slice_set (replicate n false) 0 true;
  items = [];
}

-- the marks are those of the entries that were met
abbrev pub AreMarks : List Bool → List ℕ → Type 0
AreMarks marks met = (k : ℕ) → slice_index_or marks k false ≡ is_met met k

-- the tasks can be read whole, and list these items, the first at this place
abbrev pub ReadsWhole : List Entry → List ℕ → ℕ → List Task → List Item → Type 0
ReadsWhole entries met place [] items = items ≡ []
ReadsWhole entries met place (tasks.Tree number parent ∷ others) items =
    (tree : Tree) × (more : List Item) × IsTree entries met number tree
    × (items ≡ items_from parent place tree ++ more)
    × ReadsWhole entries (met_after met tree) (place + count tree) others more
ReadsWhole entries met place (tasks.Rest entry parent ∷ others) items =
    (children : Tree) × (right : Tree) × (more : List Item)
    × IsTree entries met (child_of entry) children
    × IsTree entries (met_after met children) entry.right right
    × (items ≡ item_of parent entry ∷ (items_from (Some place) (place + 1) children
    ++ (items_from parent (place + 1 + count children) right ++ more)))
    × ReadsWhole entries (met_after (met_after met children) right)
    (place + 1 + count children + count right) others more

abbrev pub HasFirst : List Entry → List ℕ → ℕ → DirectoryFault → Type 0
HasFirst entries met number fault = (way : Way) × IsFirst entries met number fault way

-- the first fault of the tasks
abbrev pub ReadsTo : List Entry → List ℕ → List Task → DirectoryFault → Type 0
ReadsTo entries met [] fault = ⊥
ReadsTo entries met (tasks.Tree number parent ∷ others) fault = HasFirst entries met number fault
    ⊎ ((tree : Tree) × IsTree entries met number tree × ReadsTo entries (met_after met tree) others fault)
ReadsTo entries met (tasks.Rest entry parent ∷ others) fault = HasFirst entries met (child_of entry) fault
    ⊎ ((children : Tree) × IsTree entries met (child_of entry) children
    × (HasFirst entries (met_after met children) entry.right fault
    ⊎ ((right : Tree) × IsTree entries (met_after met children) entry.right right
    × ReadsTo entries (met_after (met_after met children) right) others fault)))

-- whatever is read from the later state on is read from the earlier one on
pub record Continues (entries : List Entry) (met later_met : List ℕ) (earlier later : State) : Type 0 where
  pub marks : AreMarks later.met later_met
  pub whole : (more : List Item) → ReadsWhole entries later_met (length later.items) later.tasks more
      → (all : List Item) × ReadsWhole entries met (length earlier.items) earlier.tasks all
      × (earlier.items ++ all ≡ later.items ++ more)
  pub fault : (fault : DirectoryFault) → ReadsTo entries later_met later.tasks fault
      → ReadsTo entries met earlier.tasks fault

abbrev pub GoesOn : List Entry → State → State → Type 0
GoesOn entries earlier later = (met : List ℕ) → AreMarks earlier.met met
    → (later_met : List ℕ) × Continues entries met later_met earlier later

abbrev pub RefusesStep : List Entry → State → DirectoryError → Type 0
RefusesStep entries state errors.Memory = Unit {0}
RefusesStep entries state (errors.Fault fault) =
    (met : List ℕ) → AreMarks state.met met → ReadsTo entries met state.tasks fault

-- how much is left to do
abbrev pub weight : Task → ℕ
weight (tasks.Tree number parent) = 1
weight (tasks.Rest entry parent) = 3

abbrev pub unmet : Bool → ℕ
unmet true = 0
unmet false = 4

abbrev pub left_to_do : State → ℕ
left_to_do state = sum_by unmet state.met + sum_by weight state.tasks

-- what the tree of a number lists, below the root
abbrev pub ListsTree : List Entry → ℕ → List Item → Type 0
ListsTree entries number items =
    (tree : Tree) × IsTree entries (0 ∷ []) number tree × (items ≡ items_from None 0 tree)

abbrev pub RefusesTree : List Entry → ℕ → DirectoryError → Type 0
RefusesTree entries number errors.Memory = Unit {0}
RefusesTree entries number (errors.Fault fault) = HasFirst entries (0 ∷ []) number fault
