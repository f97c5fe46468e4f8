-- What the code keeps while it follows names, for the proofs. What the contracts of public calls say doesn't depend on it.
use Rattle.std.specs.Prelude.{◌≡◌, ℕ, List, ◌++◌, reverse, Bool, not, if◌then◌else◌, Option, Some, None, true, false}
use Rattle.std.specs.BTreeSet.{BTreeSet, contains}
use Rattle.std.specs.List.{filter}
use Rattle.std.specs.Ordering.{nat_cmp}
use Rattle.xls_shown_refs.specs.Origins.{Citing}
use Rattle.xls_shown_refs.specs.Items.{Citation, Item}
use Rattle.xls_shown_refs.specs.Citations.{follow_with, has, number_items, numbers, with_distinct, without}
use Rattle.xls_shown_refs.specs.Keys.{SeenSo}
use Rattle.xls_shown_refs.specs.Views.{citations_view, items_view}
use Rattle.xls_shown_refs.specs.declared.items.Item.{Item as ItemFields}
use Rattle.xls_shown_refs.specs.declared.walk.Walk.{Walk}

-- the items that wait, the next one last
abbrev pub waiting : List ItemFields → List Item
waiting items = reverse (items_view items)

abbrev pub found_in : Walk → List Citation
found_in w = citations_view w.found.items

-- the set has exactly the citations that were found
abbrev pub IsSound : Walk → Type 0
IsSound w = SeenSo w.cells (found_in w)

-- ---- names

-- the names that weren't followed
abbrev pub unfollowed : BTreeSet ℕ → List ℕ → List ℕ
unfollowed followed all = filter (λ n. not (contains nat_cmp followed n)) all

-- whether a name of a number was there that wasn't followed, and that it counts as followed then
pub record Begins (old new : BTreeSet ℕ) (all : List ℕ) (number : ℕ) (is_new : Bool) : Type 0 where
  pub is : is_new ≡ has number (unfollowed old all)
  pub left : unfollowed new all ≡ (if is_new then without number (unfollowed old all) else unfollowed old all)

abbrev pub left_in : Citing → Walk → List ℕ
left_in c w = unfollowed w.names (numbers c.here.names)

-- no name was followed
abbrev pub NoneFollowed : Walk → Type 0
NoneFollowed w = (n : ℕ) → contains nat_cmp w.names n ≡ false

-- ---- what is cited in the end

-- what was found, and what is cited by others behind it
abbrev pub in_all : Walk → List Citation → List Citation
in_all w cited = with_distinct (found_in w) cited

-- by the items that wait, where the next name is followed so
abbrev pub all_cited : Citing → (List ℕ → List Item → List Citation) → List ℕ → Walk → List Citation
all_cited c next left w = in_all w (follow_with c next left (waiting w.pending.items))

-- by a name and the items that wait behind it
abbrev pub all_behind : Citing → (List ℕ → List Item → List Citation) → List ℕ → ℕ → Walk → List Citation
all_behind c next left n w = in_all w (next left (number_items c n ++ waiting w.pending.items))

-- a step from a walk to another one: up to the end, or to a name, which is then followed
abbrev pub IsStep : Citing → (List ℕ → List Item → List Citation) → Walk → Walk → Option ℕ → Type 0
IsStep c next old new None = found_in new ≡ all_cited c next (left_in c old) old
IsStep c next old new (Some n) =
    IsSound new × (has n (left_in c old) ≡ true) × (left_in c new ≡ without n (left_in c old))
    × (all_behind c next (left_in c new) n new ≡ all_cited c next (left_in c old) old)
