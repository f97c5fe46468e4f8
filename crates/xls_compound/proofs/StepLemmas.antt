-- The steps of a walk: what is read from the state after a step on is read from the state before it on.
use Rattle.std.proofs.Common.{replicate, false, ◌≡◌, ◌≢◌, ℕ, ◌+◌, ◌<◌, List, [], ◌∷◌, ◌++◌, length, true, Option, Some, None, Ok, inl, inr, refl, ◌∙◌, ap, sym, subst, append_assoc, length-append, add-zero, arith}
use Rattle.xls_compound.specs.declared.fault.DirectoryFault.{DirectoryFault}
use Rattle.xls_compound.specs.declared.tasks.Task.{Task}
use Rattle.xls_compound.specs.declared.tasks.Task.TheVariants as tasks
use Rattle.xls_compound.specs.DirectoryEntries.{Entry, none, child_of}
use Rattle.xls_compound.specs.Tree.{empty, node, on_left, below, on_right, tree_entry_at}
use Rattle.xls_compound.specs.Items.{Item, item_of, items_from}
use Rattle.xls_compound.specs.Steps.{State, before, after_meeting, with_item, AreMarks, ReadsWhole, ReadsTo, GoesOn, RefusesStep, RefusesTree, ListsTree, at_first}
use Rattle.std.proofs.Math.ListN.{set}
use Rattle.std.proofs.lemmas.List.{append-nil, length-replicate}
use Rattle.xls_compound.specs.declared.fault.DirectoryError.{DirectoryError}
use Rattle.xls_compound.specs.declared.fault.DirectoryError.TheVariants as errors
use Rattle.xls_compound.proofs.MetLemmas.{marks_now, none_marked}

-- at an equal place
moved : (entries : List Entry) (met : List ℕ) (place other : ℕ) (others : List Task) (items : List Item)
    → place ≡ other → ReadsWhole entries met place others items → ReadsWhole entries met other others items
moved entries met place other others items e h = subst (λ (p : ℕ). ReadsWhole entries met p others items) e h

-- no number, no tree
pub skipped : (entries : List Entry) (number : ℕ) (parent : Option ℕ) (state : State) → number ≡ none
    → GoesOn entries (before (tasks.Tree number parent) state) state
skipped entries number parent state e met marks = (
  met,
  record {
    marks = marks;
    whole = λ more h. (more, (empty, more, e, refl, moved entries met (length state.items) (length state.items + 0) state.tasks more (sym (add-zero _)) h), refl);
    fault = λ fault h. inr (empty, e, h);
  },
)

module _ (entries : List Entry) (number : ℕ) (parent : Option ℕ) (entry : Entry) (others : List Task) (met : List ℕ)
    (some : number ≢ none) (ok : tree_entry_at entries met number ≡ Ok entry) where
  node_whole : (place : ℕ) (items : List Item)
      → ReadsWhole entries (number ∷ met) place (tasks.Tree entry.left parent ∷ tasks.Rest entry parent ∷ others) items
      → ReadsWhole entries met place (tasks.Tree number parent ∷ others) items
  node_whole place items (left, more, is_left, first, (children, right, rest, is_children, is_right, second, whole)) = (
    node number entry left children right,
    rest,
    (refl, some, ok, is_left, is_children, is_right),
    first ∙ ap (λ (xs : List Item). items_from parent place left ++ xs) second ∙ simp append_assoc,
    moved entries _ _ _ others rest (omega arith) whole,
  )

  node_fault : (fault : DirectoryFault)
      → ReadsTo entries (number ∷ met) (tasks.Tree entry.left parent ∷ tasks.Rest entry parent ∷ others) fault
      → ReadsTo entries met (tasks.Tree number parent ∷ others) fault
  node_fault fault (inl (way, first)) = inl (on_left entry way, (some, ok, first))
  node_fault fault (inr (left, is_left, inl (way, first))) = inl (below entry left way, (some, ok, is_left, first))
  node_fault fault (inr (left, is_left, inr (children, is_children, inl (way, first)))) =
      inl (on_right entry left children way, (some, ok, is_left, is_children, first))
  node_fault fault (inr (left, is_left, inr (children, is_children, inr (right, is_right, rest)))) =
      inr (node number entry left children right, (refl, some, ok, is_left, is_children, is_right), rest)

-- an entry that is met, and what is left of it
pub visited : (entries : List Entry) (number : ℕ) (parent : Option ℕ) (entry : Entry) (state : State) → number ≢ none
    → number < length state.met → ((met : List ℕ) → AreMarks state.met met → tree_entry_at entries met number ≡ Ok entry)
    → GoesOn entries (before (tasks.Tree number parent) state)
    (before (tasks.Tree entry.left parent) (before (tasks.Rest entry parent) (after_meeting number state)))
visited entries number parent entry state some within ok met marks = (
  number ∷ met,
  record {
    marks = marks_now state.met met number marks within;
    whole = λ more h. (more, node_whole entries number parent entry state.tasks met some (ok met marks) (length state.items) more h, refl);
    fault = λ fault h. node_fault entries number parent entry state.tasks met some (ok met marks) fault h;
  },
)

module _ (entries : List Entry) (entry : Entry) (parent : Option ℕ) (others : List Task) (met : List ℕ) where
  rest_whole : (place later : ℕ) (items : List Item) → later ≡ place + 1
      → ReadsWhole entries met later (tasks.Tree (child_of entry) (Some place) ∷ tasks.Tree entry.right parent ∷ others) items
      → ReadsWhole entries met place (tasks.Rest entry parent ∷ others) (item_of parent entry ∷ items)
  rest_whole place later items e h =
      let (children, more, is_children, first, (right, rest, is_right, second, whole)) = subst (λ (p : ℕ). ReadsWhole entries met p (tasks.Tree (child_of entry) (Some place) ∷ tasks.Tree entry.right parent ∷ others) items) e h in (
        children,
        right,
        rest,
        is_children,
        is_right,
        ap (λ (xs : List Item). item_of parent entry ∷ xs) (first ∙ ap (λ (xs : List Item). items_from (Some place) (place + 1) children ++ xs) second),
        whole,
      )

  rest_fault : (place : ℕ) (fault : DirectoryFault)
      → ReadsTo entries met (tasks.Tree (child_of entry) (Some place) ∷ tasks.Tree entry.right parent ∷ others) fault
      → ReadsTo entries met (tasks.Rest entry parent ∷ others) fault
  rest_fault place fault h = h

-- an entry that is listed, and what is left of it
pub went_on : (entries : List Entry) (entry : Entry) (parent : Option ℕ) (state : State)
    → GoesOn entries (before (tasks.Rest entry parent) state)
    (before (tasks.Tree (child_of entry) (Some (length state.items)))
    (before (tasks.Tree entry.right parent) (with_item (item_of parent entry) state)))
went_on entries entry parent state met marks = (
  met,
  record {
    marks = marks;
    whole = λ more h. (
      item_of parent entry ∷ more,
      rest_whole entries entry parent state.tasks met (length state.items) (length (state.items ++ item_of parent entry ∷ [])) more (length-append state.items (item_of parent entry ∷ [])) h,
      sym (append_assoc state.items (item_of parent entry ∷ []) more),
    );
    fault = λ fault h. rest_fault entries entry parent state.tasks met (length state.items) fault h;
  },
)

-- steps one after the other
pub goes_on-trans : (entries : List Entry) (first then later : State) → GoesOn entries first then → GoesOn entries then later
    → GoesOn entries first later
goes_on-trans entries first then later a b met marks =
    let one = a met marks in
    let two = b one.0 one.1.marks in (
      two.0,
      record {
        marks = two.1.marks;
        whole = λ more h.
            let w = two.1.whole more h in
            let v = one.1.whole w.0 w.1 in
            (v.0, v.1, v.2 ∙ w.2);
        fault = λ fault h. one.1.fault fault (two.1.fault fault h);
      },
    )

pub goes_on-refl : (entries : List Entry) (state : State) → GoesOn entries state state
goes_on-refl entries state met marks = (met, record { marks = marks; whole = λ more h. (more, h, refl); fault = λ fault h. h })

-- at first the root alone was met
first_marks : (n : ℕ) → 0 < n → AreMarks (set (replicate n false) 0 true) (0 ∷ [])
first_marks n h = marks_now (replicate n false) [] 0 (none_marked n) (omega (arith, length-replicate n false))

-- where no task is left
pub all_read : (entries : List Entry) (number : ℕ) (state : State) → 0 < length entries
    → GoesOn entries (at_first number (length entries)) state → state.tasks ≡ [] → ListsTree entries number state.items
all_read entries number state some h none =
    let (met, on) = h (0 ∷ []) (first_marks (length entries) some) in
    let (all, (tree, more, is_tree, first, last), same) = on.whole [] (subst (λ (ts : List Task). ReadsWhole entries met (length state.items) ts []) (sym none) refl) in
    (tree, is_tree, sym (append-nil state.items) ∙ sym same ∙ first ∙ ap (λ (xs : List Item). items_from None 0 tree ++ xs) last ∙ append-nil _)

-- where the next task refuses
pub refused : (entries : List Entry) (number : ℕ) (state : State) (error : DirectoryError) → 0 < length entries
    → GoesOn entries (at_first number (length entries)) state → RefusesStep entries state error → RefusesTree entries number error
refused entries number state errors.Memory some h r = tt
refused entries number state (errors.Fault fault) some h r =
    let (met, on) = h (0 ∷ []) (first_marks (length entries) some) in
    elim (on.fault fault (r met on.marks)) [ inl first ↦ first | inr other ↦ absurd other.2 ]
