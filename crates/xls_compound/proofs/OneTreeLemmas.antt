-- From a number on stands at most one tree, and there is at most one first fault, and never both.
use Rattle.std.proofs.Common.{◌≡◌, ℕ, List, [], ◌∷◌, Result, Ok, Err, inl, inr, None, refl, ◌∙◌, ap, sym, subst}
use Rattle.xls_compound.specs.declared.fault.DirectoryFault.{DirectoryFault}
use Rattle.xls_compound.specs.DirectoryEntries.{Entry, child_of}
use Rattle.xls_compound.specs.Tree.{Tree, empty, node, Way, here, on_left, below, on_right, tree_entry_at, met_after, IsTree, IsFirst}
use Rattle.xls_compound.specs.Items.{Item, items_from}
use Rattle.xls_compound.specs.Directory.{Listing, ListsEntries, root_in, HasFault}

-- one result
same_ok : {X Y : Type 0} (r : Result X Y) (x y : X) → r ≡ Ok x → r ≡ Ok y → x ≡ y
same_ok r x y e f = cc

same_err : {X Y : Type 0} (r : Result X Y) (x y : Y) → r ≡ Err x → r ≡ Err y → x ≡ y
same_err r x y e f = cc

not_both : {X Y : Type 0} (r : Result X Y) (x : X) (y : Y) → r ≡ Ok x → r ≡ Err y → ⊥
not_both r x y e f = cc

abbrev listing : ℕ → ℕ → List Item → Listing
listing start size items = record { mini_start = start; mini_size = size; items = items }

module _ (entries : List Entry) where
  -- the same tree from the same number on, after the same entries
  pub one_tree : (met others : List ℕ) (number other : ℕ) (s t : Tree) → met ≡ others → number ≡ other
      → IsTree entries met number s → IsTree entries others other t → s ≡ t
  one_tree met others number other empty empty m n h k = refl
  one_tree met others number other empty (node a e l c r) m n h k = absurd (k.1 (sym n ∙ h))
  one_tree met others number other (node a e l c r) empty m n h k = absurd (h.1 (n ∙ k))
  one_tree met others number other (node a e l c r) (node b f p q s) m n h k =
      let same : e ≡ f = same_ok (tree_entry_at entries met number) e f h.2 (ap (λ (xs : List ℕ). tree_entry_at entries xs number) m ∙ ap (tree_entry_at entries others) n ∙ k.2) in
      let met_now : (number ∷ met) ≡ (other ∷ others) = cc in
      let left : l ≡ p = one_tree (number ∷ met) (other ∷ others) e.left f.left l p met_now (ap (λ (x : Entry). x.left) same) h.3 k.3 in
      let met_left : met_after (number ∷ met) l ≡ met_after (other ∷ others) p = ap (λ (xs : List ℕ). met_after xs l) met_now ∙ ap (met_after (other ∷ others)) left in
      let children : c ≡ q = one_tree (met_after (number ∷ met) l) (met_after (other ∷ others) p) (child_of e) (child_of f) c q met_left (ap child_of same) h.4 k.4 in
      let met_children : met_after (met_after (number ∷ met) l) c ≡ met_after (met_after (other ∷ others) p) q =
      ap (λ (xs : List ℕ). met_after xs c) met_left ∙ ap (met_after (met_after (other ∷ others) p)) children in
      let right : r ≡ s = one_tree (met_after (met_after (number ∷ met) l) c) (met_after (met_after (other ∷ others) p) q) e.right f.right r s met_children (ap (λ (x : Entry). x.right) same) h.5 k.5 in
      let numbers : a ≡ b = h.0 ∙ n ∙ sym k.0 in
      cc

  -- the same, from one number on
  tree_is : (met : List ℕ) (number : ℕ) (s t : Tree) → IsTree entries met number s → IsTree entries met number t → s ≡ t
  tree_is met number s t = one_tree met met number number s t refl refl

  entry_is : (met : List ℕ) (number : ℕ) (e f : Entry) → tree_entry_at entries met number ≡ Ok e → tree_entry_at entries met number ≡ Ok f → e ≡ f
  entry_is met number e f = same_ok (tree_entry_at entries met number) e f

  -- a tree has no fault
  pub no_fault : (met : List ℕ) (number : ℕ) (fault : DirectoryFault) (t : Tree) (way : Way)
      → IsTree entries met number t → IsFirst entries met number fault way → ⊥
  no_fault met number fault empty here h k = k.0 h
  no_fault met number fault empty (on_left e way) h k = k.0 h
  no_fault met number fault empty (below e l way) h k = k.0 h
  no_fault met number fault empty (on_right e l c way) h k = k.0 h
  no_fault met number fault (node a e l c r) here h k = not_both (tree_entry_at entries met number) e fault h.2 k.1
  no_fault met number fault (node a e l c r) (on_left f way) h k =
      no_fault (number ∷ met) e.left fault l way h.3
      (subst (λ (x : Entry). IsFirst entries (number ∷ met) x.left fault way) (entry_is met number f e k.1 h.2) k.2)
  no_fault met number fault (node a e l c r) (below f p way) h k =
      let same = entry_is met number f e k.1 h.2 in
      let left = tree_is (number ∷ met) e.left p l (subst (λ (x : Entry). IsTree entries (number ∷ met) x.left p) same k.2) h.3 in
      no_fault (met_after (number ∷ met) l) (child_of e) fault c way h.4
      (subst (λ (x : Entry). IsFirst entries (met_after (number ∷ met) l) (child_of x) fault way) same
      (subst (λ (x : Tree). IsFirst entries (met_after (number ∷ met) x) (child_of f) fault way) left k.3))
  no_fault met number fault (node a e l c r) (on_right f p q way) h k =
      let same = entry_is met number f e k.1 h.2 in
      let left = tree_is (number ∷ met) e.left p l (subst (λ (x : Entry). IsTree entries (number ∷ met) x.left p) same k.2) h.3 in
      let children = tree_is (met_after (number ∷ met) l) (child_of e) q c
      (subst (λ (x : Entry). IsTree entries (met_after (number ∷ met) l) (child_of x) q) same
      (subst (λ (x : Tree). IsTree entries (met_after (number ∷ met) x) (child_of f) q) left k.3)) h.4 in
      no_fault (met_after (met_after (number ∷ met) l) c) e.right fault r way h.5
      (subst (λ (x : Entry). IsFirst entries (met_after (met_after (number ∷ met) l) c) x.right fault way) same
      (subst (λ (x : Tree). IsFirst entries (met_after (met_after (number ∷ met) x) c) f.right fault way) left
      (subst (λ (x : Tree). IsFirst entries (met_after (met_after (number ∷ met) p) x) f.right fault way) children k.4)))

  -- what a fault on the left, below or on the right of an entry is, by that entry
  left_of : (met : List ℕ) (number : ℕ) (e f : Entry) (fault : DirectoryFault) (way : Way) → e ≡ f
      → IsFirst entries (number ∷ met) e.left fault way → IsFirst entries (number ∷ met) f.left fault way
  left_of met number e f fault way same = subst (λ (x : Entry). IsFirst entries (number ∷ met) x.left fault way) same

  left_tree : (met : List ℕ) (number : ℕ) (e f : Entry) (l : Tree) → e ≡ f
      → IsTree entries (number ∷ met) e.left l → IsTree entries (number ∷ met) f.left l
  left_tree met number e f l same = subst (λ (x : Entry). IsTree entries (number ∷ met) x.left l) same

  below_of : (met : List ℕ) (number : ℕ) (e f : Entry) (l p : Tree) (fault : DirectoryFault) (way : Way) → e ≡ f → l ≡ p
      → IsFirst entries (met_after (number ∷ met) l) (child_of e) fault way → IsFirst entries (met_after (number ∷ met) p) (child_of f) fault way
  below_of met number e f l p fault way same left h =
      subst (λ (x : Tree). IsFirst entries (met_after (number ∷ met) x) (child_of f) fault way) left
      (subst (λ (x : Entry). IsFirst entries (met_after (number ∷ met) l) (child_of x) fault way) same h)

  below_tree : (met : List ℕ) (number : ℕ) (e f : Entry) (l p c : Tree) → e ≡ f → l ≡ p
      → IsTree entries (met_after (number ∷ met) l) (child_of e) c → IsTree entries (met_after (number ∷ met) p) (child_of f) c
  below_tree met number e f l p c same left h =
      subst (λ (x : Tree). IsTree entries (met_after (number ∷ met) x) (child_of f) c) left
      (subst (λ (x : Entry). IsTree entries (met_after (number ∷ met) l) (child_of x) c) same h)

  right_of : (met : List ℕ) (number : ℕ) (e f : Entry) (l p c q : Tree) (fault : DirectoryFault) (way : Way) → e ≡ f → l ≡ p → c ≡ q
      → IsFirst entries (met_after (met_after (number ∷ met) l) c) e.right fault way
      → IsFirst entries (met_after (met_after (number ∷ met) p) q) f.right fault way
  right_of met number e f l p c q fault way same left children h =
      subst (λ (x : Tree). IsFirst entries (met_after (met_after (number ∷ met) p) x) f.right fault way) children
      (subst (λ (x : Tree). IsFirst entries (met_after (met_after (number ∷ met) x) c) f.right fault way) left
      (subst (λ (x : Entry). IsFirst entries (met_after (met_after (number ∷ met) l) c) x.right fault way) same h))

  pub one_fault : (met : List ℕ) (number : ℕ) (a b : DirectoryFault) (v w : Way)
      → IsFirst entries met number a v → IsFirst entries met number b w → a ≡ b
  one_fault met number a b here here h k = same_err (tree_entry_at entries met number) a b h.1 k.1
  one_fault met number a b here (on_left f w) h k = absurd (not_both (tree_entry_at entries met number) f a k.1 h.1)
  one_fault met number a b here (below f p w) h k = absurd (not_both (tree_entry_at entries met number) f a k.1 h.1)
  one_fault met number a b here (on_right f p q w) h k = absurd (not_both (tree_entry_at entries met number) f a k.1 h.1)
  one_fault met number a b (on_left e v) here h k = absurd (not_both (tree_entry_at entries met number) e b h.1 k.1)
  one_fault met number a b (below e l v) here h k = absurd (not_both (tree_entry_at entries met number) e b h.1 k.1)
  one_fault met number a b (on_right e l c v) here h k = absurd (not_both (tree_entry_at entries met number) e b h.1 k.1)
  one_fault met number a b (on_left e v) (on_left f w) h k =
      let same = entry_is met number e f h.1 k.1 in
      one_fault (number ∷ met) f.left a b v w (left_of met number e f a v same h.2) k.2
  one_fault met number a b (on_left e v) (below f p w) h k =
      let same = entry_is met number e f h.1 k.1 in
      absurd (no_fault (number ∷ met) f.left a p v k.2 (left_of met number e f a v same h.2))
  one_fault met number a b (on_left e v) (on_right f p q w) h k =
      let same = entry_is met number e f h.1 k.1 in
      absurd (no_fault (number ∷ met) f.left a p v k.2 (left_of met number e f a v same h.2))
  one_fault met number a b (below e l v) (on_left f w) h k =
      let same = entry_is met number f e k.1 h.1 in
      absurd (no_fault (number ∷ met) e.left b l w h.2 (left_of met number f e b w same k.2))
  one_fault met number a b (below e l v) (below f p w) h k =
      let same = entry_is met number e f h.1 k.1 in
      let left = tree_is (number ∷ met) f.left l p (left_tree met number e f l same h.2) k.2 in
      one_fault (met_after (number ∷ met) p) (child_of f) a b v w (below_of met number e f l p a v same left h.3) k.3
  one_fault met number a b (below e l v) (on_right f p q w) h k =
      let same = entry_is met number e f h.1 k.1 in
      let left = tree_is (number ∷ met) f.left l p (left_tree met number e f l same h.2) k.2 in
      absurd (no_fault (met_after (number ∷ met) p) (child_of f) a q v k.3 (below_of met number e f l p a v same left h.3))
  one_fault met number a b (on_right e l c v) (on_left f w) h k =
      let same = entry_is met number f e k.1 h.1 in
      absurd (no_fault (number ∷ met) e.left b l w h.2 (left_of met number f e b w same k.2))
  one_fault met number a b (on_right e l c v) (below f p w) h k =
      let same = entry_is met number f e k.1 h.1 in
      let left = tree_is (number ∷ met) e.left p l (left_tree met number f e p same k.2) h.2 in
      absurd (no_fault (met_after (number ∷ met) l) (child_of e) b c w h.3 (below_of met number f e p l b w same left k.3))
  one_fault met number a b (on_right e l c v) (on_right f p q w) h k =
      let same = entry_is met number e f h.1 k.1 in
      let left = tree_is (number ∷ met) f.left l p (left_tree met number e f l same h.2) k.2 in
      let children = tree_is (met_after (number ∷ met) p) (child_of f) c q (below_tree met number e f l p c same left h.3) k.3 in
      one_fault (met_after (met_after (number ∷ met) p) q) f.right a b v w (right_of met number e f l p c q a v same left children h.4) k.4

  -- a directory holds at most one listing
  pub one_listing : (l m : Listing) → ListsEntries entries l → ListsEntries entries m → l ≡ m
  one_listing l m h k =
      let root : h.root ≡ k.root = same_ok (root_in entries) h.root k.root h.is_root k.is_root in
      let tree : h.tree ≡ k.tree = tree_is (0 ∷ []) k.root.child h.tree k.tree
      (subst (λ (x : Entry). IsTree entries (0 ∷ []) x.child h.tree) root h.is_tree) k.is_tree in
      let start : l.mini_start ≡ m.mini_start = h.start ∙ ap (λ (x : Entry). x.start) root ∙ sym k.start in
      let size : l.mini_size ≡ m.mini_size = h.size ∙ ap (λ (x : Entry). x.size) root ∙ sym k.size in
      let items : l.items ≡ m.items = h.items ∙ ap (items_from None 0) tree ∙ sym k.items in
      ap (λ (n : ℕ). listing n l.mini_size l.items) start ∙ ap (λ (n : ℕ). listing m.mini_start n l.items) size
      ∙ ap (listing m.mini_start m.mini_size) items

  pub one_first : (a b : DirectoryFault) → HasFault entries a → HasFault entries b → a ≡ b
  one_first a b (inl h) (inl k) = same_err (root_in entries) a b h k
  one_first a b (inl h) (inr k) = absurd (not_both (root_in entries) k.0 a k.2 h)
  one_first a b (inr h) (inl k) = absurd (not_both (root_in entries) h.0 b h.2 k)
  one_first a b (inr h) (inr k) =
      let root : h.0 ≡ k.0 = same_ok (root_in entries) h.0 k.0 h.2 k.2 in
      one_fault (0 ∷ []) k.0.child a b h.1 k.1 (subst (λ (x : Entry). IsFirst entries (0 ∷ []) x.child a h.1) root h.3) k.3

  pub never_both : (l : Listing) (a : DirectoryFault) → ListsEntries entries l → HasFault entries a → ⊥
  never_both l a h (inl k) = not_both (root_in entries) h.root a h.is_root k
  never_both l a h (inr k) =
      let root : h.root ≡ k.0 = same_ok (root_in entries) h.root k.0 h.is_root k.2 in
      no_fault (0 ∷ []) k.0.child a h.tree k.1 (subst (λ (x : Entry). IsTree entries (0 ∷ []) x.child h.tree) root h.is_tree) k.3
