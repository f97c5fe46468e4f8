-- Each storage stands before what it holds.
use Rattle.std.proofs.Common.{◌≡◌, ℕ, ◌+◌, ◌<◌, ◌≤◌, zero, suc, List, [], ◌∷◌, ◌++◌, length, Option, Some, None, refl, ◌∙◌, ap, sym, subst, length-append, add-zero, arith}
use Rattle.std.proofs.lemmas.Option.{same_Some}
use Rattle.std.specs.List.{slice_get}
use Rattle.xls_compound.specs.Tree.{Tree, empty, node}
use Rattle.xls_compound.specs.Items.{Item, item_of, items_from, count}
use Rattle.xls_compound.specs.Held.{AreHeld}

-- the parent of each item from this place on stands before it
abbrev HeldFrom : ℕ → List Item → Type 0
HeldFrom place [] = Unit {0}
HeldFrom place (item ∷ items) = ((parent : ℕ) → item.parent ≡ Some parent → parent < place) × HeldFrom (place + 1) items

-- the parent of a tree's items stands before them
abbrev IsBefore : Option ℕ → ℕ → Type 0
IsBefore parent place = (p : ℕ) → parent ≡ Some p → p < place

length-items_from : (parent : Option ℕ) (place : ℕ) (tree : Tree) → length (items_from parent place tree) ≡ count tree
length-items_from parent place empty = refl
length-items_from parent place (node number entry left children right) =
    omega (
      arith,
      length-items_from parent place left,
      length-items_from (Some (place + count left)) (place + count left + 1) children,
      length-items_from parent (place + count left + 1 + count children) right,
      length-append (items_from parent place left) (item_of parent entry ∷ (items_from (Some (place + count left)) (place + count left + 1) children ++ items_from parent (place + count left + 1 + count children) right)),
      length-append (items_from (Some (place + count left)) (place + count left + 1) children) (items_from parent (place + count left + 1 + count children) right),
    )

held-append : (place later : ℕ) (xs ys : List Item) → place + length xs ≡ later → HeldFrom place xs → HeldFrom later ys → HeldFrom place (xs ++ ys)
held-append place later [] ys e h k = subst (λ (p : ℕ). HeldFrom p ys) (sym e ∙ add-zero place) k
held-append place later (x ∷ xs) ys e h k = (h.0, held-append (place + 1) later xs ys (omega arith) h.1 k)

before-later : (parent : Option ℕ) (place later : ℕ) → IsBefore parent place → place ≤ later → IsBefore parent later
before-later parent place later h le p e = let less = h p e in omega arith

held-items_from : (parent : Option ℕ) (place : ℕ) (tree : Tree) → IsBefore parent place → HeldFrom place (items_from parent place tree)
held-items_from parent place empty h = tt
held-items_from parent place (node number entry left children right) h =
    held-append place (place + count left) (items_from parent place left) _ (ap (λ n. place + n) (length-items_from parent place left))
    (held-items_from parent place left h) (
      before-later parent place (place + count left) h (omega arith),
      held-append (place + count left + 1) (place + count left + 1 + count children) (items_from (Some (place + count left)) (place + count left + 1) children) _
          (ap (λ n. place + count left + 1 + n) (length-items_from (Some (place + count left)) (place + count left + 1) children))
          (held-items_from (Some (place + count left)) (place + count left + 1) children (λ p e. let same = same_Some (place + count left) p e in omega arith))
          (held-items_from parent (place + count left + 1 + count children) right (before-later parent place _ h (omega arith))),
    )

held-at : (place : ℕ) (items : List Item) → HeldFrom place items → (at : ℕ) (item : Item) (parent : ℕ)
    → slice_get items at ≡ Some item → item.parent ≡ Some parent → parent < place + at
held-at place [] h at item parent e f = absurd (cc)
held-at place (x ∷ xs) h zero item parent e f =
    let less = h.0 parent (ap (λ (i : Item). i.parent) (same_Some _ _ e) ∙ f) in omega arith
held-at place (x ∷ xs) h (suc at) item parent e f = let less = held-at (place + 1) xs h.1 at item parent e f in omega arith

-- what a tree lists below the root
pub held : (tree : Tree) → AreHeld (items_from None 0 tree)
held tree at item parent e f =
    let less = held-at 0 (items_from None 0 tree) (held-items_from None 0 tree (λ p e. absurd (cc))) at item parent e f in omega arith
