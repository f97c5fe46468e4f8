-- A text with leaves, and what was put before them.
use Rattle.std.specs.Prelude.{◌≡◌, ℕ, ◌<◌, ◌≤◌, List, [], ◌∷◌, ◌++◌, length, take, drop, map, reverse, IsUtf8, Some}
use Rattle.std.specs.List.{concat, AllByRecursion}
use Rattle.std.specs.Str.{chars}
use Rattle.xls_operands.specs.declared.buffer.Leaf.{Leaf}
use Rattle.xls_operands.specs.Prefixes.{prefix_at, IsChain}

-- each leaf: what was put before it, by the texts of the pieces, and its own bytes of the text
abbrev pub leaf_texts : List (List ℕ) → List ℕ → List Leaf → List (List ℕ)
leaf_texts prefixes text [] = []
leaf_texts prefixes text (l ∷ ls) =
    (prefix_at prefixes l.prefix ++ take l.len text) ∷ leaf_texts prefixes (drop l.len text) ls

-- the leaves are the whole text
abbrev pub AreWhole : List ℕ → List Leaf → Type 0
AreWhole text [] = text ≡ []
AreWhole text (l ∷ ls) = (l.len ≤ length text) × AreWhole (drop l.len text) ls

-- what was put before each is a chain of n pieces
abbrev pub AreChained : ℕ → List Leaf → Type 0
AreChained n leaves = AllByRecursion (λ (l : Leaf). IsChain n l.prefix) leaves

-- a mark was put before the leaf: a piece more, and the others as before
pub record IsMarked (prefixes new : List (List ℕ)) (old leaf : Leaf) (mark : List ℕ) : Type 0 where
  pub len : leaf.len ≡ old.len
  pub prefix : leaf.prefix ≡ Some (length prefixes)
  pub pieces : new ≡ prefixes ++ (mark ++ prefix_at prefixes old.prefix) ∷ []

-- the operands that begin at these leaves, the last one first
abbrev pub operands_down : List (List ℕ) → List ℕ → List (List ℕ)
operands_down leaves [] = []
operands_down leaves (start ∷ below) =
    concat (drop start leaves) ∷ operands_down (take start leaves) below

abbrev pub operands_of : List (List ℕ) → List ℕ → List (List ℕ)
operands_of leaves starts = operands_down leaves (reverse starts)

-- each operand has a leaf, and each leaf an operand
abbrev pub IsGroupedDown : List (List ℕ) → List ℕ → Type 0
IsGroupedDown leaves [] = leaves ≡ []
IsGroupedDown leaves (start ∷ below) =
    (start < length leaves) × IsGroupedDown (take start leaves) below

abbrev pub IsGrouped : List (List ℕ) → List ℕ → Type 0
IsGrouped leaves starts = IsGroupedDown leaves (reverse starts)

-- ---- what contracts see

-- the operands as lists of characters, the last one first
abbrev pub texts_of : List (List ℕ) → List ℕ → List Leaf → List ℕ → List (List ℕ)
texts_of prefixes text leaves starts = map chars (operands_of (leaf_texts prefixes text leaves) starts)

-- each is a text
abbrev pub AreTexts : List (List ℕ) → Type 0
AreTexts [] = Unit {0}
AreTexts (t ∷ ts) = IsUtf8 t × AreTexts ts

pub record AreOperands (prefixes : List (List ℕ)) (text : List ℕ) (leaves : List Leaf) (starts : List ℕ) : Type 0 where
  pub whole : AreWhole text leaves
  pub chained : AreChained (length prefixes) leaves
  pub grouped : IsGrouped (leaf_texts prefixes text leaves) starts
  pub texts : AreTexts (operands_of (leaf_texts prefixes text leaves) starts)
