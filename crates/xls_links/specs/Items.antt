-- Links, and HLinks that are damaged. A text is the list of its characters.
use Rattle.std.specs.Prelude.{◌≡◌, ℕ, List, [], ◌∷◌, Option, Some, None, Result, Ok, Err}
use Rattle.std.specs.declared.alloc.AllocError.{AllocError}
use Rattle.xls_strings.specs.Texts.{text_of}
use Rattle.xls_links.specs.declared.damage.Damage.{Damage}
use Rattle.xls_links.specs.declared.items.LinkItem.{LinkItem}
use Rattle.xls_links.specs.declared.items.LinkItem.TheVariants as given
use Rattle.xls_links.specs.declared.items.LinkKind.{LinkKind}

pub record LinkContent : Type 0 where
  pub first_row : ℕ
  pub last_row : ℕ
  pub first_column : ℕ
  pub last_column : ℕ
  pub kind : LinkKind
  pub target : List ℕ
  pub place : List ℕ
  pub shown : List ℕ
  pub tip : List ℕ

pub data Item : Type 0 where
  link : LinkContent → Item
  damaged : Damage → Item

-- an item as the code gives it
abbrev pub item_of : LinkItem → Item
item_of (given.Link l) = link (record {
  first_row = l.first_row;
  last_row = l.last_row;
  first_column = l.first_column;
  last_column = l.last_column;
  kind = l.kind;
  target = text_of l.target;
  place = text_of l.place;
  shown = text_of l.shown;
  tip = text_of l.tip;
})
item_of (given.Damaged d) = damaged d

-- a step gives the first of the items, if there is one, and leaves the others; where memory runs out it leaves none
abbrev pub ItemSteps : List Item → Option (Result LinkItem AllocError) → List Item → Type 0
ItemSteps before None after = (before ≡ []) × (after ≡ [])
ItemSteps before (Some (Ok item)) after = before ≡ item_of item ∷ after
ItemSteps before (Some (Err e)) after = (lost : Item) × (rest : List Item) × (before ≡ lost ∷ rest) × (after ≡ [])
