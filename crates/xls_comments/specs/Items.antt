-- Comments, and Notes that are damaged. A text is the list of its characters.
use Rattle.std.specs.Prelude.{◌≡◌, ℕ, List, [], ◌∷◌, Option, Some, None, Result, Ok, Err}
use Rattle.std.specs.declared.alloc.AllocError.{AllocError}
use Rattle.xls_strings.specs.Texts.{text_of}
use Rattle.xls_comments.specs.declared.damage.Damage.{Damage}
use Rattle.xls_comments.specs.declared.items.CommentItem.{CommentItem}
use Rattle.xls_comments.specs.declared.items.CommentItem.TheVariants as given
use Rattle.xls_comments.specs.declared.items.Visibility.{Visibility}

pub record CommentContent : Type 0 where
  pub row : ℕ
  pub column : ℕ
  pub visibility : Visibility
  pub author : List ℕ
  pub text : List ℕ

pub data Item : Type 0 where
  comment : CommentContent → Item
  damaged : Damage → Item

-- an item as the code gives it
abbrev pub item_of : CommentItem → Item
item_of (given.Comment c) = comment (record {
  row = c.row;
  column = c.column;
  visibility = c.visibility;
  author = text_of c.author;
  text = text_of c.text;
})
item_of (given.Damaged d) = damaged d

-- a step gives the first of the items, if there is one, and leaves the others; where memory runs out it leaves none
abbrev pub ItemSteps : List Item → Option (Result CommentItem AllocError) → List Item → Type 0
ItemSteps before None after = (before ≡ []) × (after ≡ [])
ItemSteps before (Some (Ok item)) after = before ≡ item_of item ∷ after
ItemSteps before (Some (Err e)) after = (lost : Item) × (rest : List Item) × (before ≡ lost ∷ rest) × (after ≡ [])
