-- What a walk over a section's items has still to give.
use Rattle.std.specs.Prelude.{◌≡◌, ℕ, Bool, List, [], ◌∷◌, Option, MatchOption}
use Rattle.std.specs.Str.{chars}
use denote.Bor.{Bor}
use Rattle.xls_number_formats.specs.declared.items.Item.{Item}
use Rattle.xls_number_formats.specs.Grammar.{Token, items_from, after_from}

-- the characters left, and whether the section has had a place
pub record Left : Type 0 where
  pub placed : Bool
  pub characters : List ℕ

-- the items left, and what follows the section
abbrev pub items_left : Left → List Token
items_left left = items_from 0 left.placed left.characters

abbrev pub after_left : Left → Option (List ℕ)
after_left left = after_from 0 left.placed left.characters

-- an item with its text is the first of those left; without one none is left
abbrev pub Steps : Left → Option (Item × Bor (List ℕ)) → Left → Type 0
Steps before given after =
    MatchOption given ((items_left before ≡ []) × (after ≡ before))
    (λ x. (items_left before ≡ (x.0, chars x.1.now) ∷ items_left after) × (after_left before ≡ after_left after))
