-- The items of a section that are kept.
use Rattle.std.specs.Prelude.{ℕ, List, map}
use Rattle.std.specs.Str.{chars}
use denote.Bor.{Bor}
use Rattle.xls_number_formats.specs.declared.items.Item.{Item}
use Rattle.xls_number_formats.specs.Grammar.{Token}

-- an item with its text
abbrev pub token_of : Item × Bor (List ℕ) → Token
token_of item = (item.0, chars item.1.now)

abbrev pub tokens_of : List (Item × Bor (List ℕ)) → List Token
tokens_of items = map token_of items
