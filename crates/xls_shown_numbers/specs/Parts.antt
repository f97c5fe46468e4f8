-- For the proofs: the items that one pass over a section shows.
use Rattle.std.specs.Prelude.{ℕ, ◌≡◌, Bool, true, false, List, [], ◌∷◌, MatchOption, Option}
use Rattle.std.specs.Str.{chars}
use denote.Bor.{Bor}
use Rattle.xls_number_formats.specs.declared.items.Item.{Item}
use Rattle.xls_number_formats.specs.Grammar.{Token}
use Rattle.xls_shown_numbers.specs.declared.parts.Part.{Part}
use Rattle.xls_shown_numbers.specs.declared.parts.Part.TheVariants as part
use Rattle.xls_shown_numbers.specs.declared.plain.Seen.{Seen}
use Rattle.xls_shown_numbers.specs.Exponent.{mantissa, zeroed_from}

-- the items of a part of a section
abbrev pub part_of : Part → List Token → List Token
part_of part.Whole ts = ts
part_of part.Mantissa ts = mantissa ts

pub record Rest : Type 0 where
  pub part : Part
  pub left : List Token

abbrev pub tokens_left : Rest → List Token
tokens_left rest = part_of rest.part rest.left

abbrev pub Steps : Rest → Option (Item × Bor (List ℕ)) → Rest → Type 0
Steps before given after =
    MatchOption given (tokens_left before ≡ []) (λ x. tokens_left before ≡ (x.0, chars x.1.now) ∷ tokens_left after)

-- with zeros in the whole places, or as they stand
abbrev pub filled : Bool → Seen → List Token → List Token
filled true s ts = zeroed_from s ts
filled false s ts = ts
