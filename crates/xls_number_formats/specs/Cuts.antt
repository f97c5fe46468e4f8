-- For the proofs: the parts of a code that are its first item, and what follows it.
use Rattle.std.specs.Prelude.{◌≡◌, ℕ, List, drop}
use Rattle.std.specs.Str.{chars}
use Rattle.xls_number_formats.specs.Grammar.{Head}
use Rattle.xls_number_formats.specs.declared.heads.Cut.{Cut}

-- of a code whose characters behind the first are cs
pub record IsCut (first : Head) (cs : List ℕ) (cut : Cut) : Type 0 where
  pub item : cut.item ≡ first.item
  pub text : chars cut.text.now ≡ first.text
  pub rest : chars cut.rest.now ≡ drop first.more cs
