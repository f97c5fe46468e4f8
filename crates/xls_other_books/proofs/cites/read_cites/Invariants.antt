use Rattle.std.proofs.Common.{◌≡◌, ◌++◌, length}
use Rattle.xls_other_books.specs.Cites.{cites_in}
use Rattle.xls_other_books.proofs.cites.read_cites.Given as goal

-- what was found and what is left is all
abbrev pub invariant-tokens : goal.invariant-tokens
invariant-tokens l = l.found.items ++ cites_in l.version l.left ≡ cites_in l.version l.tokens

abbrev pub decreases-tokens : goal.decreases-tokens
decreases-tokens l = length l.left
