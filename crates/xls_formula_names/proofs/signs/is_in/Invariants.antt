use Rattle.std.proofs.Common.{◌≡◌, drop}
use Rattle.xls_formula_names.specs.Quotes.{is_in}
use Rattle.xls_formula_names.proofs.signs.is_in.Given as goal

abbrev pub invariant-pairs : goal.invariant-pairs
invariant-pairs l = is_in (drop l.first-index l.ranges) l.c ≡ is_in l.ranges l.c
