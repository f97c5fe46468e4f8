use Rattle.std.proofs.Common.{SFits, w64, rules}
use Rattle.std.proofs.lemmas.Int.{to_z-of_z}
use Rattle.xls_readable.proofs.delimited.push_field.Goals as goal

-- the number that is read is the one that is there
pub returns-in-Int-clause-ok : goal.returns-in-Int-clause-ok
returns-in-Int-clause-ok c =
    let fits : SFits w64 c.in-Int.n = search rules in
    rw c.in-Int.is (rw (to_z-of_z w64 c.in-Int.n fits) at c.push_int_field.ensures.ok)
