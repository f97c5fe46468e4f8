use Rattle.std.proofs.Common.{SFits, rules, w64}
use Rattle.std.proofs.lemmas.Int.{to_z-of_z}
use Rattle.xls_cell_formats.proofs.contents.push_content.Goals as goal

pub returns-in-Int-clause-ok : goal.returns-in-Int-clause-ok
returns-in-Int-clause-ok c =
    let fits : SFits w64 c.in-Int.n = search rules in
    rw c.in-Int.is (rw (to_z-of_z w64 c.in-Int.n fits) at c.push_number.ensures.ok)
