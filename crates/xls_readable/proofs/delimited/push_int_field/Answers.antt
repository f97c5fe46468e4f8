use Rattle.std.proofs.Common.{SFits, w64, rules}
use Rattle.std.proofs.lemmas.Int.{to_z-of_z}
use Rattle.xls_readable.proofs.delimited.push_int_field.Goals as goal

-- the number that is appended is the one that is given
pub returns-then-is_below_numbers-clause-ok : goal.returns-then-is_below_numbers-clause-ok
returns-then-is_below_numbers-clause-ok c =
    let fits : SFits w64 c.args.n = search rules in
    rw (to_z-of_z w64 c.args.n fits) at c.push_whole.ensures.ok
