use Rattle.std.proofs.Common.{refl, Result, Ok, Err, OnErr}
use Rattle.xls_formula.proofs.push.push_functions.Goals as goal

-- what holds anyway holds at a refusal
on_err : {T E P : Type 0} → (r : Result T E) → P → OnErr r P
on_err (Ok x) p = tt
on_err (Err e) p = p

-- a refusal comes before the table is set
pub returns-in_err-all-clause-err : goal.returns-in_err-all-clause-err
returns-in_err-all-clause-err c = on_err c.from_residual.result refl
