use Rattle.std.proofs.Common.{◌≡◌, ◌∷◌, refl}
use Rattle.xls_readable.proofs.GrowthLemmas.{grows_added, grows_same, grows_then}
use Rattle.xls_readable.proofs.RowLemmas.{joined_all}
use Rattle.xls_readable.proofs.rows.push_fields.Goals as goal

pub returns-in_ok-push_field-in-Some-clause-ok : goal.returns-in_ok-push_field-in-Some-clause-ok
returns-in_ok-push_field-in-Some-clause-ok c =
    let whole : c.args.values.now ≡ c.in-Some.first.now ∷ c.in-Some.others.now = c.in-Some.ensures.cases.0 in
    joined_all c.push_others.result c.args.delimiter c.args.values.now c.in-Some.first.now c.in-Some.others.now _ _ _ whole c.in_ok-push_field-in-Some.ensures.ok c.push_others.ensures.ok

pub returns-in_err-push_field-in-Some-clause-grown : goal.returns-in_err-push_field-in-Some-clause-grown
returns-in_err-push_field-in-Some-clause-grown c = grows_same _ _ c.in_err-push_field-in-Some.ensures.err

pub returns-in_ok-push_field-in-Some-clause-grown : goal.returns-in_ok-push_field-in-Some-clause-grown
returns-in_ok-push_field-in-Some-clause-grown c = grows_then _ _ _ (grows_added _ _ _ c.in_ok-push_field-in-Some.ensures.ok) c.push_others.ensures.grown

pub returns-in-None-clause-grown : goal.returns-in-None-clause-grown
returns-in-None-clause-grown c = grows_same _ _ refl
