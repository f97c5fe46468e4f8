use Rattle.xls_readable.specs.Csv.{IsSeparated}
use Rattle.xls_readable.proofs.ConcatenationLemmas.{concatenates_more}
use Rattle.xls_readable.proofs.GrowthLemmas.{grows_added, grows_then}
use Rattle.xls_readable.proofs.rows.push_others.Goals as goal

pub loop-value-preserved : goal.loop-value-preserved
loop-value-preserved c =
    concatenates_more (IsSeparated c.args.delimiter) c.args.values.now c.value-item.result c.loop-value.value-index _ _ _ c.loop-value-test.true
    c.value-item.is c.loop-value.invariant c.in_ok-push_separated.ensures.ok

pub returns-in_err-push_separated-clause-grown : goal.returns-in_err-push_separated-clause-grown
returns-in_err-push_separated-clause-grown c = grows_then _ _ _ (grows_added _ _ _ c.loop-value.invariant) c.push_separated.ensures.grown

pub returns-clause-grown : goal.returns-clause-grown
returns-clause-grown c = grows_added _ _ _ c.loop-value.invariant
