use Rattle.xls_readable.specs.declared.items.Member.{Member}
use Rattle.xls_readable.specs.Items.{IsTabbed, named_of}
use Rattle.xls_readable.proofs.ConcatenationLemmas.{concatenates_more, adds_map}
use Rattle.xls_readable.proofs.GrowthLemmas.{grows_added, grows_then}
use Rattle.xls_readable.proofs.items.push_all_tabbed.Goals as goal

pub loop-member-preserved : goal.loop-member-preserved
loop-member-preserved c =
    concatenates_more (λ (m : Member). IsTabbed (named_of m)) c.args.members.now c.member-item.result c.loop-member.member-index _ _ _ c.loop-member-test.true
    c.member-item.is c.loop-member.invariant c.in_ok-push_tabbed.ensures.ok

pub returns-clause-ok : goal.returns-clause-ok
returns-clause-ok c = adds_map named_of IsTabbed c.args.members.now c.loop-member.member-index _ _ c.loop-member-test.false c.loop-member.invariant

pub returns-in_err-push_tabbed-clause-grown : goal.returns-in_err-push_tabbed-clause-grown
returns-in_err-push_tabbed-clause-grown c = grows_then _ _ _ (grows_added _ _ _ c.loop-member.invariant) c.push_tabbed.ensures.grown

pub returns-clause-grown : goal.returns-clause-grown
returns-clause-grown c = grows_added _ _ _ c.loop-member.invariant
