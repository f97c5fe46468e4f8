use Rattle.xls_shown_numbers.proofs.PlainLemmas.{within_small}
use Rattle.xls_shown_numbers.proofs.plain.seen_all.Goals as goal

pub seen_after-seen-requires-clause-whole : goal.seen_after-seen-requires-clause-whole
seen_after-seen-requires-clause-whole c =
    (within_small c.items.seen _ _ _ _ c.in-Some.ensures.steps c.items.invariant.within c.requires).0

pub seen_after-seen-requires-clause-decimals : goal.seen_after-seen-requires-clause-decimals
seen_after-seen-requires-clause-decimals c =
    (within_small c.items.seen _ _ _ _ c.in-Some.ensures.steps c.items.invariant.within c.requires).1

pub seen_after-seen-requires-clause-percents : goal.seen_after-seen-requires-clause-percents
seen_after-seen-requires-clause-percents c =
    (within_small c.items.seen _ _ _ _ c.in-Some.ensures.steps c.items.invariant.within c.requires).2
