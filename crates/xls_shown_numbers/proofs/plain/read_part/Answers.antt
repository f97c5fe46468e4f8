use Rattle.std.proofs.Common.{length, ◌<◌, ◌^◌, subst}
use Rattle.xls_shown_numbers.proofs.PlainLemmas.{within_small, thousands_small}
use Rattle.xls_shown_numbers.proofs.plain.read_part.Goals as goal

pub one_more-thousands-requires : goal.one_more-thousands-requires
one_more-thousands-requires c =
    thousands_small c.items.thousands _ _ _ _ c.in-Some.ensures.steps c.items.invariant.counted (subst (λ ts. length ts < 2 ^ 63) c.new-items.ensures.items c.new-items.ensures.few)

pub groups_as-grouping-requires-clause-whole : goal.groups_as-grouping-requires-clause-whole
groups_as-grouping-requires-clause-whole c =
    (within_small c.items.seen _ _ _ _ c.in-Some.ensures.steps c.items.invariant.within (subst (λ ts. length ts < 2 ^ 63) c.new-items.ensures.items c.new-items.ensures.few)).0

pub groups_as-grouping-requires-clause-decimals : goal.groups_as-grouping-requires-clause-decimals
groups_as-grouping-requires-clause-decimals c =
    (within_small c.items.seen _ _ _ _ c.in-Some.ensures.steps c.items.invariant.within (subst (λ ts. length ts < 2 ^ 63) c.new-items.ensures.items c.new-items.ensures.few)).1

pub seen_after-seen-requires-clause-whole : goal.seen_after-seen-requires-clause-whole
seen_after-seen-requires-clause-whole c =
    (within_small c.items.seen _ _ _ _ c.in-Some.ensures.steps c.items.invariant.within (subst (λ ts. length ts < 2 ^ 63) c.new-items.ensures.items c.new-items.ensures.few)).0

pub seen_after-seen-requires-clause-decimals : goal.seen_after-seen-requires-clause-decimals
seen_after-seen-requires-clause-decimals c =
    (within_small c.items.seen _ _ _ _ c.in-Some.ensures.steps c.items.invariant.within (subst (λ ts. length ts < 2 ^ 63) c.new-items.ensures.items c.new-items.ensures.few)).1

pub seen_after-seen-requires-clause-percents : goal.seen_after-seen-requires-clause-percents
seen_after-seen-requires-clause-percents c =
    (within_small c.items.seen _ _ _ _ c.in-Some.ensures.steps c.items.invariant.within (subst (λ ts. length ts < 2 ^ 63) c.new-items.ensures.items c.new-items.ensures.few)).2
