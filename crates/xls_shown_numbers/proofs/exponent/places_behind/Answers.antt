use Rattle.xls_shown_numbers.proofs.PlainLemmas.{thousands_small}
use Rattle.xls_shown_numbers.proofs.exponent.places_behind.Goals as goal

pub one_more-count-requires : goal.one_more-count-requires
one_more-count-requires c = thousands_small c.items.count _ _ _ _ c.in-Some.ensures.steps c.items.invariant.within c.iter-items.ensures.few
