use Rattle.std.proofs.Common.{arith}
use Rattle.xls_props.proofs.EntryLemmas.{entries_more, entries_end}
use Rattle.xls_props.proofs.entries.entries_from.Goals as goal

pub entries-preserved : goal.entries-preserved
entries-preserved c = entries_more _ _ _ _ _ _ _ _ (omega arith) c.in-Some.ensures c.in_ok-push.ensures.items c.entries.invariant

pub returns-in_default : goal.returns-in_default
returns-in_default c = entries_end _ _ _ _ c.in_default.ensures c.entries.invariant
