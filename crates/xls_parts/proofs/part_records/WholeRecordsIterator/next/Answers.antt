use Rattle.std.proofs.Common.{rules, sym, ◌∙◌}
use Rattle.xls_parts.proofs.PartRecordsLemmas.{records_none, records_empty, records_lent, one_fewer}
use Rattle.xls_parts.proofs.part_records.WholeRecordsIterator.next.Goals as goal

pub returns-in_default-clause-steps : goal.returns-in_default-clause-steps
returns-in_default-clause-steps c =
    let s = c.self.inside in
    (sym c.self.view_is ∙ records_none s.offset s.bytes.now c.in_default.ensures, records_empty s.offset)

pub returns-clause-steps : goal.returns-clause-steps
returns-clause-steps c =
    let s = c.self.inside in
    sym c.self.view_is ∙ records_lent s.offset s.bytes.now c.in-Some.typ c.in-Some.body.now c.in-Some.rest.now c.in-Some.ensures

pub returns-clause-goes : goal.returns-clause-goes
returns-clause-goes c = let shorter = one_fewer _ _ _ (returns-clause-steps c) in search rules
