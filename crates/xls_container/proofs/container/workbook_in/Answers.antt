use Rattle.std.proofs.Common.{rules, sym, ◌∙◌, subst}
use Rattle.xls_compound.specs.Compound.{LiesAdjacent}
use Rattle.xls_container.proofs.EntryLemmas.{workbook_item, refused}
use Rattle.xls_container.proofs.EntryLemmas.{one_item}
use Rattle.xls_container.proofs.container.workbook_in.Goals as goal

pub returns-in_err-stream-clause-err : goal.returns-in_err-stream-clause-err
returns-in_err-stream-clause-err c =
    let found = workbook_item c.args.compound.now c.in-Some.entry (sym c.workbook.ensures ∙ c.in-Some.is) in
    let cause = refused c.args.compound.now found.0 found.1 c.in_err-stream.field-0.0 (c.in_err-stream.ensures.err found.0 found.2) in
    search rules

pub returns-clause-ok : goal.returns-clause-ok
returns-clause-ok c =
    let found = workbook_item c.args.compound.now c.in-Some.entry (sym c.workbook.ensures ∙ c.in-Some.is) in
    (found.0, found.1, c.in_ok-stream.ensures.ok found.0 found.2)

-- the entry is that of the same item
pub returns-clause-borrowed : goal.returns-clause-borrowed
returns-clause-borrowed c (item, is, adjacent) =
    let found = workbook_item c.args.compound.now c.in-Some.entry (sym c.workbook.ensures ∙ c.in-Some.is) in
    let same = one_item c.args.compound.now item found.0 is found.1 in
    c.in_ok-stream.ensures.borrowed found.0 found.2 (subst (LiesAdjacent c.args.compound.now) same adjacent)
