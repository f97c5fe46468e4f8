use Rattle.std.proofs.Common.{◌≡◌, true}
use Rattle.std.specs.Prelude.{is_some}
use Rattle.xls_rows.specs.HeaderTexts.{header_texts}
use Rattle.xls_rows.proofs.RowLemmas.{within_header, within_later, named_texts, header_there}
use Rattle.xls_rows.proofs.row.RowDeserializer.next_key.Goals as goal

pub invariant_of-self-in-Some : goal.invariant_of-self-in-Some
invariant_of-self-in-Some g c =
    within_later (header_texts c.self.inside.headers) c.self.inside.cells.now c.self.inside.column_indexes.now c.in-Some.others.now
    (λ n h. (c.in-Some.ensures.within n h).1) c.self.invariant

pub returns-in-Some-clause-none : goal.returns-in-Some-clause-none
returns-in-Some-clause-none g c =
    let named : is_some c.self.inside.headers ≡ true = rw (← c.self.view_is) at c.requires in
    let there : is_some c.header_of.result ≡ true =
    header_there c.header_of.result (header_texts c.self.inside.headers) c.in-Some.first c.header_of.ensures
    (named_texts c.self.inside.headers named)
    (within_header (header_texts c.self.inside.headers) c.self.inside.cells.now c.self.inside.column_indexes.now c.in-Some.first
    (λ n h. (c.in-Some.ensures.within n h).0) c.self.invariant) in
    rw (← c.self.view_is, c.in-Some.ensures.filled (header_texts c.self.inside.headers)) (λ e. cc, λ e. cc)

pub returns-in-Some-clause-key : goal.returns-in-Some-clause-key
returns-in-Some-clause-key g c =
    rw (← c.self.view_is, c.in-Some.ensures.filled (header_texts c.self.inside.headers)) c.header_of.ensures
