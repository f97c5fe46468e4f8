use Rattle.std.proofs.Common.{rules, sym, ◌∙◌}
use Rattle.xls_documents.proofs.FoundLemmas.{stream_item, stream_refused}
use Rattle.xls_documents.proofs.property_streams.stream_named.Goals as goal

pub returns-in_err-bytes-clause-err : goal.returns-in_err-bytes-clause-err
returns-in_err-bytes-clause-err c =
    let found = stream_item c.args.compound.now c.args.name.now c.in-Some.entry (sym c.find.ensures ∙ c.in-Some.is)
    (λ item is. sym c.if-not-is_stream.false ∙ c.is_stream.ensures item is) in
    let cause = stream_refused c.args.compound.now c.args.name.now found.0 found.1 c.in_err-bytes.field-0.0 (c.in_err-bytes.ensures.err found.0 found.2) in
    search rules

pub returns-clause-ok : goal.returns-clause-ok
returns-clause-ok c =
    let found = stream_item c.args.compound.now c.args.name.now c.in-Some.entry (sym c.find.ensures ∙ c.in-Some.is)
    (λ item is. sym c.if-not-is_stream.false ∙ c.is_stream.ensures item is) in
    (found.0, found.1, c.in_ok-bytes.ensures.ok found.0 found.2)
