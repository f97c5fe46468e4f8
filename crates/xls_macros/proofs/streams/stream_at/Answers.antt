use Rattle.std.proofs.Common.{rules, sym, ◌∙◌, map}
use Rattle.xls_macros.specs.Streams.{RefusesStreamAt}
use Rattle.xls_macros.proofs.StreamLemmas.{stream_item}
use Rattle.xls_macros.proofs.streams.stream_at.Goals as goal

pub returns-in_err-bytes-clause-err : goal.returns-in_err-bytes-clause-err
returns-in_err-bytes-clause-err c =
    let found = stream_item c.args.compound.now (map (λ x. x.now) c.args.path.now) c.in-Some.entry (sym c.find.ensures ∙ c.in-Some.is)
    (λ item is. sym c.if-not-is_stream.false ∙ c.is_stream.ensures item is) in
    let cause : RefusesStreamAt c.args.compound.now (map (λ x. x.now) c.args.path.now) c.in_err-bytes.field-0.0 =
    (found.0, found.1, c.in_err-bytes.ensures.err found.0 found.2) in
    search rules

pub returns-clause-ok : goal.returns-clause-ok
returns-clause-ok c =
    let found = stream_item c.args.compound.now (map (λ x. x.now) c.args.path.now) c.in-Some.entry (sym c.find.ensures ∙ c.in-Some.is)
    (λ item is. sym c.if-not-is_stream.false ∙ c.is_stream.ensures item is) in
    (found.0, found.1, c.in_ok-bytes.ensures.ok found.0 found.2)
