use Rattle.std.specs.String.{string_bytes}
use Rattle.std.proofs.Common.{map, ◌∙◌}
use Rattle.xls_words.proofs.RequestLemmas.{named_behind, plain_behind}
use Rattle.xls_words.proofs.parse.request_of.Goals as goal

pub returns-in-Some-of-clause-out : goal.returns-in-Some-of-clause-out
returns-in-Some-of-clause-out c =
    rw c.in-Some.ensures.cases.0 (named_behind (string_bytes c.in-Some.first.now) (map string_bytes c.in-Some.others.now) c.request_for.result c.request_for.ensures.out)

pub returns-in-Some-of-clause-plain : goal.returns-in-Some-of-clause-plain
returns-in-Some-of-clause-plain c =
    rw c.in-Some.ensures.cases.0 (plain_behind c.in-Some-of.word (string_bytes c.in-Some.first.now) (map string_bytes c.in-Some.others.now) c.request_for.result (c.in-Some-of.ensures ∙ c.as_str.ensures.value) c.request_for.ensures.plain)
