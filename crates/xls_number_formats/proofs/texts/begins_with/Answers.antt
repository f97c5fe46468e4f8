use Rattle.std.proofs.Common.{drop, sym, ap, ◌∙◌}
use Rattle.std.specs.Float.Parse.{begins_with}
use Rattle.xls_number_formats.proofs.TextLemmas.{begins_nothing}
use Rattle.xls_number_formats.proofs.texts.begins_with.Goals as goal

pub returns-in-None : goal.returns-in-None
returns-in-None c =
    sym (begins_nothing c.args.word.now c.word.letter-index c.word-test.true)
    ∙ sym (ap (λ cs. begins_with cs (drop c.word.letter-index c.args.word.now)) c.in-None.ensures.exact) ∙ c.word.invariant.word
