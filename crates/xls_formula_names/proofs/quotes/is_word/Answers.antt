use Rattle.std.proofs.Common.{drop, sym, ap, ◌∙◌}
use Rattle.xls_formula_names.specs.Quotes.{is_word}
use Rattle.xls_formula_names.proofs.QuoteLemmas.{word_before_end}
use Rattle.xls_formula_names.proofs.quotes.is_word.Goals as goal

pub returns-in-None : goal.returns-in-None
returns-in-None c =
    sym (word_before_end c.args.word.now c.word.letter-index c.word-test.true)
    ∙ sym (ap (λ cs. is_word (drop c.word.letter-index c.args.word.now) cs) c.in-None.ensures.exact) ∙ c.word.invariant.word
