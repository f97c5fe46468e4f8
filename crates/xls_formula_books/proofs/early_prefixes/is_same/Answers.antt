use Rattle.std.proofs.Common.{◌∙◌, rules}
use Rattle.xls_other_books.proofs.BookLemmas.{same_text}
use Rattle.xls_formula_books.proofs.early_prefixes.is_same.Goals as goal

pub returns : goal.returns
returns c = c.eq.ensures ∙ same_text c.args.a.now c.args.b.now (search rules) (search rules)
