use Rattle.std.proofs.Common.{◌∙◌, rules}
use Rattle.std.specs.Str.{chars}
use Rattle.xls_other_books.proofs.BookLemmas.{same_text}
use Rattle.xls_formula_shown.proofs.leaves.is_gone.Goals as goal

pub returns : goal.returns
unfolding chars
returns c = c.eq.ensures ∙ same_text c.args.sheets.now _ (search rules) (search rules)
