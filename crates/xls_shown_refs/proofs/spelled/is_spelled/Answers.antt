use Rattle.std.proofs.Common.{◌∙◌, ap, sym, refl}
use Rattle.xls_shown_refs.specs.Counts.{is_one}
use Rattle.xls_shown_refs.specs.Spelled.{nowhere}
use Rattle.xls_shown_refs.proofs.SpelledLemmas.{spelled_is}
use Rattle.xls_shown_refs.proofs.spelled.is_spelled.Goals as goal

pub returns-in_default : goal.returns-in_default
returns-in_default c = sym (spelled_is (nowhere c.args.biff) refl c.args.tokens.now c.args.extra.now ∙ ap is_one c.in_default.ensures)

pub returns : goal.returns
returns c = sym (spelled_is (nowhere c.args.biff) refl c.args.tokens.now c.args.extra.now ∙ ap is_one c.in-Ok.ensures)
