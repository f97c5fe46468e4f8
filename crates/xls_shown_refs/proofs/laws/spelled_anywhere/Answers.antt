use Rattle.std.proofs.Common.{◌∙◌, refl, sym}
use Rattle.xls_shown_refs.specs.Spelled.{nowhere}
use Rattle.xls_shown_refs.proofs.SpelledLemmas.{spelled_is}
use Rattle.xls_shown_refs.proofs.laws.spelled_anywhere.Goals as goal

pub returns : goal.returns
returns c = λ scope tokens extra all. spelled_is scope all tokens extra ∙ sym (spelled_is (nowhere scope.biff) refl tokens extra)
