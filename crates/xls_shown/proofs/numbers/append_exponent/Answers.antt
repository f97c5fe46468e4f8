use Rattle.std.proofs.lemmas.Str.{IsUtf8-string_bytes}
use Rattle.xls_bytes.proofs.GrownLemmas.{IsGrown-trans}
use Rattle.xls_shown.proofs.TextLemmas.{grown_of}
use Rattle.xls_shown.proofs.numbers.append_exponent.Goals as goal

pub returns-clause-grown : goal.returns-clause-grown
returns-clause-grown c =
    IsGrown-trans _ _ _ c.append_sign.ensures.grown
    (grown_of c.push_exponent.result _ _ _ (IsUtf8-string_bytes c.append_sign.new.text) (IsUtf8-string_bytes c.push_exponent.new.text) c.push_exponent.ensures.ok c.push_exponent.ensures.err)
