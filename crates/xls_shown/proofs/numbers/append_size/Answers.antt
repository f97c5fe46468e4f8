use Rattle.std.specs.String.{string_bytes}
use Rattle.std.proofs.lemmas.Result.{on_ok_weaker}
use Rattle.std.proofs.lemmas.Str.{IsUtf8-string_bytes}
use Rattle.xls_rounding.specs.Rounding.{decimal_of}
use Rattle.xls_shown.proofs.GeneralLemmas.{general_ascii}
use Rattle.xls_shown.proofs.TextLemmas.{grown_of, ascii_more}
use Rattle.xls_shown.proofs.numbers.append_size.Goals as goal

pub returns-clause-ok : goal.returns-clause-ok
returns-clause-ok c =
    on_ok_weaker c.push_general_double.result (λ e. ascii_more (string_bytes c.args.text.now) (string_bytes c.push_general_double.new.text) _
    (IsUtf8-string_bytes c.args.text.now) (general_ascii (decimal_of c.args.bits)) e) c.push_general_double.ensures.ok

pub returns-clause-grown : goal.returns-clause-grown
returns-clause-grown c =
    grown_of c.push_general_double.result _ _ _ (IsUtf8-string_bytes c.args.text.now) (IsUtf8-string_bytes c.push_general_double.new.text)
    (returns-clause-ok c) c.push_general_double.ensures.err
