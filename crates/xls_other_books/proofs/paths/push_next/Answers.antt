use Rattle.std.proofs.Common.{sym, ap, ◌∙◌, ◌++◌, append-nil}
use Rattle.std.specs.Str.{chars}
use Rattle.std.proofs.lemmas.Str.{chars-nil}
use Rattle.xls_strings.specs.Texts.{text_of}
use Rattle.xls_other_books.specs.Paths.{decoded}
use Rattle.xls_other_books.proofs.PathLemmas.{went_on, decoded_5}
use Rattle.xls_other_books.proofs.paths.push_next.Goals as goal

pub returns-in_ok-push_text-in-5-clause-step : goal.returns-in_ok-push_text-in-5-clause-step
returns-in_ok-push_text-in-5-clause-step c =
    let more = chars c.skip_char.result.now in
    record {
      same = went_on (text_of c.args.out.now) (text_of c.push_text.new.out) more _ _ c.in_ok-push_text-in-5.ensures
          (ap (λ xs. more ++ decoded xs) chars-nil ∙ append-nil more ∙ c.skip_char.ensures ∙ sym (decoded_5 c.args.c (chars c.args.rest.now) c.in-5.is));
    }
