use Rattle.std.proofs.Common.{◌∙◌, ap}
use Rattle.std.specs.Str.{bytes_eq}
use Rattle.std.proofs.lemmas.Str.{IsUtf8-string_bytes}
use Rattle.xls_view.proofs.NameLemmas.{same_text}
use Rattle.xls_answers.proofs.tables.is_named.Goals as goal

pub returns : goal.returns
returns c =
    let name = c.args.name.now in
    c.eq.ensures ∙ ap (λ text. bytes_eq text name) c.as_str.ensures.value
    ∙ same_text _ name (IsUtf8-string_bytes c.args.sheet.now.name) c.utf8.name
