use Rattle.std.specs.Str.{chars}
use Rattle.std.specs.String.{string_bytes}
use Rattle.xls_formula_names.proofs.PathLemmas.{whole_text}
use Rattle.xls_formula_names.proofs.paths.text_after.Goals as goal

pub returns : goal.returns
returns c =
    whole_text (string_bytes c.new-text.result) (string_bytes c.append_start.new.out) _ c.args.start c.is_literal.result (chars c.args.rest.now)
    c.new-text.ensures.bytes c.is_literal.ensures c.in_ok-append_start.ensures c.in_ok-append_spelled.ensures
