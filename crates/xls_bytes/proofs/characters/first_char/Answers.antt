use Rattle.std.proofs.Common.{rules, ◌≡◌, ◌++◌, ap, sym, ◌∙◌}
use Rattle.std.specs.Char.{encode_utf8}
use Rattle.std.proofs.lemmas.Str.{chars_past_char}
use Rattle.xls_bytes.proofs.CharacterLemmas.{shorter}
use Rattle.xls_bytes.proofs.characters.first_char.Goals as goal

pub returns-clause-exact : goal.returns-clause-exact
returns-clause-exact c =
    let prefix : c.args.text.now ≡ encode_utf8 c.in_ok-c.c ++ c.as_str.result.now = sym c.chars-left.ensures.rest ∙ c.in_ok-c.ensures.steps.0 ∙ ap (λ r. encode_utf8 c.in_ok-c.c ++ r) (sym c.as_str.ensures) in
    chars_past_char _ _ _ (search rules) prefix

pub returns-clause-shorter : goal.returns-clause-shorter
returns-clause-shorter c =
    let prefix : c.args.text.now ≡ encode_utf8 c.in_ok-c.c ++ c.as_str.result.now = sym c.chars-left.ensures.rest ∙ c.in_ok-c.ensures.steps.0 ∙ ap (λ r. encode_utf8 c.in_ok-c.c ++ r) (sym c.as_str.ensures) in
    shorter _ _ _ prefix

pub returns-clause-whole : goal.returns-clause-whole
returns-clause-whole c = sym c.chars-left.ensures.rest ∙ c.in_ok-c.ensures.steps.0 ∙ ap (λ r. encode_utf8 c.in_ok-c.c ++ r) (sym c.as_str.ensures)
