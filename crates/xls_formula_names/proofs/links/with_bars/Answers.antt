use Rattle.std.proofs.Common.{◌++◌, ◌∷◌, [], ap, rules, map, encode_utf8, ◌∙◌}
use Rattle.std.specs.Char.{IsScalar}
use Rattle.std.specs.Str.{chars}
use Rattle.std.specs.String.{string_bytes}
use Rattle.std.proofs.lemmas.Str.{IsUtf8-string_bytes, chars-nil}
use Rattle.xls_formula_names.specs.Links.{barred_one}
use Rattle.xls_formula_names.proofs.AppendLemmas.{char_text, chars_more, left_more}
use Rattle.xls_formula_names.proofs.links.with_bars.Goals as goal

pub characters-init : goal.characters-init
characters-init c = record {
  left_text = search rules;
  so_far = ap (λ xs. chars xs ++ map barred_one (chars c.args.topic.now)) c.new-text.ensures.bytes ∙ ap (λ xs. xs ++ map barred_one (chars c.args.topic.now)) chars-nil;
}

pub characters-preserved : goal.characters-preserved
characters-preserved c =
    let scalar : IsScalar c.barred_one.result = search rules in
    let one = char_text c.barred_one.result scalar ∙ ap (λ x. x ∷ []) c.barred_one.ensures in
    let text = chars_more (string_bytes c.characters.text) (encode_utf8 c.barred_one.result) (string_bytes c.push.new.self) (barred_one c.in-Some.c ∷ []) (IsUtf8-string_bytes c.characters.text) c.in_ok-push.ensures.bytes one in
    record {
      left_text = search rules;
      so_far = left_more (chars (string_bytes c.characters.text)) _ _ (barred_one c.in-Some.c ∷ []) (map barred_one (chars c.in-Some.rest.now)) (map barred_one (chars c.characters.left.now))
          (ap (map barred_one) c.in-Some.ensures.exact) text c.characters.invariant.so_far;
    }
