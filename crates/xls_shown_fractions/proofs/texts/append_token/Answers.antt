use Rattle.std.proofs.Common.{rules, ◌≡◌, ◌++◌, length, drop, ap, sym, ◌∙◌}
use Rattle.std.specs.Str.{chars}
use Rattle.std.specs.String.{string_bytes}
use Rattle.xls_bytes.proofs.GrownLemmas.{IsGrown-split, IsGrown-take}
use Rattle.std.proofs.lemmas.List.{drop_at}
use Rattle.std.proofs.lemmas.Result.{on_ok_weaker}
use Rattle.std.proofs.lemmas.Str.{IsUtf8-string_bytes}
use Rattle.xls_shown_fractions.specs.Roles.{role_of}
use Rattle.xls_shown_fractions.specs.Texts.{inked, ink_of}
use Rattle.xls_shown_fractions.proofs.TextLemmas.{gained}
use Rattle.xls_shown_fractions.proofs.texts.append_token.Goals as goal

pub split_off-requires : goal.split_off-requires
split_off-requires c = IsGrown-split _ _ _ c.append_item.ensures.grown (search rules)

pub returns-clause-ok : goal.returns-clause-ok
returns-clause-ok c =
    let before = string_bytes c.args.text.now in
    let grown = c.append_item.ensures.grown in
    let len : c.len-before.result ≡ length before = search rules in
    let old : string_bytes c.split_off.new.self ≡ before = c.in_ok-piece.ensures.bytes ∙ IsGrown-take _ _ _ grown len in
    let piece : c.deref.result.now ≡ grown.0 = c.deref.ensures ∙ c.in_ok-piece.ensures.tail ∙ ap (drop c.len-before.result) grown.2 ∙ drop_at before grown.0 c.len-before.result (sym len) in
    let shown = ap chars piece ∙ gained before grown.0 _ _ (IsUtf8-string_bytes c.args.text.now) grown.2 c.in_ok-append_item.ensures.ok in
    let ink = c.ink_of-ink.ensures ∙ ap (ink_of c.args.look) c.role_of.ensures in
    on_ok_weaker c.append_inked.result (λ e. e ∙ ap (λ t. chars t ++ inked c.ink_of-ink.result (chars c.deref.result.now)) old
    ∙ ap (λ i. chars before ++ inked i (chars c.deref.result.now)) ink ∙ ap (λ t. chars before ++ inked (ink_of c.args.look (role_of c.args.fraction.now.whole c.args.spot c.args.item)) t) shown)
    c.append_inked.ensures.ok
