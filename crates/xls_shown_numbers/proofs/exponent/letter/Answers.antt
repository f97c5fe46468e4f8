use Rattle.std.proofs.Common.{rules, ◌≡◌, ◌++◌, take, refl, ap, ◌∙◌}
use Rattle.std.specs.Str.{chars}
use Rattle.xls_bytes.proofs.CharacterLemmas.{seam, front_chars}
use Rattle.xls_shown_numbers.proofs.exponent.letter.Goals as goal

pub split_at-requires : goal.split_at-requires
split_at-requires c = seam _ _ (_, c.in-Some.ensures.whole) (search rules)

pub returns-in-Some : goal.returns-in-Some
returns-in-Some c =
    let cs = chars c.args.own.now in
    let whole : take 1 cs ++ chars c.in-Some.rest.now ≡ cs = rw c.in-Some.ensures.exact refl in
    ap chars c.split_at.ensures.front ∙ front_chars _ _ (take 1 cs) (_, c.in-Some.ensures.whole) c.utf8.own (search rules) whole
