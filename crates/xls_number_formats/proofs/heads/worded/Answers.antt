use Rattle.std.proofs.Common.{◌≡◌, ◌∷◌, ◌+◌, ◌-◌, take, drop, ap, subst, ◌∙◌, arith}
use Rattle.std.specs.Str.{chars}
use Rattle.xls_number_formats.specs.Grammar.{worded_head}
use Rattle.xls_number_formats.specs.Cuts.{IsCut}
use Rattle.xls_number_formats.proofs.heads.worded.Goals as goal

pub returns-in-Some : goal.returns-in-Some
returns-in-Some c =
    let cs = chars c.args.rest.now in
    let more : c.in-Some.more + 1 - 1 ≡ c.in-Some.more = omega arith in
    subst (λ o. IsCut (worded_head o c.args.c cs) cs c.front.result) c.in-Some.ensures.exact (record {
      item = c.front.ensures.item;
      text = c.front.ensures.text _ _ c.requires ∙ ap (λ n. c.args.c ∷ take n cs) more;
      rest = c.front.ensures.rest _ _ c.requires ∙ ap (λ n. drop n cs) more;
    })
