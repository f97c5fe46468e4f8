use Rattle.std.proofs.Common.{◌≡◌, ◌∷◌, ◌-◌, length, take, drop, ap, subst, ◌∙◌, arith, Some}
use Rattle.std.specs.Char.{to_ascii_lowercase}
use Rattle.std.specs.Str.{chars}
use Rattle.xls_number_formats.specs.Grammar.{letter_of, lettered_head, run_of}
use Rattle.xls_number_formats.specs.Cuts.{IsCut}
use Rattle.xls_number_formats.proofs.HeadLemmas.{take_run, run_len_first}
use Rattle.xls_number_formats.proofs.heads.lettered.Goals as goal

pub returns-in-Some : goal.returns-in-Some
returns-in-Some c =
    let lower = c.to_ascii_lowercase-lower.ensures.value in
    let cs = chars c.args.rest.now in
    let found : Some c.in-Some.letter ≡ letter_of (to_ascii_lowercase c.args.c) = c.in-Some.ensures ∙ ap letter_of lower in
    let run = c.run_len.ensures ∙ ap (λ x. length (run_of x (chars c.args.code.now))) lower in
    let more : c.run_len.result - 1 ≡ length (run_of (to_ascii_lowercase c.args.c) cs) =
    ap (λ n. n - 1) (run_len_first c.args.c _ _ _ c.requires run) ∙ omega arith in
    subst (λ o. IsCut (lettered_head o c.args.c cs) cs c.front.result) found (record {
      item = c.front.ensures.item;
      text = c.front.ensures.text _ _ c.requires ∙ ap (λ n. c.args.c ∷ take n cs) more ∙ ap (λ xs. c.args.c ∷ xs) (take_run _ cs);
      rest = c.front.ensures.rest _ _ c.requires ∙ ap (λ n. drop n cs) more;
    })
