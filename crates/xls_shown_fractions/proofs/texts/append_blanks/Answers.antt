use Rattle.std.proofs.Common.{rules, ◌++◌, ap, ◌∙◌}
use Rattle.std.specs.Str.{chars}
use Rattle.std.specs.String.{string_bytes}
use Rattle.xls_bytes.proofs.GrownLemmas.{IsGrown-trans}
use Rattle.xls_shown_fractions.proofs.TextLemmas.{one_blank, blanks_more}
use Rattle.xls_shown_fractions.proofs.texts.append_blanks.Goals as goal

pub returns-in_err-push_own-clause-grown : goal.returns-in_err-push_own-clause-grown
returns-in_err-push_own-clause-grown c = IsGrown-trans _ _ _ c.blanks.invariant.grown c.push_own.ensures.grown

pub blanks-preserved : goal.blanks-preserved
blanks-preserved c = record {
  shown = blanks_more _ (chars (string_bytes c.blanks.text)) _ _ _ _ c.in-Some.ensures.exact (c.in_ok-push_own.ensures.ok ∙ ap (λ t. chars (string_bytes c.blanks.text) ++ t) one_blank) c.blanks.invariant.shown;
  grown = IsGrown-trans _ _ _ c.blanks.invariant.grown c.push_own.ensures.grown;
  utf8 = search rules;
}
