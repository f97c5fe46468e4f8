use Rattle.std.proofs.Common.{sym, subst}
use Rattle.std.specs.Prelude.{IfSome, ◌≤◌, ◌^◌}
use Rattle.xls_shown_fractions.proofs.RoleLemmas.{fixed_small}
use Rattle.xls_shown_fractions.proofs.texts.append_fraction.Goals as goal

pub ratio_of-ratio-requires-clause-fixed : goal.ratio_of-ratio-requires-clause-fixed
ratio_of-ratio-requires-clause-fixed c = subst (λ f. IfSome f.fixed (λ d. d ≤ 2 ^ 53)) (sym c.requires.fraction) (fixed_small c.args.section.now)
