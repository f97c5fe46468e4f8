use Rattle.std.proofs.Common.{ℕ, sym, subst, ap, ◌∙◌, Result}
use Rattle.xls_links.specs.declared.damage.Flaw.{Flaw}
use Rattle.xls_links.specs.Splitting.{Gives}
use Rattle.xls_links.specs.Links.{Parts, flags_of, parts_at}
use Rattle.xls_links.specs.Walking.{parts_given}
use Rattle.xls_links.proofs.LinkLemmas.{parts_whole}
use Rattle.xls_links.proofs.links.parts_of.Goals as goal

pub returns-clause-exact : goal.returns-clause-exact
returns-clause-exact c =
    let page = c.args.page in
    let body = c.args.body.now in
    let same = ap (λ (n : ℕ). parts_at page n c.split_at.result.1.now) c.flags_of.ensures ∙ ap (parts_at page (flags_of body)) c.split_at.ensures.back in
    subst (λ (r : Result Parts Flaw). Gives parts_given c.parts_at.result r) (same ∙ sym (parts_whole page body c.if-body-lt32.false)) c.parts_at.ensures
