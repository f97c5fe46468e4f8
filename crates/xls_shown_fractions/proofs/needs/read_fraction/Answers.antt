use Rattle.std.proofs.Common.{ap, ◌∙◌}
use Rattle.xls_shown_fractions.specs.Needs.{needs_in}
use Rattle.xls_shown_fractions.specs.Scans.{scan_of, needs_by}
use Rattle.xls_shown_fractions.proofs.RoleLemmas.{needs_is}
use Rattle.xls_shown_fractions.proofs.needs.read_fraction.Goals as goal

pub returns : goal.returns
returns c =
    let ts = c.args.section.now in
    let all = c.spot_all-all.result in
    c.needs_by.ensures ∙ ap (λ s. needs_by all c.saturating_sub-whole.result s) c.scan_all.ensures ∙ ap (λ w. needs_by all w (scan_of w ts)) c.saturating_sub-whole.ensures
    ∙ needs_is all ts ∙ ap (λ a. needs_in a ts) c.spot_all-all.ensures
