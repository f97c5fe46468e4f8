use Rattle.std.proofs.Common.{ap, sym, ◌∙◌}
use Rattle.xls_listing.specs.Listing.{displayed_at}
use Rattle.xls_listing.proofs.RefLemmas.{cited_lines}
use Rattle.xls_output.proofs.EachLemmas.{each-as, each-none, puts-memory}
use Rattle.xls_listing.proofs.refs.put_refs_at.Goals as goal

pub returns-in_err-cites : goal.returns-in_err-cites
returns-in_err-cites g c = puts-memory (g.F.LineForm.is_text c.args.form.now) _ _ _ _ _ c.from_residual.result c.from_residual.ensures.1

pub returns-in-None : goal.returns-in-None
returns-in-None g c =
    each-as (each-none (g.F.LineForm.is_text c.args.form.now) _)
    (ap (displayed_at (cited_lines c.args.view.now.context.sheets)) (sym c.in-None.is ∙ c.in_ok-cites.ensures))
