use Rattle.std.proofs.Common.{ap, sym, ◌∷◌, [], ◌∙◌}
use Rattle.std.specs.Option.{option_map}
use Rattle.xls_refs.specs.Views.{lent_citation_of}
use Rattle.xls_listing.specs.Listing.{displayed_at, ref_line}
use Rattle.xls_output.proofs.EachLemmas.{each-as, each-none}
use Rattle.xls_listing.proofs.refs.put_cite_at.Goals as goal

pub returns-in-None : goal.returns-in-None
returns-in-None g c =
    each-as (each-none (g.F.LineForm.is_text c.args.form.now) _)
    (ap (displayed_at (λ x. ref_line c.args.names.now x ∷ [])) (ap (option_map lent_citation_of) (sym c.in-None.is) ∙ c.get.ensures))
