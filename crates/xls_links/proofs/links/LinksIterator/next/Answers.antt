use Rattle.std.proofs.Common.{rules, sym, ap, ◌∙◌}
use Rattle.xls_links.specs.Links.{links_in}
use Rattle.xls_links.proofs.LinkLemmas.{no_records, one_item_fewer}
use Rattle.xls_links.proofs.links.LinksIterator.next.Goals as goal

pub returns-in-Err-clause-steps : goal.returns-in-Err-clause-steps
returns-in-Err-clause-steps c =
    let s = c.self.inside in
    (_, _, sym c.self.view_is ∙ c.in-Some.ensures s.page, ap (links_in s.page) (c.new-self-inside.ensures ∙ c.new.ensures ∙ no_records))

pub returns-in-Err-clause-goes : goal.returns-in-Err-clause-goes
returns-in-Err-clause-goes c =
    let steps = returns-in-Err-clause-steps c in
    let none = steps.3 in
    let fewer = one_item_fewer _ _ _ steps.2 in
    search rules
