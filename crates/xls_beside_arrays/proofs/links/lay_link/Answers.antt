use Rattle.std.proofs.lemmas.Result.{on_ok_weaker}
use Rattle.xls_beside_arrays.proofs.LaidLemmas.{lays-four}
use Rattle.xls_beside_arrays.proofs.links.lay_link.Goals as goal
use Rattle.xls_beside_arrays.specs.Links.{cells_of, link_item}

pub returns-clause-ok : goal.returns-clause-ok
returns-clause-ok c =
    on_ok_weaker c.lay_item.result
    (lays-four (link_item (cells_of c.args.link.now) c.args.link.now.kind) c.in_ok-target.ensures.ok c.in_ok-place.ensures.ok
    c.in_ok-shown.ensures.ok c.in_ok-tip.ensures.ok c.link_item.ensures)
    c.lay_item.ensures.ok
