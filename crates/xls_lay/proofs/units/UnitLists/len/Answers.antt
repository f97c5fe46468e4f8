use Rattle.std.proofs.Common.{rules, ◌≡◌, ◌∙◌, sym, ap, length}
use Rattle.xls_lay.proofs.InsideLemmas.{length-parts}
use Rattle.xls_lay.proofs.units.UnitLists.len.Goals as goal

pub returns : goal.returns
returns c =
    let e = length-parts c.self.inside.sizes.items c.self.inside.units.items in
    let v = ap length c.self.view_is in
    let n : c.len.result ≡ length c.self.inside.sizes.items = search rules in
    n ∙ sym e ∙ v
