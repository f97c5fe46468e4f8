use Rattle.std.proofs.Common.{sym, ap, ◌∙◌}
use Rattle.xls_view.specs.SheetContents.{regions_of}
use Rattle.xls_view.specs.Displayed.{DisplayedSheet}
use Rattle.xls_view.proofs.WalkLemmas.{kept_nothing}
use Rattle.xls_view.proofs.sheet.ViewSheet.merges.Goals as goal

-- no records have no regions, as the part
pub returns : goal.returns
returns c =
    let none = c.self.invariant.1.merges (c.has_merges.ensures c.if-has_merges.false) in
    c.new-2.ensures ∙ ap regions_of (kept_nothing 0) ∙ sym none ∙ ap (λ (x : DisplayedSheet). x.merges) c.self.view_is
