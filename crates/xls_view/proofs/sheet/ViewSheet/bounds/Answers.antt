use Rattle.std.proofs.Common.{sym, ap, ◌∙◌}
use Rattle.xls_range.specs.Bounds.{bounds_of}
use Rattle.xls_view.specs.SheetContents.{cells_after, kept_in}
use Rattle.xls_view.specs.Displayed.{DisplayedSheet}
use Rattle.xls_view.proofs.BoundsLemmas.{bounds_settled}
use Rattle.xls_view.proofs.sheet.ViewSheet.bounds.Goals as goal

pub returns : goal.returns
returns c =
    let s = c.self.inside in
    let found = c.self.invariant.1.cells in
    c.bounds.ensures ∙ rw (sym c.cells.ensures) at found.bounds
    ∙ sym (bounds_settled (cells_after s.settings (0, 0) (kept_in s.part.now 0)))
    ∙ ap (λ (x : DisplayedSheet). bounds_of x.cells) c.self.view_is
