use Rattle.std.proofs.Common.{List, map, subst, sym, ap, ◌∙◌}
use Rattle.xls_range.specs.Bounds.{bounds_of}
use Rattle.xls_range.specs.Positions.{IsAscending}
use Rattle.xls_biff.specs.Cells.{CellEntry}
use Rattle.xls_view.specs.Formats.{FormattedCell, formatted_after, no_formula, plain}
use Rattle.xls_view.specs.SheetContents.{kept_in}
use Rattle.xls_view.proofs.BoundsLemmas.{bounds_settled}
use Rattle.xls_view.proofs.FormatLemmas.{bounds_plain, plain_after, plain_by}
use Rattle.xls_view.proofs.SettledLemmas.{ascending_settled}
use Rattle.xls_view.proofs.formatted.FormattedSheet.new.Goals as goal

pub invariant_of-result : goal.invariant_of-result
invariant_of-result c =
    let kept = kept_in c.args.part.now 0 in
    let cells = formatted_after c.args.settings no_formula kept in (
      c.requires.sound,
      c.bounds.ensures ∙ c.requires.found.bounds
          ∙ ap (λ (es : List CellEntry). bounds_of es) (sym (plain_after c.args.settings no_formula kept))
          ∙ sym (bounds_plain cells)
          ∙ sym (bounds_settled cells)
          ∙ ap (λ (es : List FormattedCell). bounds_of es) (sym c.in_ok-sorted.ensures),
    )

pub returns-clause-plain : goal.returns-clause-plain
returns-clause-plain c = ap (map plain) c.in_ok-sorted.ensures ∙ plain_by c.args.settings (kept_in c.args.part.now 0)

pub returns-clause-ordered : goal.returns-clause-ordered
returns-clause-ordered c =
    subst (λ (es : List FormattedCell). IsAscending (map (λ (e : FormattedCell). e.0) es)) (sym c.in_ok-sorted.ensures)
    (ascending_settled (formatted_after c.args.settings no_formula (kept_in c.args.part.now 0)))
