use Rattle.std.proofs.Common.{◌++◌, [], refl, sym, ap, ◌∙◌, Option}
use Rattle.std.specs.Prelude.{unwrap_or}
use Rattle.xls_biff.specs.Cells.{Position}
use Rattle.xls_biff.specs.SheetTable.{SheetRecord}
use Rattle.xls_biff.specs.Walking.{group_of}
use Rattle.xls_stream.specs.Listing.{kept_group}
use Rattle.xls_meaning.specs.SheetTable.{adds}
use Rattle.xls_view.specs.SheetContents.{cells_after, kept_in, regions_at, regions_of}
use Rattle.xls_view.specs.Formulas.{formula_of, formulas_kept}
use Rattle.xls_view.specs.Surveying.{formula_listed}
use Rattle.xls_view.proofs.ContentLemmas.{cells_next, cut_sound, formulas_next, line_next, over_sound, regions_next, sound_next}
use Rattle.xls_view.proofs.PlaceLemmas.{same_ok}
use Rattle.xls_view.proofs.SurveyLemmas.{more_done, survey_done}
use Rattle.xls_view.proofs.survey.survey_of.Goals as goal

pub loop-item-init : goal.loop-item-init
loop-item-init c =
    let begins = c.into_iter-item-iterator.ensures.into_iter_gives ∙ c.new-item-items.ensures in
    rw begins (tt, tt, c.requires, [], [], [], record { cells = c.none-cells.ensures; formulas = c.new-formulas.ensures; merges = λ e. refl }, refl, refl, refl)

pub returns-in-Err : goal.returns-in-Err
returns-in-Err c =
    let l = c.loop-item in
    let s = c.args.settings.now in
    let i = l.invariant in
    let steps = rw c.in-Err.is at c.in-Some.ensures.steps in
    rw c.surveyed.ensures (survey_done (record { cells = l.passed.cells; formulas = l.formulas; merges = l.passed.merges }) s l.last (kept_in l.item-iterator.0 l.item-iterator.1) i.3 _ i.4 _ i.5 _ i.6 i.7 i.8 i.9
    (cut_sound s l.item-iterator c.in-Err.field-0 i.2 steps.0))

pub loop-item-preserved : goal.loop-item-preserved
loop-item-preserved c =
    let l = c.loop-item in
    let s = c.args.settings.now in
    let i = l.invariant in
    let steps = rw c.in-Ok.is at c.in-Some.ensures.steps in
    let g = group_of c.in-Ok.record in
    let k = kept_group g in
    let before = l.item-iterator in
    let after = c.next.new.self in
    let line = line_next s before g after i.2 steps in
    let cells = (adds s.formulas l.last line.0).cells in
    let next = cells_next s before g after i.2 steps l.last c.unwrap_or-last.result cells
    (λ x e. ap (λ (y : SheetRecord). (adds s.formulas l.last y).cells) (same_ok line.0 x (sym line.1 ∙ e)))
    (λ x e. c.unwrap_or-last.ensures ∙ ap (λ (o : Option Position). unwrap_or o l.last) (c.formula_position.ensures s.cells x e)) in (
      tt,
      tt,
      sound_next s before g after i.2 steps,
      i.3 ++ cells,
      i.4 ++ formula_listed k,
      i.5 ++ regions_at k,
      c.pass-passed.ensures i.3 i.4 i.5 line.0 line.1 i.6,
      more_done i.3 cells (cells_after s c.unwrap_or-last.result (kept_in after.0 after.1)) _ _ i.7 next,
      more_done i.4 (formula_listed k) (formulas_kept (kept_in after.0 after.1)) _ _ i.8 (formulas_next before g after i.2.0 steps (formula_of k) refl),
      more_done i.5 (regions_at k) (regions_of (kept_in after.0 after.1)) _ _ i.9 (regions_next before g after i.2.0 steps (regions_at k) refl),
    )

pub returns : goal.returns
returns c =
    let l = c.loop-item in
    let s = c.args.settings.now in
    let i = l.invariant in
    rw c.surveyed-2.ensures (survey_done (record { cells = l.passed.cells; formulas = l.formulas; merges = l.passed.merges }) s l.last (kept_in l.item-iterator.0 l.item-iterator.1) i.3 _ i.4 _ i.5 _ i.6 i.7 i.8 i.9
    (over_sound s l.item-iterator i.2 c.in-None.ensures.steps.0))
