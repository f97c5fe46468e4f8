use Rattle.std.proofs.Common.{◌++◌, [], List, map, refl, sym, ap, ◌∙◌, append_assoc}
use Rattle.std.proofs.lemmas.List.{append-nil}
use Rattle.xls_biff.specs.SheetTable.{SheetRecord}
use Rattle.xls_biff.specs.Walking.{group_of}
use Rattle.xls_stream.specs.Listing.{kept_group}
use Rattle.xls_meaning.specs.SheetTable.{adds}
use Rattle.xls_view.specs.SheetContents.{kept_in}
use Rattle.xls_view.specs.Formats.{FormattedCell, formatted_after, last_formula, with_formats, xf_in}
use Rattle.xls_view.specs.Placed.{cell_placed}
use Rattle.xls_view.proofs.ContentLemmas.{formatted_next, cut_sound, line_next, no_formatted, over_sound, sound_next}
use Rattle.xls_view.proofs.PlaceLemmas.{same_ok, tail_after, tail_bytes, tail_record, tail_tail}
use Rattle.xls_view.proofs.formatted.places_of.Goals as goal

pub loop-item-init : goal.loop-item-init
loop-item-init c =
    let begins = c.into_iter-item-iterator.ensures.into_iter_gives ∙ c.new-item-items.ensures in
    rw (begins, c.in_ok-places.ensures, c.none-last.ensures) (tt, tt, c.requires, ([], refl), refl)

pub returns-in-Err : goal.returns-in-Err
returns-in-Err c =
    let l = c.loop-item in
    let s = c.args.settings.now in
    let steps = rw c.in-Err.is at c.in-Some.ensures.steps in
    let none = no_formatted s l.item-iterator (last_formula l.last) (cut_sound s l.item-iterator c.in-Err.field-0 l.invariant.2 steps.0) in
    sym (l.invariant.4 ∙ ap (λ (es : List FormattedCell). map (cell_placed s c.args.part.now) l.places ++ es) none ∙ append-nil (map (cell_placed s c.args.part.now) l.places))

pub loop-item-preserved : goal.loop-item-preserved
loop-item-preserved c =
    let l = c.loop-item in
    let s = c.args.settings.now in
    let part = c.args.part.now in
    let steps = rw c.in-Ok.is at c.in-Some.ensures.steps in
    let g = group_of c.in-Ok.placed.1 in
    let start = c.in-Ok.placed.0.now in
    let prefix = l.invariant.3.0 in
    let fits = tail_bytes l.item-iterator.0 steps.2.0 start l.invariant.2.0 steps.2.1 in
    let here = tail_record part (prefix ++ steps.2.0) start g steps.1.0 fits (tail_tail part prefix l.item-iterator.0 steps.2.0 start l.invariant.3.1 steps.2.1) steps.1.1 in
    let line = line_next s l.item-iterator g c.next.new.self l.invariant.2 steps.0 in
    let xf = xf_in l.last.xf (kept_group g) in
    let cells = with_formats xf 0 (adds s.formulas l.last.at line.0).cells in
    let rest = formatted_after s (last_formula c.after-last.result) (kept_in c.next.new.self.0 c.next.new.self.1) in (
      tt,
      tt,
      sound_next s l.item-iterator g c.next.new.self l.invariant.2 steps.0,
      tail_after part prefix l.item-iterator.0 l.item-iterator.1 g c.next.new.self.0 c.next.new.self.1 l.invariant.3.1 steps.0,
      l.invariant.4
          ∙ ap (λ (es : List FormattedCell). map (cell_placed s part) l.places ++ es)
          (formatted_next s l.item-iterator g c.next.new.self l.invariant.2 steps.0 (last_formula l.last) (last_formula c.after-last.result) cells
          (λ x e. ap (λ (y : SheetRecord). with_formats xf 0 (adds s.formulas l.last.at y).cells) (same_ok line.0 x (sym line.1 ∙ e)))
          (λ x e. c.after-last.ensures s.cells x e))
          ∙ sym (append_assoc (map (cell_placed s part) l.places) cells rest)
          ∙ ap (λ (es : List FormattedCell). es ++ rest) (sym (c.in_ok-push_cells.ensures line.0 part line.1 here)),
    )

pub returns : goal.returns
returns c =
    let l = c.loop-item in
    let s = c.args.settings.now in
    let none = no_formatted s l.item-iterator (last_formula l.last) (over_sound s l.item-iterator l.invariant.2 c.in-None.ensures.steps.0) in
    sym (l.invariant.4 ∙ ap (λ (es : List FormattedCell). map (cell_placed s c.args.part.now) l.places ++ es) none ∙ append-nil (map (cell_placed s c.args.part.now) l.places))
