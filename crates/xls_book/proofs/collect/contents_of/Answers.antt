use Rattle.std.proofs.Common.{◌≡◌, ◌++◌, ◌∷◌, [], sym, ap, ◌∙◌}
use Rattle.std.specs.Option.{option_map}
use Rattle.xls_view.specs.Displayed.{sheet_view_of}
use Rattle.xls_book.proofs.TakeLemmas.{take_none, take_one}
use Rattle.xls_book.proofs.collect.contents_of.Goals as goal
use Rattle.xls_book.proofs.collect.contents_of.Goals.{in-Some+in_ok-content_of+in_ok-push, in_default}

pub loop-n-preserved : goal.loop-n-preserved
loop-n-preserved c =
    let l = c.loop-n in
    elim c.match-sheet_at.branch [
      | in-Some+in_ok-content_of+in_ok-push w ↦
          let at = sym c.sheet_at.ensures.content ∙ ap (option_map sheet_view_of) w.in-Some.is in
          rw (w.contents-is, w.in_ok-push.ensures.items, l.invariant, w.in_ok-content_of.ensures) (sym (take_one c.args.view.now.book.contents l.n _ at))
      | in_default w ↦
          let at = sym c.sheet_at.ensures.content ∙ ap (option_map sheet_view_of) w.in_default.is in
          rw (w.contents-is, l.invariant) (sym (take_none c.args.view.now.book.contents l.n at))
    ]
