use Rattle.std.proofs.Common.{◌∙◌, ◌++◌, ◌∷◌, [], sym, ap, arith, List, ℕ}
use Rattle.std.specs.Str.{chars}
use Rattle.xls_refs.proofs.ViewLemmas.{texts_more, no_text}
use Rattle.xls_refs.proofs.book.copy_of.Goals.{in-Some+in_ok-push, in_default}
use Rattle.xls_refs.proofs.book.copy_of.Goals as goal

pub loop-i-preserved : goal.loop-i-preserved
loop-i-preserved c =
    let texts = c.args.texts.now in
    let i = c.loop-i.i in
    elim c.match-get.branch [
      | in-Some+in_ok-push w ↦
          w.copy-is ∙ w.in_ok-push.ensures.ok ∙ ap (λ (l : List (List ℕ)). l ++ chars w.in-Some.text.now ∷ []) c.loop-i.invariant
          ∙ sym (texts_more texts i (chars w.in-Some.text.now) w.in-Some.ensures)
      | in_default w ↦ absurd (no_text texts i w.in_default.ensures (omega (arith, c.loop-i-test.true, c.len-i-end.ensures)))
    ]
