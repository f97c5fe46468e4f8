use Rattle.std.proofs.Common.{◌≡◌, ◌+◌, ◌-◌, ◌∙◌, take, drop, sym, subst, arith, take-append-drop}
use Rattle.std.specs.Io.KnownBytes.{Appends}
use Rattle.std.proofs.KnownBytes.{Appends-trans, Appends-kept}
use Rattle.std.proofs.lemmas.Grind.{common_steps}
use Rattle.xls_output.proofs.PieceLemmas.{take-more, length-rest}
use Rattle.xls_output.proofs.sink.write_all.Goals as goal

pub returns-in_err-at-clause-start : goal.returns-in_err-at-clause-start
returns-in_err-at-clause-start g c =
    let at = c.loop-at.at in
    let piece = c.args.piece.now in (
      take at piece,
      drop at piece,
      sym (take-append-drop at piece),
      Appends-kept _ _ _ (take at piece) c.loop-at.invariant.written c.in_err-at.ensures.bytes,
    )

pub loop-at-preserved : goal.loop-at-preserved
loop-at-preserved g c =
    let both = Appends-trans _ _ _ _ _ c.loop-at.invariant.written c.in_ok-at.ensures.bytes in
    record {
      within = grind (arith, common_steps);
      written = subst (Appends _ _) (take-more _ _ _) both;
      kept = c.in_ok-at.ensures.cause.kept ∙ c.loop-at.invariant.kept;
      takes = λ n le t.
          let was = c.loop-at.invariant.takes n le t in
          let size = length-rest c.loop-at.at c.args.piece.now in
          let now = c.in_ok-at.ensures.takes (n - c.loop-at.at) (omega (arith, size)) was in
          let less : n - c.loop-at.at - c.in_ok-at.field-0 ≡ n - (c.loop-at.at + c.in_ok-at.field-0) = omega arith in
          subst (g.K.Sink.state c.write.new.self).takes less now.1;
    }
