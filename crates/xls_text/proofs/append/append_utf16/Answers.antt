use Rattle.std.proofs.Common.{refl, arith}
use Rattle.std.specs.Char.{IsScalar}
use Rattle.xls_bytes.proofs.GrownLemmas.{IsGrown-push}
use Rattle.xls_text.proofs.PageLemmas.{odd_mark-odd, odd_mark-even, with_mark, no_mark}
use Rattle.xls_text.proofs.append.append_utf16.Goals as goal

pub returns-in_ok-push-clause-ok : goal.returns-in_ok-push-clause-ok
returns-in_ok-push-clause-ok c =
    with_mark _ _ _ _ _ _ (odd_mark-odd c.args.bytes.now (omega arith)) c.in_ok-append_wide.ensures.ok c.in_ok-push.ensures.bytes

pub returns-in_ok-push-clause-grown : goal.returns-in_ok-push-clause-grown
returns-in_ok-push-clause-grown c =
    let char : IsScalar 0xFFFD = refl in
    IsGrown-push _ _ _ 0xFFFD c.in_ok-append_wide.ensures.grown char c.in_ok-push.ensures.bytes

pub returns-else-bytes-eq1-clause-ok : goal.returns-else-bytes-eq1-clause-ok
returns-else-bytes-eq1-clause-ok c =
    no_mark _ _ _ _ (odd_mark-even c.args.bytes.now (λ h. omega arith)) c.in_ok-append_wide.ensures.ok
