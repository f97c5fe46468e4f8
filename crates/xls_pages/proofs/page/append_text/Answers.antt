use Rattle.std.proofs.Common.{rules, append_assoc}
use Rattle.std.specs.Char.{IsScalar}
use Rattle.xls_bytes.proofs.GrownLemmas.{IsGrown-push}
use Rattle.xls_pages.proofs.page.append_text.Goals as goal

pub characters-preserved : goal.characters-preserved
characters-preserved c =
    let char : IsScalar c.scalar.result = search rules in
    record {
      so_far = rw (c.in_ok-push.ensures.bytes, c.scalar.ensures, append_assoc) (rw c.in-Some.ensures.text at c.characters.invariant.so_far);
      grown = IsGrown-push _ _ _ _ c.characters.invariant.grown char c.in_ok-push.ensures.bytes;
    }
