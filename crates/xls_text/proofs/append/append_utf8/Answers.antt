use Rattle.std.proofs.Common.{rules, ◌≡◌, ◌<◌, length, sym, ◌∙◌, append-nil, append_assoc, refl}
use Rattle.std.specs.Char.{IsScalar}
use Rattle.std.specs.String.{string_bytes}
use Rattle.std.proofs.lemmas.Str.{utf8_lossy_chunk, utf8_lossy_last_chunk, utf8_lossy_empty}
use Rattle.bstr.proofs.lemmas.LossyLemmas.{lossy_chars-utf8_lossy}
use Rattle.xls_bytes.specs.Growth.{IsGrown}
use Rattle.xls_bytes.proofs.GrownLemmas.{IsGrown-push, IsGrown-append}
use Rattle.xls_text.proofs.PageLemmas.{replacement_bytes}
use Rattle.xls_text.proofs.append.append_utf8.Goals as goal

pub chunks-preserved-in-Continue-branch-2 : goal.chunks-preserved-in-Continue-branch-2
chunks-preserved-in-Continue-branch-2 c =
    let steps = c.in-Some.ensures.steps in
    let some : 0 < length c.in-Some.chunk.invalid.now = search rules in
    let text = utf8_lossy_chunk _ _ _ _ steps.0 steps.3.0 steps.3.1 some in
    let char : IsScalar 0xFFFD = refl in
    let longer : IsGrown (string_bytes c.args.s.now) (string_bytes c.push_str.new.self) =
    IsGrown-append _ _ _ _ c.chunks.invariant.grown c.valid.utf8 c.in_ok-push_str.ensures.bytes in
    record {
      so_far = rw (c.in_ok-push.ensures.bytes, c.in_ok-push_str.ensures.bytes, c.valid.ensures, replacement_bytes)
          (simp append_assoc (rw text at c.chunks.invariant.so_far));
      grown = IsGrown-push _ _ _ 0xFFFD longer char c.in_ok-push.ensures.bytes;
    }

pub returns-in_err-push-clause-grown : goal.returns-in_err-push-clause-grown
returns-in_err-push-clause-grown c =
    let longer : IsGrown (string_bytes c.args.s.now) (string_bytes c.push_str.new.self) =
    IsGrown-append _ _ _ _ c.chunks.invariant.grown c.valid.utf8 c.in_ok-push_str.ensures.bytes in
    rw c.in_err-push.ensures.bytes longer

pub chunks-preserved : goal.chunks-preserved
chunks-preserved c =
    let steps = c.in-Some.ensures.steps in
    let none : length c.in-Some.chunk.invalid.now ≡ 0 = search rules in
    let text = utf8_lossy_last_chunk _ _ _ _ steps.0 steps.3.0 none (steps.2 none) in
    record {
      so_far = rw (c.in_ok-push_str.ensures.bytes, c.valid.ensures, append_assoc) (rw text at c.chunks.invariant.so_far);
      grown = IsGrown-append _ _ _ _ c.chunks.invariant.grown c.valid.utf8 c.in_ok-push_str.ensures.bytes;
    }

pub returns-clause-lossy : goal.returns-clause-lossy
returns-clause-lossy c = sym (append-nil _) ∙ rw (utf8_lossy_empty _ c.in-None.ensures.steps.0) at c.chunks.invariant.so_far

pub returns-clause-ok : goal.returns-clause-ok
returns-clause-ok c =
    rw lossy_chars-utf8_lossy (returns-clause-lossy c)
