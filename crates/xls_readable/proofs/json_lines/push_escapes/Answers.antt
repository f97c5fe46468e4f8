use Rattle.std.proofs.Common.{rules, IsUtf8}
use Rattle.json.specs.Print.{escape_byte}
use Rattle.xls_readable.proofs.GrowthLemmas.{grows_same, grows_text, grows_then}
use Rattle.xls_readable.proofs.StretchLemmas.{stretch_more}
use Rattle.xls_readable.proofs.json_lines.push_escapes.Goals as goal

pub stretches-preserved : goal.stretches-preserved
stretches-preserved c =
    let after : IsUtf8 c.in-Some.after.now = search rules in (
      after,
      stretch_more escape_byte c.stretches.rest.now _ _ c.in-Some.after.now _ _ _ _ c.in-Some.ensures.whole c.in_ok-push_str.ensures.bytes
          c.in_ok-push_escape.ensures.ok c.stretches.invariant.1,
      grows_then _ _ _ (grows_then _ _ _ c.stretches.invariant.2 (grows_text _ _ _ c.in_ok-push_str.ensures.bytes)) c.push_escape.ensures.grown,
    )

pub returns-in_err-push_str-clause-grown : goal.returns-in_err-push_str-clause-grown
returns-in_err-push_str-clause-grown c = grows_then _ _ _ c.stretches.invariant.2 (grows_same _ _ c.in_err-push_str.ensures.bytes)

pub returns-in_err-push_escape-clause-grown : goal.returns-in_err-push_escape-clause-grown
returns-in_err-push_escape-clause-grown c =
    grows_then _ _ _ (grows_then _ _ _ c.stretches.invariant.2 (grows_text _ _ _ c.in_ok-push_str.ensures.bytes)) c.push_escape.ensures.grown

pub returns-in_err-push_str-2-clause-grown : goal.returns-in_err-push_str-2-clause-grown
returns-in_err-push_str-2-clause-grown c = grows_then _ _ _ c.stretches.invariant.2 (grows_same _ _ c.in_err-push_str-2.ensures.bytes)

pub returns-clause-grown : goal.returns-clause-grown
returns-clause-grown c = grows_then _ _ _ c.stretches.invariant.2 (grows_text _ _ _ c.in_ok-push_str-2.ensures.bytes)
