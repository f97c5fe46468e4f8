use Rattle.std.proofs.Common.{rules, IsUtf8}
use Rattle.std.specs.Prelude.{codes}
use Rattle.xls_bytes.proofs.GrownLemmas.{IsGrown-append}
use Rattle.xls_readable.specs.Csv.{doubled_byte}
use Rattle.xls_readable.proofs.StretchLemmas.{stretch_more}
use Rattle.xls_readable.proofs.delimited.append_doubled.Goals as goal

pub returns-in_err-push_str-2-clause-grown : goal.returns-in_err-push_str-2-clause-grown
returns-in_err-push_str-2-clause-grown c =
    let plain : IsUtf8 c.in-Some.plain.now = search rules in
    rw c.in_err-push_str-2.ensures.bytes
    (IsGrown-append _ _ _ _ c.stretches.invariant.2 plain c.in_ok-push_str.ensures.bytes)

pub stretches-preserved : goal.stretches-preserved
stretches-preserved c =
    let plain : IsUtf8 c.in-Some.plain.now = search rules in
    let quotes : IsUtf8 (codes "\"\"") = search rules in
    let after : IsUtf8 c.in-Some.after.now = search rules in
    let grown = IsGrown-append _ _ _ _ c.stretches.invariant.2 plain c.in_ok-push_str.ensures.bytes in (
      after,
      stretch_more doubled_byte c.stretches.rest.now _ _ c.in-Some.after.now _ _ _ _ c.in-Some.ensures.whole c.in_ok-push_str.ensures.bytes
          c.in_ok-push_str-2.ensures.bytes c.stretches.invariant.1,
      IsGrown-append _ _ _ _ grown quotes c.in_ok-push_str-2.ensures.bytes,
    )

pub returns-clause-grown : goal.returns-clause-grown
returns-clause-grown c =
    let rest : IsUtf8 c.stretches.rest.now = search rules in
    IsGrown-append _ _ _ _ c.stretches.invariant.2 rest c.in_ok-push_str-3.ensures.bytes
