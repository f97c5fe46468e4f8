use Rattle.std.proofs.Common.{rules, IsUtf8}
use Rattle.std.specs.Prelude.{codes}
use Rattle.xls_bytes.proofs.GrownLemmas.{IsGrown-append, IsGrown-refl, IsGrown-trans}
use Rattle.xls_readable.proofs.delimited.append_quoted.Goals as goal

pub returns-in_err-push_str-clause-grown : goal.returns-in_err-push_str-clause-grown
returns-in_err-push_str-clause-grown c = rw c.in_err-push_str.ensures.bytes (IsGrown-refl _)

pub returns-in_err-append_doubled-clause-grown : goal.returns-in_err-append_doubled-clause-grown
returns-in_err-append_doubled-clause-grown c =
    let quote : IsUtf8 (codes "\"") = search rules in
    IsGrown-trans _ _ _ (IsGrown-append _ _ _ _ (IsGrown-refl _) quote c.in_ok-push_str.ensures.bytes) c.append_doubled.ensures.grown

pub returns-in_err-push_str-2-clause-grown : goal.returns-in_err-push_str-2-clause-grown
returns-in_err-push_str-2-clause-grown c =
    let quote : IsUtf8 (codes "\"") = search rules in
    rw c.in_err-push_str-2.ensures.bytes
    (IsGrown-trans _ _ _ (IsGrown-append _ _ _ _ (IsGrown-refl _) quote c.in_ok-push_str.ensures.bytes) c.append_doubled.ensures.grown)

pub returns-clause-grown : goal.returns-clause-grown
returns-clause-grown c =
    let quote : IsUtf8 (codes "\"") = search rules in
    let first = IsGrown-trans _ _ _ (IsGrown-append _ _ _ _ (IsGrown-refl _) quote c.in_ok-push_str.ensures.bytes) c.append_doubled.ensures.grown in
    IsGrown-append _ _ _ _ first quote c.in_ok-push_str-2.ensures.bytes
