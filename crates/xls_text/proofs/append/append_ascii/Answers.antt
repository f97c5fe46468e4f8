use Rattle.std.proofs.Common.{IsOk, refl, Result, Ok, Err, MatchResult}
use Rattle.std.proofs.lemmas.Str.{IsUtf8-from_ascii}
use Rattle.xls_bytes.proofs.GrownLemmas.{IsGrown-refl}
use Rattle.xls_text.proofs.append.append_ascii.Goals as goal

is_text : {X E : Type 0} (P : X → Type 0) (Q : Type 0) (R : E → Type 0) (r : Result X E) → MatchResult r P (λ e. ¬ Q × R e) → Q → IsOk r
is_text P Q R (Ok x) h q = refl
is_text P Q R (Err e) h q = absurd (h.0 q)

pub unwrap-text-requires : goal.unwrap-text-requires
unwrap-text-requires c = is_text _ _ _ c.from_utf8.result c.from_utf8.ensures.cases (IsUtf8-from_ascii c.args.bytes.now c.requires)

pub returns-in_err-push_str-clause-grown : goal.returns-in_err-push_str-clause-grown
returns-in_err-push_str-clause-grown c = rw c.in_err-push_str.ensures.bytes (IsGrown-refl _)
