use Rattle.std.proofs.Common.{IsOk, Ok, Err, Result, MatchResult, refl}
use Rattle.std.proofs.lemmas.Str.{IsUtf8-from_ascii}
use Rattle.xls_formula.proofs.words.ascii.Goals as goal

-- a result that errs only at what is no text
is_text : {X E : Type 0} (P : X → Type 0) (Q : Type 0) (R : E → Type 0) (r : Result X E)
    → MatchResult r P (λ e. ¬ Q × R e) → Q → IsOk r
is_text P Q R (Ok x) h q = refl
is_text P Q R (Err e) h q = absurd (h.0 q)

pub unwrap-requires : goal.unwrap-requires
unwrap-requires c = is_text _ _ _ c.from_utf8.result c.from_utf8.ensures.cases (IsUtf8-from_ascii c.args.bytes.now c.requires)
