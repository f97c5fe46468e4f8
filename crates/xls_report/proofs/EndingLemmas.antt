-- How a writer ends, by what was written.
use Rattle.std.proofs.Common.{◌≡◌, ◌⊎◌, ℕ, List, [], Result, Ok, Err, inl, inr, refl, sym, subst}
use Rattle.std.specs.Result.{IsErrAnd}
use Rattle.std.proofs.KnownBytes.{Keeps-refl}
use Rattle.xls_output.specs.SinkState.{SinkState}
use Rattle.xls_output.specs.Gathering.{Stops}
use Rattle.xls_report.specs.Endings.{EndsWithText, EndsWithEither}
use Rattle.xls_report.specs.declared.ending.Ending.{Ending}
use Rattle.xls_report.specs.declared.ending.Ending.TheVariants.{Done, Refused}
use Rattle.xls_output.specs.declared.stop.Stop.{Stop}
use Rattle.xls_output.specs.declared.stop.Stop.TheVariants.{Memory}

-- ---- a text of a kind

-- out of memory to make it
pub text-memory : (IsText : List ℕ → Type 0) (before : SinkState) (r : Result Ending Stop)
    → IsErrAnd r (λ d. d ≡ Memory) → EndsWithText IsText before before r
text-memory IsText before (Ok x) none = absurd none
text-memory IsText before (Err e) is = inl (is, (Keeps-refl before.written, refl))

-- it was given up
pub text-stopped : (IsText : List ℕ → Type 0) {before after : SinkState} {text : List ℕ} {e : Stop} (r : Result Ending Stop)
    → IsErrAnd r (λ d. d ≡ e) → IsText text → Stops before [] after text e → EndsWithText IsText before after r
text-stopped IsText (Ok x) none is p = absurd none
text-stopped IsText {before} {after} {text} {e} (Err d) same is p =
    inr (text, is, subst (Stops before [] after text) (sym same) p)

-- a text of one of two kinds was given up
pub either-stopped : (IsDone IsRefused : List ℕ → Type 0) {before after : SinkState} {text : List ℕ} {e : Stop} (r : Result Ending Stop)
    → IsErrAnd r (λ d. d ≡ e) → IsDone text ⊎ IsRefused text → Stops before [] after text e → EndsWithEither IsDone IsRefused before after r
either-stopped IsDone IsRefused (Ok x) none may p = absurd none
either-stopped IsDone IsRefused {before} {after} {text} {e} (Err d) same may p =
    inr (text, may, subst (Stops before [] after text) (sym same) p)

-- a text of one of two kinds is one of two others
pub either-as : {A B C D : List ℕ → Type 0} (before after : SinkState) (r : Result Ending Stop)
    → ((text : List ℕ) → A text → C text) → ((text : List ℕ) → B text → D text)
    → EndsWithEither A B before after r → EndsWithEither C D before after r
either-as before after (Ok Done) f h p = (p.0, f p.0 p.1, p.2)
either-as before after (Ok Refused) f h p = (p.0, h p.0 p.1, p.2)
either-as before after (Err e) f h (inl p) = inl p
either-as before after (Err e) f h (inr (text, inl x, p)) = inr (text, inl (f text x), p)
either-as before after (Err e) f h (inr (text, inr x, p)) = inr (text, inr (h text x), p)

-- out of memory to make it
pub either-memory : (IsDone IsRefused : List ℕ → Type 0) (before : SinkState) (r : Result Ending Stop)
    → IsErrAnd r (λ d. d ≡ Memory) → EndsWithEither IsDone IsRefused before before r
either-memory IsDone IsRefused before (Ok x) none = absurd none
either-memory IsDone IsRefused before (Err e) is = inl (is, (Keeps-refl before.written, refl))
