-- What a stream holds, and why it isn't read.
use Rattle.std.proofs.Common.{◌≡◌, ℕ, List, Result, Ok, Err, IfErr, IsErrAnd, inl, sym, subst}
use Rattle.xls_view.specs.Viewing.{Viewed}
use Rattle.xls_arrays.specs.declared.refusal.Refusal.{Refusal}
use Rattle.xls_arrays.specs.declared.refusal.Refusal.TheVariants as refusals
use Rattle.xls_arrays.specs.Held.{RefusesBytes, RefusesStream, ShowsStream}
use Rattle.xls_arrays.specs.Laying.{MissesSheet}
use Rattle.xls_arrays.specs.declared.options.Options.{Options}

-- an error is handed on
pub err-as : {X : Type 0} (P : Refusal → Type 0) (r : Result X Refusal) (e : Refusal) → IsErrAnd r (λ d. d ≡ e) → P e → IfErr r P
err-as P (Ok x) e none p = tt
err-as P (Err d) e is p = subst P (sym is) p

-- a sheet that isn't there refuses the stream
pub misses-refused : (options : Options) (stream : List ℕ) (view : Viewed) → ShowsStream options stream view
    → (r : Refusal) → MissesSheet options view.book r → RefusesStream options stream r
misses-refused options stream view shows refusals.Memory p = tt
misses-refused options stream view shows refusals.TooShort p = p
misses-refused options stream view shows (refusals.NoSheet index) p = (view, shows, p)
misses-refused options stream view shows refusals.Obfuscated p = absurd p
misses-refused options stream view shows (refusals.Stream e) p = absurd p
misses-refused options stream view shows (refusals.Kind k) p = p
misses-refused options stream view shows refusals.NoWorkbook p = p
misses-refused options stream view shows (refusals.Chain chain fault) p = p
misses-refused options stream view shows (refusals.Directory fault) p = p

-- what its bytes alone refuse is refused
pub bytes-refused : (options : Options) (stream : List ℕ) (r : Refusal) → RefusesBytes options stream r → RefusesStream options stream r
bytes-refused options stream refusals.Memory p = tt
bytes-refused options stream refusals.TooShort p = p
bytes-refused options stream (refusals.NoSheet index) p = absurd p
bytes-refused options stream refusals.Obfuscated p = p
bytes-refused options stream (refusals.Stream e) p = (p.0, inl (p.1, p.2))
bytes-refused options stream (refusals.Kind k) p = p
bytes-refused options stream refusals.NoWorkbook p = p
bytes-refused options stream (refusals.Chain chain fault) p = p
bytes-refused options stream (refusals.Directory fault) p = p
