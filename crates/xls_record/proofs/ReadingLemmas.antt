-- Definitions that go on after a part, and answers to them.
use Rattle.std.proofs.Common.{◌≡◌, Result, Ok, Err, refl, sym, ap, subst}
use Rattle.xls_record.specs.declared.error.XlsError.{XlsError}
use Rattle.xls_record.specs.declared.error.XlsError.TheVariants as errors
use Rattle.xls_record.specs.Reading.{◌>>=◌, gives, fault_in, Exactly, Fails}

pub fault_in-gives : {X Y : Type 0} (f : X → Y) (r : Result X XlsError) → fault_in (gives f r) ≡ fault_in r
fault_in-gives f (Ok x) = refl
fault_in-gives f (Err e) = refl

-- a value that was changed may be answered by the fault of the first one
pub Exactly-gives : {X Y : Type 0} (f : X → Y) (r : Result X XlsError) (u : Result (Unit {0}) XlsError) → Exactly (λ u. u) u (fault_in r) → Exactly (λ u. u) u (fault_in (gives f r))
Exactly-gives f r u h = subst (λ (d : Result (Unit {0}) XlsError). Exactly (λ (v : Unit {0}). v) u d) (sym (fault_in-gives f r)) h

-- a part that fails is the fault of all
pub Fails-then : {X Y : Type 0} (e : XlsError) (r : Result X XlsError) (f : X → Result Y XlsError) → Fails e r → Fails e (r >>= f)
Fails-then errors.Memory r f h = tt
Fails-then {X} e r f h = ap (λ (d : Result X XlsError). d >>= f) h

-- a changed value is that of a value
pub gives-ok : {X Y : Type 0} (f : X → Y) (r : Result X XlsError) (y : Y) → gives f r ≡ Ok y → (x : X) × (r ≡ Ok x) × (f x ≡ y)
gives-ok f (Ok x) y e = let k : f x ≡ y = cc in (x, refl, k)
gives-ok f (Err e) y h = absurd cc
