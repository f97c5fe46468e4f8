-- How a definition reads: a value or its first fault, from left to right. And what a reader's answer
-- says of the definition that it reads by.
use Rattle.std.specs.Prelude.{◌≡◌, ℕ, List, ◌++◌, map, length, nat_lt, if◌then◌else◌, Result, Ok, Err}
use Rattle.std.specs.List.{range_with_len}
use Rattle.xls_stream.specs.declared.part.Part.{Part}
use Rattle.xls_record.specs.declared.error.XlsError.{XlsError}
use Rattle.xls_record.specs.declared.error.XlsError.TheVariants as errors

infixl 10 ◌>>=◌
infixl 10 ◌>>◌
-- ---- definitions

-- what follows goes on with the value; a fault is the answer of all
abbrev pub ◌>>=◌ : {X Y : Type 0} → Result X XlsError → (X → Result Y XlsError) → Result Y XlsError
(Ok x) >>= f = f x
(Err e) >>= f = Err e

-- the same, where what follows needs no value
abbrev pub ◌>>◌ : {X Y : Type 0} → Result X XlsError → Result Y XlsError → Result Y XlsError
r >> s = r >>= λ x. s

-- the value changed, or the same fault
abbrev pub gives : {X Y : Type 0} → (X → Y) → Result X XlsError → Result Y XlsError
gives f r = r >>= λ x. Ok (f x)

-- the fault alone
abbrev pub fault_in : {X : Type 0} → Result X XlsError → Result (Unit {0}) XlsError
fault_in r = gives (λ x. tt) r

-- so many bytes are there
abbrev pub at_least : ℕ → Part → List ℕ → Result (Unit {0}) XlsError
at_least n part body = if nat_lt (length body) n then Err (errors.Len n (length body) part) else Ok tt

-- of so many items, each by its number
abbrev pub results_listed : {X : Type 0} → (ℕ → X) → Result ℕ XlsError → Result (List X) XlsError
results_listed item count = gives (λ n. map item (range_with_len 0 n)) count

-- ---- answers

-- what was returned, seen by view, is what the definition gives
abbrev pub Exactly : {X Y : Type 0} → (X → Y) → Result X XlsError → Result Y XlsError → Type 0
Exactly view (Ok x) input = input ≡ Ok (view x)
Exactly view (Err e) input = input ≡ Err e

-- the definition refuses so, unless memory ran out
abbrev pub Fails : {Y : Type 0} → XlsError → Result Y XlsError → Type 0
Fails errors.Memory input = Unit {0}
Fails e input = input ≡ Err e

-- what was returned, seen by view, is what the definition gives, unless memory ran out
abbrev pub Gives : {X Y : Type 0} → (X → Y) → Result X XlsError → Result Y XlsError → Type 0
Gives view (Ok x) input = input ≡ Ok (view x)
Gives view (Err e) input = Fails e input

-- new is old and something at its end
abbrev pub IsLonger : {X : Type 0} → List X → List X → Type 0
IsLonger {X} old new = (added : List X) × (new ≡ old ++ added)

-- new is old and, at its end, what is given as seen by view
abbrev pub Adds : {X Y : Type 0} → (X → Y) → List X → List X → List Y → Type 0
Adds {X} view old new input = (added : List X) × (new ≡ old ++ added) × (map view added ≡ input)

-- what the definition gives was put at the end; after a refusal, out of memory too, nothing was
abbrev pub Appends : {X Y : Type 0} → (X → Y) → List X → Result (Unit {0}) XlsError → List X → Result (List Y) XlsError → Type 0
Appends {X} view old (Ok u) new input = (added : List X) × (new ≡ old ++ added) × (input ≡ Ok (map view added))
Appends view old (Err e) new input = (new ≡ old) × Fails e input
