-- What a call answers, by what the standard says.
use Rattle.std.specs.Prelude.{Result, Ok, Err}
use Rattle.xls_sectors.specs.declared.error.SectorFault.{SectorFault}
use Rattle.xls_sectors.specs.declared.error.SectorError.{SectorError}
use Rattle.xls_sectors.specs.declared.error.SectorError.TheVariants as errors

-- what follows where a part is there, or else the fault
infixl 10 ◌>>=◌
abbrev pub ◌>>=◌ : {A B : Type 0} → Result A SectorFault → (A → Result B SectorFault) → Result B SectorFault
(Ok x) >>= f = f x
(Err e) >>= f = Err e

-- a refusal is one of these, unless memory ran out
abbrev pub Fails : {Y : Type 0} → SectorError → (Result Y SectorFault → Type 0) → Type 0
Fails (errors.Fault f) Answers = Answers (Err f)
Fails errors.Memory Answers = Unit {0}

-- what a call returned, seen by view, is one of these answers, unless memory ran out
abbrev pub Gives : {X Y : Type 0} → (X → Y) → Result X SectorError → (Result Y SectorFault → Type 0) → Type 0
Gives view (Ok x) Answers = Answers (Ok (view x))
Gives view (Err e) Answers = Fails e Answers
