-- Bytes taken from the front, one part after the other, up to the first that passes the bytes.
use Rattle.std.specs.Prelude.{◌≡◌, ℕ, ◌*◌, List, take, drop, length, nat_lt, if◌then◌else◌, Result, Ok, Err}
use Rattle.xls_bytes.specs.Numbers.{le}
use Rattle.xls_links.specs.declared.damage.Flaw.{Flaw}
use Rattle.xls_links.specs.declared.damage.Stop.{Stop}
use Rattle.xls_links.specs.declared.damage.Stop.TheVariants.{Memory, Flawed}

infixl 10 ◌>>=◌
-- what follows goes on with the value; a flaw is the answer of all
abbrev pub ◌>>=◌ : {X Y : Type 0} → Result X Flaw → (X → Result Y Flaw) → Result Y Flaw
(Ok x) >>= f = f x
(Err e) >>= f = Err e

-- so many bytes, and those behind; this flaw where there are fewer
abbrev pub split_bytes : Flaw → ℕ → List ℕ → Result (List ℕ × List ℕ) Flaw
split_bytes flaw n bytes = if nat_lt (length bytes) n then Err flaw else Ok (take n bytes, drop n bytes)

-- a 32-bit number
abbrev pub split_number : Flaw → List ℕ → Result (ℕ × List ℕ) Flaw
split_number flaw bytes = if nat_lt (length bytes) 4 then Err flaw else Ok (le (take 4 bytes), drop 4 bytes)

-- a 32-bit count, and so many bytes
abbrev pub split_counted : Flaw → List ℕ → Result (List ℕ × List ℕ) Flaw
split_counted flaw bytes = split_number flaw bytes >>= λ n. split_bytes flaw n.0 n.1

-- a 32-bit count, and so many units of two bytes
abbrev pub split_units : Flaw → List ℕ → Result (List ℕ × List ℕ) Flaw
split_units flaw bytes = split_number flaw bytes >>= λ n. split_bytes flaw (2 * n.0) n.1

-- what was returned, seen by view, is what the definition gives
abbrev pub Exactly : {X Y : Type 0} → (X → Y) → Result X Flaw → Result Y Flaw → Type 0
Exactly view (Ok x) input = input ≡ Ok (view x)
Exactly view (Err e) input = input ≡ Err e

-- the definition refuses so, unless memory ran out
abbrev pub Refuses : {Y : Type 0} → Stop → Result Y Flaw → Type 0
Refuses (Memory e) input = Unit {0}
Refuses (Flawed e) input = input ≡ Err e

-- what was returned, seen by view, is what the definition gives, unless memory ran out
abbrev pub Gives : {X Y : Type 0} → (X → Y) → Result X Stop → Result Y Flaw → Type 0
Gives view (Ok x) input = input ≡ Ok (view x)
Gives view (Err stop) input = Refuses stop input
