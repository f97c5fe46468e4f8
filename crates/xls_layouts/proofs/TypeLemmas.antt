-- The types of records that a list may have.
use Rattle.std.proofs.Common.{◌≡◌, ◌≢◌, ℕ, ◌^◌, ◌<◌, Bool, true, false, List, [], ◌∷◌, refl, sym, subst, rules}
use Rattle.std.specs.Prelude.{◌==◌, ◌||◌}
use Rattle.std.specs.List.{AllByRecursion}
use Rattle.std.proofs.lemmas.Bool.{eqb-true, false≢true}
use Rattle.xls_stream.specs.Substreams.{is_among, sheet_types}
use Rattle.xls_stream.specs.Listing.{globals_types}

-- a type of a list isn't one that the list hasn't
pub among_apart : (typ other : ℕ) (ts : List ℕ) → is_among typ ts ≡ true → is_among other ts ≡ false → typ ≢ other
among_apart typ other ts h f = λ e. let g : is_among other ts ≡ true = rw (sym e) h in cc

abbrev Is16 : ℕ → Type 0
Is16 t = t < 2 ^ 16

either_true : (a b : Bool) (P : Type 0) → (a || b) ≡ true → (a ≡ true → P) → (b ≡ true → P) → P
either_true true b P e f g = f refl
either_true false b P e f g = g e

among_below : (typ : ℕ) (ts : List ℕ) → is_among typ ts ≡ true → AllByRecursion Is16 ts → typ < 2 ^ 16
among_below typ [] h a = absurd (false≢true h)
among_below typ (t ∷ ts) h a = either_true (typ == t) (is_among typ ts) (typ < 2 ^ 16) h (λ e. subst Is16 (sym (eqb-true typ t e)) a.0) (λ e. among_below typ ts e a.1)

pub globals_below : (typ : ℕ) → is_among typ globals_types ≡ true → typ < 2 ^ 16
globals_below typ h = among_below typ globals_types h (search rules)

pub sheet_below : (typ : ℕ) → is_among typ sheet_types ≡ true → typ < 2 ^ 16
sheet_below typ h = among_below typ sheet_types h (search rules)
