-- Words and empty texts.
use Rattle.std.proofs.Common.{◌≡◌, ℕ, zero, suc, ◌<◌, false, List, [], ◌∷◌, length, drop, refl, arith, codes}
use Rattle.std.specs.Float.Parse.{begins_with}
use Rattle.std.specs.Str.{chars}
use Rattle.std.proofs.lemmas.Str.{chars-nil}

-- an empty text begins with no word
pub begins_nothing : (word : List ℕ) (i : ℕ) → i < length word → begins_with [] (drop i word) ≡ false
begins_nothing [] i some = absurd (omega arith)
begins_nothing (w ∷ ws) zero some = refl
begins_nothing (w ∷ ws) (suc i) some = begins_nothing ws i (omega arith)

pub no_chars : chars [] ≡ []
no_chars = chars-nil

pub one_blank : chars (codes " ") ≡ codes " "
unfolding chars
one_blank = refl
