-- The text of a defined name.
use Rattle.std.proofs.Common.{◌≡◌, ℕ, List, [], ◌∷◌, length, false, true, refl}
use Rattle.std.specs.Prelude.{◌==◌}
use Rattle.xls_formula_shown.specs.Scope.{Scope}
use Rattle.xls_formula_shown.specs.ShownFold.{shown_text}
use Rattle.xls_shown_formulas.specs.Books.{text_of_tokens}

-- there are tokens
pub some_tokens : (s : Scope) (tokens extra : List ℕ) → false ≡ (length tokens == 0) → shown_text s tokens extra ≡ text_of_tokens s (tokens, extra)
some_tokens s [] extra e = absurd (let f : false ≡ true = e in cc)
some_tokens s (b ∷ bs) extra e = refl
