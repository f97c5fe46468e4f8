-- The colours of a palette, one at a time; and the empty text.
use Rattle.std.proofs.Common.{◌≡◌, ℕ, zero, suc, ◌-◌, ◌<◌, ◌≤◌, List, [], ◌∷◌, ◌++◌, length, drop, nat_lt, false, ap, sym, refl, ◌∙◌, append_assoc, arith}
use Rattle.std.specs.Str.{chars}
use Rattle.std.proofs.lemmas.Str.{chars-nil}
use Rattle.xls_styles.specs.Colors.{rgb_at, colors_in}

pub no_chars : chars [] ≡ []
no_chars = chars-nil

color_step : (left : ℕ) (rest others : List ℕ) → 0 < left → 4 ≤ length rest → others ≡ drop 4 rest
    → colors_in left rest ≡ rgb_at rest ∷ colors_in (left - 1) others
color_step zero rest others some room past = absurd (omega arith)
color_step (suc n) rest others some room past =
    let fewer : suc n - 1 ≡ n = omega arith in
    let long : nat_lt (length rest) 4 ≡ false = grind (arith, room) in
    rw (long, fewer, past) refl

-- one more
pub colors_more : (left : ℕ) (rest others : List ℕ) (found new total : List ℕ) (color : ℕ) → 0 < left → 4 ≤ length rest → others ≡ drop 4 rest
    → color ≡ rgb_at rest → new ≡ found ++ color ∷ [] → found ++ colors_in left rest ≡ total → new ++ colors_in (left - 1) others ≡ total
colors_more left rest others found new total color some room past is items so_far =
    ap (λ (cs : List ℕ). cs ++ colors_in (left - 1) others) (items ∙ ap (λ (c : ℕ). found ++ c ∷ []) is)
    ∙ (append_assoc found (rgb_at rest ∷ []) (colors_in (left - 1) others)
    ∙ (sym (ap (λ (cs : List ℕ). found ++ cs) (color_step left rest others some room past)) ∙ so_far))
