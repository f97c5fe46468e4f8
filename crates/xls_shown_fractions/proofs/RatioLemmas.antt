-- Convergents.
use Rattle.std.proofs.Common.{◌≡◌, ℕ, zero, suc, ◌+◌, ◌-◌, ◌*◌, ◌<◌, true, false, if◌then◌else◌, List, [], ◌∷◌, refl, arith, ap, sym, ◌∙◌}
use Rattle.std.proofs.Math.Nat.{mul_right_comm}
use Rattle.std.specs.Float.{Float, binary64, fract, recip}
use Rattle.std.specs.Float.Ieee.{eq}
use Rattle.xls_shown_fractions.specs.declared.ratios.TheConstants.{ZERO}
use Rattle.xls_shown_fractions.specs.Ratios.{Mixed, whole_of, quotients, next_of, fits, last_within}

positive : (n : ℕ) → 0 < n → n ≡ suc (n - 1)
positive n p = omega (arith, p)

pub none_left : (most : ℕ) (before last : ℕ × ℕ) (n : ℕ) (r : Float) → eq r ZERO ≡ true → last_within most before last (quotients n r) ≡ last
unfolding quotients
none_left most before last zero r e = refl
none_left most before last (suc n) r e = ap (λ b. last_within most before last (if b then [] else whole_of (recip binary64 r) ∷ quotients n (fract binary64 (recip binary64 r)))) e

pub all_taken : (most : ℕ) (before last : ℕ × ℕ) (n : ℕ) (r : Float) → n ≡ 0 → last_within most before last (quotients n r) ≡ last
unfolding quotients
all_taken most before last n r e = ap (λ k. last_within most before last (quotients k r)) e

pub one_left : (most : ℕ) (before last : ℕ × ℕ) (n : ℕ) (r : Float) → 0 < n → eq r ZERO ≡ false
    → last_within most before last (quotients n r)
    ≡ last_within most before last (whole_of (recip binary64 r) ∷ quotients (n - 1) (fract binary64 (recip binary64 r)))
unfolding quotients
one_left most before last n r p e =
    ap (λ k. last_within most before last (quotients k r)) (positive n p)
    ∙ ap (λ b. last_within most before last (if b then [] else whole_of (recip binary64 r) ∷ quotients (n - 1) (fract binary64 (recip binary64 r)))) e

pub next_fits : (most : ℕ) (before last next : ℕ × ℕ) (a : ℕ) (rest : List ℕ) → next ≡ next_of a last before → fits most next ≡ true
    → last_within most before last (a ∷ rest) ≡ last_within most last next rest
next_fits most before last next a rest e fit =
    ap (λ b. if b then last_within most last (next_of a last before) rest else last) (ap (fits most) (sym e) ∙ fit)
    ∙ ap (λ n. last_within most last n rest) (sym e)

pub next_exceeds : (most : ℕ) (before last next : ℕ × ℕ) (a : ℕ) (rest : List ℕ) → next ≡ next_of a last before → fits most next ≡ false
    → last_within most before last (a ∷ rest) ≡ last
next_exceeds most before last next a rest e fit =
    ap (λ b. if b then last_within most last (next_of a last before) rest else last) (ap (fits most) (sym e) ∙ fit)

-- ---- a step of the loop

is_next : (a p q : ℕ) (last before : ℕ × ℕ) → p ≡ a * last.0 + before.0 → q ≡ a * last.1 + before.1 → (p, q) ≡ next_of a last before
is_next a p q last before e f = ap (λ n. (n, q)) e ∙ ap (λ n. (a * last.0 + before.0, n)) f

pub step : (most : ℕ) (before last : ℕ × ℕ) (left : ℕ) (r x more : Float) (a p q : ℕ) (all : ℕ × ℕ) → 0 < left → eq r ZERO ≡ false → x ≡ recip binary64 r → a ≡ whole_of x
    → p ≡ a * last.0 + before.0 → q ≡ a * last.1 + before.1 → fits most (p, q) ≡ true → more ≡ fract binary64 x
    → last_within most before last (quotients left r) ≡ all → last_within most last (p, q) (quotients (left - 1) more) ≡ all
step most before last left r x more a p q all some none e f g h fit i so =
    let same : more ≡ fract binary64 (recip binary64 r) = i ∙ ap (fract binary64) e in
    let whole : a ≡ whole_of (recip binary64 r) = f ∙ ap whole_of e in
    ap (λ m. last_within most last (p, q) (quotients (left - 1) m)) same
    ∙ sym (next_fits most before last (p, q) a (quotients (left - 1) (fract binary64 (recip binary64 r))) (is_next a p q last before g h) fit)
    ∙ ap (λ n. last_within most before last (n ∷ quotients (left - 1) (fract binary64 (recip binary64 r)))) whole
    ∙ sym (one_left most before last left r some none) ∙ so

pub stop : (most : ℕ) (before last : ℕ × ℕ) (left : ℕ) (r x : Float) (a p q : ℕ) (all : ℕ × ℕ) → 0 < left → eq r ZERO ≡ false → x ≡ recip binary64 r → a ≡ whole_of x
    → p ≡ a * last.0 + before.0 → q ≡ a * last.1 + before.1 → fits most (p, q) ≡ false
    → last_within most before last (quotients left r) ≡ all → last ≡ all
stop most before last left r x a p q all some none e f g h fit so =
    let whole : a ≡ whole_of (recip binary64 r) = f ∙ ap whole_of e in
    sym (next_exceeds most before last (p, q) a (quotients (left - 1) (fract binary64 (recip binary64 r))) (is_next a p q last before g h) fit)
    ∙ ap (λ n. last_within most before last (n ∷ quotients (left - 1) (fract binary64 (recip binary64 r)))) whole
    ∙ sym (one_left most before last left r some none) ∙ so

-- ---- a whole number times the denominator

abbrev pub mixed_by : ℕ → ℕ → ℕ → Mixed
mixed_by w n d = record { whole = w; numerator = n; denominator = d }

pub improper_is : (digits step whole d : ℕ) → digits * step ≡ whole → digits * d * step ≡ whole * d + 0
improper_is digits step whole d e = let same : whole * d ≡ whole * d + 0 = omega arith in mul_right_comm digits d step ∙ ap (λ n. n * d) e ∙ same
