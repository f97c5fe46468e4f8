-- Digits without the zeros at their end.
use Rattle.std.proofs.Common.{◌≡◌, ◌≢◌, ℕ, ◌+◌, ◌/◌, ◌%◌, ◌^◌, ◌<◌, ◌≤◌, ◌++◌, ◌∷◌, [], List, refl, arith, sym, ap, ◌∙◌, inl, inr}
use Rattle.std.proofs.Common.{Bor, get_or, take, length}
use Rattle.std.specs.List.{flat_map}
use Rattle.std.proofs.lemmas.List.{flat_map_more, take_more}
use Rattle.std.specs.Fmt.{decimal}
use Rattle.std.proofs.lemmas.Bool.{cases_lt, ne_eqb}
use Rattle.std.proofs.lemmas.Fmt.{decimal_step, decimal_digit}
use Rattle.xls_rounding.specs.FormulaNumbers.{before, without_zeros}

-- a zero at the end goes
without_zeros-zero : (ds : List ℕ) → without_zeros (ds ++ 48 ∷ []) ≡ without_zeros ds
without_zeros-zero [] = refl
without_zeros-zero (d ∷ ds) = ap (before d) (without_zeros-zero ds)

before_push : (d : ℕ) (ds : List ℕ) (e : ℕ) → before d (ds ++ e ∷ []) ≡ d ∷ (ds ++ e ∷ [])
before_push d [] e = refl
before_push d (x ∷ ds) e = refl

-- another digit stays
without_zeros-other : (ds : List ℕ) (e : ℕ) → e ≢ 48 → without_zeros (ds ++ e ∷ []) ≡ ds ++ e ∷ []
without_zeros-other [] e p = rw (ne_eqb e 48 p)
without_zeros-other (d ∷ ds) e p = ap (before d) (without_zeros-other ds e p) ∙ before_push d ds e

pub zero_off : (n : ℕ) (all : List ℕ) → 0 < n → n < 2 ^ 64 → n % 10 ≡ 0 → without_zeros (decimal n) ≡ all
    → (0 < n / 10) × (without_zeros (decimal (n / 10)) ≡ all)
zero_off n all p q r e =
    let ten : 10 ≤ n = omega arith in
    let step : decimal n ≡ decimal (n / 10) ++ 48 ∷ [] = decimal_step n ten q ∙ ap (λ t. decimal (n / 10) ++ (48 + t) ∷ []) r in
    (omega arith, sym (without_zeros-zero (decimal (n / 10))) ∙ (ap without_zeros (sym step) ∙ e))

pub zeros_gone : (n : ℕ) (all : List ℕ) → 0 < n → n < 2 ^ 64 → n % 10 ≢ 0 → without_zeros (decimal n) ≡ all → decimal n ≡ all
zeros_gone n all p q r e = elim (cases_lt n 10) [
  | inl one ↦
      let digit = decimal_digit n one in
      let other : 48 + n ≢ 48 = λ f. r (omega arith) in
      digit ∙ (sym (without_zeros-other [] (48 + n) other) ∙ (ap without_zeros (sym digit) ∙ e))
  | inr more ↦
      let step = decimal_step n more q in
      let other : 48 + n % 10 ≢ 48 = λ f. r (omega arith) in
      step ∙ (sym (without_zeros-other (decimal (n / 10)) (48 + n % 10) other) ∙ (ap without_zeros (sym step) ∙ e))
]

-- one part more
pub parts_more : (old now new : List ℕ) (parts : List (Bor (List ℕ))) (i : ℕ) (none : Bor (List ℕ)) → i < length parts
    → now ≡ old ++ flat_map (λ part. part.now) (take i parts) → new ≡ now ++ (get_or parts i none).now
    → new ≡ old ++ flat_map (λ part. part.now) (take (i + 1) parts)
parts_more old now new parts i none p so e =
    let f : Bor (List ℕ) → List ℕ = λ part. part.now in
    let part = get_or parts i none in
    e ∙ (ap (λ t. t ++ part.now) so
    ∙ (flat_map_more f old (take i parts) part ∙ ap (λ t. old ++ flat_map f t) (sym (take_more parts i none p))))
