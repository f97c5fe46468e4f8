-- Steps over texts.
use Rattle.std.proofs.Common.{suc, zero, ◌≡◌, ◌≢◌, ℕ, ◌+◌, ◌-◌, ◌<◌, List, [], ◌∷◌, length, refl, ap, arith}
use Rattle.std.specs.Prelude.{codes}
use Rattle.xls_operands.specs.Pieces.{with_prefix, with_suffix, with_join}
use Rattle.xls_formula.specs.buffer.Put.{with_joins, with_call}

-- ---- commas

pub length-with_join : (mark : List ℕ) (ts : List (List ℕ)) → 1 < length ts → length (with_join mark ts) + 1 ≡ length ts
length-with_join mark [] lt = absurd (omega arith)
length-with_join mark (t ∷ []) lt = absurd (omega arith)
length-with_join mark (t ∷ u ∷ ts) lt = omega arith

pub joins_step : (count i : ℕ) (ts : List (List ℕ)) → i < count → with_joins (count - (i + 1)) (with_join (codes ",") ts) ≡ with_joins (count - i) ts
joins_step count i ts lt =
    let e : suc (count - (i + 1)) ≡ count - i = omega arith in
    ap (λ n. with_joins n ts) e

pub joins_none : (n : ℕ) (ts : List (List ℕ)) → n ≡ 0 → with_joins n ts ≡ ts
joins_none n ts e = ap (λ k. with_joins k ts) e

pub call_some : (count : ℕ) (name : List ℕ) (ts : List (List ℕ)) → count ≢ 0 → with_call count name ts ≡ with_suffix (codes ")") (with_prefix name (with_prefix (codes "(") (with_joins (count - 1) ts)))
call_some zero name ts ne = absurd (ne refl)
call_some (suc n) name ts ne =
    let e : n ≡ suc n - 1 = omega arith in
    ap (λ k. with_suffix (codes ")") (with_prefix name (with_prefix (codes "(") (with_joins k ts)))) e
