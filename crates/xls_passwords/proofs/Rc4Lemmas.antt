-- RC4's key schedule, one step on.
use Rattle.std.proofs.Common.{◌≡◌, ◌<◌, ◌+◌, ◌%◌, ℕ, List, length, get_or, sym, ◌∙◌, refl, add-one, arith}
use Rattle.std.proofs.lemmas.List.{ext_get_or}
use Rattle.std.proofs.lemmas.List.FromFn.{get_or-range_with_len, length-range_with_len}
use Rattle.std.specs.List.{range_with_len}
use Rattle.xls_passwords.specs.Rc4.{scheduled, step}
use Rattle.std.proofs.Math.Nat.{mod-add-mod}

-- 256 bytes, each at its own place
pub in_order : (s : List ℕ) → length s ≡ 256 → ((k : ℕ) → k < 256 → get_or s k 0 ≡ k) → s ≡ range_with_len 0 256
in_order s e h =
    ext_get_or 0 s (range_with_len 0 256) (e ∙ sym (length-range_with_len 0 256))
    (λ i lt. let l : i < 256 = omega (arith, e) in h i l ∙ sym (get_or-range_with_len 0 256 i 0 l ∙ omega arith))

pub scheduled-first : (key : List ℕ) → (scheduled key 0).s ≡ range_with_len 0 256
unfolding scheduled
scheduled-first key = refl

pub scheduled-more : (key : List ℕ) (i : ℕ) → scheduled key (i + 1) ≡ step key i (scheduled key i)
unfolding scheduled
scheduled-more key i = rw add-one refl

-- j may wrap after each of its two sums
pub wraps_once : (j b k : ℕ) → ((j + b) % 256 + k) % 256 ≡ (j + b + k) % 256
wraps_once j b k = mod-add-mod (j + b) 256 k

-- the step from the bytes and j
pub scheduled-step : (key s : List ℕ) (i j : ℕ) → s ≡ (scheduled key i).s → j ≡ (scheduled key i).j → scheduled key (i + 1) ≡ step key i (record { s = s; j = j })
scheduled-step key s i j e f = rw (e, f) (scheduled-more key i)
