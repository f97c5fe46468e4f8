-- Numbers and columns that are too large stay so, whatever follows.
use Rattle.std.proofs.Common.{◌≡◌, ℕ, zero, suc, ◌+◌, ◌-◌, ◌*◌, ◌<◌, ◌≤◌, false, List, [], ◌∷◌, length, drop, refl, arith}
use Rattle.std.specs.Char.{to_ascii_uppercase}
use Rattle.std.proofs.lemmas.Bool.Decides.{nat_tests}
use Rattle.xls_formula_names.specs.Quotes.{is_cell, is_within, is_word, number_at}

pub number_grows : (n : ℕ) (cs : List ℕ) → n ≤ number_at n cs
number_grows n [] = omega arith
number_grows n (c ∷ cs) = let more = number_grows (10 * n + (c - 0x30)) cs in grind (arith, more)

above : (first last n : ℕ) → last < n → is_within first last n ≡ false
above first last n large = grind (arith, nat_tests)

pub number_above : (last n : ℕ) (cs : List ℕ) → last < n → is_within 1 last (number_at n cs) ≡ false
number_above last n cs large = let more = number_grows n cs in above 1 last (number_at n cs) (omega arith)

pub cell_above : (n : ℕ) (cs : List ℕ) → 256 < n → is_cell n cs ≡ false
cell_above n [] large = refl
cell_above n (c ∷ cs) large = let more = cell_above (26 * n + (to_ascii_uppercase c - 0x40)) cs (omega arith) in let row = above 1 256 n large in grind (arith, more, row)

-- a word isn't over before its last letter
pub word_before_end : (word : List ℕ) (i : ℕ) → i < length word → is_word (drop i word) [] ≡ false
word_before_end [] i some = absurd (omega arith)
word_before_end (w ∷ ws) zero some = refl
word_before_end (w ∷ ws) (suc i) some = word_before_end ws i (omega arith)
