-- The first item of a code.
use Rattle.std.proofs.Common.{◌≡◌, ℕ, suc, ◌+◌, ◌==◌, if◌then◌else◌, Bool, true, false, List, [], ◌∷◌, length, take, drop, ap, sym, refl, ◌∙◌, arith}
use Rattle.std.specs.Char.{to_ascii_lowercase}
use Rattle.std.specs.List.{list_any, before_first, after_first, position_or_len}
use Rattle.std.proofs.lemmas.List.{length-take-le, drop_all}
use Rattle.std.proofs.lemmas.List.Sums.{prefix_len-le-length}
use Rattle.std.proofs.lemmas.Bool.Decides.{nat_tests}
use Rattle.xls_bytes.specs.Characters.{is}
use Rattle.xls_number_formats.specs.Grammar.{run_of}
use Rattle.xls_bytes.proofs.CharacterLemmas.{before_first_none}

-- what follows the first c, by how much stands before it
pub after_length : (c : ℕ) (cs : List ℕ) → after_first (is c) cs ≡ drop (length (before_first (is c) cs) + 1) cs
after_length c cs = ap (λ n. drop (n + 1) cs) (sym (length-take-le (position_or_len (is c) cs) cs (prefix_len-le-length _ cs)))

-- a run is the front of its text
pub take_run : (x : ℕ) (cs : List ℕ) → take (length (run_of x cs)) cs ≡ run_of x cs
take_run x [] = refl
take_run x (c ∷ cs) = by_test (to_ascii_lowercase c == x) c cs (take_run x cs) where
  by_test : (t : Bool) (c : ℕ) (cs : List ℕ) → take (length (run_of x cs)) cs ≡ run_of x cs → take (length (if t then c ∷ run_of x cs else [])) (c ∷ cs) ≡ (if t then c ∷ run_of x cs else [])
  by_test true c cs again = ap (λ ys. c ∷ ys) again
  by_test false c cs again = refl

-- a character begins a run of its own letter
pub run_first : (c : ℕ) (cs : List ℕ) → run_of (to_ascii_lowercase c) (c ∷ cs) ≡ c ∷ run_of (to_ascii_lowercase c) cs
run_first c cs = grind (arith, nat_tests)

pub run_len_first : (c n : ℕ) (code cs : List ℕ) → code ≡ c ∷ cs → n ≡ length (run_of (to_ascii_lowercase c) code) → n ≡ suc (length (run_of (to_ascii_lowercase c) cs))
run_len_first c n code cs e f = f ∙ ap (λ xs. length (run_of (to_ascii_lowercase c) xs)) e ∙ ap length (run_first c cs)

-- without an end all belongs to it
pub quoted_end : (c : ℕ) (cs : List ℕ) → list_any (is c) cs ≡ false → drop (length (before_first (is c) cs) + 1) cs ≡ []
quoted_end c cs none = ap (λ xs. drop (length xs + 1) cs) (before_first_none c cs none) ∙ drop_all (length cs + 1) cs (omega arith)
