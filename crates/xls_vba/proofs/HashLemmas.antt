-- Texts separated at their last #.
use Rattle.std.proofs.Common.{◌≡◌, ℕ, suc, ◌+◌, ◌<◌, ◌≤◌, ◌≢◌, List, [], ◌∷◌, ◌++◌, length, take, drop, get_or, Option, Some, None, Bor, false, refl, sym, ap, ◌∙◌, arith}
use Rattle.std.proofs.lemmas.Grind.{common_steps}
use Rattle.std.proofs.lemmas.List.{take-append-drop}
use Rattle.std.proofs.lemmas.Str.Pattern.{NoCharPasses-char, drop_at_char}
use Rattle.std.specs.Prelude.{◌==◌, MatchOption}
use Rattle.std.specs.Option.{option_map}
use Rattle.std.specs.Str.Pattern.{RFindsChar}
use Rattle.xls_vba.specs.Libids.{at_last_hash}

-- no # in the text
pub none_at : (t : List ℕ) → ((i : ℕ) → i < length t → get_or t i 0 ≢ 35) → at_last_hash t ≡ None
none_at [] alone = refl
none_at (c ∷ cs) alone =
    let others = none_at cs (λ i h. alone (suc i) (omega arith)) in
    let other : c ≢ 35 = alone 0 (omega arith) in
    let test : (c == 0x23) ≡ false = grind (arith, common_steps) in
    rw (others, test)

-- a # with none after it
pub parted_around : (before following : List ℕ) → at_last_hash following ≡ None → at_last_hash (before ++ 35 ∷ following) ≡ Some (before, following)
parted_around [] following none = rw none
parted_around (c ∷ before) following none = rw (parted_around before following none)

-- what `rsplit_once('#')` answers
pub rsplit_at_hash : (t : List ℕ) (r : Option (Bor (List ℕ) × Bor (List ℕ)))
    → MatchOption r (RFindsChar 35 t None) (λ x. (i : ℕ) × (j : ℕ) × RFindsChar 35 t (Some (i, j)) × (x.0.now ≡ take i t) × (x.1.now ≡ drop j t) × (i ≤ j) × (length x.0.now ≡ i) × (length x.1.now + j ≡ length t))
    → option_map (λ (x : Bor (List ℕ) × Bor (List ℕ)). (x.0.now, x.1.now)) r ≡ at_last_hash t
rsplit_at_hash t None h = sym (none_at t (λ i b. NoCharPasses-char 35 t i h (omega arith) b))
rsplit_at_hash t (Some x) h =
    let none = none_at (drop h.1 t) (λ i b. NoCharPasses-char 35 (drop h.1 t) i h.2.0 (omega arith) b) in
    let split : t ≡ take h.0 t ++ 35 ∷ drop h.1 t = sym (take-append-drop h.0 t) ∙ ap (λ rest. take h.0 t ++ rest) (drop_at_char 35 t h.0 h.1 h.2.1 (omega arith)) in
    rw (h.3, h.4) (sym (ap at_last_hash split ∙ parted_around (take h.0 t) (drop h.1 t) none))
