-- What std's lossy UTF-16 gives is what the rule reads, and nothing else.
use Rattle.std.proofs.Common.{◌≡◌, ◌⊎◌, ℕ, zero, suc, ◌<◌, ◌≤◌, true, false, List, [], ◌∷◌, length, refl, sym, ap, subst, ◌∙◌, arith, inl, inr, ⊎_elim}
use Rattle.std.proofs.lemmas.Bool.{cases_lt}
use Rattle.std.proofs.lemmas.Bool.Decides.{nat_tests}
use Rattle.std.specs.Option.{unwrap_or}
use Rattle.std.specs.Char.Utf16.{utf16_lossy_chars, lone_unit_char, surrogate_pair_char, is_high_surrogate, is_low_surrogate}
use Rattle.xls_text.proofs.UnitLemmas.{units_pair, units_alone, units_not_high, units_not_low, units_none}
use Rattle.xls_text.specs.Utf16Reading.{IsHigh, IsLow, StartsLow, TakesCodePoint, ReadsUtf16}

lone_below : (u : ℕ) → u < 0xD800 → unwrap_or (lone_unit_char u) 0xFFFD ≡ u
lone_below u h = grind (arith, nat_tests)

lone_above : (u : ℕ) → 0xE000 ≤ u → unwrap_or (lone_unit_char u) 0xFFFD ≡ u
lone_above u h = grind (arith, nat_tests)

lone_surrogate : (u : ℕ) → 0xD800 ≤ u → u < 0xE000 → unwrap_or (lone_unit_char u) 0xFFFD ≡ 0xFFFD
lone_surrogate u low high = grind (arith, nat_tests)

not_high_below : (u : ℕ) → u < 0xD800 → is_high_surrogate u ≡ false
not_high_below u h = grind (arith, nat_tests)

not_high_above : (u : ℕ) → 0xDC00 ≤ u → is_high_surrogate u ≡ false
not_high_above u h = grind (arith, nat_tests)

high_test : (u : ℕ) → IsHigh u → is_high_surrogate u ≡ true
high_test u is = grind (arith, nat_tests, is.0, is.1)

low_test : (u : ℕ) → IsLow u → is_low_surrogate u ≡ true
low_test u is = grind (arith, nat_tests, is.0, is.1)

not_low_below : (u : ℕ) → u < 0xDC00 → is_low_surrogate u ≡ false
not_low_below u h = grind (arith, nat_tests)

not_low_above : (u : ℕ) → 0xE000 ≤ u → is_low_surrogate u ≡ false
not_low_above u h = grind (arith, nat_tests)

-- the first character of units, as std has it
record First (u : ℕ) (us : List ℕ) : Type 0 where
  c : ℕ
  rest : List ℕ
  takes : TakesCodePoint (u ∷ us) c rest
  chars : utf16_lossy_chars (u ∷ us) ≡ c ∷ utf16_lossy_chars rest
  shorter : length rest ≤ length us

first_plain : (u : ℕ) (us : List ℕ) → (u < 0xD800) ⊎ (0xE000 ≤ u) → is_high_surrogate u ≡ false
    → unwrap_or (lone_unit_char u) 0xFFFD ≡ u → First u us
first_plain u us plain other is = record {
  c = u;
  rest = us;
  takes = inl (record { plain = plain; char = refl; following = refl });
  chars = units_not_high u us other ∙ ap (λ c. c ∷ utf16_lossy_chars us) is;
  shorter = omega arith;
}

first_lone : (u : ℕ) (us : List ℕ) → 0xD800 ≤ u → u < 0xE000 → (IsHigh u → ¬ (StartsLow us))
    → utf16_lossy_chars (u ∷ us) ≡ unwrap_or (lone_unit_char u) 0xFFFD ∷ utf16_lossy_chars us → First u us
first_lone u us low high alone chars = record {
  c = 0xFFFD;
  rest = us;
  takes = inr (inr (record { surrogate = (low, high); alone = alone; char = refl; following = refl }));
  chars = chars ∙ ap (λ c. c ∷ utf16_lossy_chars us) (lone_surrogate u low high);
  shorter = omega arith;
}

first_high : (u : ℕ) (us : List ℕ) → 0xD800 ≤ u → u < 0xDC00 → First u us
first_high u [] low high = first_lone u [] low (omega arith) (λ _ none. none) (units_alone u [] refl)
first_high u (v ∷ us) low high =
    let is : is_high_surrogate u ≡ true = high_test u (low, high) in
    elim (cases_lt v 0xDC00) [
      | inl below ↦ first_lone u (v ∷ us) low (omega arith) (λ _ two. absurd (omega (arith, two.0))) (units_not_low u v us (not_low_below v below) is)
      | inr from ↦ elim (cases_lt v 0xE000) [
        | inr above ↦ first_lone u (v ∷ us) low (omega arith) (λ _ two. absurd (omega (arith, two.1))) (units_not_low u v us (not_low_above v above) is)
        | inl within ↦ record {
          c = surrogate_pair_char u v;
          rest = us;
          takes = inr (inl (record { is_high = (low, high); low = v; is_low = (from, within); char = refl; following = refl }));
          chars = units_pair u v us is (low_test v (from, within));
          shorter = omega arith;
        }
      ]
    ]

first_of : (u : ℕ) (us : List ℕ) → First u us
first_of u us = elim (cases_lt u 0xD800) [
  | inl below ↦ first_plain u us (inl below) (not_high_below u below) (lone_below u below)
  | inr from ↦ elim (cases_lt u 0xDC00) [
    | inl high ↦ first_high u us from high
    | inr past ↦ elim (cases_lt u 0xE000) [
      | inl low ↦ first_lone u us from low (λ is. absurd (omega (arith, is.1))) (units_not_high u us (not_high_above u past))
      | inr above ↦ first_plain u us (inr above) (not_high_above u past) (lone_above u above)
    ]
  ]
]

reads_within : (fuel : ℕ) (us : List ℕ) → length us ≤ fuel → ReadsUtf16 us (utf16_lossy_chars us)
reads_within fuel [] few = subst (ReadsUtf16 []) (sym (units_none [] refl)) refl
reads_within zero (u ∷ us) few = absurd (omega arith)
reads_within (suc fuel) (u ∷ us) few =
    let first = first_of u us in
    let less : length first.rest ≤ fuel = omega (arith, first.shorter) in
    subst (ReadsUtf16 (u ∷ us)) (sym first.chars) (first.rest, first.takes, reads_within fuel first.rest less)

-- the units read as these characters
pub ReadsUtf16-lossy : (us : List ℕ) → ReadsUtf16 us (utf16_lossy_chars us)
ReadsUtf16-lossy us = reads_within (length us) us (omega arith)

plain_no_surrogate : (u : ℕ) → (u < 0xD800) ⊎ (0xE000 ≤ u) → 0xD800 ≤ u → u < 0xE000 → ⊥
plain_no_surrogate u plain low high = ⊎_elim (λ (below : u < 0xD800). absurd (omega arith)) (λ (above : 0xE000 ≤ u). absurd (omega arith)) plain

pair_not_alone : (us rest : List ℕ) (low : ℕ) → us ≡ low ∷ rest → IsLow low → StartsLow us
pair_not_alone us rest low e is = subst StartsLow (sym e) is

-- one character comes first
takes_one : (us : List ℕ) (c d : ℕ) (xs ys : List ℕ) → TakesCodePoint us c xs → TakesCodePoint us d ys → (c ≡ d) × (xs ≡ ys)
takes_one [] c d xs ys a b = absurd a
takes_one (u ∷ us) c d xs ys (inl a) (inl b) = (a.char ∙ sym b.char, a.following ∙ sym b.following)
takes_one (u ∷ us) c d xs ys (inl a) (inr (inl b)) = absurd (plain_no_surrogate u a.plain b.is_high.0 (omega (arith, b.is_high.1)))
takes_one (u ∷ us) c d xs ys (inl a) (inr (inr b)) = absurd (plain_no_surrogate u a.plain b.surrogate.0 b.surrogate.1)
takes_one (u ∷ us) c d xs ys (inr (inl a)) (inl b) = absurd (plain_no_surrogate u b.plain a.is_high.0 (omega (arith, a.is_high.1)))
takes_one (u ∷ us) c d xs ys (inr (inl a)) (inr (inl b)) =
    let both : a.low ∷ xs ≡ b.low ∷ ys = sym a.following ∙ b.following in
    let low : a.low ≡ b.low = cc in
    let rest : xs ≡ ys = cc in
    (a.char ∙ rw low (sym b.char), rest)
takes_one (u ∷ us) c d xs ys (inr (inl a)) (inr (inr b)) = absurd (b.alone a.is_high (pair_not_alone us xs a.low a.following a.is_low))
takes_one (u ∷ us) c d xs ys (inr (inr a)) (inl b) = absurd (plain_no_surrogate u b.plain a.surrogate.0 a.surrogate.1)
takes_one (u ∷ us) c d xs ys (inr (inr a)) (inr (inl b)) = absurd (a.alone b.is_high (pair_not_alone us ys b.low b.following b.is_low))
takes_one (u ∷ us) c d xs ys (inr (inr a)) (inr (inr b)) = (a.char ∙ sym b.char, a.following ∙ sym b.following)

takes_some : (us : List ℕ) (c : ℕ) (xs : List ℕ) → TakesCodePoint us c xs → 0 < length us
takes_some [] c xs a = absurd a
takes_some (u ∷ us) c xs a = omega arith

-- no other characters are
pub ReadsUtf16-same : (us cs ds : List ℕ) → ReadsUtf16 us cs → ReadsUtf16 us ds → cs ≡ ds
ReadsUtf16-same us [] [] a b = refl
ReadsUtf16-same us [] (d ∷ ds) a b = let some = takes_some us d b.0 b.1 in let none = ap length a in absurd (omega arith)
ReadsUtf16-same us (c ∷ cs) [] a b = let some = takes_some us c a.0 a.1 in let none = ap length b in absurd (omega arith)
ReadsUtf16-same us (c ∷ cs) (d ∷ ds) a b =
    let one = takes_one us c d a.0 b.0 a.1 b.1 in
    let rest = ReadsUtf16-same b.0 cs ds (subst (λ t. ReadsUtf16 t cs) one.1 a.2) b.2 in
    ap (λ x. x ∷ cs) one.0 ∙ ap (λ t. d ∷ t) rest
