-- Units, some at a time.
use Rattle.std.proofs.Common.{◌≡◌, ℕ, zero, suc, ◌+◌, ◌-◌, ◌≤◌, ◌<◌, List, [], ◌∷◌, ◌++◌, length, take, drop, refl, sym, ap, ◌∙◌, arith, true, append_assoc, length-append}
use Rattle.xls_bytes.specs.Numbers.{le}
use Rattle.xls_text.specs.Pages.{units_of}
use Rattle.xls_parts.specs.PartRecords.{Placed}
use Rattle.xls_comments.specs.Units.{piece_units, text_units}
use Rattle.xls_comments.specs.Objects.{is_piece}
use Rattle.xls_comments.specs.Walking.{leading_pieces}

-- one unit more of two bytes
pub wide_more : (bytes : List ℕ) (left : ℕ) → 0 < left → 2 ≤ length bytes
    → take left (units_of bytes) ≡ le (take 2 (take 2 bytes)) ∷ take (left - 1) (units_of (drop 2 bytes))
wide_more bytes zero h k = absurd (omega (arith, h))
wide_more [] (suc left) h k = absurd (omega (arith, k))
wide_more (a ∷ []) (suc left) h k = absurd (omega (arith, k))
wide_more (a ∷ b ∷ bytes) (suc left) h k = let e : suc left - 1 ≡ left = omega arith in rw e refl

pub wide_step : (units new bytes : List ℕ) (left : ℕ) → 0 < left → 2 ≤ length bytes → new ≡ units ++ le (take 2 (take 2 bytes)) ∷ []
    → new ++ take (left - 1) (units_of (drop 2 bytes)) ≡ units ++ take left (units_of bytes)
wide_step units new bytes left h k e =
    let rest = take (left - 1) (units_of (drop 2 bytes)) in
    ap (λ (us : List ℕ). us ++ rest) e
    ∙ append_assoc units (le (take 2 (take 2 bytes)) ∷ []) rest
    ∙ ap (λ (us : List ℕ). units ++ us) (sym (wide_more bytes left h k))

-- so many of two lists joined
pub take_joined : (m : ℕ) (xs ys : List ℕ) → take m (xs ++ ys) ≡ take m xs ++ take (m - length (take m xs)) ys
take_joined zero xs ys = refl
take_joined (suc m) [] ys = let e : suc m - 0 ≡ suc m = omega arith in rw e refl
take_joined (suc m) (x ∷ xs) ys =
    let same : suc m - suc (length (take m xs)) ≡ m - length (take m xs) = omega arith in
    ap (λ (us : List ℕ). x ∷ us) (take_joined m xs ys) ∙ ap (λ (n : ℕ). x ∷ (take m xs ++ take n ys)) (sym same)

few_taken : (m : ℕ) (xs : List ℕ) → length (take m xs) ≤ m
few_taken zero xs = omega arith
few_taken (suc m) [] = omega arith
few_taken (suc m) (x ∷ xs) = let h = few_taken m xs in omega (arith, h)

module _ (count : ℕ) (units new all : List ℕ) (r : Placed) (rs before : List Placed) where
  piece_more : is_piece r ≡ true → before ≡ r ∷ rs → text_units (leading_pieces before) ≡ piece_units r.body ++ text_units (leading_pieces rs)
  piece_more is e = rw (e, is) refl

  pub piece_step : is_piece r ≡ true → before ≡ r ∷ rs → length units ≤ count → new ≡ units ++ take (count - length units) (piece_units r.body)
      → units ++ take (count - length units) (text_units (leading_pieces before)) ≡ all
      → (new ++ take (count - length new) (text_units (leading_pieces rs)) ≡ all) × (length new ≤ count)
  piece_step is e h n so_far =
      let most = count - length units in
      let taken = take most (piece_units r.body) in
      let others = text_units (leading_pieces rs) in
      let few = few_taken most (piece_units r.body) in
      let long : length new ≡ length units + length taken = ap length n ∙ length-append units taken in
      let left : count - length new ≡ most - length taken = omega (arith, long, few, h) in (
        ap (λ (k : ℕ). new ++ take k others) left
            ∙ ap (λ (us : List ℕ). us ++ take (most - length taken) others) n
            ∙ append_assoc units taken (take (most - length taken) others)
            ∙ ap (λ (us : List ℕ). units ++ us) (sym (take_joined most (piece_units r.body) others))
            ∙ ap (λ (us : List ℕ). units ++ take most us) (sym (piece_more is e))
            ∙ so_far,
        omega (arith, long, few, h),
      )
