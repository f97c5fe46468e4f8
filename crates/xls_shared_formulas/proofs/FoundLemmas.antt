-- The last formula of a cell.
use Rattle.std.proofs.Common.{◌≡◌, ◌≢◌, ℕ, zero, suc, ◌<◌, List, [], ◌∷◌, length, get_or, refl, sym, ap, ◌∙◌, arith, Bool, true, false}
use Rattle.std.proofs.Common.{cond, Option, Some, None, eq-eqb, ne_eqb, inl, inr}
use Rattle.std.specs.Prelude.{nat_lt, ◌==◌}
use Rattle.std.specs.List.{filter}
use Rattle.std.specs.List.Sorted.{ties, IsStableByKey}
use Rattle.std.specs.Ordering.{is_lt, nat_cmp}
use Rattle.std.specs.declared.cmp.Ordering.TheVariants.{Equal, Greater}
use Rattle.std.proofs.lemmas.Bool.{lt-ltb, le-ltb, cases_lt}
use Rattle.xls_shared_formulas.specs.declared.found.RangeFormula.{RangeFormula}
use Rattle.xls_shared_formulas.specs.declared.fields.FormulaKind.TheVariants.{Shared}
use Rattle.xls_shared_formulas.specs.Found.{anchor_number, last_at, last_or}
use Rattle.xls_shared_formulas.specs.Walking.{HasSameLast}

-- none belongs to the cell of this number
pub last_none : (n : ℕ) (fs : List RangeFormula) (d : RangeFormula) → ((k : ℕ) → k < length fs → anchor_number (get_or fs k d) ≢ n)
    → last_at n fs ≡ None
last_none n [] d other = refl
last_none n (f ∷ fs) d other =
    rw (last_none n fs d (λ k h. other (suc k) (omega (arith, h))), ne_eqb (anchor_number f) n (other 0 (omega arith))) refl

-- one does, and none behind it
pub last_is : (n : ℕ) (fs : List RangeFormula) (k : ℕ) (d : RangeFormula) → k < length fs → anchor_number (get_or fs k d) ≡ n
    → ((j : ℕ) → k < j → j < length fs → anchor_number (get_or fs j d) ≢ n) → last_at n fs ≡ Some (get_or fs k d)
last_is n [] k d h e other = absurd (omega (arith, h))
last_is n (f ∷ fs) zero d h e other =
    rw (last_none n fs d (λ j l. other (suc j) (omega arith) (omega (arith, l))), eq-eqb (anchor_number f) n e) refl
last_is n (f ∷ fs) (suc k) d h e other =
    rw (last_is n fs k d (omega (arith, h)) e (λ j low high. other (suc j) (omega (arith, low)) (omega (arith, high)))) refl

-- ---- a sort that keeps the order of those of one cell

abbrev before : RangeFormula → RangeFormula → Bool
before f g = is_lt (nat_cmp (anchor_number f) (anchor_number g))

is_before : (f g : RangeFormula) (b : Bool) → nat_lt (anchor_number f) (anchor_number g) ≡ b → before f g ≡ b
is_before f g true e = rw e refl
is_before f g false e = rw e (by_test (anchor_number f == anchor_number g))
  where
    by_test : (b : Bool) → is_lt (cond b Equal Greater) ≡ false
    by_test true = refl
    by_test false = refl

-- those of one cell tie, and no others
ties_number : (f g : RangeFormula) (n : ℕ) → anchor_number f ≡ n → ties before f g ≡ (anchor_number g == n)
ties_number f g n e = elim (cases_lt (anchor_number f) (anchor_number g)) [
  | inl low ↦ rw (is_before f g true (lt-ltb _ _ low), ne_eqb (anchor_number g) n (λ same. absurd (omega (arith, low, same, e)))) refl
  | inr high ↦ elim (cases_lt (anchor_number g) (anchor_number f)) [
    | inl low ↦ rw (
      is_before f g false (le-ltb _ _ high),
      is_before g f true (lt-ltb _ _ low),
      ne_eqb (anchor_number g) n
          (λ same. absurd (omega (arith, low, same, e))),
    ) refl
    | inr up ↦ rw (
      is_before f g false (le-ltb _ _ high),
      is_before g f false (le-ltb _ _ up),
      eq-eqb (anchor_number g) n
          (omega (arith, high, up, e)),
    ) refl
  ]
]

last_or_none : (f : Option RangeFormula) → last_or f None ≡ f
last_or_none None = refl
last_or_none (Some f) = refl

-- the last of a cell is the last of those that tie with one of it
last_filtered : (n : ℕ) (f : RangeFormula) → anchor_number f ≡ n → (gs : List RangeFormula) → last_at n (filter (ties before f) gs)
    ≡ last_at n gs
last_filtered n f e [] = refl
last_filtered n f e (g ∷ gs) = by_test (anchor_number g == n) refl (last_filtered n f e gs)
  where
    by_test : (b : Bool) → (anchor_number g == n) ≡ b → last_at n (filter (ties before f) gs) ≡ last_at n gs
        → last_at n (filter (ties before f) (g ∷ gs)) ≡ last_at n (g ∷ gs)
    by_test true same others = rw (ties_number f g n e, same, same, others) refl
    by_test false other others = rw (ties_number f g n e, other, others) (sym (last_or_none (last_at n gs)))

pub same_last : (old new : List RangeFormula) → IsStableByKey anchor_number nat_cmp old new → HasSameLast old new
same_last old new stable n =
    let f : RangeFormula = record {
      offset = 0;
      kind = Shared;
      range = record { first_row = 0; last_row = 0; first_column = 0; last_column = 0 };
      anchor = record { row = 0; column = n };
    } in
    sym (last_filtered n f (omega arith) new) ∙ ap (last_at n) (stable f) ∙ last_filtered n f (omega arith) old
