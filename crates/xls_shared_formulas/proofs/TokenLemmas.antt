-- The formulas to which tokens point.
use Rattle.std.proofs.Common.{◌≡◌, ◌≢◌, ℕ, ◌<◌, List, [], ◌∷◌, ◌++◌, refl, sym, ap, ap₂, ◌∙◌, subst, arith, Bool, true, false, cond}
use Rattle.std.proofs.Common.{Option, Some, None, Ok, Err, eq-eqb, ne_eqb}
use Rattle.std.specs.Prelude.{◌==◌}
use Rattle.std.proofs.lemmas.Bool.{eqb-true, eqb-false}
use Rattle.xls_shown_ptg.specs.declared.fault.Fault.{Fault}
use Rattle.xls_shared_formulas.specs.declared.fields.CellPlace.{CellPlace}
use Rattle.xls_shared_formulas.specs.declared.found.RangeFormula.{RangeFormula}
use Rattle.xls_shared_formulas.specs.Fields.{holds}
use Rattle.xls_shared_formulas.specs.Found.{anchor_number, held_by, last_at, last_or, number}
use Rattle.xls_shared_formulas.specs.Laws.{AreCells, IsLast, NoneAt, TokensFind}

-- cells of one number are one
same_number : (a b : CellPlace) → a.column < 0x10000 → b.column < 0x10000 → number a ≡ number b → a ≡ b
same_number a b h k e =
    let rows : a.row ≡ b.row = omega (arith, h, k, e) in
    let columns : a.column ≡ b.column = omega (arith, h, k, e) in
    ap₂ (λ (r c : ℕ). record { row = r; column = c }) rows columns

module _ (t : CellPlace) (in_range : t.column < 0x10000) where
  none_at : (fs : List RangeFormula) → last_at (number t) fs ≡ None → NoneAt t fs
  none_at [] e = tt
  none_at (f ∷ fs) e = by_others (last_at (number t) fs) (anchor_number f == number t) refl e (none_at fs)
    where
      by_others : (o : Option RangeFormula) (b : Bool) → (anchor_number f == number t) ≡ b → last_or o (cond b (Some f) None) ≡ None
          → (o ≡ None → NoneAt t fs) → (f.anchor ≢ t) × NoneAt t fs
      by_others None false other e others = (λ same. eqb-false _ _ other (ap number same), others refl)
      by_others None true same e others = absurd cc
      by_others (Some g) b test e others = absurd cc

  is_none : (fs : List RangeFormula) → AreCells fs → NoneAt t fs → last_at (number t) fs ≡ None
  is_none [] cells none = refl
  is_none (f ∷ fs) cells none =
      rw (
        is_none fs cells.1 none.1,
        ne_eqb (anchor_number f) (number t)
            (λ same. none.0 (same_number f.anchor t cells.0 in_range same)),
      ) refl

  is_last : (fs : List RangeFormula) (f : RangeFormula) → AreCells fs → last_at (number t) fs ≡ Some f → IsLast fs f × (f.anchor ≡ t)
  is_last [] f cells e = absurd cc
  is_last (g ∷ fs) f cells e = by_others (last_at (number t) fs) refl (anchor_number g == number t) refl e (is_last fs f cells.1)
      (none_at fs)
    where
      by_others : (o : Option RangeFormula) → last_at (number t) fs ≡ o → (b : Bool) → (anchor_number g == number t) ≡ b
          → last_or o (cond b (Some g) None) ≡ Some f
          → (last_at (number t) fs ≡ Some f → IsLast fs f × (f.anchor ≡ t)) → (last_at (number t) fs ≡ None → NoneAt t fs)
          → IsLast (g ∷ fs) f × (f.anchor ≡ t)
      by_others (Some h) was b test e others none =
          let x = others (was ∙ e) in
          (record { before = g ∷ x.0.before; after = x.0.after; whole = ap (λ rest. g ∷ rest) x.0.whole; others = x.0.others }, x.1)
      by_others None was false test e others none = absurd cc
      by_others None was true test e others none =
          let here : g.anchor ≡ t = same_number g.anchor t cells.0 in_range (eqb-true _ _ test) in
          let same : g ≡ f = (let e2 = e in cc) in
          subst (λ (x : RangeFormula). IsLast (g ∷ fs) x × (x.anchor ≡ t)) same
          (record { before = []; after = fs; whole = refl; others = subst (λ (c : CellPlace). NoneAt c fs) (sym here) (none was) }, here)

  here_is : (f : RangeFormula) (after : List RangeFormula) → AreCells after → f.anchor ≡ t → NoneAt t after
      → last_at (number t) (f ∷ after) ≡ Some f
  here_is f after cells e none = rw (is_none after cells none, eq-eqb (anchor_number f) (number t) (ap number e)) refl

  last_is_it : (before : List RangeFormula) (f : RangeFormula) (after : List RangeFormula) → AreCells (before ++ f ∷ after) → f.anchor
      ≡ t → NoneAt t after
      → last_at (number t) (before ++ f ∷ after) ≡ Some f
  last_is_it [] f after cells e none = here_is f after cells.1 e none
  last_is_it (g ∷ before) f after cells e none = rw (last_is_it before f after cells.1 e none) refl

held_is : (fault : Fault) (cell : CellPlace) (o : Option RangeFormula) (f : RangeFormula) → held_by fault cell o ≡ Ok f
    → (o ≡ Some f) × (holds f.range cell ≡ true)
held_is fault cell None f e = absurd cc
held_is fault cell (Some g) f e = by_test (holds g.range cell) refl e
  where
    by_test : (b : Bool) → holds g.range cell ≡ b → cond b (Ok g) (Err fault) ≡ Ok f → (Some g ≡ Some f) × (holds f.range cell ≡ true)
    by_test true test e = let same : g ≡ f = (let e2 = e in cc) in (
      ap Some same,
      subst
          (λ (x : RangeFormula). holds x.range cell ≡ true) same test,
    )
    by_test false test e = absurd cc

pub tokens_find : TokensFind
tokens_find fs token cell f cells in_range = (
  λ e.
      let held = held_is _ cell (last_at (number token) fs) f e in
      let last = is_last token in_range fs f cells held.0 in
      (last.0, last.1, held.1),
  λ last e test.
      let there = last_is_it token in_range last.before f last.after (subst AreCells last.whole cells) e
      (subst (λ (c : CellPlace). NoneAt c last.after) e last.others) in
      rw (last.whole, there, test) refl,
)
