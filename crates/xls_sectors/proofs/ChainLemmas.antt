-- Chains: one outcome, and a chain of more sectors than there are has a loop.
use Rattle.std.proofs.Common.{◌≡◌, ◌⊎◌, ℕ, zero, suc, ◌<◌, ◌≤◌, List, [], ◌∷◌, ◌++◌, length, get_or, Option, Some, None, true, false, refl, sym, ap, subst, ◌∙◌, inl, inr, arith, Contains, length-append}
use Rattle.std.specs.List.{AllByRecursion, IsDistinct, list_any}
use Rattle.std.proofs.Math.Dec.{eqb}
use Rattle.std.proofs.lemmas.Bool.{cases_lt, eqb-true}
use Rattle.std.proofs.lemmas.Bool.Decides.{eqb_tells}
use Rattle.std.proofs.lemmas.Map.Keys.{IsDistinct-cons}
use Rattle.std.proofs.lemmas.Map.Steps.{length-le_from_distinct_below}
use Rattle.std.proofs.lemmas.Map.Views.{Contains-from_any}
use Rattle.xls_sectors.specs.Chains.{Path, Stops, Loops}
use Rattle.xls_sectors.specs.Laws.{OneOutcome}

some_same : (x y : ℕ) → Some x ≡ Some y → x ≡ y
some_same x y e = cc

none_or_some : (o : Option ℕ) (x : ℕ) → o ≡ None → o ≡ Some x → ⊥
none_or_some o x e f = cc

-- ---- elements of a list

contains_cases : (x : ℕ) (xs : List ℕ) (y k : ℕ) → k < length (x ∷ xs) → get_or (x ∷ xs) k y ≡ y → (x ≡ y) ⊎ Contains xs y
contains_cases x xs y zero lt e = inl e
contains_cases x xs y (suc k) lt e = inr (k, omega arith, e)

pub Contains-cases : (x : ℕ) (xs : List ℕ) (y : ℕ) → Contains (x ∷ xs) y → (x ≡ y) ⊎ Contains xs y
Contains-cases x xs y c = contains_cases x xs y c.0 c.1 c.2

no_element : (k n : ℕ) → n ≡ 0 → k < n → ⊥
no_element k n e lt = omega arith

pub Contains-head : (x : ℕ) (xs : List ℕ) → Contains (x ∷ xs) x
Contains-head x xs = (0, omega arith, refl)

pub Contains-more : (x : ℕ) (xs : List ℕ) (y : ℕ) → Contains xs y → Contains (x ∷ xs) y
Contains-more x xs y c = (suc c.0, omega (arith, c.1), c.2)

-- x is in the list, or differs from each of it
there_or_not : (x : ℕ) (xs : List ℕ) → Contains xs x ⊎ AllByRecursion (λ y. eqb x y ≡ false) xs
there_or_not x [] = inr tt
there_or_not x (y ∷ ys) =
    elim (eqb_tells x y) [
      | inl same ↦ inl (subst (λ (z : ℕ). Contains (z ∷ ys) x) same.1 (Contains-head x ys))
      | inr other ↦ elim (there_or_not x ys) [
        | inl there ↦ inl (Contains-more y ys x there)
        | inr rest ↦ inr (other.0, rest)
      ]
    ]

-- ---- paths

module _ (next : ℕ → Option ℕ) where
  -- one sector more at the end
  pub Path-push : (first : ℕ) (ss : List ℕ) (s then : ℕ) → Path next first ss s → next s ≡ Some then
      → Path next first (ss ++ s ∷ []) then
  Path-push first [] s then p e = (p, (then, e, refl))
  Path-push first (x ∷ xs) s then p e =
      (p.0, (p.1.0, p.1.1, Path-push p.1.0 xs s then p.1.2 e))

  -- the first number is the first sector, if there is one
  first_there : (first s then : ℕ) (ss : List ℕ) → Path next first (ss ++ s ∷ []) then → Contains (ss ++ s ∷ []) first
  first_there first s then [] p = subst (λ (x : ℕ). Contains (x ∷ []) first) p.0 (Contains-head first [])
  first_there first s then (x ∷ xs) p = subst (λ (y : ℕ). Contains (y ∷ xs ++ s ∷ []) first) p.0 (Contains-head first _)

  -- a loop is one from its second number on
  loop_on : (first after : ℕ) (ss : List ℕ) → Path next first ss after → Contains ss after
      → (then : ℕ) × (next first ≡ Some then) × Loops next then
  loop_on first after [] p c = absurd (no_element c.0 0 refl c.1)
  loop_on first after (x ∷ xs) p c =
      let then = p.1.0 in
      let is_first : next first ≡ Some then = ap next p.0 ∙ p.1.1 in (
        then,
        is_first,
        elim (Contains-cases x xs after c) [
          | inl same ↦
              let step : next after ≡ Some then = ap next (sym same) ∙ p.1.1 in
              let whole : Path next then (xs ++ after ∷ []) then = Path-push then xs after then p.1.2 step in
              record { sectors = xs ++ after ∷ []; after = then; path = whole; again = first_there then after then xs whole }
          | inr there ↦ record { sectors = xs; after = after; path = p.1.2; again = there }
        ],
      )

  loop_step : (first : ℕ) → Loops next first → (then : ℕ) × (next first ≡ Some then) × Loops next then
  loop_step first l = loop_on first l.after l.sectors l.path l.again

  -- a chain that stops has no loop
  pub apart : (first after : ℕ) (ss : List ℕ) → Path next first ss after → next after ≡ None → Loops next first → ⊥
  apart first after [] p stop l =
      let step = loop_step first l in
      none_or_some (next after) step.0 stop (ap next (sym p) ∙ step.1)
  apart first after (x ∷ xs) p stop l =
      let step = loop_step first l in
      let same : step.0 ≡ p.1.0 = some_same _ _ (sym step.1 ∙ ap next p.0 ∙ p.1.1) in
      apart p.1.0 after xs p.1.2 stop (subst (λ (n : ℕ). Loops next n) same step.2)

  -- and no other sectors
  pub same_chain : (first a b : ℕ) (ss ts : List ℕ) → Path next first ss a → next a ≡ None
      → Path next first ts b → next b ≡ None → (ss ≡ ts) × (a ≡ b)
  same_chain first a b [] [] p stop q end = (refl, sym p ∙ q)
  same_chain first a b [] (t ∷ ts) p stop q end =
      absurd (none_or_some (next a) q.1.0 stop (ap next (sym p ∙ q.0) ∙ q.1.1))
  same_chain first a b (s ∷ ss) [] p stop q end =
      absurd (none_or_some (next b) p.1.0 end (ap next (sym q ∙ p.0) ∙ p.1.1))
  same_chain first a b (s ∷ ss) (t ∷ ts) p stop q end =
      let heads : s ≡ t = sym p.0 ∙ q.0 in
      let thens : q.1.0 ≡ p.1.0 = some_same _ _ (sym q.1.1 ∙ ap next (sym heads) ∙ p.1.1) in
      let rest = same_chain p.1.0 a b ss ts p.1.2 stop (subst (λ (n : ℕ). Path next n ts b) thens q.1.2) end in
      (cc (heads, rest.0), rest.1)

  -- what stands in a path has a number after it
  followed : (first after q : ℕ) (ss : List ℕ) → Path next first ss after → Contains ss q → (then : ℕ) × (next q ≡ Some then)
  followed first after q [] p c = absurd (no_element c.0 0 refl c.1)
  followed first after q (s ∷ ss) p c =
      elim (Contains-cases s ss q c) [
        | inl same ↦ (p.1.0, ap next (sym same) ∙ p.1.1)
        | inr there ↦ followed p.1.0 after q ss p.1.2 there
      ]

  -- the part of a path up to a sector in it
  path_to : (first after q : ℕ) (ss : List ℕ) → Path next first ss after → Contains ss q → (ts : List ℕ) × Path next first ts q
  path_to first after q [] p c = absurd (no_element c.0 0 refl c.1)
  path_to first after q (s ∷ ss) p c =
      elim (Contains-cases s ss q c) [
        | inl same ↦ ([], p.0 ∙ same)
        | inr there ↦ let part = path_to p.1.0 after q ss p.1.2 there in (s ∷ part.0, (p.0, (p.1.0, p.1.1, part.1)))
      ]

  -- no sector stands twice in a path, or there is a loop
  distinct_or_loops : (first after : ℕ) (ss : List ℕ) → Path next first ss after → IsDistinct eqb ss ⊎ Loops next first
  unfolding IsDistinct
  distinct_or_loops first after [] p = inl tt
  distinct_or_loops first after (s ∷ ss) p =
      elim (distinct_or_loops p.1.0 after ss p.1.2) [
        | inl distinct ↦ elim (there_or_not s ss) [
          | inl there ↦
              let part = path_to p.1.0 after s ss p.1.2 there in
              inr record { sectors = s ∷ part.0; after = s; path = (p.0, (p.1.0, p.1.1, part.1)); again = Contains-head s part.0 }
          | inr new ↦ inl (IsDistinct-cons eqb s ss new distinct)
        ]
        | inr l ↦ inr record { sectors = s ∷ l.sectors; after = l.after; path = (p.0, (p.1.0, p.1.1, l.path)); again = Contains-more s l.sectors l.after l.again }
      ]

  below : (first after bound : ℕ) (ss : List ℕ) → ((n : ℕ) → bound ≤ n → next n ≡ None) → Path next first ss after
      → (q : ℕ) → list_any (eqb q) ss ≡ true → q < bound
  below first after bound ss past p q any =
      elim (cases_lt q bound) [
        | inl lt ↦ lt
        | inr ge ↦
            let there = followed first after q ss p (Contains-from_any {eq = eqb} eqb-true q ss any) in
            absurd (none_or_some (next q) there.0 (past q ge) there.1)
      ]

  -- a path of more sectors than there are
  pub long_loops : (first after bound : ℕ) (ss : List ℕ) → ((n : ℕ) → bound ≤ n → next n ≡ None)
      → Path next first ss after → bound < length ss → Loops next first
  long_loops first after bound ss past p long =
      elim (distinct_or_loops first after ss p) [
        | inl distinct ↦
            let few : length ss ≤ bound = length-le_from_distinct_below ss bound distinct (below first after bound ss past p) in
            absurd (omega arith)
        | inr l ↦ l
      ]

  -- the chain stops within so many sectors, or is longer
  abbrev pub Within : ℕ → ℕ → Type 0
  Within first n = ((ss : List ℕ) × ((after : ℕ) × Stops next first ss after × (length ss ≤ n)))
      ⊎ ((ss : List ℕ) × ((after : ℕ) × Path next first ss after × (length ss ≡ suc n)))

  option_cases : (o : Option ℕ) → (o ≡ None) ⊎ ((x : ℕ) × (o ≡ Some x))
  option_cases None = inl refl
  option_cases (Some x) = inr (x, refl)

  one_more : (first after n : ℕ) (ss : List ℕ) → Path next first ss after → length ss ≡ n → Within first n
  one_more first after n ss p len =
      elim (option_cases (next after)) [
        | inl stop ↦ inl (ss, (after, record { path = p; stop = stop }, omega arith))
        | inr step ↦ inr (ss ++ after ∷ [], (step.0, Path-push first ss after step.0 p step.1, simp length-append (omega arith)))
      ]

  walk : (first n : ℕ) → Within first n
  walk first zero = one_more first first 0 [] refl refl
  walk first (suc n) =
      elim (walk first n) [
        | inl short ↦ inl (short.0, (short.1.0, short.1.1, omega (arith, short.1.2)))
        | inr long ↦ one_more first long.1.0 (suc n) long.0 long.1.1 long.1.2
      ]

  some_outcome : (first bound : ℕ) → ((n : ℕ) → bound ≤ n → next n ≡ None)
      → ((ss : List ℕ) × ((after : ℕ) × Stops next first ss after × (length ss ≤ bound))) ⊎ Loops next first
  some_outcome first bound past =
      elim (walk first bound) [
        | inl short ↦ inl short
        | inr long ↦ inr (long_loops first long.1.0 bound long.0 past long.1.1 (omega (arith, long.1.2)))
      ]

  pub one_outcome : (bound first : ℕ) → ((n : ℕ) → bound ≤ n → next n ≡ None) → OneOutcome next bound first
  one_outcome bound first past = record {
    some = some_outcome first bound past;
    sectors = λ ss ts a b p q. (same_chain first a b ss ts p.path p.stop q.path q.stop).0;
    after = λ ss ts a b p q. (same_chain first a b ss ts p.path p.stop q.path q.stop).1;
    apart = λ ss a p l. apart first a ss p.path p.stop l;
  }
