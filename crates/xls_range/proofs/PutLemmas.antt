-- The cells so far.
use Rattle.std.proofs.Common.{◌≡◌, ℕ, ◌+◌, ◌<◌, ◌≤◌, Bool, true, false, List, [], ◌∷◌, ◌++◌, length, refl, sym, ap, subst, ◌∙◌, append_assoc, arith, Option, Some, None, inl, inr, map, take, get_or, set, ◌-◌}
use Rattle.std.specs.Prelude.{◌⊎◌, ◌&&◌, ◌==◌, if◌then◌else◌}
use Rattle.std.specs.Option.{option_or}
use Rattle.std.specs.List.{AllByRecursion}
use Rattle.std.proofs.lemmas.List.{append-nil, map-append, length-append, take_all, take_more, get_or_at, set_at, length-take-le}
use Rattle.xls_range.specs.declared.sorted.Numbered.{Numbered}
use Rattle.xls_range.specs.Positions.{Position, Entry, Precedes, IsAscending, last_at, numbered_entry, cell_position, IsNotAfter, IsInOrder, HasSame, PutsEntry, EndsAt}
use Rattle.xls_range.proofs.LastLemmas.{weaker}

abbrev IsAtMost : Position → Position → Type 0
IsAtMost p q = (p.0 < q.0) ⊎ ((p.0 ≡ q.0) × (p.1 ≤ q.1))

abbrev numbered_position : {T : Type 0} → Numbered T → Position
numbered_position x = x.cell.0

-- ---- entries

pub option_or_assoc : {V : Type 0} (a b c : Option V)
    → option_or (option_or a b) c ≡ option_or a (option_or b c)
option_or_assoc None b c = refl
option_or_assoc (Some x) b c = refl

option_or_none : {V : Type 0} (a : Option V) → option_or a None ≡ a
option_or_none None = refl
option_or_none (Some x) = refl

pub last_at-append : {V : Type 0} (es fs : List (Position × V)) (p : Position)
    → last_at (es ++ fs) p ≡ option_or (last_at fs p) (last_at es p)
last_at-append [] fs p = sym (option_or_none (last_at fs p))
last_at-append (e ∷ es) fs p =
    rw (last_at-append es fs p) (option_or_assoc (last_at fs p) (last_at es p) _)

module _ {V : Type 0} where
  same_pushed : (es fs : List (Position × V)) (e : Position × V) (p : Position)
      → last_at es p ≡ last_at fs p → last_at (es ++ e ∷ []) p ≡ last_at (fs ++ e ∷ []) p
  same_pushed es fs e p h = rw (last_at-append es (e ∷ []) p, last_at-append fs (e ∷ []) p, h) refl

  -- a value is forgotten once another one is given to its position
  forgotten : (es : List (Position × V)) (d e : Position × V) (p : Position) → d.0.0 ≡ e.0.0
      → d.0.1 ≡ e.0.1 → last_at (es ++ e ∷ []) p ≡ last_at ((es ++ d ∷ []) ++ e ∷ []) p
  forgotten es d e p r s =
      rw (
        last_at-append es (e ∷ []) p,
        last_at-append (es ++ d ∷ []) (e ∷ []) p,
        last_at-append es (d ∷ []) p,
        r,
        s,
      ) (by_test (e.0.0 == p.0 && e.0.1 == p.1) (last_at es p))
    where
      by_test : (b : Bool) (o : Option V)
          → option_or (option_or None (if b then Some e.1 else None)) o ≡ option_or (option_or None (if b then Some e.1 else None)) (option_or (option_or None (if b then Some d.1 else None)) o)
      by_test true o = refl
      by_test false o = refl

-- ---- positions

pairs : (a b c d : ℕ) → a ≡ c → b ≡ d → ◌≡◌ {A = Position} (a, b) (c, d)
pairs a b c d e f = cc

pub before_trans : (a b c d e f : ℕ) → Precedes (a, b) (c, d) → Precedes (c, d) (e, f)
    → Precedes (a, b) (e, f)
before_trans a b c d e f h i = grind arith

before_from : (a b c d : ℕ) → IsAtMost (a, b) (c, d) → ((a ≡ c) × (b ≡ d) → ⊥)
    → Precedes (a, b) (c, d)
before_from a b c d h n =
    elim h [
      | inl l ↦ inl l
      | inr e ↦ inr (
        e.0,
        let l = e.1 in let ne : (b ≡ d)
            → ⊥ = λ s. n (e.0, s) in omega arith,
      )
    ]

at_most_from : (a b n c d m : ℕ) → (a < c) ⊎ ((a ≡ c) × ((b < d) ⊎ ((b ≡ d) × (n ≤ m))))
    → IsAtMost (a, b) (c, d)
at_most_from a b n c d m h = grind arith

ascending_push : (ps : List Position) (p : Position) → IsAscending ps
    → AllByRecursion (λ q. Precedes q p) ps → IsAscending (ps ++ p ∷ [])
ascending_push [] p a h = (tt, tt)
ascending_push (q ∷ qs) p a h = (push qs a.0, ascending_push qs p a.1 h.1)
  where
    push : (rs : List Position) → AllByRecursion (Precedes q) rs
        → AllByRecursion (Precedes q) (rs ++ p ∷ [])
    push [] b = (h.0, tt)
    push (r ∷ rs) b = (b.0, push rs b.1)

pub all_push : {X : Type 0} (P : X → Type 0) (xs : List X) (y : X) → AllByRecursion P xs → P y
    → AllByRecursion P (xs ++ y ∷ [])
all_push P [] y a h = (h, tt)
all_push P (x ∷ xs) y a h = (a.0, all_push P xs y a.1 h)

module _ {T : Type 0} where
  all_before : (cells : List (Entry T)) (p : Position) → IsAscending (map cell_position cells)
      → AllByRecursion (λ q. IsAtMost q p) (map cell_position cells)
      → ((prefix : List (Entry T)) (last : Entry T) → cells ≡ prefix ++ last ∷ []
      → cell_position last ≡ p → ⊥)
      → AllByRecursion (λ q. Precedes q p) (map cell_position cells)
  all_before [] p a m n = tt
  all_before (x ∷ []) p a m n =
      (before_from x.0.0 x.0.1 p.0 p.1 m.0 (λ e. n [] x refl (pair e.0 e.1)), tt)
    where
      pair : x.0.0 ≡ p.0 → x.0.1 ≡ p.1 → cell_position x ≡ p
      pair e f = pairs x.0.0 x.0.1 p.0 p.1 e f
  all_before (x ∷ y ∷ ys) p a m n =
      let rest = all_before (y ∷ ys) p a.1 m.1 (λ prefix last e s. n (x ∷ prefix) last (ap (λ (l : List (Entry T)). x ∷ l) e) s) in
      (before_trans x.0.0 x.0.1 y.0.0 y.0.1 p.0 p.1 a.0.0 rest.0, rest)

  order_after : (prefix rest : List (Numbered T)) → IsInOrder (prefix ++ rest) → IsInOrder rest
  order_after [] rest o = o
  order_after (x ∷ prefix) rest o = order_after prefix rest o.1

  -- the cells are those of the elements done, in order, and none stands after what is left
  pub record SoFar (all : List (Numbered T)) (cells : List (Entry T)) (rest : List (Numbered T)) : Type 0 where
    pub done : List (Numbered T)
    pub whole : all ≡ done ++ rest
    pub ascending : IsAscending (map cell_position cells)
    pub same : HasSame cells done
    pub below : AllByRecursion (λ q. AllByRecursion (λ y. IsAtMost q (numbered_position y)) rest) (map cell_position cells)

  pub nothing_so_far : (all : List (Numbered T)) (cells : List (Entry T)) → cells ≡ []
      → SoFar all cells all
  nothing_so_far all cells e =
      subst (λ (l : List (Entry T)). SoFar all l all) (sym e) (record {
        done = [];
        whole = refl;
        ascending = tt;
        same = λ p. refl;
        below = tt;
      })

  positions_push : (cells : List (Entry T)) (c : Entry T)
      → map cell_position (cells ++ c ∷ []) ≡ map cell_position cells ++ cell_position c ∷ []
  positions_push cells c = map-append cell_position cells (c ∷ [])

  givens_push : (xs : List (Numbered T)) (x : Numbered T)
      → map numbered_entry (xs ++ x ∷ []) ≡ map numbered_entry xs ++ numbered_entry x ∷ []
  givens_push xs x = map-append numbered_entry xs (x ∷ [])

  later : (ps : List Position) (y : Numbered T) (rest : List (Numbered T))
      → AllByRecursion (λ q. AllByRecursion (λ z. IsAtMost q (numbered_position z)) (y ∷ rest)) ps
      → AllByRecursion (λ q. AllByRecursion (λ z. IsAtMost q (numbered_position z)) rest) ps
  later ps y rest h = weaker (λ q. AllByRecursion (λ z. IsAtMost q (numbered_position z)) (y ∷ rest)) (λ q. AllByRecursion (λ z. IsAtMost q (numbered_position z)) rest) (λ q a. a.1) ps h

  split_last : (xs : List (Entry T)) (d : Entry T) → 0 < length xs → xs ≡ take (length xs - 1) xs
      ++ get_or xs (length xs - 1) d ∷ []
  split_last xs d h =
      let n : length xs - 1 + 1 ≡ length xs = omega arith in
      sym (take_all (length xs) xs (omega arith)) ∙ ap (λ (k : ℕ). take k xs) (sym n)
      ∙ take_more xs (length xs - 1) d (omega arith)

  abbrev Placed : List (Entry T) → Entry T → List (Entry T) → Type 0
  Placed before c after =
      ((prefix : List (Entry T)) × (last : Entry T) × (before ≡ prefix ++ last ∷ [])
      × (last.0.0 ≡ c.0.0) × (last.0.1 ≡ c.0.1) × (after ≡ prefix ++ c ∷ []))
      ⊎ ((after ≡ before ++ c ∷ [])
      × ((prefix : List (Entry T)) (last : Entry T) → before ≡ prefix ++ last ∷ []
      → cell_position last ≡ cell_position c → ⊥))

  ends : (prefix : List (Entry T)) (last c : Entry T) → cell_position last ≡ cell_position c
      → EndsAt (prefix ++ last ∷ []) c.0.0 c.0.1
  ends prefix last c e =
      let n : length (prefix ++ last ∷ []) - 1 ≡ length prefix =
      omega (arith, length-append prefix (last ∷ [])) in (
        omega (arith, length-append prefix (last ∷ [])),
        λ d.
            let at : get_or (prefix ++ last ∷ []) (length (prefix ++ last ∷ []) - 1) d ≡ last =
            get_or_at prefix last [] d (length (prefix ++ last ∷ []) - 1) (sym n) in (
              ap (λ (x : Entry T). x.0.0) at ∙ ap (λ (p : Position). p.0) e,
              ap (λ (x : Entry T). x.0.1) at ∙ ap (λ (p : Position). p.1) e,
            ),
      )

  placed : (before : List (Entry T)) (c : Entry T) (after : List (Entry T)) → PutsEntry before c after
      → Placed before c after
  placed before c after h =
      elim h [
        | inl r ↦
            let l = get_or before (length before - 1) c in
            let whole = split_last before c r.0.0 in
            inl (
              take (length before - 1) before,
              l,
              whole,
              (r.0.1 c).0,
              (r.0.1 c).1,
              r.1 ∙ ap (λ (x : List (Entry T)). set x (length before - 1) c) whole
                  ∙ set_at (take (length before - 1) before) l [] c (length before - 1) (length-take-le (length before - 1) before (omega arith)),
            )
        | inr r ↦ inr (r.1, λ prefix last e f. r.0 (subst (λ (x : List (Entry T)). EndsAt x c.0.0 c.0.1) (sym e) (ends prefix last c f)))
      ]

  pub put_so_far : (all : List (Numbered T)) (cells after : List (Entry T)) (y : Numbered T) (c : Entry T) (rest : List (Numbered T)) → IsInOrder all → c ≡ numbered_entry y → SoFar all cells (y ∷ rest) → PutsEntry cells c after → SoFar all after rest
  put_so_far all cells after y c rest o e s h =
      let order = order_after s.done (y ∷ rest) (subst (λ (l : List (Numbered T)). IsInOrder l) s.whole o) in
      let spot_of : cell_position c ≡ numbered_position y = ap (λ (x : Position × T). x.0) e in
      let whole : all ≡ (s.done ++ y ∷ []) ++ rest =
      s.whole ∙ sym (append_assoc s.done (y ∷ []) rest) in
      elim (placed cells c after h) [
        | inl r ↦
            let spot : cell_position r.1 ≡ cell_position c = both r.1 c r.3 r.4 in
            let places : map cell_position cells ≡ map cell_position after =
            ap (map cell_position) r.2 ∙ positions_push r.0 r.1
            ∙ ap (λ (p : Position). map cell_position r.0 ++ p ∷ []) spot
            ∙ sym (positions_push r.0 c) ∙ sym (ap (map cell_position) r.5) in
            record {
              done = s.done ++ y ∷ [];
              whole = whole;
              ascending = subst IsAscending places s.ascending;
              same = λ p.
                  ap (λ (l : List (Entry T)). last_at (l) p) r.5
                  ∙ forgotten (r.0) r.1 c p r.3 r.4
                  ∙ ap (λ (l : List (Position × T)). last_at (l ++ c ∷ []) p) (sym r.2)
                  ∙ same_pushed (cells) (map numbered_entry s.done) c p (s.same p)
                  ∙ ap (λ (x : Position × T). last_at (map numbered_entry s.done ++ x ∷ []) p) e
                  ∙ ap (λ (l : List (Position × T)). last_at l p) (sym (givens_push s.done y));
              below = subst (λ (ps : List Position). AllByRecursion (λ q. AllByRecursion (λ z. IsAtMost q (numbered_position z)) rest) ps) places (later (map cell_position cells) y rest s.below);
            }
        | inr r ↦
            let places : map cell_position cells
            ++ numbered_position y ∷ [] ≡ map cell_position after =
            ap (λ (p : Position). map cell_position cells ++ p ∷ []) (sym spot_of)
            ∙ sym (positions_push cells c) ∙ sym (ap (map cell_position) r.0) in
            let most : AllByRecursion (λ q. IsAtMost q (numbered_position y)) (map cell_position cells) =
            weaker (λ q. AllByRecursion (λ z. IsAtMost q (numbered_position z)) (y ∷ rest)) (λ q. IsAtMost q (numbered_position y)) (λ q a. a.0) (map cell_position cells) s.below in
            let strict = all_before cells (numbered_position y) s.ascending most (λ prefix last f g. r.1 prefix last f (g ∙ sym spot_of)) in
            record {
              done = s.done ++ y ∷ [];
              whole = whole;
              ascending = subst IsAscending places (ascending_push (map cell_position cells) (numbered_position y) s.ascending strict);
              same = λ p.
                  ap (λ (l : List (Entry T)). last_at (l) p) r.0
                  ∙ same_pushed (cells) (map numbered_entry s.done) c p (s.same p)
                  ∙ ap (λ (x : Position × T). last_at (map numbered_entry s.done ++ x ∷ []) p) e
                  ∙ ap (λ (l : List (Position × T)). last_at l p) (sym (givens_push s.done y));
              below = subst (λ (ps : List Position). AllByRecursion (λ q. AllByRecursion (λ z. IsAtMost q (numbered_position z)) rest) ps) places
                  (all_push (λ q. AllByRecursion (λ z. IsAtMost q (numbered_position z)) rest) (map cell_position cells) (numbered_position y) (later (map cell_position cells) y rest s.below)
                  (weaker (IsNotAfter y) (λ z. IsAtMost (numbered_position y) (numbered_position z)) (λ z n. at_most_from y.cell.0.0 y.cell.0.1 y.number z.cell.0.0 z.cell.0.1 z.number n) rest order.0));
            }
      ]
    where
      both : (a b : Entry T) → a.0.0 ≡ b.0.0 → a.0.1 ≡ b.0.1 → cell_position a ≡ cell_position b
      both a b p q = pairs a.0.0 a.0.1 b.0.0 b.0.1 p q

  pub all_put : (all : List (Numbered T)) (cells : List (Entry T)) (rest : List (Numbered T)) → rest ≡ []
      → SoFar all cells rest → IsAscending (map cell_position cells) × HasSame cells all
  all_put all cells rest e s =
      let whole : all ≡ s.done =
      s.whole ∙ ap (λ (l : List (Numbered T)). s.done ++ l) e ∙ append-nil s.done in (
        s.ascending,
        λ p. s.same p
            ∙ ap (λ (l : List (Numbered T)). last_at (map numbered_entry l) p) (sym whole),
      )
