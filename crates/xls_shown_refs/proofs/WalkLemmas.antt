-- What is cited, name by name.
use Rattle.std.proofs.Common.{zero, suc, ◌≡◌, ℕ, ◌+◌, ◌-◌, ◌<◌, ◌≤◌, List, [], ◌∷◌, ◌++◌, length, Bool, true, false, not, cond, ◌&&◌, ◌||◌, ◌==◌, if◌then◌else◌, Option, Some, None, refl, sym, ◌∙◌, ap, arith, append_assoc, append-nil}
use Rattle.std.specs.BTreeSet.{BTreeSet, contains, Updates}
use Rattle.std.specs.List.{filter, list_any, range_with_len}
use Rattle.std.specs.Bool.{OnFalse}
use Rattle.std.specs.Prelude.{nat_le, nat_lt, slice_get}
use Rattle.std.specs.Option.{is_some, option_map}
use Rattle.std.specs.Cmp.{unsigned_ties}
use Rattle.std.specs.Ordering.{is_eq, nat_cmp}
use Rattle.std.proofs.lemmas.Bool.Decides.{nat_tests}
use Rattle.xls_defined_names.specs.Names.{Name, numbered}
use Rattle.xls_shown_refs.specs.Origins.{Citing}
use Rattle.xls_shown_refs.specs.Items.{Citation, Item, name}
use Rattle.xls_shown_refs.specs.Citations.{distinct_behind, follow_with, has, is_same, number_items, numbers, with_distinct, without}
use Rattle.xls_shown_refs.specs.Keys.{kept}
use Rattle.xls_shown_refs.specs.Walk.{Begins, unfollowed}

-- ---- without repeats

-- one more
one_by : (b : Bool) (found : List Citation) (c : Citation) (cs : List Citation)
    → found ++ (if b then distinct_behind found cs else c ∷ distinct_behind (found ++ c ∷ []) cs)
    ≡ with_distinct (if b then found else found ++ c ∷ []) cs
one_by true found c cs = refl
one_by false found c cs = sym (append_assoc found (c ∷ []) (distinct_behind (found ++ c ∷ []) cs))

pub with_one : (found : List Citation) (c : Citation) (cs : List Citation) → with_distinct found (c ∷ cs) ≡ with_distinct (kept found c) cs
with_one found c cs = one_by (list_any (λ b. is_same b c) found) found c cs

-- none more
pub with_none : (found : List Citation) → with_distinct found [] ≡ found
with_none found = append-nil found

pub with_both : (found cs ds : List Citation) → with_distinct found (cs ++ ds) ≡ with_distinct (with_distinct found cs) ds
with_both found [] ds = ap (λ (x : List Citation). with_distinct x ds) (sym (append-nil found))
with_both found (c ∷ cs) ds =
    with_one found c (cs ++ ds) ∙ (with_both (kept found c) cs ds ∙ ap (λ (x : List Citation). with_distinct x ds) (sym (with_one found c cs)))

-- ---- names that weren't followed

-- a number is one of so many from another on
has_from : (n first count : ℕ) → has n (range_with_len first count) ≡ (nat_le first n && nat_lt n (first + count))
has_from n first zero = grind (arith, nat_tests)
has_from n first (suc count) = ap (λ b. (first == n) || b) (has_from n (first + 1) count) ∙ first_or n first count
  where
    first_or : (n first count : ℕ) → ((first == n) || (nat_le (first + 1) n && nat_lt n (first + 1 + count))) ≡ (nat_le first n && nat_lt n (first + suc count))
    first_or n first count = grind (arith, nat_tests)

is_some-slice_get : {X : Type 0} (xs : List X) (n : ℕ) → is_some (slice_get xs n) ≡ nat_lt n (length xs)
is_some-slice_get [] n = grind (arith, nat_tests)
is_some-slice_get (x ∷ xs) zero = grind (arith, nat_tests)
is_some-slice_get (x ∷ xs) (suc n) = is_some-slice_get xs n ∙ grind (arith, nat_tests)

-- there is a name of a number
pub has_numbered : (n : ℕ) (names : List Name) → has n (numbers names) ≡ is_some (numbered n names)
has_numbered zero names = has_from zero 1 (length names) ∙ grind (arith, nat_tests)
has_numbered (suc n) names =
    let back : n ≡ suc n - 1 = omega arith in
    has_from (suc n) 1 (length names)
    ∙ (there ∙ (sym (is_some-slice_get names n) ∙ (ap (λ k. is_some (slice_get names k)) back ∙ not_zero (suc n == 0) (grind (arith, nat_tests)))))
  where
    there : (nat_le 1 (suc n) && nat_lt (suc n) (1 + length names)) ≡ nat_lt n (length names)
    there = grind (arith, nat_tests)

    not_zero : (b : Bool) → b ≡ false → is_some (slice_get names (suc n - 1)) ≡ is_some (if b then None else slice_get names (suc n - 1))
    not_zero true e = absurd (cc)
    not_zero false e = refl

module _ (s : BTreeSet ℕ) where
  -- of the first of some numbers, which was followed or not
  has_first : (is_followed : Bool) (n m : ℕ) (ms : List ℕ) → (m == n ≡ true → is_followed ≡ contains nat_cmp s n)
      → has n (unfollowed s ms) ≡ (has n ms && not (contains nat_cmp s n))
      → has n (cond (not is_followed) (m ∷ unfollowed s ms) (unfollowed s ms)) ≡ (((m == n) || has n ms) && not (contains nat_cmp s n))
  has_first true n m ms same e = e ∙ by_test (m == n) (contains nat_cmp s n) (has n ms) same
    where
      by_test : (b c h : Bool) → (b ≡ true → true ≡ c) → (h && not c) ≡ ((b || h) && not c)
      by_test true true true f = refl
      by_test true true false f = refl
      by_test true false h f = absurd (let g : true ≡ false = f refl in cc)
      by_test false c h f = refl
  has_first false n m ms same e = ap (λ b. (m == n) || b) e ∙ by_test (m == n) (contains nat_cmp s n) (has n ms) same
    where
      by_test : (b c h : Bool) → (b ≡ true → false ≡ c) → (b || (h && not c)) ≡ ((b || h) && not c)
      by_test true true h f = absurd (let g : false ≡ true = f refl in cc)
      by_test true false h f = refl
      by_test false c h f = refl

  pub has-unfollowed : (n : ℕ) (ms : List ℕ) → has n (unfollowed s ms) ≡ (has n ms && not (contains nat_cmp s n))
  has-unfollowed n [] = refl
  has-unfollowed n (m ∷ ms) =
      has_first (contains nat_cmp s m) n m ms (λ e. ap (contains nat_cmp s) (let at : m ≡ n = grind (arith, nat_tests, e) in at)) (has-unfollowed n ms)

-- one that is followed now
module _ (old new : BTreeSet ℕ) (n : ℕ) where
  first_is : (is_same was : Bool) (m : ℕ) (ms rest : List ℕ) → (m == n) ≡ is_same → rest ≡ without n ms
      → cond (not (cond is_same true was)) (m ∷ rest) rest ≡ without n (cond (not was) (m ∷ ms) ms)
  first_is true true m ms rest at e = e
  first_is true false m ms rest at e = e ∙ sym (ap (λ b. cond (not b) (m ∷ without n ms) (without n ms)) at)
  first_is false true m ms rest at e = e
  first_is false false m ms rest at e = ap (λ (x : List ℕ). m ∷ x) e ∙ sym (ap (λ b. cond (not b) (m ∷ without n ms) (without n ms)) at)

  same_number : (m : ℕ) → is_eq (nat_cmp n m) ≡ (m == n)
  same_number m = sym (unsigned_ties n m) ∙ grind (arith, nat_tests)

  pub unfollowed_more : Updates nat_cmp old new n true → (ms : List ℕ) → unfollowed new ms ≡ without n (unfollowed old ms)
  unfollowed_more updates [] = refl
  unfollowed_more updates (m ∷ ms) =
      ap (λ b. cond (not b) (m ∷ unfollowed new ms) (unfollowed new ms)) (updates.0 m ∙ ap (λ b. cond b true (contains nat_cmp old m)) (same_number m))
      ∙ first_is (m == n) (contains nat_cmp old m) m (unfollowed old ms) (unfollowed new ms) refl (unfollowed_more updates ms)

  -- what `insert` answers says whether the name wasn't followed
  pub begins : (names : List Name) (is_new : Bool) → is_some (numbered n names) ≡ true → is_new ≡ not (contains nat_cmp old n)
      → Updates nat_cmp old new n true → (is_new ≡ false → new.keys ≡ old.keys) → Begins old new (numbers names) n is_new
  begins names is_new there added updates same = record {
    is = added ∙ sym (has-unfollowed old n (numbers names) ∙ ap (λ b. b && not (contains nat_cmp old n)) (has_numbered n names ∙ there));
    left = left_by is_new refl;
  }
    where
      left_by : (b : Bool) → is_new ≡ b → unfollowed new (numbers names) ≡ (if b then without n (unfollowed old (numbers names)) else unfollowed old (numbers names))
      left_by true e = unfollowed_more updates (numbers names)
      left_by false e = ap (λ (ks : List ℕ). filter (λ m. not (list_any (λ k. is_eq (nat_cmp m k)) ks)) (numbers names)) (same e)

-- there is none
pub begins_none : (s : BTreeSet ℕ) (n : ℕ) (names : List Name) → is_some (numbered n names) ≡ false → Begins s s (numbers names) n false
begins_none s n names none = record {
  is = sym (has-unfollowed s n (numbers names) ∙ ap (λ b. b && not (contains nat_cmp s n)) (has_numbered n names ∙ none));
  left = refl;
}

-- what is so where nothing was added
pub when_false : {P : Type 0} (b : Bool) → OnFalse b P → b ≡ false → P
when_false true h e = absurd (cc)
when_false false h e = h

-- what was looked up
pub some_of : {X Y : Type 0} (f : X → Y) (o : Option X) (found : Option Y) → option_map f o ≡ found → is_some found ≡ is_some o
some_of f (Some x) found e = ap is_some (sym e)
some_of f None found e = ap is_some (sym e)

-- ---- items one after another

module _ (c : Citing) (next : List ℕ → List Item → List Citation) (left : List ℕ) where
  pub name_skipped : (n : ℕ) (is : List Item) → has n left ≡ false → follow_with c next left (name n ∷ is) ≡ follow_with c next left is
  name_skipped n is e = ap (λ b. if b then next (without n left) (number_items c n ++ is) else follow_with c next left is) e

  pub name_followed : (n : ℕ) (is : List Item) → has n left ≡ true → follow_with c next left (name n ∷ is) ≡ next (without n left) (number_items c n ++ is)
  name_followed n is e = ap (λ b. if b then next (without n left) (number_items c n ++ is) else follow_with c next left is) e

-- ---- names one after another

-- fewer names are left
without_shorter : (n : ℕ) (ms : List ℕ) → length (without n ms) ≤ length ms
without_shorter n [] = omega arith
without_shorter n (m ∷ ms) = shorter_by (m == n) (without_shorter n ms)
  where
    shorter_by : (b : Bool) → length (without n ms) ≤ length ms → length (cond (not b) (m ∷ without n ms) (without n ms)) ≤ suc (length ms)
    shorter_by true le = omega (arith, le)
    shorter_by false le = omega (arith, le)

pub without_fewer : (n : ℕ) (ms : List ℕ) → has n ms ≡ true → length (without n ms) < length ms
without_fewer n [] e = absurd (cc)
without_fewer n (m ∷ ms) e = fewer_by (m == n) (without_shorter n ms) (without_fewer n ms) e
  where
    fewer_by : (b : Bool) → length (without n ms) ≤ length ms → (has n ms ≡ true → length (without n ms) < length ms) → (b || has n ms) ≡ true
        → length (cond (not b) (m ∷ without n ms) (without n ms)) < suc (length ms)
    fewer_by true le lt h = omega (arith, le)
    fewer_by false le lt h = omega (arith, lt h)

pub length-numbers : {X : Type 0} (names : List X) → length (numbers names) ≡ length names
length-numbers names = length-range 1 (length names)
  where
    length-range : (first count : ℕ) → length (range_with_len first count) ≡ count
    length-range first zero = refl
    length-range first (suc count) = ap (λ n. suc n) (length-range (first + 1) count)
