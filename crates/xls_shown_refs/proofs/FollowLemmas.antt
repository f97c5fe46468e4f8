-- Names are followed one after another.
use Rattle.std.proofs.Common.{zero, suc, ◌≡◌, ℕ, ◌<◌, ◌≤◌, List, [], ◌∷◌, ◌++◌, length, true, false, not, cond, Some, None, refl, sym, ◌∙◌, ap, subst, arith}
use Rattle.std.specs.BTreeSet.{BTreeSet, contains}
use Rattle.std.specs.Ordering.{nat_cmp}
use Rattle.xls_shown_refs.specs.Origins.{Citing}
use Rattle.xls_shown_refs.specs.Items.{Citation, Item}
use Rattle.xls_shown_refs.specs.Citations.{follow, follow_with, followed, has, number_items, numbers, with_distinct, without}
use Rattle.xls_shown_refs.specs.Keys.{SeenSo}
use Rattle.xls_shown_refs.specs.Walk.{IsSound, IsStep, NoneFollowed, found_in, in_all, left_in, unfollowed, waiting}
use Rattle.xls_shown_refs.specs.declared.items.Item.{Item as ItemFields}
use Rattle.xls_shown_refs.specs.declared.walk.Walk.{Walk}
use Rattle.xls_shown_refs.proofs.PassLemmas.{Next}
use Rattle.xls_shown_refs.proofs.WalkLemmas.{length-numbers, without_fewer}

-- how the next name is followed, of so many at most
abbrev pub next_of : Citing → ℕ → Next
next_of c zero = λ left is. []
next_of c (suc n) = follow c n

follow_is : (c : Citing) (n : ℕ) (left : List ℕ) (is : List Item) → follow c n left is ≡ follow_with c (next_of c n) left is
follow_is c zero left is = refl
follow_is c (suc n) left is = refl

-- what was found, and what is cited by so many names at most, as many as are left or more
abbrev pub Cites : Citing → Walk → ℕ → List Citation → Type 0
Cites c w n total = with_distinct (found_in w) (follow c n (left_in c w) (waiting w.pending.items)) ≡ total

pub record SoFar (c : Citing) (items : List ItemFields) (first w : Walk) : Type 0 where
  pub none : items ≡ []
  pub sound : IsSound w
  pub names : ℕ
  pub enough : length (left_in c w) ≤ names
  pub cited : Cites c w names (in_all first (followed c (waiting first.pending.items)))

-- ---- at the beginning

all_left : (s : BTreeSet ℕ) → ((n : ℕ) → contains nat_cmp s n ≡ false) → (ms : List ℕ) → unfollowed s ms ≡ ms
all_left s none [] = refl
all_left s none (m ∷ ms) =
    ap (λ b. cond (not b) (m ∷ unfollowed s ms) (unfollowed s ms)) (none m) ∙ ap (λ (x : List ℕ). m ∷ x) (all_left s none ms)

pub at_first : (c : Citing) (items : List ItemFields) (w : Walk) → items ≡ [] → IsSound w → NoneFollowed w → SoFar c items w w
at_first c items w none sound new =
    let left : left_in c w ≡ numbers c.here.names = all_left w.names new (numbers c.here.names) in
    let count : length (left_in c w) ≡ length c.here.names = ap length left ∙ length-numbers c.here.names in
    record {
      none = none;
      sound = sound;
      names = length c.here.names;
      enough = omega (arith, count);
      cited = ap (λ (x : List ℕ). with_distinct (found_in w) (follow c (length c.here.names) x (waiting w.pending.items))) left;
    }

-- ---- a name more

one_more : (c : Citing) (n : ℕ) (total : List Citation) (m : ℕ) (left : List ℕ) (w : Walk) (v : Walk) (items : List ItemFields)
    → length left ≤ m → has n left ≡ true → left_in c w ≡ without n left
    → with_distinct (found_in w) (next_of c m (left_in c w) (number_items c n ++ waiting w.pending.items)) ≡ total
    → v.names ≡ w.names → found_in v ≡ found_in w → waiting v.pending.items ≡ number_items c n ++ waiting w.pending.items
    → (k : ℕ) × (length (left_in c v) ≤ k) × Cites c v k total
one_more c n total zero left w v items enough one fewer cited names found waits =
    absurd (let less : length (without n left) < length left = without_fewer n left one in omega (arith, less, enough))
one_more c n total (suc k) left w v items enough one fewer cited names found waits =
    let same : left_in c v ≡ left_in c w = ap (λ (s : BTreeSet ℕ). unfollowed s (numbers c.here.names)) names in
    let less : length (without n left) < length left = without_fewer n left one in
    let count : length (left_in c v) ≡ length (without n left) = ap length (same ∙ fewer) in (
      k,
      omega (arith, less, count, enough),
      ap (λ (x : List Citation). with_distinct x (follow c k (left_in c v) (waiting v.pending.items))) found
          ∙ (ap (λ (x : List ℕ). with_distinct (found_in w) (follow c k x (waiting v.pending.items))) same
          ∙ (ap (λ (x : List Item). with_distinct (found_in w) (follow c k (left_in c w) x)) waits ∙ cited)),
    )

pub one_followed : (c : Citing) (items more : List ItemFields) (first old w v : Walk) (n : ℕ) (s : SoFar c items first old)
    → IsStep c (next_of c s.names) old w (Some n) → more ≡ [] → v.names ≡ w.names → v.cells ≡ w.cells → found_in v ≡ found_in w
    → waiting v.pending.items ≡ number_items c n ++ waiting w.pending.items → SoFar c more first v
one_followed c items more first old w v n s step none names cells found waits =
    let total = in_all first (followed c (waiting first.pending.items)) in
    let x = one_more c n total s.names (left_in c old) w v more s.enough step.1 step.2
    (step.3 ∙ (sym (ap (with_distinct (found_in old)) (follow_is c s.names (left_in c old) (waiting old.pending.items))) ∙ s.cited)) names found waits in
    record {
      none = none;
      sound = subst (λ f. SeenSo v.cells f) (sym found) (subst (λ k. SeenSo k (found_in w)) (sym cells) step.0);
      names = x.0;
      enough = x.1;
      cited = x.2;
    }

pub fewer_left : (c : Citing) (next : Next) (old w v : Walk) (n : ℕ) → IsStep c next old w (Some n) → v.names ≡ w.names
    → length (left_in c v) < length (left_in c old)
fewer_left c next old w v n step names =
    let less : length (without n (left_in c old)) < length (left_in c old) = without_fewer n (left_in c old) step.1 in
    let count : length (left_in c v) ≡ length (without n (left_in c old)) =
    ap length (ap (λ (s : BTreeSet ℕ). unfollowed s (numbers c.here.names)) names ∙ step.2) in
    omega (arith, less, count)

-- ---- at the end

pub all_followed : (c : Citing) (items : List ItemFields) (first old w : Walk) (s : SoFar c items first old)
    → IsStep c (next_of c s.names) old w None → found_in w ≡ in_all first (followed c (waiting first.pending.items))
all_followed c items first old w s step =
    step ∙ (sym (ap (with_distinct (found_in old)) (follow_is c s.names (left_in c old) (waiting old.pending.items))) ∙ s.cited)
