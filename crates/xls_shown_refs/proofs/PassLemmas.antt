-- Items that wait are passed, up to a name that wasn't followed.
use Rattle.std.proofs.Common.{◌≡◌, ℕ, List, [], ◌∷◌, ◌++◌, Bool, true, false, Some, if◌then◌else◌, refl, sym, ◌∙◌, ap, subst}
use Rattle.std.specs.BTreeSet.{BTreeSet}
use Rattle.xls_defined_names.specs.Names.{Name}
use Rattle.xls_shown_refs.specs.Origins.{Citing}
use Rattle.xls_shown_refs.specs.Items.{Citation, Item}
use Rattle.xls_shown_refs.specs.Citations.{follow_with, has, number_items, numbers, with_distinct, without}
use Rattle.xls_shown_refs.specs.Keys.{Key, SeenSo, kept}
use Rattle.xls_shown_refs.specs.Views.{citation_view, item_view}
use Rattle.xls_shown_refs.specs.Walk.{Begins, IsSound, IsStep, all_cited, found_in, left_in, unfollowed, waiting}
use Rattle.xls_shown_refs.specs.declared.citation.Citation.{Citation as CitationFields}
use Rattle.xls_shown_refs.specs.declared.items.Item.{Item as ItemFields}
use Rattle.xls_shown_refs.specs.declared.items.Item.TheVariants as code
use Rattle.xls_shown_refs.specs.declared.walk.Walk.{Walk}
use Rattle.xls_shown_refs.proofs.WaitingLemmas.{waiting_push}
use Rattle.xls_shown_refs.proofs.WalkLemmas.{name_followed, name_skipped, with_one}

abbrev pub Next : Type 0
Next = List ℕ → List Item → List Citation

-- so much was passed that the rest cites what is left to cite
pub record IsPassed (c : Citing) (next : Next) (first w : Walk) : Type 0 where
  pub sound : IsSound w
  pub left : left_in c w ≡ left_in c first
  pub cited : all_cited c next (left_in c first) w ≡ all_cited c next (left_in c first) first

abbrev pub Passes : List Name → Walk → Walk → Type 0
Passes names first w = (c : Citing) → (next : Next) → c.here.names ≡ names → IsSound first → IsPassed c next first w

pub passes_none : (names : List Name) (first : Walk) → Passes names first first
passes_none names first c next e sound = record { sound = sound; left = refl; cited = refl }

-- with one item less
module _ (names : List Name) (first old w : Walk) (i : ItemFields) (popped : old.pending.items ≡ w.pending.items ++ i ∷ []) where
  waited : waiting old.pending.items ≡ item_view i ∷ waiting w.pending.items
  waited = waiting_push w.pending.items old.pending.items i popped

  -- cells are taken
  pub passes_cells : (d : CitationFields) → i ≡ code.Cells d
      → (IsSound old → IsSound w × (found_in w ≡ kept (found_in old) (citation_view d))) → w.names ≡ old.names → Passes names first old → Passes names first w
  passes_cells d is take same so_far c next e sound =
      let p = so_far c next e sound in
      let t = take p.sound in
      let rest = follow_with c next (left_in c first) (waiting w.pending.items) in
      record {
        sound = t.0;
        left = ap (λ (s : BTreeSet ℕ). unfollowed s (numbers c.here.names)) same ∙ p.left;
        cited = ap (λ (x : List Citation). with_distinct x rest) t.1
            ∙ (sym (with_one (found_in old) (citation_view d) rest)
            ∙ (sym (ap (λ (x : List Item). with_distinct (found_in old) (follow_with c next (left_in c first) x))
            (waited ∙ ap (λ (x : ItemFields). item_view x ∷ waiting w.pending.items) is))
            ∙ p.cited));
      }

  -- a name that isn't left to follow
  pub passes_name : (n : ℕ) (is_new : Bool) → i ≡ code.Name n → found_in w ≡ found_in old → w.cells ≡ old.cells
      → Begins old.names w.names (numbers names) n is_new → is_new ≡ false → Passes names first old → Passes names first w
  passes_name n is_new is found seen begun not_new so_far c next e sound =
      let p = so_far c next e sound in
      let all : numbers c.here.names ≡ numbers names = ap (λ (x : List Name). numbers x) e in
      let old_left : left_in c old ≡ unfollowed old.names (numbers names) = ap (unfollowed old.names) all in
      let none : has n (left_in c first) ≡ false = ap (has n) (sym p.left ∙ old_left) ∙ (sym begun.is ∙ not_new) in
      let rest = follow_with c next (left_in c first) (waiting w.pending.items) in
      record {
        sound = subst (λ (x : List Citation). SeenSo w.cells x) (sym found) (subst (λ (s : BTreeSet Key). SeenSo s (found_in old)) (sym seen) p.sound);
        left = ap (unfollowed w.names) all
            ∙ (begun.left ∙ (ap (λ b. if b then without n (unfollowed old.names (numbers names)) else unfollowed old.names (numbers names)) not_new
            ∙ (sym old_left ∙ p.left)));
        cited = ap (λ (x : List Citation). with_distinct x rest) found
            ∙ (ap (with_distinct (found_in old)) (sym (name_skipped c next (left_in c first) n (waiting w.pending.items) none))
            ∙ (sym (ap (λ (x : List Item). with_distinct (found_in old) (follow_with c next (left_in c first) x))
            (waited ∙ ap (λ (x : ItemFields). item_view x ∷ waiting w.pending.items) is))
            ∙ p.cited));
      }

  -- a name that is followed next
  pub stops_at : (n : ℕ) (is_new : Bool) → i ≡ code.Name n → found_in w ≡ found_in old → w.cells ≡ old.cells
      → Begins old.names w.names (numbers names) n is_new → is_new ≡ true → Passes names first old
      → (c : Citing) → (next : Next) → c.here.names ≡ names → IsSound first → IsStep c next first w (Some n)
  stops_at n is_new is found seen begun new so_far c next e sound =
      let p = so_far c next e sound in
      let all : numbers c.here.names ≡ numbers names = ap (λ (x : List Name). numbers x) e in
      let old_left : left_in c old ≡ unfollowed old.names (numbers names) = ap (unfollowed old.names) all in
      let one : has n (left_in c first) ≡ true = ap (has n) (sym p.left ∙ old_left) ∙ (sym begun.is ∙ new) in
      let fewer : left_in c w ≡ without n (left_in c first) =
      ap (unfollowed w.names) all
      ∙ (begun.left ∙ (ap (λ b. if b then without n (unfollowed old.names (numbers names)) else unfollowed old.names (numbers names)) new
      ∙ ap (without n) (sym old_left ∙ p.left))) in (
        subst (λ (x : List Citation). SeenSo w.cells x) (sym found) (subst (λ (s : BTreeSet Key). SeenSo s (found_in old)) (sym seen) p.sound),
        one,
        fewer,
        ap (λ (x : List ℕ). with_distinct (found_in w) (next x (number_items c n ++ waiting w.pending.items))) fewer
            ∙ (ap (λ (x : List Citation). with_distinct x (next (without n (left_in c first)) (number_items c n ++ waiting w.pending.items))) found
            ∙ (ap (with_distinct (found_in old)) (sym (name_followed c next (left_in c first) n (waiting w.pending.items) one))
            ∙ (sym (ap (λ (x : List Item). with_distinct (found_in old) (follow_with c next (left_in c first) x))
            (waited ∙ ap (λ (x : ItemFields). item_view x ∷ waiting w.pending.items) is))
            ∙ p.cited))),
      )
