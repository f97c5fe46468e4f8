-- Citations without repeats, and the set of those so far.
use Rattle.std.proofs.Common.{◌≡◌, ℕ, ◌+◌, ◌<◌, List, [], ◌∷◌, ◌++◌, length, map, take, get_or, Bool, true, false, Option, Some, None, refl, sym, ◌∙◌, ap, arith, Bor}
use Rattle.std.specs.Prelude.{◌==◌, ◌&&◌, ◌||◌, if◌then◌else◌, cond, not, IfSome}
use Rattle.std.specs.BTreeSet.{BTreeSet, contains}
use Rattle.std.specs.Cmp.Lexicographic.{pointwise}
use Rattle.std.specs.List.{list_any}
use Rattle.std.specs.Cmp.{tied_then}
use Rattle.std.proofs.lemmas.Bool.Decides.{nat_tests}
use Rattle.std.proofs.lemmas.List.{map-append, take_more}
use Rattle.std.proofs.lemmas.Map.Text.{is_eq-slice_cmp}
use Rattle.xls_view.proofs.NameLemmas.{same_text}
use Rattle.std.specs.Option.{option_cmp, option_map, option_eq}
use Rattle.std.specs.Ordering.{nat_cmp, ordering_then, is_eq}
use Rattle.std.specs.Str.{chars, IsUtf8}
use Rattle.xls_meaning.specs.Order.{map_with_earlier, somes}
use Rattle.xls_meaning.proofs.OrderLemmas.{map_with_earlier-push, somes-append}
use Rattle.xls_refs.specs.Citations.{Citation, same_position, same_cells, unless_before, distinct}
use Rattle.xls_refs.specs.Steps.{Key, by_text, by_position, by_key, key_cite, IsText, SeenSo, IsDistinctSoFar}

-- ---- equal keys

is_eq-nat_cmp : (x y : ℕ) → is_eq (nat_cmp x y) ≡ (x == y)
is_eq-nat_cmp x y = grind (arith, nat_tests)

same_place : (p q : ℕ × ℕ) → is_eq (by_position p q) ≡ same_position p q
same_place p q =
    sym (tied_then (nat_cmp p.0 q.0) (nat_cmp p.1 q.1))
    ∙ (ap (λ (b : Bool). b && is_eq (nat_cmp p.1 q.1)) (is_eq-nat_cmp p.0 q.0)
    ∙ ap (λ (b : Bool). (p.0 == q.0) && b) (is_eq-nat_cmp p.1 q.1))

same_sheet : (a b : Option (Bor (List ℕ))) → IfSome a (λ (t : Bor (List ℕ)). IsUtf8 t.now) → IfSome b (λ (t : Bor (List ℕ)). IsUtf8 t.now)
    → is_eq (option_cmp by_text a b)
    ≡ option_eq (pointwise ◌==◌) (option_map (λ (t : Bor (List ℕ)). chars t.now) a) (option_map (λ (t : Bor (List ℕ)). chars t.now) b)
same_sheet None None u v = refl
same_sheet None (Some t) u v = refl
same_sheet (Some s) None u v = refl
same_sheet (Some s) (Some t) u v = is_eq-slice_cmp s.now t.now ∙ same_text s.now t.now u v

same_key : (k q : Key) → IsText k → IsText q → is_eq (by_key k q) ≡ same_cells (key_cite k) (key_cite q)
same_key k q u v =
    let text = option_cmp by_text k.0 q.0 in
    sym (tied_then (ordering_then text (by_position k.1 q.1)) (by_position k.2 q.2))
    ∙ (ap (λ (b : Bool). b && is_eq (by_position k.2 q.2))
    (sym (tied_then text (by_position k.1 q.1))
    ∙ (ap (λ (b : Bool). b && is_eq (by_position k.1 q.1)) (same_sheet k.0 q.0 u v)
    ∙ ap (λ (b : Bool). option_eq (pointwise ◌==◌) (key_cite k).sheet (key_cite q).sheet && b) (same_place k.1 q.1)))
    ∙ ap (λ (b : Bool). (option_eq (pointwise ◌==◌) (key_cite k).sheet (key_cite q).sheet && same_position k.1 q.1) && b) (same_place k.2 q.2))

-- ---- one more

any_push : (q : Citation) (before : List Citation) (c : Citation)
    → list_any (λ (b : Citation). same_cells b q) (before ++ c ∷ []) ≡ cond (same_cells c q) true (list_any (λ (b : Citation). same_cells b q) before)
any_push q [] c = by_test (same_cells c q)
  where
    by_test : (t : Bool) → (t || false) ≡ cond t true false
    by_test true = refl
    by_test false = refl
any_push q (b ∷ before) c =
    ap (λ (t : Bool). same_cells b q || t) (any_push q before c)
    ∙ by_test (same_cells b q) (same_cells c q) (list_any (λ (d : Citation). same_cells d q) before)
  where
    by_test : (s t u : Bool) → (s || cond t true u) ≡ cond t true (s || u)
    by_test true true u = refl
    by_test true false u = refl
    by_test false true u = refl
    by_test false false u = refl

-- the set after a key was put in
seen_more : (seen new : BTreeSet Key) (before : List Citation) (k : Key) → SeenSo seen before → IsText k
    → ((q : Key) → contains by_key new q ≡ cond (is_eq (by_key k q)) true (contains by_key seen q))
    → SeenSo new (before ++ key_cite k ∷ [])
seen_more seen new before k so text puts q is =
    puts q
    ∙ (ap (λ (t : Bool). cond t true (contains by_key seen q)) (same_key k q text is)
    ∙ (ap (cond (same_cells (key_cite k) (key_cite q)) true) (so q is) ∙ sym (any_push (key_cite q) before (key_cite k))))

distinct_push : (before : List Citation) (c : Citation) → distinct (before ++ c ∷ []) ≡ distinct before ++ somes (unless_before before c ∷ [])
distinct_push before c =
    ap somes (map_with_earlier-push unless_before before c) ∙ somes-append (map_with_earlier unless_before [] before) (unless_before before c ∷ [])

-- what is put where the key is new
abbrev pub if_new : {X : Type 0} → Bool → X → List X
if_new true x = x ∷ []
if_new false x = []

not_before : (before : List Citation) (c : Citation) (t : Bool) → list_any (λ b. same_cells b c) before ≡ not t
    → somes (unless_before before c ∷ []) ≡ if_new t c
not_before before c true h = ap (λ (b : Bool). somes ((if b then None else Some c) ∷ [])) h
not_before before c false h = ap (λ (b : Bool). somes ((if b then None else Some c) ∷ [])) h

not_not : (a b : Bool) → a ≡ not b → b ≡ not a
not_not true true e = cc
not_not true false e = refl
not_not false true e = refl
not_not false false e = cc

pub distinct_more : (seen new : BTreeSet Key) (before : List Citation) (k : Key) (added : Bool) (old after : List Citation) → IsDistinctSoFar seen old before → IsText k
    → ((q : Key) → contains by_key new q ≡ cond (is_eq (by_key k q)) true (contains by_key seen q))
    → added ≡ not (contains by_key seen k) → after ≡ old ++ if_new added (key_cite k)
    → IsDistinctSoFar new after (before ++ key_cite k ∷ [])
distinct_more seen new before k added old after (so, had) text puts is took = (
  seen_more seen new before k so text puts,
  took
      ∙ (ap (λ (l : List Citation). l ++ if_new added (key_cite k)) had
      ∙ (ap (λ (l : List Citation). distinct before ++ l) (sym (not_before before (key_cite k) added (sym (so k text) ∙ not_not added (contains by_key seen k) is)))
      ∙ sym (distinct_push before (key_cite k)))),
)

-- the citations so far, and one more
pub taken_more : (cites : List Key) (i : ℕ) (d : Key) → i < length cites
    → map key_cite (take i cites) ++ key_cite (get_or cites i d) ∷ [] ≡ map key_cite (take (i + 1) cites)
taken_more cites i d l =
    sym (map-append key_cite (take i cites) (get_or cites i d ∷ [])) ∙ ap (map key_cite) (sym (take_more cites i d l))

pub key_is : (k q : Key) → k.0 ≡ q.0 → key_cite (k.0, q.1, q.2) ≡ key_cite q
key_is k q e = ap (λ (sheet : Option (Bor (List ℕ))). key_cite (sheet, q.1, q.2)) e

-- the code has the new list of citations, with one more where the key was new
pub put_new : {S : Type 0} (cite_of : S → Citation) (old new : List S) (c : S) (k : Key) → new ≡ old ++ c ∷ [] → cite_of c ≡ key_cite k
    → map cite_of new ≡ map cite_of old ++ if_new true (key_cite k)
put_new {S} cite_of old new c k e is =
    ap (map cite_of) e ∙ (map-append cite_of old (c ∷ []) ∙ ap (λ (d : Citation). map cite_of old ++ d ∷ []) is)
