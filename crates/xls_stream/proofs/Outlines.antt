-- The grammar of a sheet part and the count find the same.
use Rattle.std.proofs.Common.{◌≡◌, ◌≢◌, ℕ, zero, suc, ◌+◌, ◌<◌, ◌≤◌, List, [], ◌∷◌, ◌++◌, length, get_or, drop, Bool, true, false, refl, sym, ap, subst, ◌∙◌, append_assoc, arith, inl, inr, Option, None}
use Rattle.std.specs.Prelude.{◌↔◌, ◌==◌, if◌then◌else◌}
use Rattle.std.specs.List.{AllByRecursion, flat_map}
use Rattle.std.proofs.lemmas.Bool.{cases_eq}
use Rattle.std.proofs.lemmas.List.{append-nil, get_or-append-add, get_or-drop}
use Rattle.std.proofs.lemmas.List.Elements.{filter-append}
use Rattle.xls_stream.specs.Stream.{Group, group_bytes, Run}
use Rattle.xls_stream.specs.Substreams.{IsBof, IsEof, IsPlain, Items, none, plain, nested, AreItems, groups_of, outer_of, Open, no_more, open_at, IsOpen, open_groups, is_sheet_type, kept_groups, Outline, bare_closed, bare_open, own_closed, own_open, IsOutline, groups_of_outline, outer_in, EndsSo, SheetPart, GlobalsPart}
use Rattle.xls_stream.specs.Counting.{Found, with_group, keep, found_from, globals_of, From}
use Rattle.xls_stream.specs.Walks.{IsBytes, AtEnd, Groups}
use Rattle.xls_stream.specs.Laws.{HasOne}
use Rattle.xls_stream.specs.declared.part.Part.{Part}
use Rattle.xls_stream.proofs.Runs.{Run-append, Run-whole}
use Rattle.xls_stream.proofs.Ends.{has_groups, one_groups}
use Rattle.xls_stream.proofs.Founds.{at_own_bof, at_nested_bof, at_inner_bof, at_inner_eof, step_inside, step_kept, step_over, found_nothing}

abbrev with_all : List Group → Found → Found
with_all ks f = (ks ++ f.0, f.1)

keep_first : (g : Group) (gs : List Group) (f : Found)
    → keep g (with_all (kept_groups gs) f) ≡ with_all (kept_groups (g ∷ gs)) f
keep_first g gs f = by_test (is_sheet_type g)
  where
    by_test : (b : Bool)
        → (if b then with_group g (with_all (kept_groups gs) f) else with_all (kept_groups gs) f)
        ≡ with_all (if b then g ∷ kept_groups gs else kept_groups gs) f
    by_test true = refl
    by_test false = refl

skip_items : (items : Items) → AreItems items → (n : ℕ) (rest : List Group) (cut : Option Part)
    → found_from (suc (suc n)) (groups_of items ++ rest) cut ≡ found_from (suc (suc n)) rest cut
skip_items none h n rest cut = refl
skip_items (plain g others) h n rest cut =
    step_inside (suc (suc n)) g (groups_of others ++ rest) cut (omega arith) h.0
    ∙ skip_items others h.1 n rest cut
skip_items (nested b inner e others) h n rest cut =
    ap (λ (x : List Group). found_from (suc (suc n)) (b ∷ x) cut) (append_assoc (groups_of inner) (e ∷ groups_of others) rest)
    ∙ at_inner_bof n b (groups_of inner ++ (e ∷ (groups_of others ++ rest))) cut h.0
    ∙ skip_items inner h.1 (suc n) (e ∷ (groups_of others ++ rest)) cut
    ∙ at_inner_eof (suc n) e (groups_of others ++ rest) cut h.2
    ∙ skip_items others h.3 n rest cut

keep_items : (items : Items) → AreItems items → (rest : List Group) (cut : Option Part)
    → found_from 1 (groups_of items ++ rest) cut
    ≡ with_all (kept_groups (outer_of items)) (found_from 1 rest cut)
keep_items none h rest cut = refl
keep_items (plain g others) h rest cut =
    step_kept 1 g (groups_of others ++ rest) cut (omega arith) h.0
    ∙ ap (keep g) (keep_items others h.1 rest cut)
    ∙ keep_first g (outer_of others) (found_from 1 rest cut)
keep_items (nested b inner e others) h rest cut =
    ap (λ (x : List Group). found_from 1 (b ∷ x) cut) (append_assoc (groups_of inner) (e ∷ groups_of others) rest)
    ∙ at_nested_bof b (groups_of inner ++ (e ∷ (groups_of others ++ rest))) cut h.0
    ∙ skip_items inner h.1 0 (e ∷ (groups_of others ++ rest)) cut
    ∙ at_inner_eof 0 e (groups_of others ++ rest) cut h.2
    ∙ keep_items others h.3 rest cut

skip_open : (o : Open) → IsOpen o → (n : ℕ) (cut : Option Part)
    → found_from (suc (suc n)) (open_groups o) cut ≡ ([], cut)
skip_open no_more h n cut = found_nothing (suc (suc n)) cut
skip_open (open_at b inner deeper) h n cut =
    at_inner_bof n b (groups_of inner ++ open_groups deeper) cut h.0
    ∙ skip_items inner h.1 (suc n) (open_groups deeper) cut
    ∙ skip_open deeper h.2 (suc n) cut

keep_open : (o : Open) → IsOpen o → (cut : Option Part)
    → found_from 1 (open_groups o) cut ≡ ([], cut)
keep_open no_more h cut = found_nothing 1 cut
keep_open (open_at b inner deeper) h cut =
    at_nested_bof b (groups_of inner ++ open_groups deeper) cut h.0
    ∙ skip_items inner h.1 0 (open_groups deeper) cut
    ∙ skip_open deeper h.2 0 cut

keep_prefix : (prefix : List Group) → AllByRecursion IsPlain prefix
    → (rest : List Group) (cut : Option Part)
    → found_from 0 (prefix ++ rest) cut ≡ with_all (kept_groups prefix) (found_from 0 rest cut)
keep_prefix [] h rest cut = refl
keep_prefix (g ∷ prefix) h rest cut =
    step_kept 0 g (prefix ++ rest) cut (omega arith) h.0
    ∙ ap (keep g) (keep_prefix prefix h.1 rest cut)
    ∙ keep_first g prefix (found_from 0 rest cut)

all_nil : (ks : List Group) (cut : Option Part) → with_all ks ([], cut) ≡ (ks, cut)
all_nil ks cut = ap (λ (x : List Group). (x, cut)) (append-nil ks)

-- ---- what the count finds in a shape

bare_closed_found : (prefix : List Group) (e : Group) → AllByRecursion IsPlain prefix → IsEof e
    → (more : List Group) (stop : Option Part)
    → found_from 0 ((prefix ++ e ∷ []) ++ more) stop ≡ (kept_groups prefix, None)
bare_closed_found prefix e h k more stop =
    ap (λ (x : List Group). found_from 0 x stop) (append_assoc prefix (e ∷ []) more)
    ∙ keep_prefix prefix h (e ∷ more) stop
    ∙ ap (with_all (kept_groups prefix)) (step_over 0 e more stop (omega arith) k)
    ∙ all_nil (kept_groups prefix) None

bare_open_found : (prefix : List Group) → AllByRecursion IsPlain prefix → (stop : Option Part)
    → found_from 0 prefix stop ≡ (kept_groups prefix, stop)
bare_open_found prefix h stop =
    ap (λ (x : List Group). found_from 0 x stop) (sym (append-nil prefix))
    ∙ keep_prefix prefix h [] stop ∙ ap (with_all (kept_groups prefix)) (found_nothing 0 stop)
    ∙ all_nil (kept_groups prefix) stop

own_found : (prefix : List Group) (b : Group) (items : Items) (rest : List Group) (stop cut : Option Part) → AllByRecursion IsPlain prefix → IsBof b → AreItems items → found_from 1 rest stop ≡ ([], cut) → found_from 0 (prefix ++ b ∷ (groups_of items ++ rest)) stop ≡ (kept_groups (prefix ++ outer_of items), cut)
own_found prefix b items rest stop cut h k l e =
    keep_prefix prefix h (b ∷ (groups_of items ++ rest)) stop
    ∙ ap (with_all (kept_groups prefix)) (at_own_bof b (groups_of items ++ rest) stop k
    ∙ keep_items items l rest stop ∙ ap (with_all (kept_groups (outer_of items))) e
    ∙ all_nil (kept_groups (outer_of items)) cut)
    ∙ ap (λ (x : List Group). (x, cut)) (sym (filter-append is_sheet_type prefix (outer_of items)))

regroup : (prefix : List Group) (b : Group) (items : Items) (e : Group) (more : List Group)
    → (prefix ++ b ∷ (groups_of items ++ e ∷ [])) ++ more ≡ prefix
    ++ b ∷ (groups_of items ++ e ∷ more)
regroup prefix b items e more =
    append_assoc prefix (b ∷ (groups_of items ++ e ∷ [])) more
    ∙ ap (λ (x : List Group). prefix ++ b ∷ x) (append_assoc (groups_of items) (e ∷ []) more)

own_closed_found : (prefix : List Group) (b : Group) (items : Items) (e : Group)
    → AllByRecursion IsPlain prefix → IsBof b → AreItems items → IsEof e
    → (more : List Group) (stop : Option Part)
    → found_from 0 ((prefix ++ b ∷ (groups_of items ++ e ∷ [])) ++ more) stop
    ≡ (kept_groups (prefix ++ outer_of items), None)
own_closed_found prefix b items e h k l m more stop =
    ap (λ (x : List Group). found_from 0 x stop) (regroup prefix b items e more)
    ∙ own_found prefix b items (e ∷ more) stop None h k l (step_over 1 e more stop (omega arith) m)

-- ---- every list of groups has a shape at its start

-- items, and then an EOF, or the end inside unclosed substreams
data Rest (gs : List Group) : Type 0 where
  at_eof : (items : Items) (e : Group) (after : List Group) → gs ≡ groups_of items ++ e ∷ after
      → AreItems items → IsEof e → length after < length gs → Rest gs
  at_end : (items : Items) (o : Open) → gs ≡ groups_of items ++ open_groups o → AreItems items
      → IsOpen o → Rest gs

push_plain : (g : Group) (gs : List Group) → IsPlain g → Rest gs → Rest (g ∷ gs)
push_plain g gs p (at_eof items e after h a k l) =
    at_eof (plain g items) e after (ap (λ (x : List Group). g ∷ x) h) (p, a) k (omega arith)
push_plain g gs p (at_end items o h a k) =
    at_end (plain g items) o (ap (λ (x : List Group). g ∷ x) h) (p, a) k

push_nested : (b : Group) (gs : List Group) (inner : Items) (e : Group) (after : List Group)
    → IsBof b → gs ≡ groups_of inner ++ e ∷ after → AreItems inner → IsEof e
    → length after < length gs → Rest after → Rest (b ∷ gs)
push_nested b gs inner e after p h a k l (at_eof items f rest i c m n) =
    at_eof (nested b inner e items) f rest (ap (λ (x : List Group). b ∷ x) (h
    ∙ ap (λ (x : List Group). groups_of inner ++ e ∷ x) i
    ∙ sym (append_assoc (groups_of inner) (e ∷ groups_of items) (f ∷ rest)))) (
      p,
      a,
      k,
      c,
    ) m (omega arith)
push_nested b gs inner e after p h a k l (at_end items o i c m) =
    at_end (nested b inner e items) o (ap (λ (x : List Group). b ∷ x) (h
    ∙ ap (λ (x : List Group). groups_of inner ++ e ∷ x) i
    ∙ sym (append_assoc (groups_of inner) (e ∷ groups_of items) (open_groups o)))) (
      p,
      a,
      k,
      c,
    ) m

push_bof : (b : Group) (gs : List Group) → IsBof b → Rest gs
    → ((after : List Group) → length after < length gs → Rest after) → Rest (b ∷ gs)
push_bof b gs p (at_end inner o h a k) on =
    at_end none (open_at b inner o) (ap (λ (x : List Group). b ∷ x) h) tt (p, a, k)
push_bof b gs p (at_eof inner e after h a k l) on =
    push_nested b gs inner e after p h a k l (on after l)

rest_within : (fuel : ℕ) (gs : List Group) → length gs ≤ fuel → Rest gs
rest_within fuel [] few = at_end none no_more refl tt tt
rest_within zero (g ∷ gs) few = absurd (omega arith)
rest_within (suc fuel) (g ∷ gs) few =
    elim (cases_eq g.typ 2057) [
      | inl b ↦ push_bof g gs b (rest_within fuel gs (omega arith)) (λ after l. rest_within fuel after (omega arith))
      | inr nb ↦ elim (cases_eq g.typ 10) [
        | inl e ↦ at_eof none g gs refl tt e (omega arith)
        | inr ne ↦ push_plain g gs (nb, ne) (rest_within fuel gs (omega arith))
      ]
    ]

-- a closed shape and what stands after it, or an open one
data Shaped (gs : List Group) : Type 0 where
  closes : (s : Outline) (after : List Group) → IsOutline s → gs ≡ groups_of_outline s ++ after
      → ((more : List Group) (stop : Option Part)
      → found_from 0 (groups_of_outline s ++ more) stop ≡ (kept_groups (outer_in s), None))
      → ((rest : List ℕ) → EndsSo s rest None) → Shaped gs
  stays : (s : Outline) → IsOutline s → gs ≡ groups_of_outline s
      → ((stop : Option Part) → found_from 0 (groups_of_outline s) stop ≡ (kept_groups (outer_in s), stop))
      → ((rest : List ℕ) (stop : Option Part) → AtEnd rest stop → EndsSo s rest stop) → Shaped gs

after_bof : (prefix : List Group) (b : Group) (gs : List Group) → AllByRecursion IsPlain prefix
    → IsBof b → Rest gs → Shaped (prefix ++ b ∷ gs)
after_bof prefix b gs p k (at_eof items e after h a m l) =
    closes (own_closed prefix b items e) after (
      p,
      k,
      a,
      m,
    ) (ap (λ (x : List Group). prefix ++ b ∷ x) h
    ∙ sym (regroup prefix b items e after)) (own_closed_found prefix b items e p k a m) (λ rest. refl)
after_bof prefix b gs p k (at_end items o h a m) =
    stays (own_open prefix b items o) (
      p,
      k,
      a,
      m,
    ) (ap (λ (x : List Group). prefix
    ++ b ∷ x) h) (λ stop. own_found prefix b items (open_groups o) stop stop p k a (keep_open o m stop)) (λ rest stop e. e)

all_push : (prefix : List Group) (g : Group) → AllByRecursion IsPlain prefix → IsPlain g
    → AllByRecursion IsPlain (prefix ++ g ∷ [])
all_push [] g a h = (h, tt)
all_push (f ∷ prefix) g a h = (a.0, all_push prefix g a.1 h)

shaped : (gs prefix : List Group) → AllByRecursion IsPlain prefix → Shaped (prefix ++ gs)
shaped [] prefix p = stays (bare_open prefix) p (append-nil prefix) (bare_open_found prefix p) (λ rest stop e. e)
shaped (g ∷ gs) prefix p =
    elim (cases_eq g.typ 2057) [
      | inl b ↦ after_bof prefix g gs p b (rest_within (length gs) gs (omega arith))
      | inr nb ↦ elim (cases_eq g.typ 10) [
        | inl e ↦ closes (bare_closed prefix g) gs (
          p,
          e,
        ) (sym (append_assoc prefix (g ∷ []) gs)) (bare_closed_found prefix g p e) (λ rest. refl)
        | inr ne ↦ subst Shaped (append_assoc prefix (g ∷ []) gs) (shaped gs (prefix
            ++ g ∷ []) (all_push prefix g p (nb, ne)))
      ]
    ]

-- ---- both ways

run_split : (bytes : List ℕ) (gs hs : List Group) (rest : List ℕ) → Run bytes (gs ++ hs) rest
    → (middle : List ℕ) × Run bytes gs middle × Run middle hs rest
run_split bytes [] hs rest r = (bytes, refl, r)
run_split bytes (g ∷ gs) hs rest r = let s =
    run_split r.0 gs hs rest r.2 in (s.0, (r.0, r.1, s.1), s.2)

from_outline : (bytes : List ℕ) (outer : List Group) (cut : Option Part) (all : List Group) (stop : Option Part) → Groups bytes all stop → found_from 0 all stop ≡ (outer, cut) → Shaped all → SheetPart bytes outer cut
from_outline bytes outer cut all stop w f (closes s after is h found ends) =
    let split = run_split bytes (groups_of_outline s) after w.rest (subst (λ (x : List Group). Run bytes x w.rest) h w.run) in
    let both : ◌≡◌ {A = Found} (outer, cut) (kept_groups (outer_in s), None) =
    sym f ∙ ap (λ (x : List Group). found_from 0 x stop) h ∙ found after stop in
    record {
      outline = s;
      is_outline = is;
      rest = split.0;
      run = split.1;
      kept_is = ap (λ (p : Found). p.0) both;
      ends = subst (λ (c : Option Part). EndsSo s split.0 c) (sym (ap (λ (p : Found). p.1) both)) (ends split.0);
    }
from_outline bytes outer cut all stop w f (stays s is h found ends) =
    let both : ◌≡◌ {A = Found} (outer, cut) (kept_groups (outer_in s), stop) =
    sym f ∙ ap (λ (x : List Group). found_from 0 x stop) h ∙ found stop in
    record {
      outline = s;
      is_outline = is;
      rest = w.rest;
      run = subst (λ (x : List Group). Run bytes x w.rest) h w.run;
      kept_is = ap (λ (p : Found). p.0) both;
      ends = subst (λ (c : Option Part). EndsSo s w.rest c) (sym (ap (λ (p : Found). p.1) both)) (ends w.rest stop w.end);
    }

pub run_bytes : (bytes : List ℕ) (gs : List Group) (rest : List ℕ) → Run bytes gs rest
    → IsBytes bytes → IsBytes rest
run_bytes bytes gs rest run fits i =
    let prefix = flat_map group_bytes gs in
    subst (λ (n : ℕ). n < 256) (ap (λ (x : List ℕ). get_or x (length prefix + i) 0) (Run-whole bytes gs rest run) ∙ get_or-append-add prefix rest i 0) (fits (length prefix + i))

counted_closed : (bytes : List ℕ) (gs outer : List Group) (cut : Option Part) (rest : List ℕ)
    → IsBytes bytes → Run bytes gs rest
    → ((more : List Group) (stop : Option Part) → found_from 0 (gs ++ more) stop ≡ (outer, None))
    → cut ≡ None → From (found_from 0) bytes outer cut
counted_closed bytes gs outer cut rest fits run found e =
    let w = has_groups rest (run_bytes bytes gs rest run fits) in
    record {
      all = gs ++ w.0;
      stop = w.1;
      walk = record {
        rest = w.2.rest;
        run = Run-append bytes gs w.0 rest w.2.rest run w.2.run;
        end = w.2.end;
      };
      is = found w.0 w.1 ∙ ap (λ (c : Option Part). (outer, c)) (sym e);
    }

counted_open : (bytes : List ℕ) (gs outer : List Group) (cut : Option Part) (rest : List ℕ)
    → Run bytes gs rest → found_from 0 gs cut ≡ (outer, cut) → AtEnd rest cut
    → From (found_from 0) bytes outer cut
counted_open bytes gs outer cut rest run found e =
    record { all = gs; stop = cut; walk = record { rest = rest; run = run; end = e }; is = found }

counted : (bytes : List ℕ) (cut : Option Part) (s : Outline) (rest : List ℕ) → IsBytes bytes
    → IsOutline s → Run bytes (groups_of_outline s) rest → EndsSo s rest cut
    → From (found_from 0) bytes (kept_groups (outer_in s)) cut
counted bytes cut (bare_closed prefix e) rest fits is run ends =
    counted_closed bytes (prefix
    ++ e ∷ []) (kept_groups prefix) cut rest fits run (bare_closed_found prefix e is.0 is.1) ends
counted bytes cut (bare_open prefix) rest fits is run ends =
    counted_open bytes prefix (kept_groups prefix) cut rest run (bare_open_found prefix is cut) ends
counted bytes cut (own_closed prefix b items e) rest fits is run ends =
    counted_closed bytes (prefix ++ b ∷ (groups_of items ++ e ∷ [])) (kept_groups (prefix
    ++ outer_of items)) cut rest fits run (own_closed_found prefix b items e is.0 is.1 is.2 is.3) ends
counted bytes cut (own_open prefix b items o) rest fits is run ends =
    counted_open bytes (prefix ++ b ∷ (groups_of items ++ open_groups o)) (kept_groups (prefix
    ++ outer_of items)) cut rest run (own_found prefix b items (open_groups o) cut cut is.0 is.1 is.2 (keep_open o is.3 cut)) ends

pub same_parts : (bytes : List ℕ) (outer : List Group) (cut : Option Part) → IsBytes bytes
    → SheetPart bytes outer cut ↔ From (found_from 0) bytes outer cut
same_parts bytes outer cut fits = (
  λ p. subst (λ (k : List Group). From (found_from 0) bytes k cut) (sym p.kept_is) (counted bytes cut p.outline p.rest fits p.is_outline p.run p.ends),
  λ c. from_outline bytes outer cut c.all c.stop c.walk c.is (shaped c.all [] tt),
)

-- ---- the globals

apart : (m n : ℕ) → m ≢ n → (m == n) ≡ false
apart m n h = grind arith

pass_one : (g : Group) (gs : List Group) (cut : Option Part) → g.typ ≢ 10
    → globals_of (g ∷ gs) cut ≡ with_group g (globals_of gs cut)
pass_one g gs cut h = let t = apart g.typ 10 h in rw t refl

closes_at : (g : Group) (gs : List Group) (cut : Option Part) → IsEof g
    → globals_of (g ∷ gs) cut ≡ ([], None)
closes_at g gs cut e = rw e refl

pass_all : (gs rest : List Group) (cut : Option Part) → AllByRecursion (λ g. g.typ ≢ 10) gs
    → globals_of (gs ++ rest) cut ≡ with_all gs (globals_of rest cut)
pass_all [] rest cut h = refl
pass_all (g ∷ gs) rest cut h =
    pass_one g (gs ++ rest) cut h.0 ∙ ap (with_group g) (pass_all gs rest cut h.1)

data Split (all : List Group) : Type 0 where
  at_first : (prefix : List Group) (e : Group) (after : List Group)
      → AllByRecursion (λ g. g.typ ≢ 10) prefix → IsEof e → all ≡ prefix ++ e ∷ after → Split all
  nowhere : AllByRecursion (λ g. g.typ ≢ 10) all → Split all

push_split : (g : Group) (gs : List Group) → g.typ ≢ 10 → Split gs → Split (g ∷ gs)
push_split g gs n (at_first prefix e after a k h) =
    at_first (g ∷ prefix) e after (n, a) k (ap (λ (x : List Group). g ∷ x) h)
push_split g gs n (nowhere a) = nowhere (n, a)

split : (all : List Group) → Split all
split [] = nowhere tt
split (g ∷ gs) = elim (cases_eq g.typ 10) [ inl e ↦ at_first [] g gs tt e refl | inr n ↦ push_split g gs n (split gs) ]

eof_found : (prefix : List Group) (e : Group) (after : List Group) (cut : Option Part)
    → AllByRecursion (λ g. g.typ ≢ 10) prefix → IsEof e
    → globals_of (prefix ++ e ∷ after) cut ≡ (prefix, None)
eof_found prefix e after cut a k =
    pass_all prefix (e ∷ after) cut a ∙ ap (with_all prefix) (closes_at e after cut k)
    ∙ all_nil prefix None

end_found : (all : List Group) (cut : Option Part) → AllByRecursion (λ g. g.typ ≢ 10) all
    → globals_of all cut ≡ (all, cut)
end_found all cut a =
    ap (λ (x : List Group). globals_of x cut) (sym (append-nil all)) ∙ pass_all all [] cut a
    ∙ all_nil all cut

outline_of_globals : (bytes : List ℕ) (groups : List Group) (cut : Option Part) (c : From globals_of bytes groups cut) → Split c.all → GlobalsPart bytes groups cut
outline_of_globals bytes groups cut c (at_first prefix e after a k h) =
    let both : ◌≡◌ {A = Found} (groups, cut) (prefix, None) =
    sym c.is ∙ ap (λ (x : List Group). globals_of x c.stop) h
    ∙ eof_found prefix e after c.stop a k in
    let same : groups ≡ prefix = ap (λ (p : Found). p.0) both in
    let whole : Run bytes ((prefix ++ e ∷ []) ++ after) c.walk.rest =
    subst (λ (x : List Group). Run bytes x c.walk.rest) (h
    ∙ sym (append_assoc prefix (e ∷ []) after)) c.walk.run in
    let parts = run_split bytes (prefix ++ e ∷ []) after c.walk.rest whole in
    record {
      no_eof = subst (λ (x : List Group). AllByRecursion (λ g. g.typ ≢ 10) x) (sym same) a;
      rest = parts.0;
      ends = inl (
        e,
        k,
        subst (λ (x : List Group). Run bytes (x
            ++ e ∷ []) parts.0) (sym same) parts.1,
        ap (λ (p : Found). p.1) both,
      );
    }
outline_of_globals bytes groups cut c (nowhere a) =
    let both : ◌≡◌ {A = Found} (groups, cut) (c.all, c.stop) =
    sym c.is ∙ end_found c.all c.stop a in
    let same : groups ≡ c.all = ap (λ (p : Found). p.0) both in
    record {
      no_eof = subst (λ (x : List Group). AllByRecursion (λ g. g.typ ≢ 10) x) (sym same) a;
      rest = c.walk.rest;
      ends = inr (
        subst (λ (x : List Group). Run bytes x c.walk.rest) (sym same) c.walk.run,
        subst (λ (x : Option Part). AtEnd c.walk.rest x) (sym (ap (λ (p : Found). p.1) both)) c.walk.end,
      );
    }

count_of_globals : (bytes : List ℕ) (groups : List Group) (cut : Option Part) → IsBytes bytes
    → GlobalsPart bytes groups cut → From globals_of bytes groups cut
count_of_globals bytes groups cut fits s =
    elim s.ends [
      | inl c ↦
          let w = has_groups s.rest (run_bytes bytes (groups ++ c.0 ∷ []) s.rest c.2 fits) in
          record {
            all = (groups ++ c.0 ∷ []) ++ w.0;
            stop = w.1;
            walk = record {
              rest = w.2.rest;
              run = Run-append bytes (groups ++ c.0 ∷ []) w.0 s.rest w.2.rest c.2 w.2.run;
              end =
                  w.2.end;
            };
            is = ap (λ (x : List Group). globals_of x w.1) (append_assoc groups (c.0 ∷ []) w.0)
                ∙ eof_found groups c.0 w.0 w.1 s.no_eof c.1
                ∙ ap (λ (x : Option Part). (groups, x)) (sym c.3);
          }
      | inr c ↦ record {
        all = groups;
        stop = cut;
        walk = record { rest = s.rest; run = c.0; end = c.1 };
        is =
            end_found groups cut s.no_eof;
      }
    ]

pub same_globals : (bytes : List ℕ) (groups : List Group) (cut : Option Part) → IsBytes bytes
    → GlobalsPart bytes groups cut ↔ From globals_of bytes groups cut
same_globals bytes groups cut fits = (
  λ s. count_of_globals bytes groups cut fits s,
  λ c. outline_of_globals bytes groups cut c (split c.all),
)

-- ---- exactly one of each

pub drop_bytes : (n : ℕ) (bytes : List ℕ) → IsBytes bytes → IsBytes (drop n bytes)
drop_bytes n bytes fits i = rw get_or-drop (fits (n + i))

pub has_from : (found : List Group → Option Part → Found) (bytes : List ℕ) → IsBytes bytes
    → (groups : List Group) × (cut : Option Part) × From found bytes groups cut
has_from found bytes fits =
    let w = has_groups bytes fits in
    ((found w.0 w.1).0, (found w.0 w.1).1, record { all = w.0; stop = w.1; walk = w.2; is = refl })

pub one_from : (found : List Group → Option Part
    → Found) (bytes : List ℕ) (gs hs : List Group) (c d : Option Part) → From found bytes gs c
    → From found bytes hs d → (gs ≡ hs) × (c ≡ d)
one_from found bytes gs hs c d a b =
    let same = one_groups bytes a.all b.all a.stop b.stop a.walk b.walk in
    let both : ◌≡◌ {A = Found} (gs, c) (hs, d) =
    sym a.is ∙ ap (λ (x : List Group). found x a.stop) same.0 ∙ ap (found b.all) same.1 ∙ b.is in
    (ap (λ (p : Found). p.0) both, ap (λ (p : Found). p.1) both)

pub one_sheet_part : (bytes : List ℕ) → IsBytes bytes → HasOne SheetPart bytes
one_sheet_part bytes fits = record {
  some = let f = has_from (found_from 0) bytes fits in (
    f.0,
    f.1,
    (same_parts bytes f.0 f.1 fits).1 f.2,
  );
  same = λ gs hs c d a b. one_from (found_from 0) bytes gs hs c d ((same_parts bytes gs c fits).0 a) ((same_parts bytes hs d fits).0 b);
}

pub one_globals_part : (bytes : List ℕ) → IsBytes bytes → HasOne GlobalsPart bytes
one_globals_part bytes fits = record {
  some = let f = has_from globals_of bytes fits in (
    f.0,
    f.1,
    (same_globals bytes f.0 f.1 fits).1 f.2,
  );
  same = λ gs hs c d a b. one_from globals_of bytes gs hs c d ((same_globals bytes gs c fits).0 a) ((same_globals bytes hs d fits).0 b);
}
