-- The string table, and the runs of its strings.
use Rattle.std.proofs.Common.{◌≡◌, ◌≢◌, ne_eqb, inl, inr, ℕ, zero, suc, ◌+◌, ◌-◌, ◌≤◌, ◌<◌, ◌^◌, List, [], ◌∷◌, length, take, drop, refl, sym, ap, ◌∙◌, subst, arith, Bool, true, false, Option, Some, None, Result, Ok, Err}
use Rattle.std.specs.Prelude.{◌⊎◌, ◌==◌, if◌then◌else◌}
use Rattle.std.specs.Result.{result_ok}
use Rattle.std.proofs.lemmas.List.{length-take-le, length-drop, drop-drop}
use Rattle.std.proofs.lemmas.Bool.{leb-true, eqb-true}
use Rattle.xls_stream.specs.declared.types.TheConstants.{EOF, CONTINUE, SST}
use Rattle.xls_stream.specs.StringTable.{Mark, Missing, Head as Outline, marked, prefix_of, head_at, runs_at, units_at, tail_of, str_at, next_at, with_head, with_units, with_tail}
use Rattle.xls_parts.specs.PartRecords.{Placed, size_at, starts_whole, first_at, records_within, records_at, until_eof, globals_records}
use Rattle.xls_parts.proofs.PartRecordsLemmas.{within_first, within_none, records_first, records_none, records_empty, within_enough}
use Rattle.xls_style_cells.specs.declared.runs.Run.{Run}
use Rattle.xls_style_cells.specs.Runs.{runs_in, run_at, with_others}
use Rattle.xls_style_cells.specs.Tables.{leading, table_from, bytes_in, by_head, by_units, runs_of_string, after_in, first_runs, string_runs}
use Rattle.xls_style_cells.specs.Walking.{AreKept, continues, end_of, found_runs, put_at, tail_left}

-- ---- the Continue records behind some bytes

pub continues_none : continues [] ≡ []
continues_none = ap leading (records_empty 0)

-- where they stand makes no difference
same_within : (n o p : ℕ) (bytes : List ℕ) → leading (records_within n o bytes) ≡ leading (records_within n p bytes)
unfolding records_within
same_within zero o p bytes = refl
same_within (suc n) o p bytes =
    by_test (starts_whole bytes) (same_within n (o + (4 + size_at bytes)) (p + (4 + size_at bytes)) (drop (4 + size_at bytes) bytes))
  where
    by_test : (b : Bool)
        → leading (records_within n (o + (4 + size_at bytes)) (drop (4 + size_at bytes) bytes)) ≡ leading (records_within n (p + (4 + size_at bytes)) (drop (4 + size_at bytes) bytes))
        → leading (if b then first_at o bytes ∷ records_within n (o + (4 + size_at bytes)) (drop (4 + size_at bytes) bytes) else [])
        ≡ leading (if b then first_at p bytes ∷ records_within n (p + (4 + size_at bytes)) (drop (4 + size_at bytes) bytes) else [])
    by_test true e = ap (λ (bs : List (List ℕ)). if (first_at o bytes).typ == CONTINUE then (first_at o bytes).body ∷ bs else []) e
    by_test false e = refl

pub record Behind (bytes : List ℕ) (r : Placed) (rs : List Placed) : Type 0 where
  pub fits : 4 + length r.body ≤ length bytes
  pub leads : leading rs ≡ continues (drop (4 + length r.body) bytes)

size_is : (bytes : List ℕ) → starts_whole bytes ≡ true → length (take (size_at bytes) (drop 4 bytes)) ≡ size_at bytes
size_is bytes w =
    let fits = leb-true (4 + size_at bytes) (length bytes) w in
    length-take-le (size_at bytes) (drop 4 bytes) (omega (arith, fits, length-drop 4 bytes))

-- the record that some bytes begin with, and the records behind it
pub behind_first : (bytes : List ℕ) (r : Placed) (rs : List Placed) → records_at 0 bytes ≡ r ∷ rs → Behind bytes r rs
behind_first bytes r rs e = by_test (starts_whole bytes) refl
  where
    by_test : (b : Bool) → starts_whole bytes ≡ b → Behind bytes r rs
    by_test true w =
        let first = records_first 0 bytes w in
        let both : first_at 0 bytes ∷ records_at (0 + (4 + size_at bytes)) (drop (4 + size_at bytes) bytes) ≡ r ∷ rs = sym first ∙ e in
        let is : first_at 0 bytes ≡ r = cc in
        let others : records_at (0 + (4 + size_at bytes)) (drop (4 + size_at bytes) bytes) ≡ rs = cc in
        let body : take (size_at bytes) (drop 4 bytes) ≡ r.body = ap (λ (x : Placed). x.body) is in
        let long : length r.body ≡ size_at bytes = ap length (sym body) ∙ size_is bytes w in
        let fits = leb-true (4 + size_at bytes) (length bytes) w in record {
          fits = omega (arith, fits, long);
          leads = ap leading (sym others)
              ∙ same_within (length (drop (4 + size_at bytes) bytes)) (0 + (4 + size_at bytes)) 0 (drop (4 + size_at bytes) bytes)
              ∙ ap (λ (n : ℕ). continues (drop (4 + n) bytes)) (sym long);
        }
    by_test false w = let none : [] ≡ r ∷ rs = sym (records_none 0 bytes w) ∙ e in absurd cc

pub leads_some : (bytes : List ℕ) (r : Placed) (rs : List Placed) → records_at 0 bytes ≡ r ∷ rs → r.typ ≡ 0x003C → continues bytes ≡ r.body ∷ continues (drop (4 + length r.body) bytes)
leads_some bytes r rs e n =
    let test : (r.typ == CONTINUE) ≡ true = rw n refl in
    ap leading e ∙ ap (λ (b : Bool). if b then r.body ∷ leading rs else []) test ∙ ap (λ (bs : List (List ℕ)). r.body ∷ bs) (behind_first bytes r rs e).leads

-- ---- the table of a stream

module _ (stream : List ℕ) where
  -- behind each record stand those that the stream has there
  abbrev pub AllBehind : List Placed → Type 0
  AllBehind [] = Unit {0}
  AllBehind (r ∷ rs) = (leading rs ≡ continues (drop (end_of r) stream)) × AllBehind rs

  behind_within : (n o : ℕ) (bytes : List ℕ) → drop o stream ≡ bytes → length bytes ≤ n → AllBehind (records_within n o bytes)
  unfolding records_within
  behind_within zero o bytes e h = tt
  behind_within (suc n) o bytes e h =
      let size = 4 + size_at bytes in
      let left = drop size bytes in
      let there : drop (o + size) stream ≡ left = sym (drop-drop size o stream) ∙ ap (drop size) e in
      by_test (starts_whole bytes) refl there (λ w. behind_within n (o + size) left there (omega (arith, h, length-drop size bytes, leb-true size (length bytes) w)))
    where
      by_test : (b : Bool) → starts_whole bytes ≡ b → drop (o + (4 + size_at bytes)) stream ≡ drop (4 + size_at bytes) bytes
          → (starts_whole bytes ≡ true → AllBehind (records_within n (o + (4 + size_at bytes)) (drop (4 + size_at bytes) bytes))) → AllBehind (records_within (suc n) o bytes)
      by_test true w there others =
          let size = 4 + size_at bytes in
          let left = drop size bytes in
          let fewer : length left ≤ n = omega (arith, h, length-drop size bytes, leb-true size (length bytes) w) in
          let enough : records_within n (o + size) left ≡ records_at (o + size) left = within_enough n (length left) (o + size) left fewer (omega arith) in
          let leads : leading (records_within n (o + size) left) ≡ continues left = ap leading enough ∙ same_within (length left) (o + size) 0 left in
          let long : length (take (size_at bytes) (drop 4 bytes)) ≡ size_at bytes = size_is bytes w in
          subst AllBehind (sym (within_first n o bytes w))
          (leads ∙ ap continues (sym there) ∙ ap (λ (k : ℕ). continues (drop (o + (4 + k)) stream)) (sym long), others w)
      by_test false w there others = subst AllBehind (sym (within_none (suc n) o bytes w)) tt

  leading_until : (rs : List Placed) → leading (until_eof rs) ≡ leading rs
  unfolding until_eof
  leading_until [] = refl
  leading_until (r ∷ rs) = by_test (leading_until rs) (r.typ == EOF) refl (r.typ == CONTINUE) refl
    where
      apart : (t : ℕ) → (t == 0x000A) ≡ true → (t == 0x003C) ≡ true → ⊥
      apart t e f = grind arith

      by_test : leading (until_eof rs) ≡ leading rs → (b : Bool) → (r.typ == EOF) ≡ b → (c : Bool) → (r.typ == CONTINUE) ≡ c
          → leading (if b then [] else r ∷ until_eof rs) ≡ (if c then r.body ∷ leading rs else [])
      by_test same true e true f = absurd (apart r.typ e f)
      by_test same true e false f = refl
      by_test same false e true f = ap (λ (c : Bool). if c then r.body ∷ leading (until_eof rs) else []) f ∙ ap (λ (bs : List (List ℕ)). r.body ∷ bs) same
      by_test same false e false f = ap (λ (c : Bool). if c then r.body ∷ leading (until_eof rs) else []) f

  behind_until : (rs : List Placed) → AllBehind rs → AllBehind (until_eof rs)
  unfolding until_eof
  behind_until [] a = tt
  behind_until (r ∷ rs) a = by_test (r.typ == EOF) (leading_until rs ∙ a.0) (behind_until rs a.1)
    where
      by_test : (b : Bool) → leading (until_eof rs) ≡ continues (drop (end_of r) stream) → AllBehind (until_eof rs) → AllBehind (if b then [] else r ∷ until_eof rs)
      by_test true e others = tt
      by_test false e others = (e, others)

  pub all_behind : AllBehind (globals_records stream)
  all_behind = behind_until (records_at 0 stream) (behind_within (length stream) 0 stream refl (omega arith))

-- ---- bytes without marks

pub bytes_alone : (hand : List ℕ) → bytes_in (marked hand (continues [])) ≡ hand
bytes_alone hand = ap (λ (bs : List (List ℕ)). bytes_in (marked hand bs)) continues_none ∙ on hand
  where
    on : (bs : List ℕ) → bytes_in (marked bs []) ≡ bs
    on [] = refl
    on (b ∷ bs) = ap (λ (x : List ℕ). b ∷ x) (on bs)

pub nothing_left : marked [] (continues []) ≡ []
nothing_left = ap (marked []) continues_none

-- ---- strings

pub runs_none : (narrow : Bool) (bytes : List ℕ) → runs_in narrow 0 bytes ≡ []
unfolding runs_in
runs_none narrow bytes = refl

pub past_last : (n : ℕ) → string_runs n [] ≡ []
unfolding string_runs
past_last zero = refl
past_last (suc n) = past_last n

pub first_string : (ms : List Mark) → string_runs 0 ms ≡ first_runs ms
unfolding string_runs
first_string ms = refl

pub next_string : (n : ℕ) (ms : List Mark) → string_runs (suc n) ms ≡ string_runs n (after_in (next_at ms))
unfolding string_runs
next_string n ms = refl

-- ---- the last table

module _ (stream : List ℕ) (before table : List Mark) (it : List Placed) (r : Placed) (rs : List Placed) where
  abbrev Goes : List Mark → Type 0
  Goes now = (table_from now rs ≡ table) × AllBehind stream rs

  pub table_taken : it ≡ r ∷ rs → AllBehind stream it → r.typ ≡ 0x00FC → table_from before it ≡ table → Goes (marked (drop 8 r.body) (continues (drop (end_of r) stream)))
  table_taken e a t h =
      let behind = subst (AllBehind stream) e a in
      let test : (r.typ == SST) ≡ true = rw t refl in (
        ap (λ (bs : List (List ℕ)). table_from (marked (drop 8 r.body) bs) rs) (sym behind.0)
            ∙ ap (λ (b : Bool). table_from (if b then marked (drop 8 r.body) (leading rs) else before) rs) (sym test)
            ∙ ap (table_from before) (sym e) ∙ h,
        behind.1,
      )

  pub table_kept : it ≡ r ∷ rs → AllBehind stream it → r.typ ≢ 0x00FC → table_from before it ≡ table → Goes before
  table_kept e a t h =
      let behind = subst (AllBehind stream) e a in
      let test : (r.typ == SST) ≡ false = ne_eqb r.typ 0x00FC t in (
        ap (λ (b : Bool). table_from (if b then marked (drop 8 r.body) (leading rs) else before) rs) (sym test)
            ∙ ap (table_from before) (sym e) ∙ h,
        behind.1,
      )

-- ---- runs, one at a time

pub none_of : (narrow : Bool) (n : ℕ) (bytes : List ℕ) (v : List Run) → runs_in narrow n bytes ≡ v → n ≡ 0 → v ≡ []
none_of narrow n bytes v e z = sym e ∙ ap (λ (k : ℕ). runs_in narrow k bytes) z ∙ runs_none narrow bytes

pub none_there : (narrow : Bool) (n : ℕ) (bytes : List ℕ) (v : List Run) → runs_in narrow n bytes ≡ v → run_at narrow bytes ≡ None → v ≡ []
unfolding runs_in
none_there narrow zero bytes v e h = sym e
none_there narrow (suc n) bytes v e h = sym e ∙ ap (with_others (runs_in narrow n)) h

pub runs_more : (narrow : Bool) (n : ℕ) (bytes after : List ℕ) (r : Run) (v : List Run) → runs_in narrow n bytes ≡ v → n ≢ 0 → run_at narrow bytes ≡ Some (r, after) → v ≡ r ∷ runs_in narrow (n - 1) after
unfolding runs_in
runs_more narrow zero bytes after r v e some h = absurd (some refl)
runs_more narrow (suc n) bytes after r v e some h =
    let fewer : n ≡ suc n - 1 = omega arith in
    sym e ∙ ap (with_others (runs_in narrow n)) h ∙ ap (λ (m : ℕ). r ∷ runs_in narrow m after) fewer

pub one_run_fewer : (before after : List Run) (r : Run) → before ≡ r ∷ after → length after < length before
one_run_fewer before after r e = rw e (omega arith)

-- ---- what is kept

pub kept_none : (table : List Mark) (kept : ℕ → Option (List Run)) → ((i : ℕ) → kept i ≡ None) → AreKept table table 0 kept
kept_none table kept none = record {
  so_far = λ i h. absurd (omega (arith, h));
  others = λ i h. none i;
  left = λ n. let same : 0 + n ≡ n = omega arith in ap (λ (m : ℕ). string_runs m table) same;
}

module _ (table text after : List Mark) (index : ℕ) (kept new : ℕ → Option (List Run)) (found : Option (List Run)) where
  pub keep_more : AreKept table text index kept → found_runs found ≡ first_runs text → after ≡ after_in (next_at text) → ((i : ℕ) → new i ≡ put_at kept index found i)
      → AreKept table after (index + 1) new
  keep_more k runs goes puts = record {
    so_far = λ i h. ap found_runs (puts i) ∙ here found runs i h (index == i) refl;
    others = λ i h. puts i ∙ there found i h;
    left = λ n.
        let one : index + 1 + n ≡ index + suc n = omega arith in
        ap (λ (m : ℕ). string_runs m table) one ∙ k.left (suc n) ∙ next_string n text ∙ ap (string_runs n) (sym goes);
  }
    where
      before : (i : ℕ) → i < index + 1 → (index == i) ≡ false → i < index
      before i h t = grind arith

      apart : (i : ℕ) → index + 1 ≤ i → (index == i) ≡ false
      apart i h = grind arith

      last : (i : ℕ) → index ≡ i → first_runs text ≡ string_runs i table
      last i e =
          let none : index + 0 ≡ i = omega (arith, e) in
          sym (first_string text) ∙ sym (k.left 0) ∙ ap (λ (m : ℕ). string_runs m table) none

      here : (o : Option (List Run)) → found_runs o ≡ first_runs text → (i : ℕ) → i < index + 1 → (b : Bool) → (index == i) ≡ b → found_runs (put_at kept index o i) ≡ string_runs i table
      here None e i h true t = ap found_runs (k.others i (omega (arith, eqb-true index i t))) ∙ e ∙ last i (eqb-true index i t)
      here None e i h false t = k.so_far i (before i h t)
      here (Some runs) e i h true t = ap (λ (b : Bool). found_runs (if b then Some runs else kept i)) t ∙ e ∙ last i (eqb-true index i t)
      here (Some runs) e i h false t = ap (λ (b : Bool). found_runs (if b then Some runs else kept i)) t ∙ k.so_far i (before i h t)

      there : (o : Option (List Run)) (i : ℕ) → index + 1 ≤ i → put_at kept index o i ≡ None
      there None i h = k.others i (omega (arith, h))
      there (Some runs) i h = ap (λ (b : Bool). if b then Some runs else kept i) (apart i h) ∙ k.others i (omega (arith, h))

module _ (table text : List Mark) (index : ℕ) (kept : ℕ → Option (List Run)) (k : AreKept table text index kept) where
  pub kept_over : text ≡ [] → (i : ℕ) → found_runs (kept i) ≡ string_runs i table
  kept_over none i = elim (split_lt i index) [
    | inl h ↦ k.so_far i h
    | inr h ↦ (let sum : index + (i - index) ≡ i = omega (arith, h) in
        ap found_runs (k.others i h) ∙ sym (past_last (i - index)) ∙ ap (string_runs (i - index)) (sym none) ∙ sym (k.left (i - index)) ∙ ap (λ (m : ℕ). string_runs m table) sum)
  ]
    where
      split_lt : (a b : ℕ) → (a < b) ⊎ (b ≤ a)
      split_lt a b = grind arith

  pub kept_all : 2 ^ 32 ≤ index → (i : ℕ) → i < 2 ^ 32 → found_runs (kept i) ≡ string_runs i table
  kept_all h i l = k.so_far i (omega (arith, h, l))

-- ---- what a string is read to

pub ok_some : {X : Type 0} (r : Result X Missing) (x : X) → result_ok r ≡ Some x → r ≡ Ok x
ok_some (Ok y) x e = let same : y ≡ x = cc in ap Ok same
ok_some (Err m) x e = absurd cc

pub ok_none : {X : Type 0} (r : Result X Missing) → result_ok r ≡ None → (m : Missing) × (r ≡ Err m)
ok_none (Ok y) e = absurd cc
ok_none (Err m) e = (m, refl)

-- no head stands here
pub no_head : (ms : List Mark) → result_ok (head_at (prefix_of ms)) ≡ None → ([] ≡ runs_of_string ms) × ([] ≡ after_in (str_at ms))
no_head ms e =
    let m = ok_none (head_at (prefix_of ms)) e in
    (ap (by_head (runs_at (prefix_of ms)) ms) (sym e), ap (λ (r : Result Outline Missing). after_in (with_head ms r)) (sym m.1))

-- a head without its units
pub no_units_there : (ms : List Mark) (h : Outline) → result_ok (head_at (prefix_of ms)) ≡ Some h → units_at h.count h.wide (drop h.len ms) ≡ None
    → ([] ≡ runs_of_string ms) × ([] ≡ after_in (str_at ms))
no_units_there ms h e u = (
  ap (by_units (runs_at (prefix_of ms))) (sym u) ∙ ap (by_head (runs_at (prefix_of ms)) ms) (sym e),
  ap (λ (x : Option (List ℕ × List Mark)). after_in (with_units h.following x)) (sym u) ∙ ap (λ (r : Result Outline Missing). after_in (with_head ms r)) (sym (ok_some (head_at (prefix_of ms)) h e)),
)

after_tail : (us : List ℕ) (o : Option (List Mark)) → tail_left o ≡ after_in (with_tail us o)
after_tail us None = refl
after_tail us (Some ms) = refl

-- a head and units
pub units_there : (ms : List Mark) (h : Outline) (us : List ℕ) (middle : List Mark) → result_ok (head_at (prefix_of ms)) ≡ Some h → units_at h.count h.wide (drop h.len ms) ≡ Some (us, middle)
    → (runs_in false (runs_at (prefix_of ms)) (bytes_in middle) ≡ runs_of_string ms) × (tail_left (tail_of h.following middle) ≡ after_in (str_at ms))
units_there ms h us middle e u = (
  ap (by_units (runs_at (prefix_of ms))) (sym u) ∙ ap (by_head (runs_at (prefix_of ms)) ms) (sym e),
  after_tail us (tail_of h.following middle) ∙ ap (λ (x : Option (List ℕ × List Mark)). after_in (with_units h.following x)) (sym u) ∙ ap (λ (r : Result Outline Missing). after_in (with_head ms r)) (sym (ok_some (head_at (prefix_of ms)) h e)),
)
