-- A string table as far as it was read.
use Rattle.std.proofs.Common.{◌≡◌, ◌≢◌, ℕ, ◌+◌, ◌*◌, ◌<◌, ◌≤◌, ◌^◌, true, false, List, [], ◌∷◌, ◌++◌, length, drop, Ok, Err, Result, refl, sym, ap, subst, ◌∙◌, arith}
use Rattle.std.specs.Prelude.{nat_lt}
use Rattle.std.proofs.lemmas.List.{length-append, length-drop}
use Rattle.xls_stream.specs.Stream.{Group, record_bytes, continues, group_bytes}
use Rattle.xls_stream.specs.Walks.{IsBytes}
use Rattle.xls_stream.specs.StringTable.{Mark, Missing, marked, weight, next_at, Strings, Table}
use Rattle.xls_stream.specs.Listing.{ListEntry, table_entry, IsShared, table_of}
use Rattle.xls_stream.proofs.TableReadings.{one_reading}
use Rattle.xls_record.specs.declared.error.XlsError.{XlsError}
use Rattle.xls_record.specs.declared.error.XlsError.TheVariants as errors
use Rattle.xls_record.specs.Reading.{Fails}
use Rattle.xls_strings.specs.Sst.{as_error, sst_marks}
use Rattle.xls_strings.proofs.SstLemmas.{Strings-push, next_lighter}
use Rattle.xls_record.proofs.PieceLemmas.{weight-pieces}
use Rattle.xls_strings.proofs.MarkLemmas.{weight-marked}
use Rattle.xls_lay.specs.Pushing.{EndsInTable, last_count, AddsString}
use Rattle.xls_lay.proofs.PushLemmas.{count_last, same_last, same_prefix}
use Rattle.xls_lay.proofs.FillLemmas.{not_below}
use Rattle.xls_lay.proofs.UnitLemmas.{AreSmall, marked_small, string_short}

-- the table that the list ends in has the strings so far, and these marks are left
pub record ReadSoFar (old now : List ListEntry) (start rest : List Mark) : Type 0 where
  pub strings : List (List ℕ)
  pub run : Strings start strings rest
  pub list : now ≡ old ++ table_entry strings ∷ []
  pub few : 3 * length strings + weight rest ≤ weight start
  pub small : AreSmall rest

-- ---- the marks of a record

pub marks_long : (g : Group) (ms : List Mark) → sst_marks g.body g.tail ≡ Ok ms → ms ≡ marked (drop 8 g.body) g.tail
marks_long g ms e = by_size (nat_lt (length g.body) 8) refl
  where
    by_size : (b : _) → nat_lt (length g.body) 8 ≡ b → ms ≡ marked (drop 8 g.body) g.tail
    by_size true h = absurd (let f = rw h at e in cc)
    by_size false h = let f = rw h at e in cc

-- a table that is there has its eight bytes
pub marks_there : {X : Type 0} (g : Group) (strings : List (List ℕ)) (e : XlsError) → IsShared g (table_of strings) → sst_marks g.body g.tail ≡ Err e → X
marks_there g strings e h f =
    let long = not_below (length g.body) 8 h.0 in
    let k = rw long at f in absurd cc

pub marks_weight : (g : Group) → weight (marked (drop 8 g.body) g.tail) ≤ length (group_bytes g)
marks_weight g =
    omega (arith, weight-marked (drop 8 g.body) g.tail, weight-pieces g.tail, length-drop 8 g.body, length-append (record_bytes g.typ g.body) (continues g.tail))

-- ---- steps

pub read_none : (old : List ListEntry) (g : Group) (ms : List Mark) → sst_marks g.body g.tail ≡ Ok ms → IsBytes (group_bytes g)
    → (now : List ListEntry) → now ≡ old ++ table_entry [] ∷ [] → ReadSoFar old now ms ms
read_none old g ms e fits now n = record {
  strings = [];
  run = refl;
  list = n;
  few = omega arith;
  small = subst (λ (x : List Mark). AreSmall x) (sym (marks_long g ms e)) (marked_small g 8 fits);
}

module _ (old now : List ListEntry) (start rest : List Mark) (r : ReadSoFar old now start rest) where
  pub read_ends : EndsInTable now
  read_ends = record { prefix = old; strings = r.strings; whole = r.list }

  count_now : last_count now ≡ length r.strings
  count_now = ap last_count r.list ∙ count_last old (table_entry r.strings)

  -- there is room for one string more
  pub read_count : weight start < 2 ^ 32 → (units : List ℕ) (after : List Mark) → next_at rest ≡ Ok (units, after) → last_count now + 1 < 2 ^ 32
  read_count w units after e = omega (arith, w, r.few, count_now, next_lighter rest after units e)

  pub read_size : (units : List ℕ) (after : List Mark) → next_at rest ≡ Ok (units, after) → length units < 2 ^ 16
  read_size units after e = (string_short rest after units r.small e).0

  pub read_more : (units : List ℕ) (after : List Mark) (new : List ListEntry) → next_at rest ≡ Ok (units, after) → AddsString now new units
      → ReadSoFar old new start after
  read_more units after new e a =
      let same : a.prefix ++ table_entry a.strings ∷ [] ≡ old ++ table_entry r.strings ∷ [] = sym a.before ∙ r.list in
      let prefix : a.prefix ≡ old = same_prefix a.prefix old (table_entry a.strings) (table_entry r.strings) same in
      let last : table_entry a.strings ≡ table_entry r.strings = same_last a.prefix old (table_entry a.strings) (table_entry r.strings) same in
      let strings : a.strings ≡ r.strings = cc in
      record {
        strings = r.strings ++ units ∷ [];
        run = Strings-push start r.strings units rest after r.run e;
        list =
            a.after ∙ ap (λ (x : List ListEntry). x ++ table_entry (a.strings ++ units ∷ []) ∷ []) prefix
            ∙ ap (λ (x : List (List ℕ)). old ++ table_entry (x ++ units ∷ []) ∷ []) strings;
        few = omega (arith, r.few, next_lighter rest after units e, length-append r.strings (units ∷ []));
        small = (string_short rest after units r.small e).1;
      }

  -- the end: these are the strings of the table
  pub read_all : (strings : List (List ℕ)) → Table start strings → rest ≡ [] → now ≡ old ++ table_entry strings ∷ []
  read_all strings t e =
      let mine : Table start r.strings = subst (λ (x : List Mark). Strings start r.strings x) e r.run in
      r.list ∙ ap (λ (x : List (List ℕ)). old ++ table_entry x ∷ []) ((one_reading start).table r.strings strings mine t)

  -- a table that is whole has no fault
  pub read_fails : (strings : List (List ℕ)) → Table start strings → (e : XlsError) → rest ≢ [] → Fails e (as_error (next_at rest)) → e ≡ errors.Memory
  read_fails strings t e some f = by_reading (next_at rest) refl
    where
      no_error : (e : XlsError) (x : List ℕ × List Mark) → Fails e (as_error (Ok x)) → e ≡ errors.Memory
      no_error errors.Memory x h = refl
      no_error e x h = absurd cc

      by_reading : (n : Result (List ℕ × List Mark) Missing) → next_at rest ≡ n → e ≡ errors.Memory
      by_reading (Ok x) n = no_error e x (subst (λ (y : Result (List ℕ × List Mark) Missing). Fails e (as_error y)) n f)
      by_reading (Err m) n = absurd ((one_reading start).apart strings m t (record { strings = r.strings; rest = rest; before = r.run; some = some; fault = n }))
