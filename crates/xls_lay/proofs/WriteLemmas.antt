-- The canonical bytes of a list that are written entry by entry.
use Rattle.std.proofs.Common.{◌≡◌, ℕ, ◌+◌, ◌<◌, ◌≤◌, ◌^◌, List, [], ◌++◌, length, drop, get_or, refl, sym, ap, ◌∙◌, append_assoc, arith, Result, Ok, Err}
use Rattle.std.proofs.lemmas.List.{append-nil, drop_all, length-append}
use Rattle.xls_lay.specs.Counted.{Counted, CountedEntry}
use Rattle.xls_stream.specs.Listing as listing
use Rattle.xls_stream.specs.Stream.{record_bytes}
use Rattle.xls_stream.specs.StringTable.{Mark}
use Rattle.xls_stream.specs.declared.types.TheConstants as types
use Rattle.xls_layouts.specs.LaidStrings.{le32, marks_of_strings}
use Rattle.xls_layouts.specs.Canonical.{canonical_strings, counts_of}
use Rattle.xls_lay.specs.Writing.{saturated, canonical_bytes, canonical_size}
use Rattle.xls_lay.specs.Cutting.{eof_bytes, part_bytes, part_size, entry_bytes, table_bytes, rest_bytes, globals_from, parts_from}
use Rattle.xls_output.specs.Output.{Output, Buffers, GivesUp, Puts}
use Rattle.xls_output.specs.declared.stop.Stop.{Stop}
use Rattle.xls_output.proofs.OutputLemmas.{gathers-as, gathers-nothing, gathers-then, stops-as, stops-more, stops-then}
use Rattle.xls_lay.specs.Putting.{PutsOn, StopsOn}
use Rattle.xls_lay.specs.declared.table.TableWriter.{TableWriter}
use Rattle.xls_lay.proofs.WholeLemmas.{whole, whole_length}
use Rattle.xls_lay.specs.Entries.{entry_in, entries_in}
use Rattle.xls_lay.specs.declared.entry.Entry.{Entry}
use Rattle.xls_lay.proofs.SizeLemmas.{next_entry}

-- ---- the globals

-- some entries are written, and the others are still to come
pub record PutGlobals (old out : List ℕ) (first offset : ℕ) (entries : List Entry) (i : ℕ) : Type 0 where
  pub whole : out ++ globals_from offset (entries_in (drop i entries)) ≡ old ++ globals_from first (entries_in entries)
  pub fits : Counted (entries_in (drop i entries))
  pub short : offset + length (parts_from (entries_in (drop i entries))) < 2 ^ 32

pub globals_none : (old : List ℕ) (first : ℕ) (entries : List Entry) → Counted (entries_in entries)
    → first + length (parts_from (entries_in entries)) < 2 ^ 32 → PutGlobals old old first first entries 0
globals_none old first entries f s = record { whole = refl; fits = f; short = s }

module _ (old out : List ℕ) (first offset : ℕ) (entries : List Entry) (i : ℕ) (p : PutGlobals old out first offset entries i) where
  pub globals_fit : (e : Entry) → i < length entries → get_or entries i e ≡ e → CountedEntry (entry_in e)
  globals_fit e lt here = (rw (next_entry entries i e lt here) at p.fits).0

  pub globals_offset : offset < 2 ^ 32
  globals_offset = omega (arith, p.short)

  next_size : (e : Entry) → i < length entries → get_or entries i e ≡ e
      → offset + (part_size (entry_in e) + length (parts_from (entries_in (drop (i + 1) entries)))) < 2 ^ 32
  next_size e lt here =
      let s = rw (next_entry entries i e lt here) at p.short in
      omega (arith, s, length-append (part_bytes (entry_in e)) (parts_from (entries_in (drop (i + 1) entries))))

  pub globals_size_fits : (e : Entry) → i < length entries → get_or entries i e ≡ e → offset + part_size (entry_in e) < 2 ^ 32
  globals_size_fits e lt here = omega (arith, next_size e lt here)

  pub globals_more : (e : Entry) (new : List ℕ) (next : ℕ) → i < length entries → get_or entries i e ≡ e
      → new ≡ out ++ entry_bytes offset (entry_in e) → next ≡ offset + part_size (entry_in e)
      → PutGlobals old new first next entries (i + 1)
  globals_more e new next lt here put n =
      let rest = entries_in (drop (i + 1) entries) in
      record {
        whole =
            ap (λ (k : ℕ). new ++ globals_from k rest) n
            ∙ ap (λ (x : List ℕ). x ++ globals_from (offset + part_size (entry_in e)) rest) put
            ∙ append_assoc out (entry_bytes offset (entry_in e)) (globals_from (offset + part_size (entry_in e)) rest)
            ∙ ap (λ (l : List Entry). out ++ globals_from offset (entries_in l)) (sym (next_entry entries i e lt here))
            ∙ p.whole;
        fits = (rw (next_entry entries i e lt here) at p.fits).1;
        short = omega (arith, n, next_size e lt here);
      }

  pub globals_all : (new : List ℕ) → length entries ≤ i → new ≡ out ++ eof_bytes → new ≡ old ++ globals_from first (entries_in entries)
  globals_all new le put =
      put ∙ ap (λ (l : List Entry). out ++ globals_from offset (entries_in l)) (sym (drop_all i entries le)) ∙ p.whole

-- ---- the parts

pub record PutParts (old out : List ℕ) (entries : List Entry) (i : ℕ) : Type 0 where
  pub whole : out ++ parts_from (entries_in (drop i entries)) ≡ old ++ parts_from (entries_in entries)

pub parts_none : (old : List ℕ) (entries : List Entry) → PutParts old old entries 0
parts_none old entries = record { whole = refl }

module _ (old out : List ℕ) (entries : List Entry) (i : ℕ) (p : PutParts old out entries i) where
  pub parts_more : (e : Entry) (new : List ℕ) → i < length entries → get_or entries i e ≡ e
      → new ≡ out ++ part_bytes (entry_in e) → PutParts old new entries (i + 1)
  parts_more e new lt here put = record {
    whole =
        ap (λ (x : List ℕ). x ++ parts_from (entries_in (drop (i + 1) entries))) put
        ∙ append_assoc out (part_bytes (entry_in e)) (parts_from (entries_in (drop (i + 1) entries)))
        ∙ ap (λ (l : List Entry). out ++ parts_from (entries_in l)) (sym (next_entry entries i e lt here))
        ∙ p.whole;
  }

  pub parts_all : length entries ≤ i → out ≡ old ++ parts_from (entries_in entries)
  parts_all le =
      sym (append-nil out) ∙ ap (λ (l : List Entry). out ++ parts_from (entries_in l)) (sym (drop_all i entries le)) ∙ p.whole

-- ---- gathered and written

-- the globals up to an entry, whose part begins at this offset
pub record GlobalsOn (a b : Output) (first offset : ℕ) (entries : List Entry) (i : ℕ) : Type 0 where
  pub text : List ℕ
  pub gathers : Buffers a b text
  pub put : PutGlobals [] text first offset entries i

pub globals_on_none : (a : Output) (first : ℕ) (entries : List Entry) → Counted (entries_in entries)
    → first + length (parts_from (entries_in entries)) < 2 ^ 32 → GlobalsOn a a first first entries 0
globals_on_none a first entries f s = record { text = []; gathers = gathers-nothing a; put = globals_none [] first entries f s }

module _ {a b : Output} (first offset : ℕ) (entries : List Entry) (i : ℕ) (so : GlobalsOn a b first offset entries i) where
  pub on_fits : (e : Entry) → i < length entries → get_or entries i e ≡ e → CountedEntry (entry_in e)
  on_fits e lt here = globals_fit [] so.text first offset entries i so.put e lt here

  pub on_offset : offset < 2 ^ 32
  on_offset = globals_offset [] so.text first offset entries i so.put

  pub on_size : (e : Entry) → i < length entries → get_or entries i e ≡ e → offset + part_size (entry_in e) < 2 ^ 32
  on_size e lt here = globals_size_fits [] so.text first offset entries i so.put e lt here

  pub globals_on_more : {c : Output} (e : Entry) (next : ℕ) → i < length entries → get_or entries i e ≡ e
      → Buffers b c (entry_bytes offset (entry_in e)) → next ≡ offset + part_size (entry_in e)
      → GlobalsOn a c first next entries (i + 1)
  globals_on_more e next lt here more n = record {
    text = so.text ++ entry_bytes offset (entry_in e);
    gathers = gathers-then so.gathers more;
    put = globals_more [] so.text first offset entries i so.put e (so.text ++ entry_bytes offset (entry_in e)) next lt here refl n;
  }

  pub globals_on_stop : {c : Output} {x : Stop} (e : Entry) → i < length entries → get_or entries i e ≡ e
      → GivesUp b c (entry_bytes offset (entry_in e)) x → GivesUp a c (globals_from first (entries_in entries)) x
  globals_on_stop e lt here stops =
      let next = globals_more [] so.text first offset entries i so.put e (so.text ++ entry_bytes offset (entry_in e)) (offset + part_size (entry_in e)) lt here refl refl in
      stops-as (stops-more (globals_from (offset + part_size (entry_in e)) (entries_in (drop (i + 1) entries))) (stops-then so.gathers stops)) next.whole

  globals_on_all : {c : Output} → length entries ≤ i → Buffers b c eof_bytes
      → Buffers a c (globals_from first (entries_in entries))
  globals_on_all le more =
      gathers-as (gathers-then so.gathers more) (globals_all [] so.text first offset entries i so.put (so.text ++ eof_bytes) le refl)

  globals_on_end : {c : Output} {x : Stop} → length entries ≤ i → GivesUp b c eof_bytes x
      → GivesUp a c (globals_from first (entries_in entries)) x
  globals_on_end le stops =
      stops-as (stops-then so.gathers stops) (globals_all [] so.text first offset entries i so.put (so.text ++ eof_bytes) le refl)

  pub globals_on_eof : {X : Type 0} (c : Output) (r : Result X Stop) → length entries ≤ i → Puts b c eof_bytes r
      → Puts a c (globals_from first (entries_in entries)) r
  globals_on_eof c (Ok x) le more = globals_on_all le more
  globals_on_eof c (Err e) le stops = globals_on_end le stops

-- the parts up to an entry
pub record PartsOn (a b : Output) (entries : List Entry) (i : ℕ) : Type 0 where
  pub text : List ℕ
  pub gathers : Buffers a b text
  pub put : PutParts [] text entries i

pub parts_on_none : (a : Output) (entries : List Entry) → PartsOn a a entries 0
parts_on_none a entries = record { text = []; gathers = gathers-nothing a; put = parts_none [] entries }

module _ {a b : Output} (entries : List Entry) (i : ℕ) (so : PartsOn a b entries i) where
  pub parts_on_more : {c : Output} (e : Entry) → i < length entries → get_or entries i e ≡ e
      → Buffers b c (part_bytes (entry_in e)) → PartsOn a c entries (i + 1)
  parts_on_more e lt here more = record {
    text = so.text ++ part_bytes (entry_in e);
    gathers = gathers-then so.gathers more;
    put = parts_more [] so.text entries i so.put e (so.text ++ part_bytes (entry_in e)) lt here refl;
  }

  pub parts_on_stop : {c : Output} {x : Stop} (e : Entry) → i < length entries → get_or entries i e ≡ e
      → GivesUp b c (part_bytes (entry_in e)) x → GivesUp a c (parts_from (entries_in entries)) x
  parts_on_stop e lt here stops =
      let next = parts_more [] so.text entries i so.put e (so.text ++ part_bytes (entry_in e)) lt here refl in
      stops-as (stops-more (parts_from (entries_in (drop (i + 1) entries))) (stops-then so.gathers stops)) next.whole

  pub parts_on_all : length entries ≤ i → Buffers a b (parts_from (entries_in entries))
  parts_on_all le = gathers-as so.gathers (parts_all [] so.text entries i so.put le)

-- ---- a string table

-- a record without further marks
rest_none : (typ : ℕ) (body : List ℕ) → rest_bytes typ body [] ≡ record_bytes typ body
rest_none typ body = append-nil (record_bytes typ (body ++ [])) ∙ ap (record_bytes typ) (append-nil body)

module _ (s : Output) (strings : List (List ℕ)) (count : ℕ) (a : TableWriter) (n : count ≡ length strings) (t : a.typ ≡ types.SST) (body : a.body.items ≡ le32 count ++ le32 count) where
  prefix : a.body.items ≡ counts_of strings
  prefix = body ∙ ap (λ (k : ℕ). le32 k ++ le32 k) n

  abbrev marks : List Mark
  marks = marks_of_strings (canonical_strings (length a.body.items) strings)

  -- the table is what begins so and goes on with these marks
  table_is : rest_bytes a.typ a.body.items (marks ++ []) ≡ table_bytes strings
  table_is =
      ap (λ (x : List Mark). rest_bytes a.typ a.body.items x) (append-nil marks)
      ∙ ap (λ (k : ℕ). rest_bytes k a.body.items marks) t
      ∙ ap (λ (x : List ℕ). rest_bytes types.SST x (marks_of_strings (canonical_strings (length x) strings))) prefix

  pub table_stop : {u : Output} {e : Stop} → StopsOn s a marks u e → GivesUp s u (table_bytes strings) e
  table_stop stops = stops-as (stops []) table_is

  module _ {u : Output} (b : TableWriter) (p : PutsOn s a marks u b) where
    -- its last record
    last_is : p.bytes ++ record_bytes b.typ b.body.items ≡ table_bytes strings
    last_is = ap (λ (x : List ℕ). p.bytes ++ x) (sym (rest_none b.typ b.body.items)) ∙ p.moves.whole [] ∙ table_is

    pub table_put : {v : Output} → Buffers u v (record_bytes b.typ b.body.items) → Buffers s v (table_bytes strings)
    table_put q = gathers-as (gathers-then p.gathers q) last_is

    pub table_unfinished : {v : Output} {e : Stop} → GivesUp u v (record_bytes b.typ b.body.items) e → GivesUp s v (table_bytes strings) e
    table_unfinished q = stops-as (stops-then p.gathers q) last_is

-- ---- the whole

module _ (list : List listing.ListEntry) (globals parts found : ℕ) (g : globals ≡ saturated (length (globals_from 0 list))) (p : parts ≡ saturated (length (parts_from list))) (f : found ≡ saturated (globals + parts)) where
  size : length (canonical_bytes list) ≡ length (globals_from 0 list) + length (parts_from list)
  size = whole_length list

  pub too_long : 2 ^ 32 ≤ found → (2 ^ 32 ≤ length (canonical_bytes list)) × (found ≡ canonical_size list)
  too_long h = (omega (arith, size, g, p, f), omega (arith, size, g, p, f))

  pub not_long : found < 2 ^ 32 → length (canonical_bytes list) < 2 ^ 32
  not_long h = omega (arith, size, g, p, f)

  globals_are : found < 2 ^ 32 → globals ≡ length (globals_from 0 list)
  globals_are h = omega (arith, g, p, f)

  pub parts_short : found < 2 ^ 32 → globals + length (parts_from list) < 2 ^ 32
  parts_short h = omega (arith, g, p, f)

  pub all_put : found < 2 ^ 32 → (bytes : List ℕ) → bytes ≡ globals_from globals list ++ parts_from list
      → (bytes ≡ canonical_bytes list) × (length bytes < 2 ^ 32)
  all_put h bytes e =
      let same : bytes ≡ canonical_bytes list = e ∙ ap (λ (k : ℕ). globals_from k list ++ parts_from list) (globals_are h) ∙ sym (whole list) in
      (same, omega (arith, ap length same, not_long h))

-- the same, where the canonical bytes are known to be below 2^32
module _ (list : List listing.ListEntry) (globals : ℕ) (g : globals ≡ saturated (length (globals_from 0 list))) (short : length (canonical_bytes list) < 2 ^ 32) where
  first_part : globals ≡ length (globals_from 0 list)
  first_part = omega (arith, g, short, whole_length list)

  pub parts_within : globals + length (parts_from list) < 2 ^ 32
  parts_within = omega (arith, g, short, whole_length list)

  pub canonical_is : globals_from globals list ++ parts_from list ≡ canonical_bytes list
  canonical_is = ap (λ (k : ℕ). globals_from k list ++ parts_from list) first_part ∙ sym (whole list)
