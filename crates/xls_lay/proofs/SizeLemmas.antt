-- How many bytes the globals and the parts of a list have.
use Rattle.std.proofs.Common.{◌≡◌, ℕ, suc, ◌+◌, ◌<◌, ◌≤◌, ◌^◌, List, [], ◌∷◌, ◌++◌, length, drop, get_or, Some, None, refl, sym, ap, ◌∙◌, arith}
use Rattle.std.specs.List.{flat_map}
use Rattle.std.proofs.Math.Seq.{drop-cons}
use Rattle.std.proofs.lemmas.List.{drop_all, length-append}
use Rattle.xls_stream.specs.Stream.{record_bytes}
use Rattle.xls_stream.specs.StringTable.{Mark, prefix_of}
use Rattle.xls_stream.specs.Listing.{Kept, ListEntry, plain_entry, table_entry, sheet_entry}
use Rattle.xls_layouts.specs.LaidStrings.{pieces_of, marks_of_strings}
use Rattle.xls_layouts.specs.Canonical.{canonical_strings, counts_of}
use Rattle.xls_lay.specs.Writing.{saturated}
use Rattle.xls_lay.specs.Cutting.{kept_bytes, eof_bytes, part_of, part_bytes, part_size, table_bytes, entry_bytes, globals_size, globals_from, parts_from, marks_size}
use Rattle.xls_lay.specs.Entries.{entry_in, entries_in}
use Rattle.xls_lay.specs.declared.entry.Entry.{Entry as Inner}

-- ---- sums

abbrev pub sum_by : (ListEntry → ℕ) → List ListEntry → ℕ
sum_by f [] = 0
sum_by f (e ∷ list) = f e + sum_by f list

pub same_length : (offset : ℕ) (e : ListEntry) → length (entry_bytes offset e) ≡ globals_size e
same_length offset (plain_entry typ body) = refl
same_length offset (table_entry strings) = refl
same_length offset (sheet_entry state kind name kept) = refl

pub globals_sum : (offset : ℕ) (list : List ListEntry) → length (globals_from offset list) ≡ 4 + sum_by globals_size list
globals_sum offset [] = refl
globals_sum offset (e ∷ list) =
    omega (arith, length-append (entry_bytes offset e) (globals_from (offset + part_size e) list), same_length offset e, globals_sum (offset + part_size e) list)

pub parts_sum : (list : List ListEntry) → length (parts_from list) ≡ sum_by part_size list
parts_sum [] = refl
parts_sum (e ∷ list) = omega (arith, length-append (part_bytes e) (parts_from list), parts_sum list)

-- ---- each entry

pub length-part : (kept : List Kept) → length (part_of kept) ≡ length (flat_map kept_bytes kept) + 12
length-part kept = omega (arith, length-append (flat_map kept_bytes kept) eof_bytes)

pieces_size : (ms : List Mark) → length (prefix_of ms) + length (flat_map (record_bytes 0x003C) (pieces_of ms)) ≡ marks_size ms
pieces_size [] = refl
pieces_size (None ∷ ms) =
    omega (arith, length-append (record_bytes 0x003C (prefix_of ms)) (flat_map (record_bytes 0x003C) (pieces_of ms)), pieces_size ms)
pieces_size (Some b ∷ ms) = omega (arith, pieces_size ms)

pub length-table : (strings : List (List ℕ)) → length (table_bytes strings) ≡ marks_size (marks_of_strings (canonical_strings 8 strings)) + 12
length-table strings =
    let ms = marks_of_strings (canonical_strings 8 strings) in
    let tail = flat_map (record_bytes 0x003C) (pieces_of ms) in
    omega (arith, length-append (record_bytes 0x00FC (counts_of strings ++ prefix_of ms)) tail, length-append (counts_of strings) (prefix_of ms), pieces_size ms)

-- ---- saturated sums in a loop

-- with the entries that are still to come, so much is the sum
pub record Summed (f : ListEntry → ℕ) (all now : ℕ) (entries : List Inner) (i : ℕ) : Type 0 where
  pub whole : saturated (now + sum_by f (entries_in (drop i entries))) ≡ saturated all
  pub small : now < 2 ^ 64

pub summed_none : (f : ListEntry → ℕ) (first : ℕ) (entries : List Inner) → first < 2 ^ 64
    → Summed f (first + sum_by f (entries_in entries)) first entries 0
summed_none f first entries h = record { whole = refl; small = h }

pub next_entry : (entries : List Inner) (i : ℕ) (e : Inner) → i < length entries → get_or entries i e ≡ e
    → drop i entries ≡ e ∷ drop (i + 1) entries
next_entry entries i e lt here =
    let next : suc i ≡ i + 1 = omega arith in
    drop-cons entries i e lt ∙ ap (λ (k : ℕ). get_or entries i e ∷ drop k entries) next ∙ ap (λ (x : Inner). x ∷ drop (i + 1) entries) here

pub summed_more : (f : ListEntry → ℕ) (all now new : ℕ) (entries : List Inner) (i : ℕ) (e : Inner) (size : ℕ)
    → i < length entries → get_or entries i e ≡ e → size ≡ saturated (f (entry_in e)) → new ≡ saturated (now + size)
    → Summed f all now entries i → Summed f all new entries (i + 1)
summed_more f all now new entries i e size lt here s t h =
    let rest = sum_by f (entries_in (drop (i + 1) entries)) in
    let old : saturated (now + (f (entry_in e) + rest)) ≡ saturated all =
    ap (λ (l : List Inner). saturated (now + sum_by f (entries_in l))) (sym (next_entry entries i e lt here)) ∙ h.whole in
    record { whole = omega (arith, old, s, t); small = omega (arith, t) }

pub summed_all : (f : ListEntry → ℕ) (all now : ℕ) (entries : List Inner) (i : ℕ) → length entries ≤ i
    → Summed f all now entries i → now ≡ saturated all
summed_all f all now entries i le h =
    let small = h.small in
    let none : saturated (now + 0) ≡ saturated all =
    ap (λ (l : List Inner). saturated (now + sum_by f (entries_in l))) (sym (drop_all i entries le)) ∙ h.whole in
    omega (arith, none)
