-- The canonical layout of a list that fits is a valid layout of that list.
use Rattle.std.proofs.Common.{◌≡◌, ℕ, suc, ◌+◌, ◌^◌, ◌<◌, ◌≤◌, List, [], ◌∷◌, ◌++◌, length, refl, sym, ap, ◌∙◌, append_assoc, arith, lit<}
use Rattle.std.specs.List.{flat_map, AllByRecursion}
use Rattle.std.proofs.lemmas.List.{length-append}
use Rattle.xls_stream.specs.Stream.{IsGroup, IsBody}
use Rattle.xls_stream.specs.Substreams.{AreItems, groups_of, outer_of, sheet_types, kept_groups}
use Rattle.xls_stream.specs.StringTable.{Mark, prefix_of}
use Rattle.xls_stream.specs.Listing.{globals_types, Kept, kept_of, ListEntry, plain_entry, table_entry, sheet_entry}
use Rattle.xls_stream.specs.declared.types.TheConstants as types
use Rattle.xls_layouts.specs.LaidStrings.{le32, marks_of_strings, pieces_of, table_group, IsLaidTable}
use Rattle.xls_layouts.specs.Layout.{LaidPart, Layout, offset_in, part_at, kept_of_part, lay, entries_of_item, list_of, IsPlainType, IsLaidGroup, IsLaidPart, IsPlainItem, IsLaidItem, IsLayout}
use Rattle.xls_layouts.specs.Canonical.{canonical_strings, bare_group, canonical_records, sheet_bof, canonical_part, canonical_parts, counts_of, canonical_items, canonical, FitsKept, FitsString, Fits}
use Rattle.xls_layouts.proofs.LaidStreamLemmas.{offset_within}
use Rattle.xls_layouts.proofs.TypeLemmas.{among_apart, globals_below, sheet_below}
use Rattle.xls_layouts.proofs.CanonicalTableLemmas.{same_lists, laid_canonical, canonical_prefix, canonical_pieces}
use Rattle.xls_layouts.proofs.CanonicalByteLemmas.{short_fit, canonical_bytes}

-- ---- the list

kept_same : (kept : List Kept) → AllByRecursion FitsKept kept → kept_of (kept_groups (outer_of (canonical_records kept))) ≡ kept
kept_same [] h = refl
kept_same (k ∷ kept) h = rw h.0.is_kept (ap (λ (x : List Kept). k ∷ x) (kept_same kept h.1))

part_here : (before after : List LaidPart) (p : LaidPart) → part_at (before ++ p ∷ after) (length before) ≡ p
part_here [] after p = refl
part_here (b ∷ before) after p = part_here before after p

length-push : (before : List LaidPart) (p : LaidPart) → length (before ++ p ∷ []) ≡ suc (length before)
length-push before p = omega (arith, length-append before (p ∷ []))

list_same : (list : List ListEntry) (before : List LaidPart) → Fits list → flat_map (entries_of_item (before ++ canonical_parts list)) (canonical_items (length before) list) ≡ list
list_same [] before h = refl
list_same (plain_entry typ body ∷ list) before h = ap (λ (x : List ListEntry). plain_entry typ body ∷ x) (list_same list before h.1)
list_same (sheet_entry state kind name kept ∷ list) before h =
    let p = canonical_part kept in
    let later = canonical_parts list in
    let n = length before in
    ap (λ (q : LaidPart). sheet_entry state kind name (kept_of_part q) ∷ flat_map (entries_of_item (before ++ p ∷ later)) (canonical_items (suc n) list)) (part_here before later p)
    ∙ ap (λ (x : List Kept). sheet_entry state kind name x ∷ flat_map (entries_of_item (before ++ p ∷ later)) (canonical_items (suc n) list)) (kept_same kept h.0.kept_fit)
    ∙ ap (λ (ps : List LaidPart). sheet_entry state kind name kept ∷ flat_map (entries_of_item ps) (canonical_items (suc n) list)) (sym (append_assoc before (p ∷ []) later))
    ∙ ap (λ (k : ℕ). sheet_entry state kind name kept ∷ flat_map (entries_of_item ((before ++ p ∷ []) ++ later)) (canonical_items k list)) (sym (length-push before p))
    ∙ ap (λ (x : List ListEntry). sheet_entry state kind name kept ∷ x) (list_same list (before ++ p ∷ []) h.1)
list_same (table_entry strings ∷ list) before h =
    ap (λ (x : List (List ℕ)). table_entry x ∷ flat_map (entries_of_item (before ++ canonical_parts list)) (canonical_items (length before) list)) (same_lists 8 strings)
    ∙ ap (λ (x : List ListEntry). table_entry strings ∷ x) (list_same list before h.1)

pub canonical_list : (list : List ListEntry) → Fits list → list_of (canonical list) ≡ list
canonical_list list h = list_same list [] h

-- ---- it is valid

pub plain_laid : (typ : ℕ) (body : List ℕ) → IsPlainType typ → IsBody body → IsPlainItem (bare_group typ body)
plain_laid typ body h f = record {
  laid = record {
    fits = record { typ = globals_below typ h.0; body = f; tail = tt };
    no_continue = among_apart typ types.CONTINUE globals_types h.0 refl;
  };
  is_plain = h;
}

table_fits : (n : ℕ) (ms : List Mark) → 8 + length (prefix_of ms) ≤ 8224 → AllByRecursion IsBody (pieces_of ms) → IsGroup (table_group (le32 n ++ le32 n) ms)
table_fits n ms h t = record { typ = lit< tt; body = omega arith; tail = t }

pub table_laid : (strings : List (List ℕ)) → AllByRecursion FitsString strings → IsLaidTable (counts_of strings) (canonical_strings 8 strings)
table_laid strings h = record {
  eight = refl;
  are_laid = laid_canonical 8 strings h;
  fits = table_fits (length strings) (marks_of_strings (canonical_strings 8 strings)) (canonical_prefix strings) (short_fit (pieces_of (marks_of_strings (canonical_strings 8 strings))) (canonical_pieces strings));
}

items_valid : (d : Layout) → ((k : ℕ) → offset_in d k < 2 ^ 32) → (list : List ListEntry) (n : ℕ) → Fits list → n + length (canonical_parts list) ≤ length d.parts → AllByRecursion (IsLaidItem d) (canonical_items n list)
items_valid d small [] n h le = tt
items_valid d small (plain_entry typ body ∷ list) n h le = (plain_laid typ body h.0.0 h.0.1.0, items_valid d small list n h.1 le)
items_valid d small (sheet_entry state kind name kept ∷ list) n h le =
    let f = h.0 in
    (record { name_fits = f.name_fits; tail_fits = tt; has_part = omega arith; offset_fits = small n }, items_valid d small list (suc n) h.1 (omega arith))
items_valid d small (table_entry strings ∷ list) n h le = (table_laid strings h.0, items_valid d small list n h.1 le)

records_laid : (kept : List Kept) → AllByRecursion FitsKept kept → AllByRecursion IsLaidGroup (groups_of (canonical_records kept))
records_laid [] h = tt
records_laid (k ∷ kept) h =
    let f = h.0 in
    (record { fits = record { typ = sheet_below k.typ f.is_kept; body = f.fits.0; tail = tt }; no_continue = among_apart k.typ types.CONTINUE sheet_types f.is_kept refl }, records_laid kept h.1)

records_plain : (kept : List Kept) → AllByRecursion FitsKept kept → AreItems (canonical_records kept)
records_plain [] h = tt
records_plain (k ∷ kept) h =
    let f = h.0 in
    ((among_apart k.typ types.BOF sheet_types f.is_kept refl, among_apart k.typ types.EOF sheet_types f.is_kept refl), records_plain kept h.1)

pub bof_laid : IsLaidGroup sheet_bof
bof_laid = record { fits = record { typ = lit< tt; body = lit< tt; tail = tt }; no_continue = λ e. omega arith }

part_valid : (kept : List Kept) → AllByRecursion FitsKept kept → IsLaidPart (canonical_part kept)
part_valid kept h = record { groups = (bof_laid, records_laid kept h); prefix = tt; is_bof = refl; items = records_plain kept h }

parts_valid : (list : List ListEntry) → Fits list → AllByRecursion IsLaidPart (canonical_parts list)
parts_valid [] h = tt
parts_valid (plain_entry typ body ∷ list) h = parts_valid list h.1
parts_valid (sheet_entry state kind name kept ∷ list) h = let f = h.0 in (part_valid kept f.kept_fit, parts_valid list h.1)
parts_valid (table_entry strings ∷ list) h = parts_valid list h.1

pub canonical_layout : (list : List ListEntry) → Fits list → length (lay (canonical list)) < 2 ^ 32
    → IsLayout (canonical list) × (list_of (canonical list) ≡ list)
canonical_layout list h fits = (
  record {
    globals = items_valid (canonical list) (λ k. let w = offset_within (canonical list) k in omega arith) list 0 h (omega arith);
    parts = parts_valid list h;
    bytes = canonical_bytes list h fits;
  },
  canonical_list list h,
)
