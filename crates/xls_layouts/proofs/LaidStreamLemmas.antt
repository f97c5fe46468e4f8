-- A laid stream carries its list.
use Rattle.std.proofs.Common.{◌≡◌, ℕ, zero, suc, ◌+◌, ◌^◌, ◌<◌, ◌≤◌, List, [], ◌∷◌, ◌++◌, length, map, take, drop, None, refl, sym, ap, subst, ◌∙◌, arith, lit<, inl}
use Rattle.std.specs.List.{flat_map, filter, AllZip, AllByRecursion}
use Rattle.std.proofs.Math.Seq.{drop-cons, drop-append-add, drop-append_seam}
use Rattle.std.proofs.lemmas.Grind.{flat_map-append}
use Rattle.std.proofs.lemmas.List.{length-append, take-append-drop}
use Rattle.xls_bytes.specs.Numbers.{le}
use Rattle.xls_stream.specs.Stream.{group_bytes, IsBody}
use Rattle.xls_stream.specs.Substreams.{IsNotEof}
use Rattle.xls_stream.specs.Listing.{ListEntry, plain_entry, table_entry, sheet_entry, Item, plain_item, table_item, sheet_item, table_of, IsItem, IsPart, IsSheetPart, globals_types, is_globals_type, entry_of, IsWholeItem, Holds, Carries, offset_at}
use Rattle.xls_stream.specs.StringTable.{prefix_of}
use Rattle.xls_stream.specs.declared.types.TheConstants as types
use Rattle.xls_stream.proofs.HoldingLemmas.{one_list}
use Rattle.xls_layouts.specs.LaidStrings.{le32, marks_of_strings, lists_of}
use Rattle.xls_layouts.specs.Layout.{eof_group, LaidPart, no_part, part_at, bytes_of_part, kept_of_part, LaidItem, a_loose, a_plain, a_sheet, a_table, sheet_body, group_of_item, bytes_of_globals, Layout, offset_in, lay, entries_of_item, list_of, IsLaidGroup, IsLaidPart, IsLaidItem, IsLayout}
use Rattle.xls_layouts.proofs.TypeLemmas.{among_apart}
use Rattle.xls_layouts.proofs.LaidTableLemmas.{laid_sst, laid_eight}
use Rattle.xls_layouts.proofs.LaidGroupLemmas.{run_laid}
use Rattle.xls_layouts.proofs.LaidPartLemmas.{parts_start, laid_part}

-- ---- lengths don't depend on the offsets

same_size : (f g : ℕ → ℕ) (item : LaidItem) → length (group_bytes (group_of_item f item)) ≡ length (group_bytes (group_of_item g item))
same_size f g (a_loose x) = refl
same_size f g (a_plain x) = refl
same_size f g (a_sheet state kind name tail part) = refl
same_size f g (a_table first strings) = refl

same_sizes : (f g : ℕ → ℕ) (items : List LaidItem) → length (bytes_of_globals f items) ≡ length (bytes_of_globals g items)
same_sizes f g [] = refl
same_sizes f g (i ∷ items) =
    omega (arith, same_size f g i, same_sizes f g items, length-append (group_bytes (group_of_item f i)) (bytes_of_globals f items), length-append (group_bytes (group_of_item g i)) (bytes_of_globals g items))

-- ---- parts at their offsets

pub all_at : (ps : List LaidPart) (k : ℕ) → AllByRecursion IsLaidPart ps → k < length ps → IsLaidPart (part_at ps k)
all_at [] k h lt = absurd (omega arith)
all_at (p ∷ ps) zero h lt = h.0
all_at (p ∷ ps) (suc k) h lt = all_at ps k h.1 (omega arith)

all_drop : (ps : List LaidPart) (k : ℕ) → AllByRecursion IsLaidPart ps → AllByRecursion IsLaidPart (drop k ps)
all_drop ps zero h = h
all_drop [] (suc k) h = tt
all_drop (p ∷ ps) (suc k) h = all_drop ps k h.1

parts_split : (ps : List LaidPart) (k : ℕ) → flat_map bytes_of_part ps ≡ flat_map bytes_of_part (take k ps) ++ flat_map bytes_of_part (drop k ps)
parts_split ps k = ap (flat_map bytes_of_part) (sym (take-append-drop k ps)) ∙ flat_map-append bytes_of_part (take k ps) (drop k ps)

drop_both : (g x y : List ℕ) (n : ℕ) → n ≡ length g → drop (n + length x) (g ++ (x ++ y)) ≡ y
drop_both g x y n e = rw e (drop-append-add g (x ++ y) (length x) ∙ drop-append_seam x y)

from_offset : (d : Layout) (k : ℕ) → k < length d.parts → drop (offset_in d k) (lay d) ≡ bytes_of_part (part_at d.parts k) ++ flat_map bytes_of_part (drop (suc k) d.parts)
from_offset d k lt =
    let prefix = bytes_of_globals (offset_in d) d.globals in
    let before = flat_map bytes_of_part (take k d.parts) in
    let after = flat_map bytes_of_part (drop k d.parts) in
    ap (λ (x : List ℕ). drop (offset_in d k) (prefix ++ x)) (parts_split d.parts k)
    ∙ drop_both prefix before after (length (bytes_of_globals (λ k. 0) d.globals)) (same_sizes (λ k. 0) (offset_in d) d.globals)
    ∙ ap (flat_map bytes_of_part) (drop-cons d.parts k no_part lt)

pub offset_within : (d : Layout) (k : ℕ) → offset_in d k ≤ length (lay d)
offset_within d k =
    let prefix = bytes_of_globals (offset_in d) d.globals in
    let before = flat_map bytes_of_part (take k d.parts) in
    let after = flat_map bytes_of_part (drop k d.parts) in
    omega (arith, same_sizes (λ k. 0) (offset_in d) d.globals, ap length (parts_split d.parts k), length-append before after, length-append prefix (flat_map bytes_of_part d.parts))

le-le32 : (n : ℕ) → n < 2 ^ 32 → le (le32 n) ≡ n
le-le32 n h = omega arith

-- ---- groups

sheet_laid : (n state kind : ℕ) (name : List ℕ) (tail : List (List ℕ)) → 6 + length name < 2 ^ 16 → AllByRecursion IsBody tail → IsLaidGroup (record { typ = types.BOUND_SHEET_8; body = sheet_body n state kind name; tail = tail })
sheet_laid n state kind name tail h t = record { fits = record { typ = lit< tt; body = omega arith; tail = t }; no_continue = λ e. omega arith }

item_laid : (d : Layout) (offset : ℕ → ℕ) (item : LaidItem) → IsLaidItem d item → IsLaidGroup (group_of_item offset item)
item_laid d offset (a_loose g) h = h.laid
item_laid d offset (a_plain g) h = h.laid
item_laid d offset (a_sheet state kind name tail part) h = sheet_laid (offset part) state kind name tail h.name_fits h.tail_fits
item_laid d offset (a_table first strings) h = record { fits = h.fits; no_continue = λ e. omega arith }

item_groups : (d : Layout) (items : List LaidItem) → AllByRecursion (IsLaidItem d) items → AllByRecursion IsLaidGroup (map (group_of_item (offset_in d)) items)
item_groups d [] h = tt
item_groups d (i ∷ items) h = (item_laid d (offset_in d) i h.0, item_groups d items h.1)

items_not_eof : (d : Layout) (items : List LaidItem) → AllByRecursion (IsLaidItem d) items → AllByRecursion IsNotEof (map (group_of_item (offset_in d)) items)
items_not_eof d [] h = tt
items_not_eof d (a_loose g ∷ items) h = let i = h.0 in (i.no_eof, items_not_eof d items h.1)
items_not_eof d (a_plain g ∷ items) h = let i = h.0 in (among_apart g.typ types.EOF globals_types i.is_plain.0 refl, items_not_eof d items h.1)
items_not_eof d (a_sheet state kind name tail part ∷ items) h = (λ e. omega arith, items_not_eof d items h.1)
items_not_eof d (a_table first strings ∷ items) h = (λ e. omega arith, items_not_eof d items h.1)

-- ---- what stands in the bytes

abbrev pub item_read : Layout → LaidItem → List Item
item_read d (a_loose g) = []
item_read d (a_plain g) = plain_item g.typ g.body ∷ []
item_read d (a_sheet state kind name tail part) =
    sheet_item (sheet_body (offset_in d part) state kind name) (kept_of_part (part_at d.parts part)) None ∷ []
item_read d (a_table first strings) =
    table_item (first ++ prefix_of (marks_of_strings strings)) (table_of (lists_of strings)) ∷ []

sheet_stands : (d : Layout) (state kind : ℕ) (name : List ℕ) (part : ℕ) → AllByRecursion IsLaidPart d.parts → part < length d.parts → offset_in d part < 2 ^ 32
    → IsSheetPart (lay d) (offset_at (sheet_body (offset_in d part) state kind name)) (kept_of_part (part_at d.parts part)) None
sheet_stands d state kind name part ps lt fits =
    let p = part_at d.parts part in
    let more = drop (suc part) d.parts in
    let within = offset_within d part in
    let n : le (le32 (offset_in d part)) ≡ offset_in d part = le-le32 (offset_in d part) fits in
    let here : drop (le (le32 (offset_in d part))) (lay d) ≡ bytes_of_part p ++ flat_map bytes_of_part more = ap (λ (k : ℕ). drop k (lay d)) n ∙ from_offset d part lt in
    inl (
      subst (λ (k : ℕ). k ≤ length (lay d)) (sym n) within,
      subst (λ (x : List ℕ). IsPart x (kept_of_part p) None) (sym here) (laid_part p more (all_at d.parts part ps lt) (all_drop d.parts (suc part) ps)),
    )

items_are : (d : Layout) → AllByRecursion IsLaidPart d.parts → (items : List LaidItem) → AllByRecursion (IsLaidItem d) items
    → AllZip (IsItem (lay d)) (filter is_globals_type (map (group_of_item (offset_in d)) items)) (flat_map (item_read d) items)
items_are d l [] h = tt
items_are d l (a_loose g ∷ items) h = let i = h.0 in rw i.not_read (items_are d l items h.1)
items_are d l (a_plain g ∷ items) h =
    let i = h.0 in
    rw i.is_plain.0 ((i.is_plain.1, refl, refl), items_are d l items h.1)
items_are d l (a_sheet state kind name tail part ∷ items) h =
    let i = h.0 in
    ((refl, refl, sheet_stands d state kind name part l i.has_part i.offset_fits), items_are d l items h.1)
items_are d l (a_table first strings ∷ items) h =
    ((refl, refl, (laid_eight first strings h.0, laid_sst first strings h.0)), items_are d l items h.1)

items_whole : (d : Layout) (items : List LaidItem) → AllByRecursion IsWholeItem (flat_map (item_read d) items)
items_whole d [] = tt
items_whole d (a_loose g ∷ items) = items_whole d items
items_whole d (a_plain g ∷ items) = (tt, items_whole d items)
items_whole d (a_sheet state kind name tail part ∷ items) = ((omega arith, refl), items_whole d items)
items_whole d (a_table first strings ∷ items) = (tt, items_whole d items)

items_entries : (d : Layout) (items : List LaidItem) → flat_map (entries_of_item d.parts) items ≡ map entry_of (flat_map (item_read d) items)
items_entries d [] = refl
items_entries d (a_loose g ∷ items) = items_entries d items
items_entries d (a_plain g ∷ items) = ap (λ (es : List ListEntry). plain_entry g.typ g.body ∷ es) (items_entries d items)
items_entries d (a_sheet state kind name tail part ∷ items) =
    ap (λ (es : List ListEntry). sheet_entry state kind name (kept_of_part (part_at d.parts part)) ∷ es) (items_entries d items)
items_entries d (a_table first strings ∷ items) = ap (λ (es : List ListEntry). table_entry (lists_of strings) ∷ es) (items_entries d items)

-- what the bytes hold, also where numbers are no bytes
pub laid_holds : (d : Layout) → AllByRecursion (IsLaidItem d) d.globals → AllByRecursion IsLaidPart d.parts
    → Holds (lay d) (flat_map (item_read d) d.globals) None
laid_holds d is ps =
    let groups = map (group_of_item (offset_in d)) d.globals in
    record {
      groups = groups;
      globals = record {
        no_eof = items_not_eof d d.globals is;
        rest = flat_map bytes_of_part d.parts;
        ends = inl (eof_group, refl, run_laid groups (flat_map bytes_of_part d.parts) (item_groups d d.globals is) (parts_start d.parts ps), refl);
      };
      items_are = items_are d ps d.globals is;
    }

-- and the list that they carry
pub carries_laid : (d : Layout) → AllByRecursion (IsLaidItem d) d.globals → AllByRecursion IsLaidPart d.parts
    → Carries (lay d) (list_of d)
carries_laid d is ps = record {
  items = flat_map (item_read d) d.globals;
  holds = laid_holds d is ps;
  whole = items_whole d d.globals;
  entries_are = items_entries d d.globals;
}

pub laid_stream : (d : Layout) → IsLayout d → Carries (lay d) (list_of d)
laid_stream d h = carries_laid d h.globals h.parts

pub laid_alone : (d : Layout) → IsLayout d → (entries : List ListEntry) → Carries (lay d) entries → entries ≡ list_of d
laid_alone d h entries c = one_list (lay d) h.bytes entries (list_of d) c (laid_stream d h)
