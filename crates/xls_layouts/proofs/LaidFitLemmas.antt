-- The list of a valid layout fits.
use Rattle.std.proofs.Common.{◌≡◌, ℕ, zero, suc, ◌<◌, Bool, true, false, List, [], ◌∷◌, ◌++◌, length, refl, arith}
use Rattle.std.specs.List.{flat_map, AllByRecursion}
use Rattle.xls_stream.specs.Stream.{record_bytes, Group, group_bytes, continues}
use Rattle.xls_stream.specs.Walks.{IsBytes}
use Rattle.xls_stream.specs.Substreams.{Items, none, plain, nested, groups_of, outer_of, is_sheet_type, kept_groups}
use Rattle.xls_stream.specs.Listing.{kept_of}
use Rattle.xls_layouts.specs.LaidStrings.{le32, Step, put, cut, units_of_steps, AreSteps, LaidString, IsLaidString, lists_of}
use Rattle.xls_layouts.specs.Layout.{eof_group, LaidPart, part_at, open_part, bytes_of_part, kept_of_part, LaidItem, a_loose, a_plain, a_sheet, a_table, sheet_body, group_of_item, bytes_of_globals, Layout, offset_in, lay, entries_of_item, list_of, IsLaidGroup, IsLaidPart, IsLaidItem, IsLayout}
use Rattle.xls_layouts.specs.Canonical.{AreBytes, IsUnit, FitsBody, FitsKept, FitsString, Fits}
use Rattle.xls_layouts.proofs.LaidStreamLemmas.{all_at}

-- ---- bytes

all_bytes : (bytes : List ℕ) → IsBytes bytes → AreBytes bytes
all_bytes [] h = tt
all_bytes (b ∷ bs) h = (h 0, all_bytes bs (λ i. h (suc i)))

left_bytes : (xs ys : List ℕ) → AreBytes (xs ++ ys) → AreBytes xs
left_bytes [] ys h = tt
left_bytes (x ∷ xs) ys h = (h.0, left_bytes xs ys h.1)

right_bytes : (xs ys : List ℕ) → AreBytes (xs ++ ys) → AreBytes ys
right_bytes [] ys h = h
right_bytes (x ∷ xs) ys h = right_bytes xs ys h.1

body_bytes : (g : Group) → AreBytes (group_bytes g) → AreBytes g.body
body_bytes g h = (left_bytes (record_bytes g.typ g.body) (continues g.tail) h).1.1.1.1

-- ---- parts

abbrev HasBytes : Group → Type 0
HasBytes g = FitsBody g.body

groups_bytes : (gs more : List Group) → AllByRecursion IsLaidGroup gs → AreBytes (flat_map group_bytes (gs ++ more)) → AllByRecursion HasBytes gs
groups_bytes [] more h b = tt
groups_bytes (g ∷ gs) more h b =
    let f = h.0 in
    let others = flat_map group_bytes (gs ++ more) in
    ((f.fits.body, body_bytes g (left_bytes (group_bytes g) others b)), groups_bytes gs more h.1 (right_bytes (group_bytes g) others b))

all_left : (gs hs : List Group) → AllByRecursion HasBytes (gs ++ hs) → AllByRecursion HasBytes gs
all_left [] hs h = tt
all_left (g ∷ gs) hs h = (h.0, all_left gs hs h.1)

all_right : (gs hs : List Group) → AllByRecursion HasBytes (gs ++ hs) → AllByRecursion HasBytes hs
all_right [] hs h = h
all_right (g ∷ gs) hs h = all_right gs hs h.1

outer_bytes : (items : Items) → AllByRecursion HasBytes (groups_of items) → AllByRecursion HasBytes (outer_of items)
outer_bytes none h = tt
outer_bytes (plain g others) h = (h.0, outer_bytes others h.1)
outer_bytes (nested bof inner eof others) h = outer_bytes others (all_right (groups_of inner) (eof ∷ groups_of others) h.1).1

kept_more : (g : Group) (gs : List Group) (b : Bool) → is_sheet_type g ≡ b → HasBytes g
    → AllByRecursion FitsKept (kept_of (kept_groups gs)) → AllByRecursion FitsKept (kept_of (kept_groups (g ∷ gs)))
kept_more g gs true e h others = rw e (record { is_kept = e; fits = h }, others)
kept_more g gs false e h others = rw e others

kept_fit : (gs : List Group) → AllByRecursion HasBytes gs → AllByRecursion FitsKept (kept_of (kept_groups gs))
kept_fit [] h = tt
kept_fit (g ∷ gs) h = kept_more g gs (is_sheet_type g) refl h.0 (kept_fit gs h.1)

part_fits : (p : LaidPart) → IsLaidPart p → AreBytes (bytes_of_part p) → AllByRecursion FitsKept (kept_of_part p)
part_fits p h b =
    let all = groups_bytes (open_part p) (eof_group ∷ []) h.groups b in
    kept_fit (outer_of p.items) (outer_bytes p.items (all_right p.prefix (p.bof ∷ groups_of p.items) all).1)

part_bytes_at : (ps : List LaidPart) (k : ℕ) → AreBytes (flat_map bytes_of_part ps) → k < length ps → AreBytes (bytes_of_part (part_at ps k))
part_bytes_at [] k b lt = absurd (omega arith)
part_bytes_at (p ∷ ps) zero b lt = left_bytes (bytes_of_part p) (flat_map bytes_of_part ps) b
part_bytes_at (p ∷ ps) (suc k) b lt = part_bytes_at ps k (right_bytes (bytes_of_part p) (flat_map bytes_of_part ps) b) (omega arith)

-- ---- string tables

units_fit : (wide : Bool) (steps : List Step) → AreSteps wide steps → AllByRecursion IsUnit (units_of_steps steps)
units_fit wide [] h = tt
units_fit true (put u ∷ steps) h = (h.0, units_fit true steps h.1)
units_fit false (put u ∷ steps) h = let small = h.0 in (omega arith, units_fit false steps h.1)
units_fit wide (cut next ∷ steps) h = units_fit next steps h.1

strings_fit : (strings : List LaidString) → AllByRecursion IsLaidString strings → AllByRecursion FitsString (lists_of strings)
strings_fit [] h = tt
strings_fit (s ∷ strings) h =
    let f = h.0 in
    (record { count = f.count; are_units = units_fit s.wide s.steps f.steps }, strings_fit strings h.1)

-- ---- the globals

items_fit : (d : Layout) → AllByRecursion IsLaidPart d.parts → AreBytes (flat_map bytes_of_part d.parts) → (items : List LaidItem)
    → AllByRecursion (IsLaidItem d) items → AreBytes (bytes_of_globals (offset_in d) items) → Fits (flat_map (entries_of_item d.parts) items)
items_fit d ps pb [] h b = tt
items_fit d ps pb (a_loose g ∷ items) h b = items_fit d ps pb items h.1 (right_bytes (group_bytes g) (bytes_of_globals (offset_in d) items) b)
items_fit d ps pb (a_plain g ∷ items) h b =
    let i = h.0 in
    let others = bytes_of_globals (offset_in d) items in
    ((i.is_plain, (i.laid.fits.body, body_bytes g (left_bytes (group_bytes g) others b))), items_fit d ps pb items h.1 (right_bytes (group_bytes g) others b))
items_fit d ps pb (a_sheet state kind name tail part ∷ items) h b =
    let i = h.0 in
    let g = group_of_item (offset_in d) (a_sheet state kind name tail part) in
    let others = bytes_of_globals (offset_in d) items in
    let body : AreBytes (sheet_body (offset_in d part) state kind name) = body_bytes g (left_bytes (group_bytes g) others b) in
    let after : AreBytes (state ∷ kind ∷ name) = right_bytes (le32 (offset_in d part)) (state ∷ kind ∷ name) body in (
      record {
        state_is = after.0;
        kind_is = after.1.0;
        name_fits = i.name_fits;
        name_is = after.1.1;
        kept_fit = part_fits (part_at d.parts part) (all_at d.parts part ps i.has_part) (part_bytes_at d.parts part pb i.has_part);
      },
      items_fit d ps pb items h.1 (right_bytes (group_bytes g) others b),
    )
items_fit d ps pb (a_table first strings ∷ items) h b =
    let i = h.0 in
    let g = group_of_item (offset_in d) (a_table first strings) in
    (strings_fit strings i.are_laid, items_fit d ps pb items h.1 (right_bytes (group_bytes g) (bytes_of_globals (offset_in d) items) b))

pub laid_fits : (d : Layout) → IsLayout d → Fits (list_of d)
laid_fits d h =
    let prefix = bytes_of_globals (offset_in d) d.globals in
    let following = flat_map bytes_of_part d.parts in
    let all = all_bytes (lay d) h.bytes in
    items_fit d h.parts (right_bytes prefix following all) d.globals h.globals (left_bytes prefix following all)
