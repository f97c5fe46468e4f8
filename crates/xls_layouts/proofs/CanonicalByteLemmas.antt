-- The canonical layout of a list that fits consists of bytes.
use Rattle.std.proofs.Common.{◌≡◌, ◌+◌, ℕ, zero, suc, ◌^◌, ◌<◌, ◌≤◌, Bool, true, false, List, [], ◌∷◌, ◌++◌, length, map, Some, None, arith, lit<}
use Rattle.std.specs.List.{flat_map, AllByRecursion}
use Rattle.std.proofs.lemmas.List.{length-append}
use Rattle.xls_bytes.specs.Numbers.{le16}
use Rattle.xls_stream.specs.Stream.{record_bytes, Group, group_bytes, continues, IsBody}
use Rattle.xls_stream.specs.Walks.{IsBytes}
use Rattle.xls_stream.specs.Substreams.{groups_of}
use Rattle.xls_stream.specs.StringTable.{Mark, prefix_of}
use Rattle.xls_stream.specs.Listing.{Kept, ListEntry, plain_entry, table_entry, sheet_entry}
use Rattle.xls_stream.specs.declared.types.TheConstants as types
use Rattle.xls_layouts.specs.LaidStrings.{le32, bytes_in, LaidString, Step, put, cut, marks_of_steps, AreSteps, code_units, head_bytes, marks_of_break, marks_of_string, IsLaidString, marks_of_strings, pieces_of, table_group}
use Rattle.xls_layouts.specs.Layout.{eof_group, bytes_of_globals, bytes_of_part, sheet_body, lay, offset_in}
use Rattle.xls_layouts.specs.Canonical.{canonical_string, canonical_strings, bare_group, canonical_records, sheet_bof, canonical_part, canonical_parts, counts_of, canonical_items, canonical, fill_from, AreBytes, FitsKept, FitsString, Fits}
use Rattle.xls_layouts.proofs.TypeLemmas.{globals_below, sheet_below}
use Rattle.xls_layouts.proofs.LaidStreamLemmas.{offset_within}
use Rattle.xls_layouts.proofs.CanonicalTableLemmas.{laid_canonical, canonical_prefix, canonical_pieces}

-- so is the one at each place
pub each_byte : (bytes : List ℕ) → AreBytes bytes → IsBytes bytes
each_byte [] h i = lit< tt
each_byte (b ∷ bs) h zero = h.0
each_byte (b ∷ bs) h (suc i) = each_byte bs h.1 i

-- bytes after bytes
pub both_bytes : (xs ys : List ℕ) → AreBytes xs → AreBytes ys → AreBytes (xs ++ ys)
both_bytes [] ys a b = b
both_bytes (x ∷ xs) ys a b = (a.0, both_bytes xs ys a.1 b)

pub bytes_le16 : (n : ℕ) → n < 65536 → AreBytes (le16 n)
bytes_le16 n h = (omega arith, (omega arith, tt))

pub bytes_le32 : (n : ℕ) → n < 4294967296 → AreBytes (le32 n)
bytes_le32 n h = (omega arith, (omega arith, (omega arith, (omega arith, tt))))

-- ---- records

pub bytes_record : (typ : ℕ) (body : List ℕ) → typ < 65536 → length body < 65536 → AreBytes body → AreBytes (record_bytes typ body)
bytes_record typ body t l b =
    both_bytes (le16 typ) (le16 (length body) ++ body) (bytes_le16 typ t)
    (both_bytes (le16 (length body)) body (bytes_le16 (length body) l) b)

bytes_continues : (bodies : List (List ℕ)) → AllByRecursion IsBody bodies → AllByRecursion AreBytes bodies → AreBytes (continues bodies)
bytes_continues [] h b = tt
bytes_continues (c ∷ cs) h b = both_bytes (record_bytes 0x003C c) (continues cs) (bytes_record 60 c (lit< tt) h.0 b.0) (bytes_continues cs h.1 b.1)

bytes_group : (g : Group) → g.typ < 65536 → IsBody g.body → AreBytes g.body → AllByRecursion IsBody g.tail → AllByRecursion AreBytes g.tail → AreBytes (group_bytes g)
bytes_group g t l b h c = both_bytes (record_bytes g.typ g.body) (continues g.tail) (bytes_record g.typ g.body t l b) (bytes_continues g.tail h c)

bytes_bare : (typ : ℕ) (body : List ℕ) → typ < 65536 → IsBody body → AreBytes body → AreBytes (group_bytes (bare_group typ body))
bytes_bare typ body t l b = bytes_group (bare_group typ body) t l b tt tt

-- ---- string tables

abbrev IsMarkByte : Mark → Type 0
IsMarkByte None = Unit {0}
IsMarkByte (Some b) = b < 256

abbrev AreMarkBytes : List Mark → Type 0
AreMarkBytes ms = AllByRecursion IsMarkByte ms

both_marks : (xs ys : List Mark) → AreMarkBytes xs → AreMarkBytes ys → AreMarkBytes (xs ++ ys)
both_marks [] ys a b = b
both_marks (x ∷ xs) ys a b = (a.0, both_marks xs ys a.1 b)

marks_of_bytes : (bs : List ℕ) → AreBytes bs → AreMarkBytes (map Some bs)
marks_of_bytes [] h = tt
marks_of_bytes (b ∷ bs) h = (h.0, marks_of_bytes bs h.1)

steps_bytes : (wide : Bool) (steps : List Step) → AreSteps wide steps → AreMarkBytes (marks_of_steps wide steps)
steps_bytes wide [] h = tt
steps_bytes true (put u ∷ steps) h = let small = h.0 in (omega arith, (omega arith, steps_bytes true steps h.1))
steps_bytes false (put u ∷ steps) h = (h.0, steps_bytes false steps h.1)
steps_bytes wide (cut true ∷ steps) h = (tt, (lit< tt, steps_bytes true steps h.1))
steps_bytes wide (cut false ∷ steps) h = (tt, (lit< tt, steps_bytes false steps h.1))

break_bytes : (b : Bool) → AreMarkBytes (marks_of_break b)
break_bytes true = (tt, tt)
break_bytes false = tt

head_is : (wide : Bool) (count : ℕ) → count < 65536 → AreMarkBytes (map Some (head_bytes wide count None None))
head_is true count h = (omega arith, (omega arith, (lit< tt, tt)))
head_is false count h = (omega arith, (omega arith, (lit< tt, tt)))

string_bytes : (used : ℕ) (us : List ℕ) → IsLaidString (canonical_string used us) → AreMarkBytes (marks_of_string (canonical_string used us))
string_bytes used us h =
    let s = canonical_string used us in
    both_marks (marks_of_break s.begins_piece) (map Some (head_bytes s.wide (length (code_units s)) None None) ++ (marks_of_steps s.wide s.steps ++ []))
    (break_bytes s.begins_piece)
    (both_marks (map Some (head_bytes s.wide (length (code_units s)) None None)) (marks_of_steps s.wide s.steps ++ [])
    (head_is s.wide (length (code_units s)) h.count)
    (both_marks (marks_of_steps s.wide s.steps) [] (steps_bytes s.wide s.steps h.steps) tt))

strings_bytes : (used : ℕ) (strings : List (List ℕ)) → AllByRecursion IsLaidString (canonical_strings used strings) → AreMarkBytes (marks_of_strings (canonical_strings used strings))
strings_bytes used [] h = tt
strings_bytes used (us ∷ strings) h =
    let next = fill_from used (marks_of_string (canonical_string used us)) in
    both_marks (marks_of_string (canonical_string used us)) (marks_of_strings (canonical_strings next strings))
    (string_bytes used us h.0) (strings_bytes next strings h.1)

prefix_bytes : (ms : List Mark) → AreMarkBytes ms → AreBytes (prefix_of ms)
prefix_bytes [] h = tt
prefix_bytes (None ∷ ms) h = tt
prefix_bytes (Some b ∷ ms) h = (h.0, prefix_bytes ms h.1)

piece_bytes : (ms : List Mark) → AreMarkBytes ms → AllByRecursion AreBytes (pieces_of ms)
piece_bytes [] h = tt
piece_bytes (None ∷ ms) h = (prefix_bytes ms h.1, piece_bytes ms h.1)
piece_bytes (Some b ∷ ms) h = piece_bytes ms h.1

pub short_fit : (bodies : List (List ℕ)) → AllByRecursion (λ body. length body ≤ 8224) bodies → AllByRecursion IsBody bodies
short_fit [] h = tt
short_fit (b ∷ bodies) h = let x = h.0 in (omega arith, short_fit bodies h.1)

-- ---- a table has more bytes than strings

bytes_in-append : (xs ys : List Mark) → bytes_in (xs ++ ys) ≡ bytes_in xs + bytes_in ys
bytes_in-append [] ys = omega arith
bytes_in-append (None ∷ xs) ys = bytes_in-append xs ys
bytes_in-append (Some b ∷ xs) ys = omega (arith, bytes_in-append xs ys)

string_some : (b : Bool) (x : ℕ) (ms : List Mark) → 1 ≤ bytes_in (marks_of_break b ++ (Some x ∷ ms))
string_some true x ms = omega arith
string_some false x ms = omega arith

some_in : (s : LaidString) → 1 ≤ bytes_in (marks_of_string s)
some_in s = string_some s.begins_piece _ _

many_bytes : (used : ℕ) (strings : List (List ℕ)) → length strings ≤ bytes_in (marks_of_strings (canonical_strings used strings))
many_bytes used [] = omega arith
many_bytes used (us ∷ strings) =
    let s = canonical_string used us in
    let next = fill_from used (marks_of_string s) in
    omega (arith, some_in s, bytes_in-append (marks_of_string s) (marks_of_strings (canonical_strings next strings)), many_bytes next strings)

bytes_stand : (ms : List Mark) → bytes_in ms ≤ length (prefix_of ms) + length (continues (pieces_of ms))
bytes_stand [] = omega arith
bytes_stand (None ∷ ms) = omega (arith, bytes_stand ms, length-append (prefix_of ms) (continues (pieces_of ms)))
bytes_stand (Some b ∷ ms) = omega (arith, bytes_stand ms)

few_strings : (strings : List (List ℕ)) → length strings ≤ length (group_bytes (table_group (counts_of strings) (marks_of_strings (canonical_strings 8 strings))))
few_strings strings =
    let ms = marks_of_strings (canonical_strings 8 strings) in
    omega (arith, many_bytes 8 strings, bytes_stand ms, length-append (counts_of strings) (prefix_of ms), length-append (counts_of strings ++ prefix_of ms) (continues (pieces_of ms)))

table_bytes : (strings : List (List ℕ)) → length strings < 2 ^ 32 → AllByRecursion FitsString strings
    → AreBytes (group_bytes (table_group (counts_of strings) (marks_of_strings (canonical_strings 8 strings))))
table_bytes strings few h =
    let ms = marks_of_strings (canonical_strings 8 strings) in
    let b = strings_bytes 8 strings (laid_canonical 8 strings h) in
    let prefix = canonical_prefix strings in
    bytes_group (table_group (counts_of strings) ms) (lit< tt) (omega arith)
    (both_bytes (counts_of strings) (prefix_of ms)
    (both_bytes (le32 (length strings)) (le32 (length strings)) (bytes_le32 (length strings) few) (bytes_le32 (length strings) few)) (prefix_bytes ms b))
    (short_fit (pieces_of ms) (canonical_pieces strings)) (piece_bytes ms b)

-- ---- parts

records_bytes : (kept : List Kept) → AllByRecursion FitsKept kept → AreBytes (flat_map group_bytes (groups_of (canonical_records kept) ++ eof_group ∷ []))
records_bytes [] h = bytes_bare types.EOF [] (lit< tt) (lit< tt) tt
records_bytes (k ∷ kept) h =
    let f = h.0 in
    both_bytes (group_bytes (bare_group k.typ k.body)) (flat_map group_bytes (groups_of (canonical_records kept) ++ eof_group ∷ []))
    (bytes_bare k.typ k.body (sheet_below k.typ f.is_kept) f.fits.0 f.fits.1) (records_bytes kept h.1)

part_bytes : (kept : List Kept) → AllByRecursion FitsKept kept → AreBytes (bytes_of_part (canonical_part kept))
part_bytes kept h =
    both_bytes (group_bytes sheet_bof) (flat_map group_bytes (groups_of (canonical_records kept) ++ eof_group ∷ []))
    (bytes_bare types.BOF (0x00 ∷ 0x06 ∷ 0x10 ∷ 0x00 ∷ []) (lit< tt) (lit< tt) (lit< tt, (lit< tt, (lit< tt, (lit< tt, tt))))) (records_bytes kept h)

parts_bytes : (list : List ListEntry) → Fits list → AreBytes (flat_map bytes_of_part (canonical_parts list))
parts_bytes [] h = tt
parts_bytes (plain_entry typ body ∷ list) h = parts_bytes list h.1
parts_bytes (table_entry strings ∷ list) h = parts_bytes list h.1
parts_bytes (sheet_entry state kind name kept ∷ list) h =
    let f = h.0 in
    both_bytes (bytes_of_part (canonical_part kept)) (flat_map bytes_of_part (canonical_parts list)) (part_bytes kept f.kept_fit) (parts_bytes list h.1)

-- ---- the globals, where each offset has 32 bits

sheet_bytes : (offset state kind : ℕ) (name : List ℕ) → offset < 4294967296 → state < 256 → kind < 256 → AreBytes name → AreBytes (sheet_body offset state kind name)
sheet_bytes offset state kind name o s k n = both_bytes (le32 offset) (state ∷ kind ∷ name) (bytes_le32 offset o) (s, (k, n))

globals_bytes : (offset : ℕ → ℕ) → ((k : ℕ) → offset k < 4294967296) → (n : ℕ) (list : List ListEntry) → Fits list
    → length (bytes_of_globals offset (canonical_items n list)) < 2 ^ 32 → AreBytes (bytes_of_globals offset (canonical_items n list))
globals_bytes offset small n [] h few = bytes_bare types.EOF [] (lit< tt) (lit< tt) tt
globals_bytes offset small n (plain_entry typ body ∷ list) h few =
    let first = group_bytes (bare_group typ body) in
    let others = bytes_of_globals offset (canonical_items n list) in
    both_bytes first others (bytes_bare typ body (globals_below typ h.0.0.0) h.0.1.0 h.0.1.1) (globals_bytes offset small n list h.1 (omega (arith, few, length-append first others)))
globals_bytes offset small n (table_entry strings ∷ list) h few =
    let first = group_bytes (table_group (counts_of strings) (marks_of_strings (canonical_strings 8 strings))) in
    let others = bytes_of_globals offset (canonical_items n list) in
    let all = length-append first others in
    both_bytes first others (table_bytes strings (omega (arith, few, few_strings strings, all)) h.0) (globals_bytes offset small n list h.1 (omega (arith, few, all)))
globals_bytes offset small n (sheet_entry state kind name kept ∷ list) h few =
    let f = h.0 in
    let fits = f.name_fits in
    let body = sheet_body (offset n) state kind name in
    let first = group_bytes (bare_group types.BOUND_SHEET_8 body) in
    let others = bytes_of_globals offset (canonical_items (suc n) list) in
    both_bytes first others
    (bytes_bare types.BOUND_SHEET_8 body (lit< tt) (omega arith) (sheet_bytes (offset n) state kind name (small n) f.state_is f.kind_is f.name_is)) (globals_bytes offset small (suc n) list h.1 (omega (arith, few, length-append first others)))

pub canonical_bytes : (list : List ListEntry) → Fits list → length (lay (canonical list)) < 2 ^ 32 → IsBytes (lay (canonical list))
canonical_bytes list h fits =
    let d = canonical list in
    each_byte (lay d) (both_bytes (bytes_of_globals (offset_in d) d.globals) (flat_map bytes_of_part d.parts)
    (globals_bytes (offset_in d) (λ k. let w = offset_within d k in omega arith) 0 list h (omega (arith, fits, length-append (bytes_of_globals (offset_in d) d.globals) (flat_map bytes_of_part d.parts)))) (parts_bytes list h))
