-- The canonical bytes of a list, entry by entry.
use Rattle.std.proofs.Common.{◌≡◌, ℕ, suc, ◌+◌, List, [], ◌∷◌, ◌++◌, length, take, refl, sym, ap, ◌∙◌, append_assoc, arith}
use Rattle.std.specs.List.{flat_map}
use Rattle.std.proofs.Math.Seq.{take-append_seam}
use Rattle.std.proofs.lemmas.List.{append-nil, length-append}
use Rattle.xls_stream.specs.Stream.{record_bytes, group_bytes}
use Rattle.xls_stream.specs.Substreams.{groups_of}
use Rattle.xls_stream.specs.Listing.{Kept, ListEntry, plain_entry, table_entry, sheet_entry}
use Rattle.xls_stream.specs.declared.types.TheConstants as types
use Rattle.xls_layouts.specs.Layout.{LaidPart, eof_group, bytes_of_part, bytes_of_globals, sheet_body, offset_in}
use Rattle.xls_layouts.specs.Canonical.{bare_group, canonical_records, canonical_part, canonical_parts, canonical_items, canonical}
use Rattle.xls_lay.specs.Writing.{canonical_bytes}
use Rattle.xls_lay.specs.Cutting.{kept_bytes, bof_bytes, eof_bytes, part_of, table_bytes, globals_size, globals_from, parts_from}
use Rattle.xls_lay.proofs.SizeLemmas.{sum_by, globals_sum, same_length}

-- ---- parts

bare : (typ : ℕ) (body : List ℕ) → group_bytes (bare_group typ body) ≡ record_bytes typ body
bare typ body = append-nil (record_bytes typ body)

records : (kept : List Kept) → flat_map group_bytes (groups_of (canonical_records kept) ++ eof_group ∷ []) ≡ flat_map kept_bytes kept ++ eof_bytes
records [] = refl
records (k ∷ kept) =
    ap (λ (x : List ℕ). x ++ flat_map group_bytes (groups_of (canonical_records kept) ++ eof_group ∷ [])) (bare k.typ k.body)
    ∙ ap (λ (x : List ℕ). record_bytes k.typ k.body ++ x) (records kept)
    ∙ sym (append_assoc (record_bytes k.typ k.body) (flat_map kept_bytes kept) eof_bytes)

part : (kept : List Kept) → bytes_of_part (canonical_part kept) ≡ part_of kept
part kept = ap (λ (x : List ℕ). bof_bytes ++ x) (records kept)

parts : (list : List ListEntry) → flat_map bytes_of_part (canonical_parts list) ≡ parts_from list
parts [] = refl
parts (plain_entry typ body ∷ list) = parts list
parts (table_entry strings ∷ list) = parts list
parts (sheet_entry state kind name kept ∷ list) =
    ap (λ (x : List ℕ). x ++ flat_map bytes_of_part (canonical_parts list)) (part kept)
    ∙ ap (λ (x : List ℕ). part_of kept ++ x) (parts list)

-- ---- the globals

-- the sheets of a list, from this number on, have the offsets that follow from this one
abbrev pub Offsets : (ℕ → ℕ) → ℕ → ℕ → List ListEntry → Type 0
Offsets f n offset [] = Unit {0}
Offsets f n offset (plain_entry typ body ∷ list) = Offsets f n offset list
Offsets f n offset (table_entry strings ∷ list) = Offsets f n offset list
Offsets f n offset (sheet_entry state kind name kept ∷ list) =
    (f n ≡ offset) × Offsets f (suc n) (offset + length (part_of kept)) list

nothing_more : (offset : ℕ) (list : List ListEntry) → globals_from offset list ≡ globals_from (offset + 0) list
nothing_more offset list = let e : offset ≡ offset + 0 = omega arith in ap (λ (k : ℕ). globals_from k list) e

globals : (f : ℕ → ℕ) (n offset : ℕ) (list : List ListEntry) → Offsets f n offset list
    → bytes_of_globals f (canonical_items n list) ≡ globals_from offset list
globals f n offset [] h = refl
globals f n offset (plain_entry typ body ∷ list) h =
    ap (λ (x : List ℕ). x ++ bytes_of_globals f (canonical_items n list)) (bare typ body)
    ∙ ap (λ (x : List ℕ). record_bytes typ body ++ x) (globals f n offset list h ∙ nothing_more offset list)
globals f n offset (table_entry strings ∷ list) h =
    ap (λ (x : List ℕ). table_bytes strings ++ x) (globals f n offset list h ∙ nothing_more offset list)
globals f n offset (sheet_entry state kind name kept ∷ list) h =
    let next = offset + length (part_of kept) in
    ap (λ (x : List ℕ). x ++ bytes_of_globals f (canonical_items (suc n) list)) (bare types.BOUND_SHEET_8 (sheet_body (f n) state kind name))
    ∙ ap (λ (k : ℕ). record_bytes types.BOUND_SHEET_8 (sheet_body k state kind name) ++ bytes_of_globals f (canonical_items (suc n) list)) h.0
    ∙ ap (λ (x : List ℕ). record_bytes types.BOUND_SHEET_8 (sheet_body offset state kind name) ++ x) (globals f (suc n) next list h.1)

-- whatever the offsets are, the globals have so many bytes
globals_length : (f : ℕ → ℕ) (n : ℕ) (list : List ListEntry) → length (bytes_of_globals f (canonical_items n list)) ≡ 4 + sum_by globals_size list
globals_length f n [] = refl
globals_length f n (plain_entry typ body ∷ list) =
    let rest = bytes_of_globals f (canonical_items n list) in
    omega (arith, ap length (bare typ body), length-append (group_bytes (bare_group typ body)) rest, globals_length f n list)
globals_length f n (table_entry strings ∷ list) =
    let rest = bytes_of_globals f (canonical_items n list) in
    omega (arith, length-append (table_bytes strings) rest, globals_length f n list)
globals_length f n (sheet_entry state kind name kept ∷ list) =
    let rest = bytes_of_globals f (canonical_items (suc n) list) in
    let body = sheet_body (f n) state kind name in
    omega (arith, ap length (bare types.BOUND_SHEET_8 body), length-append (group_bytes (bare_group types.BOUND_SHEET_8 body)) rest, globals_length f (suc n) list, same_length (f n) (sheet_entry state kind name kept))

-- ---- the offsets

length-push : (before : List LaidPart) (p : LaidPart) → length (before ++ p ∷ []) ≡ suc (length before)
length-push before p = omega (arith, length-append before (p ∷ []))

flat-push : (before : List LaidPart) (p : LaidPart) → flat_map bytes_of_part (before ++ p ∷ []) ≡ flat_map bytes_of_part before ++ bytes_of_part p
flat-push [] p = append-nil (bytes_of_part p)
flat-push (b ∷ before) p =
    ap (λ (x : List ℕ). bytes_of_part b ++ x) (flat-push before p)
    ∙ sym (append_assoc (bytes_of_part b) (flat_map bytes_of_part before) (bytes_of_part p))

abbrev from : ℕ → List LaidPart → ℕ → ℕ
from base parts k = base + length (flat_map bytes_of_part (take k parts))

offsets : (base : ℕ) (list : List ListEntry) (before : List LaidPart)
    → Offsets (from base (before ++ canonical_parts list)) (length before) (base + length (flat_map bytes_of_part before)) list
offsets base [] before = tt
offsets base (plain_entry typ body ∷ list) before = offsets base list before
offsets base (table_entry strings ∷ list) before = offsets base list before
offsets base (sheet_entry state kind name kept ∷ list) before =
    let p = canonical_part kept in
    let later = canonical_parts list in
    let here : from base (before ++ p ∷ later) (length before) ≡ base + length (flat_map bytes_of_part before) =
    ap (λ (ps : List LaidPart). base + length (flat_map bytes_of_part ps)) (take-append_seam before (p ∷ later)) in
    let size : base + length (flat_map bytes_of_part (before ++ p ∷ [])) ≡ base + length (flat_map bytes_of_part before) + length (part_of kept) =
    omega (arith, ap length (flat-push before p), length-append (flat_map bytes_of_part before) (bytes_of_part p), ap length (part kept)) in (
      here,
      rw (append_assoc before (p ∷ []) later, length-push before p, size) at (offsets base list (before ++ p ∷ [])),
    )

-- ---- a whole list

pub whole : (list : List ListEntry) → canonical_bytes list ≡ globals_from (length (globals_from 0 list)) list ++ parts_from list
whole list =
    let d = canonical list in
    let base = length (bytes_of_globals (λ k. 0) d.globals) in
    let same : base + 0 ≡ length (globals_from 0 list) = omega (arith, globals_length (λ k. 0) 0 list, globals_sum 0 list) in
    ap (λ (x : List ℕ). x ++ flat_map bytes_of_part d.parts) (globals (offset_in d) 0 (base + 0) list (offsets base list []))
    ∙ ap (λ (k : ℕ). globals_from k list ++ flat_map bytes_of_part d.parts) same
    ∙ ap (λ (x : List ℕ). globals_from (length (globals_from 0 list)) list ++ x) (parts list)

-- how many they are
pub whole_length : (list : List ListEntry) → length (canonical_bytes list) ≡ length (globals_from 0 list) + length (parts_from list)
whole_length list =
    let n = length (globals_from 0 list) in
    omega (arith, ap length (whole list), length-append (globals_from n list) (parts_from list), globals_sum n list, globals_sum 0 list)
