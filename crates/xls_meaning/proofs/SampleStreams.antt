-- Short streams, and what is held where one record of them has a fault.
use Rattle.std.proofs.Common.{◌≡◌, ◌≢◌, ℕ, ◌/◌, ◌%◌, ◌^◌, ◌<◌, ◌≤◌, true, List, [], ◌∷◌, ◌++◌, length, drop, refl, sym, ap, ◌∙◌, subst, append-nil, lit<, lit≤, T, ltb, leb, arith, inl, Option, Some, None}
use Rattle.xls_stream.specs.Stream.{record_bytes, Group, StartsContinue, Begins, Run}
use Rattle.xls_stream.specs.Substreams.{SheetPart, bare_closed, bare_open}
use Rattle.xls_stream.specs.Listing.{Kept, Shared, IsShared, Item, plain_item, table_item, sheet_item, is_plain_type, IsItem, IsSheetPart, Holds, offset_at, is_among, globals_types, sheet_types}
use Rattle.xls_stream.specs.declared.part.Part.{Part}
use Rattle.xls_record.specs.declared.error.XlsError.{XlsError}
use Rattle.xls_meaning.specs.Order.{first_of}
use Rattle.xls_meaning.specs.Faults.{outer_fault, places, FirstAfter, FirstFault}
use Rattle.xls_meaning.specs.Rules.{Rules}

abbrev pub bare : ℕ → List ℕ → Group
bare typ body = record { typ = typ; body = body; tail = [] }

abbrev pub eof : List ℕ
eof = record_bytes 0x000A []

-- ---- one record

pub starts : (typ : ℕ) (body rest : List ℕ) → typ < 2 ^ 16 → typ ≢ 60 → ¬ StartsContinue (record_bytes typ body ++ rest)
starts typ body rest f n s =
    let e : typ % 256 ∷ typ / 256 ∷ [] ≡ 60 ∷ 0 ∷ [] = s.typ in
    let a : typ % 256 ≡ 60 = cc in
    let b : typ / 256 ≡ 0 = cc in
    n (omega arith)

pub nothing_starts : ¬ StartsContinue []
nothing_starts s = let r = s.room in omega arith

-- a record that isn't a Continue comes first
pub begins : (typ : ℕ) (body rest : List ℕ) → T (ltb typ (2 ^ 16)) → T (ltb (length body) (2 ^ 16)) → ¬ StartsContinue rest → Begins (record_bytes typ body ++ rest) (bare typ body) rest
begins typ body rest t b n = record {
  whole = ap (λ (x : List ℕ). x ++ rest) (sym (append-nil (record_bytes typ body)));
  fits = record { typ = lit< t; body = lit< b; tail = tt };
  room = tt;
  ended = n;
}

-- ---- a record and an EOF

-- no type of these lists is that of a BOF in a sheet, an EOF or a Continue
not_among : (typ other : ℕ) (types : List ℕ) → is_among typ types ≡ true → is_among other types ≢ true → typ ≢ other
not_among typ other types t n e = n (sym (ap (λ x. is_among x types) e) ∙ t)

closed : (typ : ℕ) (body rest : List ℕ) → T (ltb typ (2 ^ 16)) → T (ltb (length body) (2 ^ 16)) → ¬ StartsContinue rest → Run (record_bytes typ body ++ (eof ++ rest)) (bare typ body ∷ bare 0x000A [] ∷ []) rest
closed typ body rest t b n =
    (eof ++ rest, begins typ body (eof ++ rest) t b (λ s. let u = s.typ in cc), (rest, begins 0x000A [] rest tt tt n, refl))

-- the globals are one record
pub held : (typ : ℕ) (body rest : List ℕ) (i : Item) → T (ltb typ (2 ^ 16)) → T (ltb (length body) (2 ^ 16)) → is_among typ globals_types ≡ true → ¬ StartsContinue rest
    → IsItem (record_bytes typ body ++ (eof ++ rest)) (bare typ body) i → Holds (record_bytes typ body ++ (eof ++ rest)) (i ∷ []) None
held typ body rest i t b g n is = record {
  groups = bare typ body ∷ [];
  globals = record {
    no_eof = (not_among typ 0x000A globals_types g (λ u. cc), tt);
    rest = rest;
    ends = inl (bare 0x000A [], refl, closed typ body rest t b n, refl);
  };
  items_are = rw g (is, tt);
}

-- the sheet's part is one record
pub part_held : (typ : ℕ) (body : List ℕ) → T (ltb typ (2 ^ 16)) → T (ltb (length body) (2 ^ 16)) → is_among typ sheet_types ≡ true → SheetPart (record_bytes typ body ++ eof) (bare typ body ∷ []) None
part_held typ body t b g = record {
  outline = bare_closed (bare typ body ∷ []) (bare 0x000A []);
  is_outline = (((not_among typ 0x0809 sheet_types g (λ u. cc), not_among typ 0x000A sheet_types g (λ u. cc)), tt), refl);
  rest = [];
  run = closed typ body [] t b nothing_starts;
  kept_is = rw g refl;
  ends = refl;
}

-- ---- streams with one fault

-- a stream whose globals are a record alone
abbrev pub in_globals : ℕ → List ℕ → List ℕ
in_globals typ body = record_bytes typ body ++ (eof ++ [])

-- the sheet `A`, whose part begins at 17
abbrev pub sheet_head : List ℕ
sheet_head = 17 ∷ 0 ∷ 0 ∷ 0 ∷ 0 ∷ 0 ∷ 1 ∷ 0 ∷ 0x41 ∷ []

-- a stream of one sheet, whose part is a record alone
abbrev pub in_sheet : ℕ → List ℕ → List ℕ
in_sheet typ body = record_bytes 0x0085 sheet_head ++ (eof ++ (record_bytes typ body ++ eof))

-- a fault behind the byte limit and the forced page
pub following : (rules : Rules) (bytes : List ℕ) (e : XlsError) (items : List Item) (cut : Option Part) → outer_fault rules bytes ≡ None → Holds bytes items cut → first_of (places rules items cut) ≡ Some e → FirstFault rules bytes e
following rules bytes e items cut o h f = subst (λ x. FirstAfter x rules bytes e) (sym o) (items, cut, h, f)

pub globals_fault : (rules : Rules) (typ : ℕ) (body : List ℕ) (e : XlsError) (i : Item) → T (ltb typ (2 ^ 16)) → T (ltb (length body) (2 ^ 16)) → is_among typ globals_types ≡ true → IsItem (in_globals typ body) (bare typ body) i
    → outer_fault rules (in_globals typ body) ≡ None → first_of (places rules (i ∷ []) None) ≡ Some e → FirstFault rules (in_globals typ body) e
globals_fault rules typ body e i t b g is o f = following rules (in_globals typ body) e (i ∷ []) None o (held typ body [] i t b g nothing_starts is) f

-- of a record that has no item of its own kind
pub plain_fault : (rules : Rules) (typ : ℕ) (body : List ℕ) (e : XlsError) → T (ltb typ (2 ^ 16)) → T (ltb (length body) (2 ^ 16)) → is_among typ globals_types ≡ true → is_plain_type typ ≡ true
    → outer_fault rules (in_globals typ body) ≡ None → first_of (places rules (plain_item typ body ∷ []) None) ≡ Some e → FirstFault rules (in_globals typ body) e
plain_fault rules typ body e t b g p o f = globals_fault rules typ body e (plain_item typ body) t b g (p, refl, refl) o f

-- of an SST and what it holds
pub table_fault : (rules : Rules) (body : List ℕ) (shared : Shared) (e : XlsError) → T (ltb (length body) (2 ^ 16)) → IsShared (bare 0x00FC body) shared
    → outer_fault rules (in_globals 0x00FC body) ≡ None → first_of (places rules (table_item body shared ∷ []) None) ≡ Some e → FirstFault rules (in_globals 0x00FC body) e
table_fault rules body shared e b is o f = globals_fault rules 0x00FC body e (table_item body shared) tt b refl (refl, refl, is) o f

-- of a BoundSheet8 whose part is empty, since its offset is the stream's length
pub bound_sheet_fault : (rules : Rules) (body : List ℕ) (e : XlsError) → T (ltb (length body) (2 ^ 16)) → T (leb (offset_at body) (length (in_globals 0x0085 body))) → drop (offset_at body) (in_globals 0x0085 body) ≡ []
    → outer_fault rules (in_globals 0x0085 body) ≡ None → first_of (places rules (sheet_item body [] None ∷ []) None) ≡ Some e → FirstFault rules (in_globals 0x0085 body) e
bound_sheet_fault rules body e b le d o f =
    globals_fault rules 0x0085 body e (sheet_item body [] None) tt b refl
    (refl, refl, inl (lit≤ le, ([], record { outline = bare_open []; is_outline = tt; rest = []; run = d; kept_is = refl; ends = refl }, refl))) o f

abbrev pub kept : ℕ → List ℕ → Kept
kept typ body = record { typ = typ; body = body }

abbrev pub the_sheet : ℕ → List ℕ → Item
the_sheet typ body = sheet_item sheet_head (kept typ body ∷ []) None

sheet_is : (typ : ℕ) (body : List ℕ) → T (ltb typ (2 ^ 16)) → T (ltb (length body) (2 ^ 16)) → is_among typ sheet_types ≡ true → IsSheetPart (in_sheet typ body) 17 (kept typ body ∷ []) None
sheet_is typ body t b g = inl (long, (bare typ body ∷ [], part_held typ body t b g, refl))
  where
    long : 17 ≤ length (in_sheet typ body)
    long = omega arith

pub sheet_fault : (rules : Rules) (typ : ℕ) (body : List ℕ) (e : XlsError) → T (ltb typ (2 ^ 16)) → T (ltb (length body) (2 ^ 16)) → is_among typ sheet_types ≡ true
    → outer_fault rules (in_sheet typ body) ≡ None → first_of (places rules (the_sheet typ body ∷ []) None) ≡ Some e → FirstFault rules (in_sheet typ body) e
sheet_fault rules typ body e t b g o f =
    following rules (in_sheet typ body) e (the_sheet typ body ∷ []) None o
    (held 0x0085 sheet_head (record_bytes typ body ++ eof) (the_sheet typ body) tt tt refl (starts typ body eof (lit< t) (not_among typ 60 sheet_types g (λ u. cc))) (refl, refl, sheet_is typ body t b g)) f
