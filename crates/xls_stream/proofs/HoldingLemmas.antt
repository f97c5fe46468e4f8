-- Every stream holds some items and ends in some way, and no others.
use Rattle.std.proofs.Common.{◌≡◌, ◌≢◌, ℕ, ◌≤◌, true, false, List, [], ◌∷◌, map, length, drop, refl, sym, ap, subst, ◌∙◌, arith, inl, inr, Option, Some, None}
use Rattle.std.specs.Prelude.{◌==◌}
use Rattle.std.specs.List.{filter, AllZip}
use Rattle.std.proofs.lemmas.Bool.{cases_lt, cases_eq}
use Rattle.xls_stream.specs.Stream.{Group}
use Rattle.xls_stream.specs.Walks.{IsBytes}
use Rattle.xls_stream.specs.declared.part.Part.{Part}
use Rattle.xls_stream.specs.declared.part.Part.TheVariants.{SheetOffset}
use Rattle.xls_stream.specs.Listing.{Kept, kept_of, IsPart, IsSheetPart, Shared, no_table, table_of, table_without, IsShared, is_globals_type, is_plain_type, offset_at, Item, plain_item, table_item, sheet_item, IsItem, Holds, ListEntry, entry_of, Carries}
use Rattle.xls_stream.specs.StringTable.{OneReading, marked}
use Rattle.xls_stream.proofs.Outlines.{drop_bytes, one_globals_part}
use Rattle.xls_stream.proofs.Outlines as shapes
use Rattle.xls_stream.proofs.TableReadings.{one_reading}

has_part : (part : List ℕ) → IsBytes part → (kept : List Kept) × (cut : Option Part)
    × IsPart part kept cut
has_part part fits = let f =
    (shapes.one_sheet_part part fits).some in (kept_of f.0, f.1, (f.0, f.2, refl))

pub one_part : (part : List ℕ) → IsBytes part → (k l : List Kept) (c d : Option Part)
    → IsPart part k c → IsPart part l d → (k ≡ l) × (c ≡ d)
one_part part fits k l c d a b =
    let same = (shapes.one_sheet_part part fits).same a.0 b.0 c d a.1 b.1 in
    (a.2 ∙ ap kept_of same.0 ∙ sym b.2, same.1)

has_sheet_part : (bytes : List ℕ) (offset : ℕ) → IsBytes bytes → (kept : List Kept)
    × (cut : Option Part) × IsSheetPart bytes offset kept cut
has_sheet_part bytes offset fits =
    elim (cases_lt (length bytes) offset) [
      | inl lt ↦ ([], Some SheetOffset, inr (lt, refl, refl))
      | inr ge ↦ let p = has_part (drop offset bytes) (drop_bytes offset bytes fits) in (
        p.0,
        p.1,
        inl (ge, p.2),
      )
    ]

pub one_sheet_part : (bytes : List ℕ) → IsBytes bytes
    → (offset : ℕ) (k l : List Kept) (c d : Option Part) → IsSheetPart bytes offset k c
    → IsSheetPart bytes offset l d → (k ≡ l) × (c ≡ d)
one_sheet_part bytes fits offset k l c d a b =
    elim a [
      | inl p ↦ elim b [ inl q ↦ one_part (drop offset bytes) (drop_bytes offset bytes fits) k l c d p.1 q.1 | inr q ↦ let l = p.0 in let m = q.0 in absurd (omega arith) ]
      | inr p ↦ elim b [
        | inl q ↦ let l = p.0 in let m = q.0 in absurd (omega arith)
        | inr q ↦ (
          p.1
              ∙ sym q.1,
          p.2 ∙ sym q.2,
        )
      ]
    ]

-- ---- what an SST record holds

has_marks : (g : Group) → 8 ≤ length g.body → OneReading (marked (drop 8 g.body) g.tail)
    → (s : Shared) × IsShared g s
has_marks g long one = elim one.some [
  | inl t ↦ (table_of t.0, (long, t.1))
  | inr f ↦ (table_without f.0, (long, f.1))
]

has_shared : (g : Group) → (s : Shared) × IsShared g s
has_shared g = elim (cases_lt (length g.body) 8) [
  | inl lt ↦ (no_table, lt)
  | inr ge ↦ has_marks g ge (one_reading (marked (drop 8 g.body) g.tail))
]

one_shared : (g : Group) (s t : Shared) → IsShared g s → IsShared g t → s ≡ t
one_shared g no_table no_table a b = refl
one_shared g no_table (table_of ss) a b = let l = a in let m = b.0 in absurd (omega arith)
one_shared g no_table (table_without e) a b = let l = a in let m = b.0 in absurd (omega arith)
one_shared g (table_of ss) no_table a b = let l = b in let m = a.0 in absurd (omega arith)
one_shared g (table_of ss) (table_of ts) a b =
    ap table_of ((one_reading (marked (drop 8 g.body) g.tail)).table ss ts a.1 b.1)
one_shared g (table_of ss) (table_without e) a b =
    absurd ((one_reading (marked (drop 8 g.body) g.tail)).apart ss e a.1 b.1)
one_shared g (table_without e) no_table a b = let l = b in let m = a.0 in absurd (omega arith)
one_shared g (table_without e) (table_of ss) a b =
    absurd ((one_reading (marked (drop 8 g.body) g.tail)).apart ss e b.1 a.1)
one_shared g (table_without e) (table_without f) a b =
    ap table_without ((one_reading (marked (drop 8 g.body) g.tail)).fault e f a.1 b.1)

-- ---- items

apart : (m n : ℕ) → m ≢ n → (m == n) ≡ false
apart m n h = grind arith

plain_type : (n : ℕ) → n ≢ 252 → n ≢ 133 → is_plain_type n ≡ true
plain_type n a b = let e = apart n 252 a in let f = apart n 133 b in rw (e, f) refl

table_type : (n : ℕ) → n ≡ 252 → is_plain_type n ≡ true → ⊥
table_type n e h = let f : false ≡ true = rw e at h in cc

sheet_type : (n : ℕ) → n ≡ 133 → is_plain_type n ≡ true → ⊥
sheet_type n e h = let f : false ≡ true = rw e at h in cc

apart_types : (n : ℕ) → n ≡ 252 → n ≡ 133 → ⊥
apart_types n e f = omega arith

pub has_item : (bytes : List ℕ) (g : Group) → IsBytes bytes → (i : Item) × IsItem bytes g i
has_item bytes g fits =
    elim (cases_eq g.typ 133) [
      | inl e ↦ let p = has_sheet_part bytes (offset_at g.body) fits in (
        sheet_item g.body p.0 p.1,
        (e, refl, p.2),
      )
      | inr n ↦ elim (cases_eq g.typ 252) [
        | inl t ↦ let s = has_shared g in (table_item g.body s.0, (t, refl, s.1))
        | inr m ↦ (plain_item g.typ g.body, (plain_type g.typ m n, refl, refl))
      ]
    ]

one_item : (bytes : List ℕ) → IsBytes bytes → (g : Group) (i j : Item) → IsItem bytes g i
    → IsItem bytes g j → i ≡ j
one_item bytes fits g (plain_item t x) (plain_item u y) a b = let e : t ≡ u =
    a.1 ∙ sym b.1 in let f : x ≡ y = a.2 ∙ sym b.2 in cc
one_item bytes fits g (plain_item t x) (table_item y s) a b = absurd (table_type g.typ b.0 a.0)
one_item bytes fits g (plain_item t x) (sheet_item y k c) a b = absurd (sheet_type g.typ b.0 a.0)
one_item bytes fits g (table_item x r) (plain_item u y) a b = absurd (table_type g.typ a.0 b.0)
one_item bytes fits g (table_item x r) (table_item y s) a b =
    let e : x ≡ y = a.1 ∙ sym b.1 in
    let f : r ≡ s = one_shared g r s a.2 b.2 in
    cc
one_item bytes fits g (table_item x r) (sheet_item y k c) a b = absurd (apart_types g.typ a.0 b.0)
one_item bytes fits g (sheet_item y k c) (plain_item t x) a b = absurd (sheet_type g.typ a.0 b.0)
one_item bytes fits g (sheet_item y k c) (table_item x s) a b = absurd (apart_types g.typ b.0 a.0)
one_item bytes fits g (sheet_item x k c) (sheet_item y l d) a b =
    let e : x ≡ y = a.1 ∙ sym b.1 in
    let same = one_sheet_part bytes fits (offset_at g.body) k l c d a.2 b.2 in
    let f : k ≡ l = same.0 in
    let h : c ≡ d = same.1 in
    cc

pub has_items : (bytes : List ℕ) → IsBytes bytes → (gs : List Group) → (items : List Item)
    × AllZip (IsItem bytes) gs items
has_items bytes fits [] = ([], tt)
has_items bytes fits (g ∷ gs) =
    let i = has_item bytes g fits in
    let is = has_items bytes fits gs in
    (i.0 ∷ is.0, (i.1, is.1))

one_items : (bytes : List ℕ) → IsBytes bytes → (gs : List Group) (is js : List Item)
    → AllZip (IsItem bytes) gs is → AllZip (IsItem bytes) gs js → is ≡ js
one_items bytes fits [] [] [] a b = refl
one_items bytes fits [] [] (j ∷ js) a b = absurd b
one_items bytes fits [] (i ∷ is) js a b = absurd a
one_items bytes fits (g ∷ gs) [] js a b = absurd a
one_items bytes fits (g ∷ gs) (i ∷ is) [] a b = absurd b
one_items bytes fits (g ∷ gs) (i ∷ is) (j ∷ js) a b =
    ap (λ (x : Item). x ∷ is) (one_item bytes fits g i j a.0 b.0)
    ∙ ap (λ (xs : List Item). j ∷ xs) (one_items bytes fits gs is js a.1 b.1)

pub has_holds : (bytes : List ℕ) → IsBytes bytes → (items : List Item) × (cut : Option Part)
    × Holds bytes items cut
has_holds bytes fits =
    let f = (one_globals_part bytes fits).some in
    let is = has_items bytes fits (filter is_globals_type f.0) in
    (is.0, f.1, record { groups = f.0; globals = f.2; items_are = is.1 })

pub one_holds : (bytes : List ℕ) → IsBytes bytes → (is js : List Item) (c d : Option Part)
    → Holds bytes is c → Holds bytes js d → (is ≡ js) × (c ≡ d)
one_holds bytes fits is js c d a b =
    let same = (one_globals_part bytes fits).same a.groups b.groups c d a.globals b.globals in
    (one_items bytes fits (filter is_globals_type b.groups) is js (subst (λ (x : List Group). AllZip (IsItem bytes) (filter is_globals_type x) is) same.0 a.items_are) b.items_are, same.1)

pub one_list : (bytes : List ℕ) → IsBytes bytes → (l m : List ListEntry) → Carries bytes l
    → Carries bytes m → l ≡ m
one_list bytes fits l m a b =
    a.entries_are ∙ ap (map entry_of) (one_holds bytes fits a.items b.items None None a.holds b.holds).0 ∙ sym b.entries_are
