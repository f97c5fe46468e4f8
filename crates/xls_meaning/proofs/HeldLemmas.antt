-- The sheets that a stream holds, their places, and what a stream without a fault carries.
use Rattle.std.proofs.Common.{◌≡◌, ℕ, ◌≤◌, List, [], ◌∷◌, ◌++◌, map, length, drop, refl, sym, ap, subst, ◌∙◌, append_assoc, arith, Bool, true, false, Option, Some, None, Result, Ok, Err}
use Rattle.std.specs.Prelude.{nat_lt, slice_index}
use Rattle.std.specs.Option.{option_or, option_map}
use Rattle.std.specs.List.{flat_map, AllByRecursion}
use Rattle.xls_text.specs.declared.encoding.XlsEncoding.{XlsEncoding}
use Rattle.xls_stream.specs.Listing.{offset_at, Kept, Shared, no_table, table_of, table_without, ListEntry, Item, plain_item, table_item, sheet_item, entry_of, Holds, IsWholeTable, IsWholeItem, Carries}
use Rattle.xls_stream.specs.declared.part.Part.{Part}
use Rattle.xls_stream.specs.declared.part.Part.TheVariants as parts
use Rattle.xls_data.specs.Sheets.{SheetContent}
use Rattle.xls_record.specs.declared.error.XlsError.{XlsError}
use Rattle.xls_record.specs.declared.error.XlsError.TheVariants as errors
use Rattle.xls_record.specs.declared.version.Biff.{Biff}
use Rattle.xls_biff.specs.SheetTable.{CellContext}
use Rattle.xls_meaning.specs.Order.{map_with_earlier, first_of, somes}
use Rattle.xls_meaning.specs.Settings.{page_in, version_in, cells_of, SheetRecords, sheet_in}
use Rattle.xls_record.specs.Reading.{gives}
use Rattle.xls_biff.specs.Records.BoundSheet.{sheet_by, bound_sheet_at}
use Rattle.xls_meaning.specs.GlobalsTable.{GlobalsLine, strings_record, sheet_record, sheet_from, fault_of, forced_fault, shared_texts}
use Rattle.xls_meaning.specs.Faults.{item_fault, kept_fault, cut_fault, part_places, sheet_places, globals_places, places, entry_fault, IsFullSheet, IsFull}
use Rattle.xls_meaning.specs.Held.{OpenedSheet, opened_in, opened_of}
use Rattle.xls_meaning.specs.Rules.{Rules}
use Rattle.xls_meaning.proofs.OrderLemmas.{first_after, or_none, none_append}
use Rattle.xls_meaning.proofs.EntryLemmas.{entries_push, long_sheet}

-- ---- a BoundSheet8, by its bytes and by its entry

abbrev pub Found : Type 0
Found = Result (ℕ × SheetContent) XlsError

-- the line of a BoundSheet8 that was read so
abbrev pub sheet_line : Found → GlobalsLine
sheet_line = gives (λ (q : ℕ × SheetContent). sheet_record q.1)

-- what a BoundSheet8 without a fault is
pub record IsNamed (page : XlsEncoding) (version : Biff) (body : List ℕ) (h : ℕ × SheetContent) : Type 0 where
  pub long : 6 ≤ length body
  pub entry : sheet_by page version (slice_index body 4) (slice_index body 5) (drop 6 body) ≡ Ok h.1

pub is_named : (page : XlsEncoding) (version : Biff) (body : List ℕ) (h : ℕ × SheetContent)
    → bound_sheet_at page version body ≡ Ok h → IsNamed page version body h
is_named page version body h e = by_test (nat_lt (length body) 6) refl
  where
    long : nat_lt (length body) 6 ≡ false → 6 ≤ length body
    long t = grind arith

    by_test : (b : Bool) → nat_lt (length body) 6 ≡ b → IsNamed page version body h
    by_test true t = absurd (let f : ◌≡◌ {A = Found} (Err (errors.Len 6 (length body) parts.BoundSheet)) (Ok h) = rw t at e in cc)
    by_test false t = record {
      long = long t;
      entry = sym (long_sheet page version body t) ∙ ap (gives (λ (q : ℕ × SheetContent). q.1)) e;
    }

-- ---- what a stream without a fault carries

abbrev pub IsFine : Rules → CellContext → OpenedSheet → Type 0
IsFine rules s o = (o.cut ≡ None) × (first_of (map_with_earlier (kept_fault rules s) [] o.kept) ≡ None)

abbrev pub sheet_view : OpenedSheet → SheetRecords
sheet_view o = (o.head, o.kept)

-- what BoundSheet8 of these bytes says after these items
abbrev pub said : Rules → List Item → List ℕ → Found
said rules before body =
    bound_sheet_at (page_in rules (map entry_of before)) (version_in rules (map entry_of before)) body

module _ (rules : Rules) (s : CellContext) where
  pub record Good (before items : List Item) : Type 0 where
    pub whole : AllByRecursion IsWholeItem items
    pub entries : first_of (map_with_earlier (entry_fault rules) (map entry_of before) (map entry_of items)) ≡ None
    pub full : AllByRecursion (IsFullSheet rules s) (map entry_of items)
    pub sheets : somes (map_with_earlier (sheet_in rules) (map entry_of before) (map entry_of items)) ≡ map sheet_view (somes (map_with_earlier (opened_in rules) before items))

  pub no_head : (before : List Item) (body : List ℕ) (e : XlsError) (os : List (Option XlsError))
      → said rules before body ≡ Err e
      → option_or (fault_of (sheet_line (said rules before body))) (first_of os) ≡ None → ⊥
  no_head before body e os h f =
      let t = (or_none (fault_of (sheet_line (said rules before body))) (first_of os) f).0 in
      let u : Some e ≡ None = sym (ap (λ (r : Found). fault_of (sheet_line r)) h) ∙ t in
      cc

  good_sheet : (body : List ℕ) (kept : List Kept) (cut : Option Part) (items before : List Item)
      → (first_of (map_with_earlier (item_fault rules) (before ++ sheet_item body kept cut ∷ []) items) ≡ None
      → AllByRecursion (IsFine rules s) (somes (map_with_earlier (opened_in rules) (before ++ sheet_item body kept cut ∷ []) items))
      → Good (before ++ sheet_item body kept cut ∷ []) items)
      → first_of (map_with_earlier (item_fault rules) before (sheet_item body kept cut ∷ items)) ≡ None
      → AllByRecursion (IsFine rules s) (somes (map_with_earlier (opened_in rules) before (sheet_item body kept cut ∷ items)))
      → (r : Found) → said rules before body ≡ r → Good before (sheet_item body kept cut ∷ items)
  good_sheet body kept cut items before on f a (Err e) h =
      absurd (no_head before body e (map_with_earlier (item_fault rules) (before ++ sheet_item body kept cut ∷ []) items) h f)
  good_sheet body kept cut items before on f a (Ok h) e =
      let i = sheet_item body kept cut in
      let o : OpenedSheet = record { offset = offset_at body; head = h.1; kept = kept; cut = cut } in
      let others = map_with_earlier (opened_in rules) (before ++ i ∷ []) items in
      let parts = or_none (fault_of (sheet_line (said rules before body))) (first_of (map_with_earlier (item_fault rules) (before ++ i ∷ []) items)) f in
      let opened : opened_in rules before i ≡ Some o = rw e refl in
      let fine : AllByRecursion (IsFine rules s) (o ∷ somes others) =
      subst (λ (x : Option OpenedSheet). AllByRecursion (IsFine rules s) (somes (x ∷ others))) opened a in
      let g = on parts.1 fine.1 in
      let push = entries_push before i in
      let n = is_named (page_in rules (map entry_of before)) (version_in rules (map entry_of before)) body h e in
      let none : entry_fault rules (map entry_of before) (entry_of i) ≡ None =
      ap (λ (r : Result SheetContent XlsError). fault_of (gives sheet_record r)) n.entry in
      let here : sheet_in rules (map entry_of before) (entry_of i) ≡ Some (h.1, kept) =
      ap (λ (r : Result SheetContent XlsError). option_map (λ (x : SheetContent). (x, kept)) (sheet_from (gives sheet_record r))) n.entry in
      record {
        whole = ((n.long, fine.0.0), g.whole);
        entries = ap (λ (x : Option XlsError). option_or x (first_of (map_with_earlier (entry_fault rules) (map entry_of before ++ entry_of i ∷ []) (map entry_of items)))) none
            ∙ ap (λ (b : List ListEntry). first_of (map_with_earlier (entry_fault rules) b (map entry_of items))) (sym push)
            ∙ g.entries;
        full = (fine.0.1, g.full);
        sheets = ap (λ (x : Option SheetRecords). somes (x ∷ map_with_earlier (sheet_in rules) (map entry_of before ++ entry_of i ∷ []) (map entry_of items))) here
            ∙ ap (λ (b : List ListEntry). (h.1, kept) ∷ somes (map_with_earlier (sheet_in rules) b (map entry_of items))) (sym push)
            ∙ ap (λ (l : List SheetRecords). (h.1, kept) ∷ l) g.sheets
            ∙ ap (λ (x : Option OpenedSheet). map sheet_view (somes (x ∷ others))) (sym opened);
      }

  whole_table : (len : ℕ) (shared : Shared) → fault_of (gives strings_record (shared_texts len shared)) ≡ None → IsWholeTable shared
  whole_table len no_table h = absurd cc
  whole_table len (table_of ss) h = tt
  whole_table len (table_without m) h = absurd cc

  pub good : (items before : List Item) → first_of (map_with_earlier (item_fault rules) before items) ≡ None
      → AllByRecursion (IsFine rules s) (somes (map_with_earlier (opened_in rules) before items))
      → Good before items
  good [] before f a = record { whole = tt; entries = refl; full = tt; sheets = refl }
  good (plain_item typ body ∷ items) before f a =
      let i = plain_item typ body in
      let parts = or_none (item_fault rules before i) (first_of (map_with_earlier (item_fault rules) (before ++ i ∷ []) items)) f in
      let g = good items (before ++ i ∷ []) parts.1 a in
      let push = entries_push before i in
      record {
        whole = (tt, g.whole);
        entries = ap (λ (o : Option XlsError). option_or o (first_of (map_with_earlier (entry_fault rules) (map entry_of before ++ entry_of i ∷ []) (map entry_of items)))) parts.0
            ∙ ap (λ (b : List ListEntry). first_of (map_with_earlier (entry_fault rules) b (map entry_of items))) (sym push)
            ∙ g.entries;
        full = (tt, g.full);
        sheets = ap (λ (b : List ListEntry). somes (map_with_earlier (sheet_in rules) b (map entry_of items))) (sym push) ∙ g.sheets;
      }
  good (table_item body shared ∷ items) before f a =
      let i = table_item body shared in
      let parts = or_none (item_fault rules before i) (first_of (map_with_earlier (item_fault rules) (before ++ i ∷ []) items)) f in
      let g = good items (before ++ i ∷ []) parts.1 a in
      let push = entries_push before i in
      record {
        whole = (whole_table (length body) shared parts.0, g.whole);
        entries = ap (λ (b : List ListEntry). first_of (map_with_earlier (entry_fault rules) b (map entry_of items))) (sym push) ∙ g.entries;
        full = (tt, g.full);
        sheets = ap (λ (b : List ListEntry). somes (map_with_earlier (sheet_in rules) b (map entry_of items))) (sym push) ∙ g.sheets;
      }
  good (sheet_item body kept cut ∷ items) before f a =
      good_sheet body kept cut items before (λ f' a'. good items (before ++ sheet_item body kept cut ∷ []) f' a') f a (said rules before body) refl

  -- ---- the places of the sheets

  abbrev pub opened_places : OpenedSheet → List (Option XlsError)
  opened_places o = part_places rules s o.kept o.cut

  places_here : (body : List ℕ) (kept : List Kept) (cut : Option Part) (items before : List Item)
      → (first_of (map_with_earlier (item_fault rules) (before ++ sheet_item body kept cut ∷ []) items) ≡ None
      → flat_map (sheet_places rules s) items ≡ flat_map opened_places (somes (map_with_earlier (opened_in rules) (before ++ sheet_item body kept cut ∷ []) items)))
      → first_of (map_with_earlier (item_fault rules) before (sheet_item body kept cut ∷ items)) ≡ None
      → (r : Found) → said rules before body ≡ r
      → part_places rules s kept cut ++ flat_map (sheet_places rules s) items
      ≡ flat_map opened_places (somes (map_with_earlier (opened_in rules) before (sheet_item body kept cut ∷ items)))
  places_here body kept cut items before on f (Err e) h =
      absurd (no_head before body e (map_with_earlier (item_fault rules) (before ++ sheet_item body kept cut ∷ []) items) h f)
  places_here body kept cut items before on f (Ok h) e =
      let i = sheet_item body kept cut in
      let o : OpenedSheet = record { offset = offset_at body; head = h.1; kept = kept; cut = cut } in
      let opened : opened_in rules before i ≡ Some o = rw e refl in
      let rest = on (or_none (fault_of (sheet_line (said rules before body))) (first_of (map_with_earlier (item_fault rules) (before ++ i ∷ []) items)) f).1 in
      ap (λ (l : List (Option XlsError)). part_places rules s kept cut ++ l) rest
      ∙ ap (λ (x : Option OpenedSheet). flat_map opened_places (somes (x ∷ map_with_earlier (opened_in rules) (before ++ i ∷ []) items))) (sym opened)

  same_places : (items before : List Item) → first_of (map_with_earlier (item_fault rules) before items) ≡ None
      → flat_map (sheet_places rules s) items ≡ flat_map opened_places (somes (map_with_earlier (opened_in rules) before items))
  same_places [] before f = refl
  same_places (plain_item typ body ∷ items) before f =
      same_places items (before ++ plain_item typ body ∷ []) (or_none (item_fault rules before (plain_item typ body)) (first_of (map_with_earlier (item_fault rules) (before ++ plain_item typ body ∷ []) items)) f).1
  same_places (table_item body shared ∷ items) before f =
      same_places items (before ++ table_item body shared ∷ []) (or_none (item_fault rules before (table_item body shared)) (first_of (map_with_earlier (item_fault rules) (before ++ table_item body shared ∷ []) items)) f).1
  same_places (sheet_item body kept cut ∷ items) before f =
      places_here body kept cut items before (λ f'. same_places items (before ++ sheet_item body kept cut ∷ []) f') f (said rules before body) refl

  pub fine_places : (os : List OpenedSheet) → AllByRecursion (IsFine rules s) os
      → first_of (flat_map opened_places os) ≡ None
  fine_places [] a = refl
  fine_places (o ∷ os) a =
      none_append (part_places rules s o.kept o.cut) (flat_map opened_places os)
      (none_append (map_with_earlier (kept_fault rules s) [] o.kept) (cut_fault o.cut ∷ []) a.0.1 (ap (λ (c : Option Part). first_of (cut_fault c ∷ [])) a.0.0))
      (fine_places os a.1)

  pub flat_both : (os ps : List OpenedSheet) → flat_map opened_places (os ++ ps) ≡ flat_map opened_places os ++ flat_map opened_places ps
  flat_both [] ps = refl
  flat_both (o ∷ os) ps =
      ap (λ (l : List (Option XlsError)). part_places rules s o.kept o.cut ++ l) (flat_both os ps)
      ∙ sym (append_assoc (part_places rules s o.kept o.cut) (flat_map opened_places os) (flat_map opened_places ps))

-- ---- the whole

pub carries_full : (bytes : List ℕ) (rules : Rules) (items : List Item)
    → forced_fault rules.force_codepage ≡ None → Holds bytes items None
    → first_of (map_with_earlier (item_fault rules) [] items) ≡ None
    → AllByRecursion (IsFine rules (cells_of rules (map entry_of items))) (opened_of rules items)
    → Carries bytes (map entry_of items) × IsFull rules (map entry_of items)
carries_full bytes rules items forced h f a =
    let g = good rules (cells_of rules (map entry_of items)) items [] f a in (
      record { items = items; holds = h; whole = g.whole; entries_are = refl },
      record { forced = forced; globals = g.entries; sheets = g.full },
    )

-- the places of the globals have no fault, and those of the sheets are these
pub after_globals : (rules : Rules) (items : List Item)
    → first_of (map_with_earlier (item_fault rules) [] items) ≡ None
    → first_of (places rules items None) ≡ first_of (flat_map (opened_places rules (cells_of rules (map entry_of items))) (opened_of rules items))
after_globals rules items f =
    let s = cells_of rules (map entry_of items) in
    first_after (globals_places rules items None) (flat_map (sheet_places rules s) items) (first_after (map_with_earlier (item_fault rules) [] items) (None ∷ []) f)
    ∙ ap first_of (same_places rules s items [] f)
