-- One first fault, and none exactly where the list is full.
use Rattle.std.proofs.Common.{◌≡◌, ℕ, ◌<◌, ◌≤◌, List, [], ◌∷◌, ◌++◌, map, length, drop, refl, sym, ap, subst, ◌∙◌, arith, Bool, true, false, Option, Some, None, Result, Ok, Err}
use Rattle.std.specs.Prelude.{nat_lt, slice_index, ◌↔◌}
use Rattle.std.specs.Option.{option_or}
use Rattle.std.specs.List.{flat_map, AllByRecursion}
use Rattle.xls_stream.specs.Walks.{IsBytes}
use Rattle.xls_stream.specs.Listing.{ListEntry, Shared, no_table, table_of, table_without, Item, plain_item, table_item, sheet_item, entry_of, Holds, IsWholeTable, IsWholeItem, Carries}
use Rattle.xls_stream.specs.declared.part.Part.{Part}
use Rattle.xls_stream.proofs.HoldingLemmas.{has_holds, one_holds}
use Rattle.xls_data.specs.Sheets.{SheetContent}
use Rattle.xls_record.specs.declared.error.XlsError.{XlsError}
use Rattle.xls_record.specs.declared.error.XlsError.TheVariants as errors
use Rattle.xls_biff.specs.SheetTable.{CellContext}
use Rattle.xls_meaning.specs.Order.{map_with_earlier, first_of}
use Rattle.xls_meaning.specs.Settings.{page_in, version_in, cells_of}
use Rattle.xls_record.specs.Reading.{gives}
use Rattle.xls_biff.specs.Records.BoundSheet.{sheet_by, bound_sheet_at}
use Rattle.xls_meaning.specs.GlobalsTable.{strings_record, sheet_record, fault_of, forced_fault, shared_texts}
use Rattle.xls_meaning.specs.Faults.{limit_fault, outer_fault, item_fault, kept_fault, cut_fault, part_places, sheet_places, globals_places, places, FirstAfter, FirstFault, IsSound, entry_fault, IsFullSheet, IsFull}
use Rattle.xls_meaning.specs.Held.{OpenedSheet, opened_of}
use Rattle.xls_meaning.specs.Rules.{Rules}
use Rattle.xls_meaning.proofs.OrderLemmas.{or_none, none_both, none_append}
use Rattle.xls_meaning.proofs.EntryLemmas.{entries_push, long_sheet}
use Rattle.xls_meaning.proofs.HeldLemmas.{Found, sheet_line, IsFine, opened_places, after_globals, carries_full}

-- ---- the byte limit

pub limit_none : (rules : Rules) (bytes : List ℕ) → length bytes ≤ rules.max_bytes
    → limit_fault rules bytes ≡ None
limit_none rules bytes h = let t : nat_lt rules.max_bytes (length bytes) ≡ false =
    test h in rw t refl
  where
    test : length bytes ≤ rules.max_bytes → nat_lt rules.max_bytes (length bytes) ≡ false
    test h = grind arith

pub limit_some : (rules : Rules) (bytes : List ℕ) → rules.max_bytes < length bytes
    → limit_fault rules bytes ≡ Some (errors.TooLarge rules.max_bytes)
limit_some rules bytes h = let t : nat_lt rules.max_bytes (length bytes) ≡ true =
    test h in rw t refl
  where
    test : rules.max_bytes < length bytes → nat_lt rules.max_bytes (length bytes) ≡ true
    test h = grind arith

within_none : (rules : Rules) (bytes : List ℕ) → limit_fault rules bytes ≡ None
    → length bytes ≤ rules.max_bytes
within_none rules bytes h = by_test (nat_lt rules.max_bytes (length bytes)) refl
  where
    small : nat_lt rules.max_bytes (length bytes) ≡ false → length bytes ≤ rules.max_bytes
    small t = grind arith

    by_test : (b : Bool) → nat_lt rules.max_bytes (length bytes) ≡ b
        → length bytes ≤ rules.max_bytes
    by_test true t = absurd (let u : Some (errors.TooLarge rules.max_bytes) ≡ None = rw t at h in cc)
    by_test false t = small t

-- ---- the byte limit and the forced page

pub outer_none : (rules : Rules) (bytes : List ℕ) → length bytes ≤ rules.max_bytes
    → forced_fault rules.force_codepage ≡ None → outer_fault rules bytes ≡ None
outer_none rules bytes within forced =
    ap (λ (o : Option XlsError). option_or o (forced_fault rules.force_codepage)) (limit_none rules bytes within)
    ∙ forced

record Inside (rules : Rules) (bytes : List ℕ) : Type 0 where
  pub within : length bytes ≤ rules.max_bytes
  pub forced : forced_fault rules.force_codepage ≡ None

inside : (rules : Rules) (bytes : List ℕ) → outer_fault rules bytes ≡ None
    → Inside rules bytes
inside rules bytes h =
    let both = or_none (limit_fault rules bytes) (forced_fault rules.force_codepage) h in
    record { within = within_none rules bytes both.0; forced = both.1 }

-- ---- one first fault

one_after : (rules : Rules) (bytes : List ℕ) → IsBytes bytes
    → (e f : XlsError) (o : Option XlsError) → FirstAfter o rules bytes e
    → FirstAfter o rules bytes f → e ≡ f
one_after rules bytes fits e f (Some g) a b = a ∙ sym b
one_after rules bytes fits e f None a b =
    let same = one_holds bytes fits a.0 b.0 a.1 b.1 a.2 b.2 in
    let both : Some e ≡ Some f =
    sym a.3 ∙ ap (λ (x : List Item). first_of (places rules x a.1)) same.0
    ∙ ap (λ (c : Option Part). first_of (places rules b.0 c)) same.1 ∙ b.3 in
    cc

pub one_first_fault : (rules : Rules) (bytes : List ℕ) → IsBytes bytes → (e f : XlsError)
    → FirstFault rules bytes e → FirstFault rules bytes f → e ≡ f
one_first_fault rules bytes fits e f a b =
    one_after rules bytes fits e f (outer_fault rules bytes) a b

-- ---- without a fault

cut_none : (cut : Option Part) → first_of (cut_fault cut ∷ []) ≡ None → cut ≡ None
cut_none None h = refl
cut_none (Some p) h = absurd cc

fine_from : (rules : Rules) (s : CellContext) (os : List OpenedSheet)
    → first_of (flat_map (opened_places rules s) os) ≡ None → AllByRecursion (IsFine rules s) os
fine_from rules s [] h = tt
fine_from rules s (o ∷ os) h =
    let both = none_both (opened_places rules s o) (flat_map (opened_places rules s) os) h in
    let here = none_both (map_with_earlier (kept_fault rules s) [] o.kept) (cut_fault o.cut ∷ []) both.0 in
    ((cut_none o.cut here.1, here.0), fine_from rules s os both.1)

faultless_full : (rules : Rules) (bytes : List ℕ) (items : List Item) (cut : Option Part)
    → forced_fault rules.force_codepage ≡ None → Holds bytes items cut
    → first_of (places rules items cut) ≡ None → (l : List ListEntry)
    × Carries bytes l × IsFull rules l
faultless_full rules bytes items cut forced h f =
    let s = cells_of rules (map entry_of items) in
    let both = none_both (globals_places rules items cut) (flat_map (sheet_places rules s) items) f in
    let globals = none_both (map_with_earlier (item_fault rules) [] items) (cut_fault cut ∷ []) both.0 in
    let whole : cut ≡ None = cut_none cut globals.1 in
    let none : first_of (places rules items None) ≡ None =
    ap (λ (c : Option Part). first_of (places rules items c)) (sym whole) ∙ f in
    let all = carries_full bytes rules items forced (subst (Holds bytes items) whole h) globals.0 (fine_from rules s (opened_of rules items) (sym (after_globals rules items globals.0) ∙ none)) in
    (map entry_of items, all.0, all.1)

-- ---- with a full list

not_short : (n m : ℕ) → m ≤ n → nat_lt n m ≡ false
not_short n m h = grind arith

whole_table : (len : ℕ) (s : Shared) → IsWholeTable s → fault_of (gives strings_record (shared_texts len s)) ≡ None
whole_table len no_table h = absurd h
whole_table len (table_of ss) h = refl
whole_table len (table_without m) h = absurd h

-- a sheet is refused as its entry is
same_fault : (r : Found) (q : Result SheetContent XlsError) → gives (λ (x : ℕ × SheetContent). x.1) r ≡ q
    → fault_of (sheet_line r) ≡ fault_of (gives sheet_record q)
same_fault (Ok x) q e = ap (λ (y : Result SheetContent XlsError). fault_of (gives sheet_record y)) e
same_fault (Err x) q e = ap (λ (y : Result SheetContent XlsError). fault_of (gives sheet_record y)) e

module _ (rules : Rules) (s : CellContext) where
  record Clean (before items : List Item) : Type 0 where
    pub globals : first_of (map_with_earlier (item_fault rules) before items) ≡ None
    pub sheets : first_of (flat_map (sheet_places rules s) items) ≡ None

  clean : (items before : List Item) → AllByRecursion IsWholeItem items
      → first_of (map_with_earlier (entry_fault rules) (map entry_of before) (map entry_of items)) ≡ None
      → AllByRecursion (IsFullSheet rules s) (map entry_of items) → Clean before items
  clean [] before w f h = record { globals = refl; sheets = refl }
  clean (plain_item typ body ∷ items) before w f h =
      let i = plain_item typ body in
      let parts = or_none (item_fault rules before i) (first_of (map_with_earlier (entry_fault rules) (map entry_of before ++ entry_of i ∷ []) (map entry_of items))) f in
      let c = clean items (before ++ i ∷ []) w.1 (ap (λ (b : List ListEntry). first_of (map_with_earlier (entry_fault rules) b (map entry_of items))) (entries_push before i) ∙ parts.1) h.1 in
      record {
        globals = ap (λ (o : Option XlsError). option_or o (first_of (map_with_earlier (item_fault rules) (before ++ i ∷ []) items))) parts.0 ∙ c.globals;
        sheets = c.sheets;
      }
  clean (table_item body shared ∷ items) before w f h =
      let i = table_item body shared in
      let c = clean items (before ++ i ∷ []) w.1 (ap (λ (b : List ListEntry). first_of (map_with_earlier (entry_fault rules) b (map entry_of items))) (entries_push before i) ∙ f) h.1 in
      record {
        globals = ap (λ (o : Option XlsError). option_or o (first_of (map_with_earlier (item_fault rules) (before ++ i ∷ []) items))) (whole_table (length body) shared w.0) ∙ c.globals;
        sheets = c.sheets;
      }
  clean (sheet_item body kept cut ∷ items) before w f h =
      let i = sheet_item body kept cut in
      let page = page_in rules (map entry_of before) in
      let version = version_in rules (map entry_of before) in
      let parts = or_none (entry_fault rules (map entry_of before) (entry_of i)) (first_of (map_with_earlier (entry_fault rules) (map entry_of before ++ entry_of i ∷ []) (map entry_of items))) f in
      let c = clean items (before ++ i ∷ []) w.1 (ap (λ (b : List ListEntry). first_of (map_with_earlier (entry_fault rules) b (map entry_of items))) (entries_push before i) ∙ parts.1) h.1 in
      let none : item_fault rules before i ≡ None =
      same_fault (bound_sheet_at page version body) (sheet_by page version (slice_index body 4) (slice_index body 5) (drop 6 body))
      (long_sheet page version body (not_short (length body) 6 w.0.0)) ∙ parts.0 in
      record {
        globals = ap (λ (o : Option XlsError). option_or o (first_of (map_with_earlier (item_fault rules) (before ++ i ∷ []) items))) none ∙ c.globals;
        sheets = none_append (part_places rules s kept cut) (flat_map (sheet_places rules s) items)
            (none_append (map_with_earlier (kept_fault rules s) [] kept) (cut_fault cut ∷ []) h.0 (ap (λ (x : Option Part). first_of (cut_fault x ∷ [])) w.0.1)) c.sheets;
      }

full_clear : (rules : Rules) (bytes : List ℕ) → IsBytes bytes → (l : List ListEntry)
    → Carries bytes l → IsFull rules l → (e : XlsError) → FirstAfter None rules bytes e → ⊥
full_clear rules bytes fits l c f e h =
    let same = one_holds bytes fits h.0 c.items h.1 None h.2 c.holds in
    let s = cells_of rules (map entry_of c.items) in
    let sheets = subst (λ (x : List ListEntry). AllByRecursion (IsFullSheet rules (cells_of rules x)) x) c.entries_are f.sheets in
    let k = clean rules s c.items [] c.whole (ap (λ (x : List ListEntry). first_of (map_with_earlier (entry_fault rules) [] x)) (sym c.entries_are) ∙ f.globals) sheets in
    let none : first_of (places rules c.items None) ≡ None =
    none_append (globals_places rules c.items None) (flat_map (sheet_places rules s) c.items) (none_append (map_with_earlier (item_fault rules) [] c.items) (None ∷ []) k.globals refl) k.sheets in
    let both : Some e ≡ None =
    sym h.3 ∙ ap (λ (x : List Item). first_of (places rules x h.1)) same.0
    ∙ ap (λ (x : Option Part). first_of (places rules c.items x)) same.1 ∙ none in
    cc

pub full_sound : (rules : Rules) (bytes : List ℕ) → IsBytes bytes
    → length bytes ≤ rules.max_bytes → (l : List ListEntry) → Carries bytes l → IsFull rules l
    → IsSound rules bytes
full_sound rules bytes fits within l c f e h =
    full_clear rules bytes fits l c f e (subst (λ (o : Option XlsError). FirstAfter o rules bytes e) (outer_none rules bytes within f.forced) h)

abbrev Full : Rules → List ℕ → Type 0
Full rules bytes =
    (length bytes ≤ rules.max_bytes) × (l : List ListEntry) × Carries bytes l × IsFull rules l

sound_after : (rules : Rules) (bytes : List ℕ) → IsBytes bytes → (o : Option XlsError)
    → outer_fault rules bytes ≡ o → ((e : XlsError) → FirstAfter o rules bytes e → ⊥)
    → Full rules bytes
sound_after rules bytes fits (Some f) t clear = absurd (clear f refl)
sound_after rules bytes fits None t clear =
    by_first (first_of (places rules (has_holds bytes fits).0 (has_holds bytes fits).1)) refl
  where
    by_first : (o : Option XlsError)
        → first_of (places rules (has_holds bytes fits).0 (has_holds bytes fits).1) ≡ o
        → Full rules bytes
    by_first None e =
        let i = inside rules bytes t in
        let all = faultless_full rules bytes (has_holds bytes fits).0 (has_holds bytes fits).1 i.forced (has_holds bytes fits).2 e in
        (i.within, all.0, all.1, all.2)
    by_first (Some f) e =
        absurd (clear f (
          (has_holds bytes fits).0,
          (has_holds bytes fits).1,
          (has_holds bytes fits).2,
          e,
        ))

pub sound_where_full : (rules : Rules) (bytes : List ℕ) → IsBytes bytes
    → IsSound rules bytes
    ↔ ((length bytes ≤ rules.max_bytes) × (l : List ListEntry) × Carries bytes l × IsFull rules l)
sound_where_full rules bytes fits = (
  λ clear. sound_after rules bytes fits (outer_fault rules bytes) refl clear,
  λ c. full_sound rules bytes fits c.0 c.1 c.2 c.3,
)
