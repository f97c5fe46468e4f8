-- The sheets as far as they were checked, and the first fault of a stream.
use Rattle.std.proofs.Common.{◌≡◌, ℕ, ◌≤◌, List, [], ◌∷◌, ◌++◌, map, length, refl, sym, ap, subst, ◌∙◌, append_assoc, arith, Bool, true, false, Option, Some, None, Result, Ok, Err}
use Rattle.std.specs.List.{flat_map}
use Rattle.std.proofs.lemmas.List.{append-nil}
use Rattle.xls_stream.specs.Stream.{Group, Begins}
use Rattle.xls_stream.specs.Cut.{Cut}
use Rattle.xls_stream.specs.Walks.{IsBytes}
use Rattle.xls_stream.specs.Listing.{is_globals_type, is_plain_type, offset_at, Item, plain_item, table_item, sheet_item, entry_of, IsItem, IsSheetPart, Holds}
use Rattle.xls_stream.specs.declared.part.Part.{Part}
use Rattle.xls_stream.proofs.HoldingLemmas.{has_item, one_holds}
use Rattle.xls_record.specs.declared.error.XlsError.{XlsError}
use Rattle.xls_record.specs.declared.version.Biff.{Biff}
use Rattle.xls_biff.specs.Records.BoundSheet.{bound_sheet_at}
use Rattle.xls_meaning.specs.Order.{map_with_earlier, first_of}
use Rattle.xls_meaning.specs.Settings.{page_in, version_in}
use Rattle.xls_meaning.specs.GlobalsTable.{forced_fault, fault_of}
use Rattle.xls_meaning.specs.Faults.{item_fault, sheet_places, globals_places, places, FirstAfter}
use Rattle.xls_open.specs.Checking.{checked, FirstChecked, Checks}
use Rattle.xls_open.specs.CheckSteps.{settings_checked, AreChecked, ChecksPart, ChecksPlaces}
use Rattle.xls_open.specs.Globals.{GlobalsFault}
use Rattle.xls_meaning.specs.Rules.{Rules}
use Rattle.xls_meaning.proofs.OrderLemmas.{first_after, first_early, or_none, none_both, none_append, map_with_earlier-append}
use Rattle.xls_meaning.proofs.HeldLemmas.{Found, sheet_line, said, is_named}
use Rattle.xls_open.proofs.CheckWalkLemmas.{Passed, passed_nothing, passed_item, passed_other, holds_at, passed_cut, passed_eof, passed_end}
use Rattle.xls_meaning.specs.Settings.{Settings}

-- ---- places of the sheets

module _ (rules : Rules) (s : Settings) where
  flat_places : (is js : List Item) → flat_map (sheet_places rules s.cells) (is ++ js)
      ≡ flat_map (sheet_places rules s.cells) is ++ flat_map (sheet_places rules s.cells) js
  flat_places [] js = refl
  flat_places (i ∷ is) js =
      ap (λ (l : List (Option XlsError)). sheet_places rules s.cells i ++ l) (flat_places is js)
      ∙ sym (append_assoc (sheet_places rules s.cells i) (flat_map (sheet_places rules s.cells) is) (flat_map (sheet_places rules s.cells) js))

  clean_push : (is : List Item) (i : Item) → first_of (flat_map (sheet_places rules s.cells) is) ≡ None
      → first_of (sheet_places rules s.cells i) ≡ None → first_of (flat_map (sheet_places rules s.cells) (is ++ i ∷ [])) ≡ None
  clean_push is i h k =
      ap first_of (flat_places is (i ∷ []))
      ∙ first_after (flat_map (sheet_places rules s.cells) is) (sheet_places rules s.cells i ++ []) h
      ∙ ap first_of (append-nil (sheet_places rules s.cells i)) ∙ k

  fault_at : (is : List Item) (i : Item) (js : List Item) (e : XlsError)
      → first_of (flat_map (sheet_places rules s.cells) is) ≡ None → first_of (sheet_places rules s.cells i) ≡ Some e
      → first_of (flat_map (sheet_places rules s.cells) (is ++ i ∷ js)) ≡ Some e
  fault_at is i js e h k =
      ap first_of (flat_places is (i ∷ js))
      ∙ first_after (flat_map (sheet_places rules s.cells) is) (sheet_places rules s.cells i ++ flat_map (sheet_places rules s.cells) js) h
      ∙ first_early (sheet_places rules s.cells i) (flat_map (sheet_places rules s.cells) js) e k

  -- a record that is no BoundSheet8 has no part
  no_part : (bytes : List ℕ) (g : Group) (i : Item) → IsItem bytes g i → (g.typ ≡ 0x0085 → ⊥)
      → first_of (sheet_places rules s.cells i) ≡ None
  no_part bytes g (plain_item typ body) k n = refl
  no_part bytes g (table_item body shared) k n = refl
  no_part bytes g (sheet_item body kept cut) k n = absurd (n k.0)

-- ---- the sheets so far

pub record SheetsSoFar (rules : Rules) (stream rest : List ℕ) (s : Settings) : Type 0 where
  pub items : List Item
  pub passed : Passed stream rest items
  pub clean : first_of (flat_map (sheet_places rules s.cells) items) ≡ None

module _ (rules : Rules) (stream : List ℕ) (version : Biff) (a : AreChecked rules stream version) where
  abbrev pub settings : Settings
  settings = settings_checked rules a.items

  pub sheets_nothing : IsBytes stream → SheetsSoFar rules stream stream settings
  sheets_nothing fits = record { items = []; passed = passed_nothing stream fits; clean = refl }

  -- all places, by the items that were passed
  all_places : IsBytes stream → (items : List Item) (cut : Option Part) → Holds stream items cut
      → (o : Option XlsError) → first_of (flat_map (sheet_places rules settings.cells) items) ≡ o
      → first_of (places rules a.items None) ≡ o
  all_places fits items cut holds o h =
      let same = one_holds stream fits items a.items cut None holds a.holds in
      first_after (globals_places rules a.items None) (flat_map (sheet_places rules settings.cells) a.items)
      (none_append (map_with_earlier (item_fault rules) [] a.items) (None ∷ []) a.faultless refl)
      ∙ ap (λ (x : List Item). first_of (flat_map (sheet_places rules settings.cells) x)) (sym same.0) ∙ h

  module _ (rest after : List ℕ) (g : Group) (c : SheetsSoFar rules stream rest settings) (b : Begins rest g after) (n : g.typ ≡ 0x000A → ⊥) where
    pub sheets_other : (g.typ ≡ 0x0085 → ⊥) → SheetsSoFar rules stream after settings
    sheets_other m = by_type (is_globals_type g) refl
      where
        by_type : (u : Bool) → is_globals_type g ≡ u → SheetsSoFar rules stream after settings
        by_type true u =
            let i = has_item stream g c.passed.whole in
            record {
              items = c.items ++ i.0 ∷ [];
              passed = passed_item stream rest after c.items g c.passed b n i.0 u i.1;
              clean = clean_push rules settings c.items i.0 c.clean (no_part rules settings stream g i.0 i.1 m);
            }
        by_type false u = record {
          items = c.items;
          passed = passed_other stream rest after c.items g c.passed b n u;
          clean = c.clean;
        }

    module _ (t : g.typ ≡ 0x0085) where
      is_type : is_globals_type g ≡ true
      is_type = rw t refl

      no_fault_long : (page : _) (v : _) (body : List ℕ) (r : Found) → bound_sheet_at page v body ≡ r
          → fault_of (sheet_line r) ≡ None → 6 ≤ length body
      no_fault_long page v body (Ok h) e f = (is_named page v body h e).long
      no_fault_long page v body (Err x) e f = absurd cc

      -- its BoundSheet8 is long enough
      pub sheet_long : 6 ≤ length g.body
      sheet_long =
          let i = has_item stream g c.passed.whole in
          at_item i.0 i.1
        where
          at_item : (i : Item) → IsItem stream g i → 6 ≤ length g.body
          at_item (plain_item typ body) k = absurd (let f : is_plain_type 133 ≡ true = rw t at k.0 in cc)
          at_item (table_item body shared) k = absurd (let l = k.0 in let m = t in omega (arith, l, m))
          at_item (sheet_item body kept cut) k =
              let i = sheet_item body kept cut in
              let held = holds_at stream rest after c.items g c.passed b n i is_type k in
              let same = one_holds stream c.passed.whole (c.items ++ i ∷ held.0) a.items held.1 None held.2 a.holds in
              let none : first_of (map_with_earlier (item_fault rules) [] (c.items ++ i ∷ held.0)) ≡ None =
              ap (λ (x : List Item). first_of (map_with_earlier (item_fault rules) [] x)) same.0 ∙ a.faultless in
              let parts = none_both (map_with_earlier (item_fault rules) [] c.items) (map_with_earlier (item_fault rules) c.items (i ∷ held.0))
              (ap first_of (sym (map_with_earlier-append (item_fault rules) [] c.items (i ∷ held.0))) ∙ none) in
              let own = (or_none (item_fault rules c.items i) (first_of (map_with_earlier (item_fault rules) (c.items ++ i ∷ []) held.0)) parts.1).0 in
              subst (λ (x : List ℕ). 6 ≤ length x) k.1
              (no_fault_long (page_in rules (map entry_of c.items)) (version_in rules (map entry_of c.items)) body (said rules c.items body) refl own)

      pub sheet_clean : (offset : ℕ) → offset ≡ offset_at g.body → ChecksPart (IsSheetPart stream offset) rules settings (Ok tt)
          → SheetsSoFar rules stream after settings
      sheet_clean offset at p =
          let i = sheet_item g.body p.0 p.1 in
          let is : IsItem stream g i = (t, refl, subst (λ (x : ℕ). IsSheetPart stream x p.0 p.1) at p.2) in
          record {
            items = c.items ++ i ∷ [];
            passed = passed_item stream rest after c.items g c.passed b n i is_type is;
            clean = clean_push rules settings c.items i c.clean p.3;
          }

      pub sheet_refused : (offset : ℕ) (e : XlsError) → offset ≡ offset_at g.body
          → ChecksPart (IsSheetPart stream offset) rules settings (Err e) → ChecksPlaces rules stream (Err e)
      sheet_refused offset e at p =
          let i = sheet_item g.body p.0 p.1 in
          let is : IsItem stream g i = (t, refl, subst (λ (x : ℕ). IsSheetPart stream x p.0 p.1) at p.2) in
          let held = holds_at stream rest after c.items g c.passed b n i is_type is in (
            a.items,
            None,
            a.holds,
            all_places c.passed.whole (c.items ++ i ∷ held.0) held.1 held.2 (Some e) (fault_at rules settings c.items i held.0 e c.clean p.3),
          )

  module _ (rest : List ℕ) (c : SheetsSoFar rules stream rest settings) where
    -- globals that aren't cut
    pub sheets_uncut : {X : Type 0} (p : Part) → Cut rest p → X
    sheets_uncut p k =
        let same = one_holds stream c.passed.whole c.items a.items (Some p) None (passed_cut stream rest c.items c.passed p k) a.holds in
        absurd (let e : Some p ≡ None = same.1 in cc)

    sheets_done : Holds stream c.items None → ChecksPlaces rules stream (Ok tt)
    sheets_done h = (a.items, None, a.holds, all_places c.passed.whole c.items None h None c.clean)

    pub sheets_eof : (g : Group) (after : List ℕ) → Begins rest g after → g.typ ≡ 0x000A → ChecksPlaces rules stream (Ok tt)
    sheets_eof g after b e = sheets_done (passed_eof stream rest c.items c.passed g after b e)

    pub sheets_end : rest ≡ [] → ChecksPlaces rules stream (Ok tt)
    sheets_end e = sheets_done (passed_end stream rest c.items c.passed e)

-- ---- the whole

module _ (forced : Option ℕ) (max : ℕ) (bytes : List ℕ) where
  -- a forced page that isn't kept
  pub forced_refused : (e : XlsError) → Some e ≡ forced_fault forced → Checks forced max bytes (Err e)
  forced_refused e h = subst (λ (o : Option XlsError). FirstAfter o (checked forced max) bytes e) h refl

  -- under one that is kept
  following : forced_fault forced ≡ None → (e : XlsError) → FirstAfter None (checked forced max) bytes e → FirstChecked forced max bytes e
  following h e f = subst (λ (o : Option XlsError). FirstAfter o (checked forced max) bytes e) (sym h) f

  pub globals_refused : forced_fault forced ≡ None → (e : XlsError) → GlobalsFault (checked forced max) bytes e → Checks forced max bytes (Err e)
  globals_refused h e f =
      following h e (
        f.0,
        f.1,
        f.2,
        first_early (globals_places (checked forced max) f.0 f.1) (flat_map (sheet_places (checked forced max) (settings_checked (checked forced max) f.0).cells) f.0) e f.3,
      )

  pub places_checked : forced_fault forced ≡ None → IsBytes bytes → (r : Result (Unit {0}) XlsError)
      → ChecksPlaces (checked forced max) bytes r → Checks forced max bytes r
  places_checked h fits (Ok u) p = λ e f.
      let g : FirstAfter None (checked forced max) bytes e = subst (λ (o : Option XlsError). FirstAfter o (checked forced max) bytes e) h f in
      let same = one_holds bytes fits g.0 p.0 g.1 p.1 g.2 p.2 in
      let both : Some e ≡ None =
      sym g.3 ∙ ap (λ (x : List Item). first_of (places (checked forced max) x g.1)) same.0
      ∙ ap (λ (x : Option Part). first_of (places (checked forced max) p.0 x)) same.1 ∙ p.3 in
      cc
  places_checked h fits (Err e) p = following h e p
