-- The sheets, one after the other, and what a stream without a fault carries.
use Rattle.std.proofs.Common.{◌≡◌, ℕ, List, [], ◌∷◌, ◌++◌, map, length, drop, refl, sym, ap, subst, ◌∙◌, Bool, true, false, Option, Some, None, Result, Ok, Err}
use Rattle.std.specs.Prelude.{nat_lt, slice_index}
use Rattle.std.specs.Option.{option_map}
use Rattle.std.specs.List.{filter, AllZip, AllByRecursion}
use Rattle.xls_text.specs.declared.encoding.XlsEncoding.{XlsEncoding}
use Rattle.xls_stream.specs.Walks.{IsBytes}
use Rattle.xls_stream.specs.Listing.{is_globals_type, offset_at, Kept, Item, plain_item, table_item, sheet_item, entry_of, IsItem, IsSheetPart}
use Rattle.xls_stream.specs.Stream.{Group}
use Rattle.xls_stream.specs.declared.part.Part.{Part}
use Rattle.xls_stream.specs.declared.part.Part.TheVariants as parts
use Rattle.xls_stream.proofs.HoldingLemmas.{one_sheet_part}
use Rattle.xls_data.specs.Sheets.{SheetContent}
use Rattle.xls_dates.specs.declared.formats.CellFormat.{CellFormat}
use Rattle.xls_record.specs.declared.error.XlsError.{XlsError}
use Rattle.xls_record.specs.declared.error.XlsError.TheVariants as errors
use Rattle.xls_record.specs.declared.version.Biff.{Biff}
use Rattle.xls_formula.specs.Context.{Context}
use Rattle.xls_meaning.specs.Order.{map_with_earlier, first_of, somes}
use Rattle.xls_meaning.specs.Settings.{page_in, version_in, is_1904_in, formats_in, classed, class_in, classes_in, texts_in, context_of, Settings, settings_of, sheets_of}
use Rattle.xls_record.specs.Reading.{◌>>=◌}
use Rattle.xls_biff.specs.Records.BoundSheet.{sheet_by, bound_sheet_at}
use Rattle.xls_meaning.specs.GlobalsTable.{sheet_from, forced_fault}
use Rattle.xls_meaning.specs.Reading.{SheetView, BookView, IsContent, IsDisplayed}
use Rattle.xls_meaning.specs.Faults.{item_line, kept_fault}
use Rattle.xls_open.specs.Globals.{pair_of, Sheets, State, IsState, AreGlobals}
use Rattle.xls_open.specs.Workbook.{views_listed}
use Rattle.xls_open.specs.Steps.{AreContents, AreSheets, IsStreamOpened}
use Rattle.xls_meaning.specs.Held.{OpenedSheet, opened_in, opened_of}
use Rattle.xls_meaning.specs.Reading.{paired}
use Rattle.xls_meaning.specs.Rules.{Rules}
use Rattle.xls_open.proofs.ContentsLemmas.{heads, same_length, all_displayed}
use Rattle.xls_meaning.proofs.HeldLemmas.{Found, IsFine, sheet_view, good, carries_full}

-- ---- a BoundSheet8, by its bytes and by its entry

-- its offset
pub bound_offset : (page : XlsEncoding) (version : Biff) (body : List ℕ) (h : ℕ × SheetContent)
    → bound_sheet_at page version body ≡ Ok h → h.0 ≡ offset_at body
bound_offset page version body h e = by_test (nat_lt (length body) 6) refl
  where
    found : (r : Result SheetContent XlsError) → (r >>= (λ s. Ok (offset_at body, s))) ≡ Ok h → h.0 ≡ offset_at body
    found (Ok s) f = let same : (offset_at body, s) ≡ h = cc in ap (λ (q : ℕ × SheetContent). q.0) (sym same)
    found (Err x) f = absurd cc

    by_test : (b : Bool) → nat_lt (length body) 6 ≡ b → h.0 ≡ offset_at body
    by_test true t = absurd (let f : ◌≡◌ {A = Found} (Err (errors.Len 6 (length body) parts.BoundSheet)) (Ok h) = rw t at e in cc)
    by_test false t = found (sheet_by page version (slice_index body 4) (slice_index body 5) (drop 6 body)) (rw t at e)

-- ---- the sheets as they stand and as they were read

module _ (rules : Rules) (s : Settings) (bytes : List ℕ) (fits : IsBytes bytes) where
  abbrev Stands : OpenedSheet → Type 0
  Stands o = IsSheetPart bytes o.offset o.kept o.cut

  opened_here : (body : List ℕ) (kept : List Kept) (cut : Option Part) (os : List (Option OpenedSheet))
      → IsSheetPart bytes (offset_at body) kept cut → AllByRecursion Stands (somes os) → (o : Option SheetContent)
      → AllByRecursion Stands (somes (option_map (λ (c : SheetContent). record { offset = offset_at body; head = c; kept = kept; cut = cut }) o ∷ os))
  opened_here body kept cut os h a None = a
  opened_here body kept cut os h a (Some c) = (h, a)

  pub all_opened : (gs : List Group) (items before : List Item) → AllZip (IsItem bytes) gs items
      → AllByRecursion Stands (somes (map_with_earlier (opened_in rules) before items))
  all_opened [] [] before a = tt
  all_opened [] (i ∷ items) before a = absurd a
  all_opened (g ∷ gs) [] before a = absurd a
  all_opened (g ∷ gs) (plain_item typ body ∷ items) before a =
      all_opened gs items (before ++ plain_item typ body ∷ []) a.1
  all_opened (g ∷ gs) (table_item body shared ∷ items) before a =
      all_opened gs items (before ++ table_item body shared ∷ []) a.1
  all_opened (g ∷ gs) (sheet_item body kept cut ∷ items) before a =
      let is_body : body ≡ g.body = a.0.1 in
      opened_here body kept cut (map_with_earlier (opened_in rules) (before ++ sheet_item body kept cut ∷ []) items)
      (subst (λ (x : List ℕ). IsSheetPart bytes (offset_at x) kept cut) (sym is_body) a.0.2)
      (all_opened gs items (before ++ sheet_item body kept cut ∷ []) a.1) (sheet_from (item_line rules before (sheet_item body kept cut)))

  -- the sheets that were read so
  pub record Match (os : List OpenedSheet) (sheets : Sheets) (views : List SheetView) : Type 0 where
    pub fine : AllByRecursion (IsFine rules s.cells) os
    pub are : AreSheets s (map (λ (q : ℕ × SheetContent). q.1) sheets) views (map sheet_view os)

  pub matched : (os : List OpenedSheet) (sheets : Sheets) (views : List SheetView) → map pair_of os ≡ sheets
      → AllByRecursion Stands os → AreContents rules s bytes sheets views → Match os sheets views
  matched [] [] [] e a c = record { fine = tt; are = tt }
  matched [] [] (v ∷ views) e a c = absurd c
  matched [] (q ∷ sheets) views e a c = absurd cc
  matched (o ∷ os) [] views e a c = absurd cc
  matched (o ∷ os) (q ∷ sheets) [] e a c = absurd c
  matched (o ∷ os) (q ∷ sheets) (v ∷ views) e a c =
      let first : pair_of o ≡ q = cc in
      let others : map pair_of os ≡ sheets = cc in
      let offset : o.offset ≡ q.0 = ap (λ (p : ℕ × SheetContent). p.0) first in
      let head : q.1 ≡ o.head = ap (λ (p : ℕ × SheetContent). p.1) (sym first) in
      let stands : IsSheetPart bytes q.0 o.kept o.cut = subst (λ (n : ℕ). IsSheetPart bytes n o.kept o.cut) offset a.0 in
      let same = one_sheet_part bytes fits q.0 c.0.kept o.kept None o.cut c.0.stands stands in
      let rest = matched os sheets views others a.1 c.1 in
      record {
        fine = ((sym same.1, subst (λ (k : List Kept). first_of (map_with_earlier (kept_fault rules s.cells) [] k) ≡ None) same.0 c.0.faultless), rest.fine);
        are = (head, subst (λ (k : List Kept). IsContent s k v) same.0 c.0.content, rest.are);
      }

-- ---- the whole

same_settings : (p q : XlsEncoding) (v w : Biff) (c d : List CellFormat) (ss ts : List (List ℕ)) (x y : Bool) (n m : Context)
    → p ≡ q → v ≡ w → c ≡ d → ss ≡ ts → x ≡ y → n ≡ m
    → ◌≡◌ {A = Settings} (record {
      cells = record { page = p; version = v; classes = c; strings = ss; is_1904 = x };
      formulas = n;
    }) (record {
      cells = record { page = q; version = w; classes = d; strings = ts; is_1904 = y };
      formulas = m;
    })
same_settings p q v w c d ss ts x y n m e f g h i j = rw (e, f, g, h, i, j) refl

-- what the code reads the sheets under is what the items give
pub settings_are : (rules : Rules) (items : List Item) (t : State) (classes : List CellFormat) (context : Context)
    → IsState rules items t → classes ≡ map (class_in (classed t.codes)) t.identifiers
    → context ≡ context_of rules (map entry_of items)
    → ◌≡◌ {A = Settings} (record {
      cells = record { page = t.page; version = t.version; classes = classes; strings = t.strings; is_1904 = t.is_1904 };
      formulas = context;
    }) (settings_of rules (map entry_of items))
settings_are rules items t classes context h e c =
    let es = map entry_of items in
    same_settings t.page (page_in rules es) t.version (version_in rules es) classes (classes_in rules es) t.strings (texts_in rules es) t.is_1904 (is_1904_in rules es) context (context_of rules es) h.page h.version
    (e ∙ ap (λ (fs : List (ℕ × List ℕ)). map (class_in (classed fs)) t.identifiers) h.codes
    ∙ ap (map (class_in (formats_in rules es))) h.identifiers)
    h.strings h.is_1904 c

module _ (rules : Rules) (stream : List ℕ) (fits : IsBytes stream) (t : State) (a : AreGlobals rules stream t) where
  -- what the sheets are read under
  abbrev pub settings : Settings
  settings = settings_of rules (map entry_of a.items)

  pub stands : AllByRecursion (λ (o : OpenedSheet). IsSheetPart stream o.offset o.kept o.cut) (opened_of rules a.items)
  stands = all_opened rules settings stream fits (filter is_globals_type a.holds.groups) a.items [] a.holds.items_are

  pub opened_so : (views : List SheetView) (book : BookView) → forced_fault rules.force_codepage ≡ None
      → AreContents rules settings stream t.sheets views
      → book.sheets ≡ map (λ (q : ℕ × SheetContent). q.1) t.sheets
      → book.contents ≡ views_listed (paired (map (λ (q : ℕ × SheetContent). q.1) t.sheets) views) (map (λ (q : ℕ × SheetContent). q.1) t.sheets)
      → book.is_1904 ≡ settings.cells.is_1904 → book.classes ≡ settings.cells.classes
      → book.names ≡ settings.formulas.names
      → IsStreamOpened rules stream book × (length views ≡ length (map (λ (q : ℕ × SheetContent). q.1) t.sheets))
  opened_so views book forced c sheets contents date classes names =
      let heads_of = map (λ (q : ℕ × SheetContent). q.1) t.sheets in
      let m = matched rules settings stream fits (opened_of rules a.items) t.sheets views (sym a.state.sheets) stands c in
      let g = good rules settings.cells a.items [] a.faultless m.fine in
      let full = carries_full stream rules a.items forced a.holds a.faultless m.fine in
      let are : AreSheets settings heads_of views (sheets_of rules (map entry_of a.items)) =
      subst (AreSheets settings heads_of views) (sym g.sheets) m.are in (
        record {
          entries = map entry_of a.items;
          carries = full.0;
          full = full.1;
          reading = record {
            sheets = sheets ∙ heads settings heads_of views (sheets_of rules (map entry_of a.items)) are;
            names = names;
            contents = subst (λ (x : List SheetView). AllZip (IsDisplayed settings (sheets_of rules (map entry_of a.items))) x (sheets_of rules (map entry_of a.items))) (sym contents)
                (all_displayed settings heads_of views (sheets_of rules (map entry_of a.items)) are);
            date_system = date;
            classes = classes;
          };
          are_bytes = fits;
        },
        same_length settings heads_of views (sheets_of rules (map entry_of a.items)) are,
      )

  pub opened_under : (s : Settings) (sheets : Sheets) (heads_of : List SheetContent) (views : List SheetView) (is_1904 : Bool) (classes : List CellFormat) (reported : List (List ℕ × List ℕ))
      → s ≡ settings → sheets ≡ t.sheets → heads_of ≡ map (λ (q : ℕ × SheetContent). q.1) sheets
      → forced_fault rules.force_codepage ≡ None → AreContents rules s stream sheets views
      → is_1904 ≡ s.cells.is_1904 → classes ≡ s.cells.classes → reported ≡ s.formulas.names
      → IsStreamOpened rules stream (record {
        sheets = heads_of;
        names = reported;
        contents = views_listed (paired heads_of views) heads_of;
        is_1904 = is_1904;
        classes = classes;
      }) × (length views ≡ length heads_of)
  opened_under s sheets heads_of views is_1904 classes reported same listed named forced c date formats reported_is =
      let names : heads_of ≡ map (λ (q : ℕ × SheetContent). q.1) t.sheets =
      named ∙ ap (map (λ (q : ℕ × SheetContent). q.1)) listed in
      let o = opened_so views (record {
        sheets = heads_of;
        names = reported;
        contents = views_listed (paired heads_of views) heads_of;
        is_1904 = is_1904;
        classes = classes;
      }) forced
      (subst (λ (x : Sheets). AreContents rules settings stream x views) listed (subst (λ (x : Settings). AreContents rules x stream sheets views) same c))
      names (ap (λ (x : List SheetContent). views_listed (paired x views) x) names)
      (date ∙ ap (λ (x : Settings). x.cells.is_1904) same) (formats ∙ ap (λ (x : Settings). x.cells.classes) same)
      (reported_is ∙ ap (λ (x : Settings). x.formulas.names) same) in
      (o.0, o.1 ∙ ap length (sym names))
