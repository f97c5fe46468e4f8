-- What a view of a stream without a fault shows, and its first fault otherwise.
use Rattle.std.proofs.Common.{◌≡◌, ℕ, ◌≤◌, List, [], ◌∷◌, map, length, drop, refl, sym, ap, subst, ◌∙◌, arith, Bool, true, false, Option, Some, None, Err}
use Rattle.std.specs.Prelude.{◌==◌, if◌then◌else◌, unwrap_or, slice_get}
use Rattle.std.specs.Borrow.{Bor}
use Rattle.std.proofs.lemmas.List.{length-map}
use Rattle.std.proofs.lemmas.Option.{slice_get-map}
use Rattle.std.specs.Option.{option_or, option_map}
use Rattle.std.specs.List.{flat_map, AllByRecursion, AllZip}
use Rattle.std.specs.Cmp.Lexicographic.{pointwise}
use Rattle.xls_stream.specs.Walks.{IsBytes}
use Rattle.xls_stream.specs.Listing.{Kept, Item, ListEntry, Holds, entry_of, IsSheetPart}
use Rattle.xls_stream.specs.declared.part.Part.{Part}
use Rattle.xls_stream.proofs.HoldingLemmas.{one_list}
use Rattle.xls_data.specs.Sheets.{SheetContent}
use Rattle.xls_record.specs.declared.error.XlsError.{XlsError}
use Rattle.xls_record.specs.declared.error.XlsError.TheVariants as errors
use Rattle.xls_biff.specs.SheetTable.{CellContext}
use Rattle.xls_meaning.specs.Order.{map_with_earlier, first_of}
use Rattle.xls_meaning.specs.GlobalsTable.{forced_fault}
use Rattle.xls_meaning.specs.Settings.{Settings, SheetRecords, sheets_of, context_of, cells_of, codes_in, identifiers_in, settings_of}
use Rattle.xls_meaning.specs.Reading.{SheetView, IsReading, paired, last_named, kept_named, displayed_of}
use Rattle.xls_meaning.specs.Faults.{kept_fault, cut_fault, sheet_places, globals_places, places, FirstAfter}
use Rattle.xls_meaning.specs.Held.{OpenedSheet, opened_of, no_view}
use Rattle.xls_meaning.proofs.NamedLemmas.{named_some, named_displayed}
use Rattle.xls_meaning.specs.Rules.{Rules}
use Rattle.xls_meaning.proofs.OrderLemmas.{none_both, first_early}
use Rattle.xls_meaning.proofs.HeldLemmas.{IsFine, sheet_view, good, opened_places, after_globals, carries_full}
use Rattle.xls_meaning.proofs.LawLemmas.{one_first_fault}
use Rattle.xls_open.specs.Checking.{checked}
use Rattle.xls_open.specs.Globals.{State, AreGlobals, ReadsGlobals, pair_of, Sheets}
use Rattle.xls_open.specs.Steps.{AreContents}
use Rattle.xls_open.specs.Workbook.{rules_of, rules_under}
use Rattle.xls_open.specs.declared.options.XlsOptions.{XlsOptions}
use Rattle.xls_formula.specs.declared.numbers.NumberStyle.{NumberStyle}
use Rattle.xls_open.proofs.AlikeLemmas.{places_same, checked_alike}
use Rattle.xls_open.proofs.OpenLemmas.{stands, opened_under}
use Rattle.xls_range.specs.Positions.{Position}
use Rattle.xls_view.specs.Formats.{FormattedCell, formatted_after, no_formula}
use Rattle.xls_view.specs.SheetContents.{IsReadable, content_by, formatted_at, formulas_at, kept_at, settled}
use Rattle.xls_view.specs.Contents.{AreReadable, by_name, viewed}
use Rattle.xls_view.specs.Formulas.{AreLast, Formula, formulas_kept}
use Rattle.xls_view.specs.Viewing.{IsViewFault, IsViewed, ShowsFormatted, ShowsFormulas, ViewCause, Viewed, formatted_named, formulas_named}
use Rattle.xls_view.specs.Placing.{IsPartOf}
use Rattle.xls_view.proofs.WalkLemmas.{sheet_kept, drop_bytes}
use Rattle.xls_view.proofs.SettledLemmas.{ascending_settled, last_settled}
use Rattle.xls_view.proofs.MeaningLemmas.{are_readable, is_content}

-- ---- by name

named_map : {X Y : Type 0} (f : X → Y) (qs : List (SheetContent × X)) (name : List ℕ)
    → last_named (map (λ (q : SheetContent × X). (q.0, f q.1)) qs) name ≡ option_map f (last_named qs name)
named_map f [] name = refl
named_map {X} {Y} f (q ∷ qs) name =
    ap (λ (o : Option Y). option_or o (if pointwise ◌==◌ q.0.name name then Some (f q.1) else None)) (named_map f qs name)
    ∙ both (last_named qs name) (pointwise ◌==◌ q.0.name name)
  where
    both : (o : Option X) (b : Bool) → option_or (option_map f o) (if b then Some (f q.1) else None) ≡ option_map f (option_or o (if b then Some q.1 else None))
    both (Some x) b = refl
    both None true = refl
    both None false = refl

are_last : {X : Type 0} (values : List (Position × X)) → AreLast values (settled values)
are_last values = record { ascending = ascending_settled values; last = λ p. last_settled values p }

-- ---- the sheets

abbrev heads_of : List OpenedSheet → List SheetContent
heads_of os = map (λ (q : ℕ × SheetContent). q.1) (map pair_of os)

abbrev offsets_of : List OpenedSheet → List ℕ
offsets_of os = map (λ (q : ℕ × SheetContent). q.0) (map pair_of os)

module _ (bytes : List ℕ) (fits : IsBytes bytes) where
  abbrev Stands : OpenedSheet → Type 0
  Stands o = IsSheetPart bytes o.offset o.kept o.cut

  pub contents_are : (rules : Rules) (s : Settings) (os : List OpenedSheet) → AllByRecursion Stands os → AllByRecursion (IsFine rules s.cells) os
      → AreContents rules s bytes (map pair_of os) (map (λ (offset : ℕ). content_by s (kept_at bytes offset)) (offsets_of os))
  contents_are rules s [] st fine = tt
  contents_are rules s (o ∷ os) st fine = (
    record {
      kept = o.kept;
      stands = subst (IsSheetPart bytes o.offset o.kept) fine.0.0 st.0;
      faultless = fine.0.1;
      content = rw (sheet_kept bytes o.offset o.kept o.cut fits st.0) (is_content s o.kept);
    },
    contents_are rules s os st.1 fine.1,
  )

  pub all_readable : (rules : Rules) (s : CellContext) (os : List OpenedSheet) → AllByRecursion Stands os → AllByRecursion (IsFine rules s) os
      → AreReadable s bytes (offsets_of os)
  all_readable rules s [] st fine = tt
  all_readable rules s (o ∷ os) st fine = (
    rw (sheet_kept bytes o.offset o.kept o.cut fits st.0) (are_readable rules s [] o.kept fine.0.1),
    all_readable rules s os st.1 fine.1,
  )

  -- values of the kept records of each sheet
  module _ {X : Type 0} (given : List Kept → List (Position × X)) (none : given [] ≡ []) where
    abbrev values_at : ℕ → List (Position × X)
    values_at offset = settled (given (kept_at bytes offset))

    values_paired : (os : List OpenedSheet) → AllByRecursion Stands os
        → paired (heads_of os) (map values_at (offsets_of os)) ≡ map (λ (q : SheetRecords). (q.0, settled (given q.1))) (map sheet_view os)
    values_paired [] st = refl
    values_paired (o ∷ os) st =
        ap (λ (k : List Kept). (o.head, settled (given k)) ∷ paired (heads_of os) (map values_at (offsets_of os))) (sheet_kept bytes o.offset o.kept o.cut fits st.0)
        ∙ ap (λ (l : List (SheetContent × List (Position × X))). (o.head, settled (given o.kept)) ∷ l) (values_paired os st.1)

    named_values : (o : Option (List Kept)) → unwrap_or (option_map (λ (kept : List Kept). settled (given kept)) o) [] ≡ settled (given (unwrap_or o []))
    named_values None = sym (ap settled none)
    named_values (Some kept) = refl

    -- what each index shows of these by name
    all_values : (all : List (SheetContent × List (Position × X))) (sheets : List SheetRecords) (os : List OpenedSheet)
        → all ≡ map (λ (q : SheetRecords). (q.0, settled (given q.1))) sheets
        → AllZip (λ (values : List (Position × X)) (q : SheetRecords). AreLast (given (kept_named sheets q.0.name)) values)
        (map (λ (h : SheetContent). unwrap_or (last_named all h.name) []) (heads_of os)) (map sheet_view os)
    all_values all sheets [] e = tt
    all_values all sheets (o ∷ os) e = (
      rw (e, named_map (λ (kept : List Kept). settled (given kept)) sheets o.head.name, named_values (last_named sheets o.head.name)) (are_last (given (kept_named sheets o.head.name))),
      all_values all sheets os e,
    )

    values_displayed : (os : List OpenedSheet) → AllByRecursion Stands os
        → AllZip (λ (values : List (Position × X)) (q : SheetRecords). AreLast (given (kept_named (map sheet_view os) q.0.name)) values)
        (by_name [] (heads_of os) (map values_at (offsets_of os))) (map sheet_view os)
    values_displayed os st = all_values (paired (heads_of os) (map values_at (offsets_of os))) (map sheet_view os) os (values_paired os st)

  pub tokens_displayed : (os : List OpenedSheet) → AllByRecursion Stands os
      → AllZip (ShowsFormulas (map sheet_view os)) (by_name [] (heads_of os) (map (formulas_at bytes) (offsets_of os))) (map sheet_view os)
  tokens_displayed os st = values_displayed formulas_kept refl os st

  pub cells_displayed : (s : Settings) (os : List OpenedSheet) → AllByRecursion Stands os
      → AllZip (ShowsFormatted s (map sheet_view os)) (by_name [] (heads_of os) (map (formatted_at s bytes) (offsets_of os))) (map sheet_view os)
  cells_displayed s os st = values_displayed (formatted_after s no_formula) refl os st

-- ---- the whole

-- the globals don't hang on the style of doubles
pub globals_alike : (style : NumberStyle) (options : XlsOptions) (bytes : List ℕ) (t : State)
    → AreGlobals (rules_of options) bytes t → AreGlobals (rules_under style options) bytes t
globals_alike style options bytes t a = record {
  items = a.items;
  holds = a.holds;
  faultless = a.faultless;
  state = record {
    page = a.state.page;
    version = a.state.version;
    is_1904 = a.state.is_1904;
    codes = a.state.codes;
    identifiers = a.state.identifiers;
    strings = a.state.strings;
    refs = a.state.refs;
    names = a.state.names;
    sheets = a.state.sheets;
  };
}

module _ (rules : Rules) (bytes : List ℕ) (fits : IsBytes bytes) where
  -- the same rules, with room for all bytes
  abbrev wide : Rules
  wide = record rules { max_bytes = length bytes }

  pub one_fault : (e f : XlsError) → IsViewFault rules bytes e → IsViewFault rules bytes f → e ≡ f
  one_fault e f a b =
      let within : length bytes ≤ wide.max_bytes = omega arith in
      one_first_fault wide bytes fits e f ((checked_alike wide bytes within e).1 a) ((checked_alike wide bytes within f).1 b)

  fault_cause : (e : XlsError) → IsViewFault rules bytes e → ViewCause rules bytes e
  fault_cause errors.Memory h = tt
  fault_cause e h = h

  module _ (forced : forced_fault rules.force_codepage ≡ None) where
    placed_fault : (items : List Item) (cut : Option Part) (e : XlsError) → Holds bytes items cut → first_of (places rules items cut) ≡ Some e → IsViewFault rules bytes e
    placed_fault items cut e holds first =
        subst (λ (o : Option XlsError). FirstAfter o (checked rules.force_codepage rules.max_cells) bytes e) (sym forced)
        (items, cut, holds, ap first_of (sym (places_same rules items cut)) ∙ first)

    pub globals_cause : (e : XlsError) → ReadsGlobals rules bytes (Err e) → ViewCause rules bytes e
    globals_cause errors.Memory r = tt
    globals_cause e r =
        fault_cause e (placed_fault r.0 r.1 e r.2 (first_early (globals_places rules r.0 r.1) (flat_map (sheet_places rules (cells_of rules (map entry_of r.0))) r.0) e r.3))

    -- ---- without a fault

    module _ (sound : (e : XlsError) → IsViewFault rules bytes e → ⊥) (t : State) (a : AreGlobals rules bytes t) where
      abbrev entries : List ListEntry
      entries = map entry_of a.items

      abbrev settings : Settings
      settings = settings_of rules entries

      abbrev opened : List OpenedSheet
      opened = opened_of rules a.items

      no_fault : (o : Option XlsError) → first_of (places rules a.items None) ≡ o → o ≡ None
      no_fault None h = refl
      no_fault (Some e) h = absurd (sound e (placed_fault a.items None e a.holds h))

      cut_none : (cut : Option Part) → first_of (cut_fault cut ∷ []) ≡ None → cut ≡ None
      cut_none None h = refl
      cut_none (Some p) h = absurd cc

      fine_from : (os : List OpenedSheet) → first_of (flat_map (opened_places rules settings.cells) os) ≡ None → AllByRecursion (IsFine rules settings.cells) os
      fine_from [] h = tt
      fine_from (o ∷ os) h =
          let both = none_both (opened_places rules settings.cells o) (flat_map (opened_places rules settings.cells) os) h in
          let here = none_both (map_with_earlier (kept_fault rules settings.cells) [] o.kept) (cut_fault o.cut ∷ []) both.0 in
          ((cut_none o.cut here.1, here.0), fine_from os both.1)

      fine : AllByRecursion (IsFine rules settings.cells) opened
      fine = fine_from opened (sym (after_globals rules a.items a.faultless) ∙ no_fault (first_of (places rules a.items None)) refl)

      parts : AllByRecursion (λ (o : OpenedSheet). IsSheetPart bytes o.offset o.kept o.cut) opened
      parts = stands rules bytes fits t a

      -- the records of all parts can be read
      pub readable_under : (s : Settings) (offsets : List ℕ) → s ≡ settings → offsets ≡ map (λ (q : ℕ × SheetContent). q.0) t.sheets
          → AreReadable s.cells bytes offsets
      readable_under s offsets same at =
          subst (λ (x : Settings). AreReadable x.cells bytes offsets) (sym same)
          (subst (AreReadable settings.cells bytes) (sym (at ∙ ap (map (λ (q : ℕ × SheetContent). q.0)) a.state.sheets)) (all_readable bytes fits rules settings.cells opened parts fine))

      contents : AreContents rules settings bytes t.sheets (map (λ (offset : ℕ). content_by settings (kept_at bytes offset)) (offsets_of opened))
      contents = subst (λ (l : Sheets). AreContents rules settings bytes l (map (λ (offset : ℕ). content_by settings (kept_at bytes offset)) (offsets_of opened)))
          (sym a.state.sheets) (contents_are bytes fits rules settings opened parts fine)

      -- the view shows the reading of every list
      pub viewed_under : (s : Settings) (heads : List SheetContent) (offsets : List ℕ) (reported : List (List ℕ × List ℕ))
          (identifiers : List ℕ) (codes : List (ℕ × List ℕ)) → s ≡ settings → heads ≡ map (λ (q : ℕ × SheetContent). q.1) t.sheets → offsets ≡ map (λ (q : ℕ × SheetContent). q.0) t.sheets
          → reported ≡ s.formulas.names → identifiers ≡ t.identifiers → codes ≡ t.codes
          → IsViewed rules bytes (viewed bytes s heads offsets reported identifiers codes)
      viewed_under s heads offsets reported identifiers codes same named at reported_is identified coded =
          let at_opened : offsets ≡ offsets_of opened = at ∙ ap (map (λ (q : ℕ × SheetContent). q.0)) a.state.sheets in
          let heads_opened : heads ≡ heads_of opened = named ∙ ap (map (λ (q : ℕ × SheetContent). q.1)) a.state.sheets in
          let read : AreContents rules s bytes t.sheets (map (λ (offset : ℕ). content_by s (kept_at bytes offset)) offsets) =
          subst (λ (x : Settings). AreContents rules x bytes t.sheets (map (λ (offset : ℕ). content_by x (kept_at bytes offset)) offsets)) (sym same)
          (subst (λ (l : List ℕ). AreContents rules settings bytes t.sheets (map (λ (offset : ℕ). content_by settings (kept_at bytes offset)) l)) (sym at_opened) contents) in
          let o = (opened_under rules bytes fits t a s t.sheets heads (map (λ (offset : ℕ). content_by s (kept_at bytes offset)) offsets) s.cells.is_1904 s.cells.classes reported same refl named forced read refl refl reported_is).0 in
          let view = viewed bytes s heads offsets reported identifiers codes in
          let g = good rules settings.cells a.items [] a.faultless fine in
          let carried = (carries_full bytes rules a.items forced a.holds a.faultless fine).0 in
          record {
            sound = sound;
            entries = o.entries;
            carries = o.carries;
            full = o.full;
            every = λ others c. subst (λ (l : List ListEntry). IsReading rules l view.book) (one_list bytes fits o.entries others o.carries c) o.reading;
            context = λ others c.
                ap (λ (x : Settings). x.formulas) same
                ∙ ap (context_of rules) (one_list bytes fits entries others carried c);
            formulas = λ others c.
                subst (λ (l : List ListEntry). AllZip (ShowsFormulas (sheets_of rules l)) view.formulas (sheets_of rules l)) (one_list bytes fits entries others carried c)
                (subst (λ (qs : List SheetRecords). AllZip (ShowsFormulas qs) view.formulas qs) (sym g.sheets)
                (subst (λ (hs : List SheetContent). AllZip (ShowsFormulas (map sheet_view opened)) (by_name [] hs (map (formulas_at bytes) offsets)) (map sheet_view opened)) (sym heads_opened)
                (subst (λ (l : List ℕ). AllZip (ShowsFormulas (map sheet_view opened)) (by_name [] (heads_of opened) (map (formulas_at bytes) l)) (map sheet_view opened)) (sym at_opened)
                (tokens_displayed bytes fits opened parts))));
            formatted = λ others c.
                subst (λ (l : List ListEntry). AllZip (ShowsFormatted (settings_of rules l) (sheets_of rules l)) view.formatted (sheets_of rules l)) (one_list bytes fits entries others carried c)
                (subst (λ (x : Settings). AllZip (ShowsFormatted x (sheets_of rules entries)) view.formatted (sheets_of rules entries)) same
                (subst (λ (qs : List SheetRecords). AllZip (ShowsFormatted s qs) view.formatted qs) (sym g.sheets)
                (subst (λ (hs : List SheetContent). AllZip (ShowsFormatted s (map sheet_view opened)) (by_name [] hs (map (formatted_at s bytes) offsets)) (map sheet_view opened)) (sym heads_opened)
                (subst (λ (l : List ℕ). AllZip (ShowsFormatted s (map sheet_view opened)) (by_name [] (heads_of opened) (map (formatted_at s bytes) l)) (map sheet_view opened)) (sym at_opened)
                (cells_displayed bytes fits s opened parts)))));
            identifiers = λ others c. identified ∙ a.state.identifiers ∙ ap (identifiers_in rules) (one_list bytes fits entries others carried c);
            codes = λ others c. coded ∙ a.state.codes ∙ ap (codes_in rules) (one_list bytes fits entries others carried c);
          }

-- ---- the part of a sheet

paired_map : {X Y : Type 0} (f : X → Y) (hs : List SheetContent) (xs : List X)
    → paired hs (map f xs) ≡ map (λ (q : SheetContent × X). (q.0, f q.1)) (paired hs xs)
paired_map f [] xs = refl
paired_map f (h ∷ hs) [] = refl
paired_map {X} {Y} f (h ∷ hs) (x ∷ xs) = ap (λ (l : List (SheetContent × Y)). (h, f x) ∷ l) (paired_map f hs xs)

-- what holds of all is of the last one of a name
all_named : {X : Type 0} (P : X → Type 0) (hs : List SheetContent) (xs : List X) (name : List ℕ) (x : X) → AllByRecursion P xs
    → last_named (paired hs xs) name ≡ Some x → P x
all_named P [] xs name x a e = absurd cc
all_named P (h ∷ hs) [] name x a e = absurd cc
all_named {X} P (h ∷ hs) (y ∷ xs) name x a e =
    by_cases (last_named (paired hs xs) name) refl (pointwise ◌==◌ h.name name) e (λ f. all_named P hs xs name x a.1 f)
  where
    by_cases : (o : Option X) → last_named (paired hs xs) name ≡ o → (b : Bool) → option_or o (if b then Some y else None) ≡ Some x
        → (last_named (paired hs xs) name ≡ Some x → P x) → P x
    by_cases (Some z) f b h k = k (f ∙ h)
    by_cases None f true h k = let same : y ≡ x = cc in subst P same a.0
    by_cases None f false h k = absurd cc

module _ (bytes : List ℕ) (s : Settings) (heads : List SheetContent) (offsets : List ℕ) (reported : List (List ℕ × List ℕ)) (identifiers : List ℕ)
    (codes : List (ℕ × List ℕ)) (many : length offsets ≡ length heads) where
  abbrev whole : Viewed
  whole = viewed bytes s heads offsets reported identifiers codes

  abbrev content_of : ℕ → SheetView
  content_of offset = content_by s (kept_at bytes offset)

  as_many : {X : Type 0} (f : ℕ → X) → length (map f offsets) ≡ length heads
  as_many f = length-map offsets f ∙ many

  displayed_named : (name : List ℕ) → displayed_of whole.book name ≡ option_map content_of (last_named (paired heads offsets) name)
  displayed_named name =
      named_displayed no_view heads (map content_of offsets) name (as_many content_of)
      ∙ ap (λ (l : List (SheetContent × SheetView)). last_named l name) (paired_map content_of heads offsets)
      ∙ named_map content_of (paired heads offsets) name

  cells_named : (name : List ℕ) → formatted_named whole name ≡ option_map (formatted_at s bytes) (last_named (paired heads offsets) name)
  cells_named name =
      named_displayed [] heads (map (formatted_at s bytes) offsets) name (as_many (formatted_at s bytes))
      ∙ ap (λ (l : List (SheetContent × List FormattedCell)). last_named l name) (paired_map (formatted_at s bytes) heads offsets)
      ∙ named_map (formatted_at s bytes) (paired heads offsets) name

  tokens_named : (name : List ℕ) → formulas_named whole name ≡ option_map (formulas_at bytes) (last_named (paired heads offsets) name)
  tokens_named name =
      named_displayed [] heads (map (formulas_at bytes) offsets) name (as_many (formulas_at bytes))
      ∙ ap (λ (l : List (SheetContent × List Formula)). last_named l name) (paired_map (formulas_at bytes) heads offsets)
      ∙ named_map (formulas_at bytes) (paired heads offsets) name

  pub part_is : (name : List ℕ) (offset : ℕ) (part : Bor (List ℕ)) → IsBytes bytes → AreReadable s.cells bytes offsets
      → Some offset ≡ last_named (paired heads offsets) name → part.now ≡ drop offset bytes
      → IsPartOf whole (displayed_of whole.book name) (formulas_named whole name) (formatted_named whole name) (Some part)
  part_is name offset part fits readable found at = (
    rw at (drop_bytes bytes offset fits, all_named (λ (o : ℕ). AllByRecursion (IsReadable s.cells) (kept_at bytes o)) heads offsets name offset readable (sym found)),
    rw at (displayed_named name ∙ ap (option_map content_of) (sym found)),
    rw at (tokens_named name ∙ ap (option_map (formulas_at bytes)) (sym found)),
    rw at (cells_named name ∙ ap (option_map (formatted_at s bytes)) (sym found)),
  )

  pub no_part : (name : List ℕ) → None ≡ last_named (paired heads offsets) name
      → IsPartOf whole (displayed_of whole.book name) (formulas_named whole name) (formatted_named whole name) None
  no_part name found = (
    displayed_named name ∙ ap (option_map content_of) (sym found),
    tokens_named name ∙ ap (option_map (formulas_at bytes)) (sym found),
    cells_named name ∙ ap (option_map (formatted_at s bytes)) (sym found),
  )

  -- at an index

  at_index : {X : Type 0} (d : X) (xs : List X) (n : ℕ) (t : SheetContent) → length xs ≡ length heads → slice_get heads n ≡ Some t
      → slice_get (by_name d heads xs) n ≡ last_named (paired heads (by_name d heads xs)) t.name
  at_index {X} d xs n t len at =
      slice_get-map (λ (h : SheetContent). unwrap_or (last_named (paired heads xs) h.name) d) heads n
      ∙ ap (option_map (λ (h : SheetContent). unwrap_or (last_named (paired heads xs) h.name) d)) at
      ∙ sym (named_some d heads xs n t len at)
      ∙ sym (named_displayed d heads xs t.name len)

  pub part_at_index : (n : ℕ) (t : SheetContent) (r : Option (Bor (List ℕ))) → slice_get heads n ≡ Some t
      → IsPartOf whole (displayed_of whole.book t.name) (formulas_named whole t.name) (formatted_named whole t.name) r
      → IsPartOf whole (slice_get whole.book.contents n) (slice_get whole.formulas n) (slice_get whole.formatted n) r
  part_at_index n t r at h =
      rw (
        at_index no_view (map content_of offsets) n t (as_many content_of) at,
        at_index [] (map (formulas_at bytes) offsets) n t (as_many (formulas_at bytes)) at,
        at_index [] (map (formatted_at s bytes) offsets) n t (as_many (formatted_at s bytes)) at,
      ) h

  pub no_part_at_index : (n : ℕ) → slice_get heads n ≡ None
      → IsPartOf whole (slice_get whole.book.contents n) (slice_get whole.formulas n) (slice_get whole.formatted n) None
  no_part_at_index n at = (
    slice_get-map (λ (h : SheetContent). unwrap_or (last_named (paired heads (map content_of offsets)) h.name) no_view) heads n
        ∙ ap (option_map (λ (h : SheetContent). unwrap_or (last_named (paired heads (map content_of offsets)) h.name) no_view)) at,
    slice_get-map (λ (h : SheetContent). unwrap_or (last_named (paired heads (map (formulas_at bytes) offsets)) h.name) []) heads n
        ∙ ap (option_map (λ (h : SheetContent). unwrap_or (last_named (paired heads (map (formulas_at bytes) offsets)) h.name) [])) at,
    slice_get-map (λ (h : SheetContent). unwrap_or (last_named (paired heads (map (formatted_at s bytes) offsets)) h.name) []) heads n
        ∙ ap (option_map (λ (h : SheetContent). unwrap_or (last_named (paired heads (map (formatted_at s bytes) offsets)) h.name) [])) at,
  )
