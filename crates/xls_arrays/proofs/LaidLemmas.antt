-- Things that are laid one after another.
use Rattle.std.proofs.Common.{◌≡◌, ℕ, ◌+◌, ◌-◌, ◌*◌, List, [], ◌∷◌, length, refl, sym, ap, subst, ◌∙◌, arith, add-zero, Option, Some, None}
use Rattle.std.proofs.lemmas.List.{length_push}
use Rattle.std.specs.Prelude.{encode_utf8_all}
use Rattle.xls_data.specs.Sheets.{SheetContent}
use Rattle.xls_biff.specs.Cells.{CellEntry}
use Rattle.xls_meaning.specs.SheetTable.{FormulaEntry}
use Rattle.xls_meaning.specs.Reading.{SheetView}
use Rattle.xls_arrays.specs.Values.{cell_item, form_in, content_kind, content_text, value_in}
use Rattle.xls_arrays.specs.Arrays.{Arrays, Reported, formula_item, laid, next_span, sheet_item, with_cell_laid, with_cell_item, with_content, with_formula, with_formula_item, with_name, with_name_item, with_region, with_sheet, with_sheet_item, with_text}
use Rattle.xls_arrays.specs.Displayed.{content_in, item_between, no_content}
use Rattle.xls_arrays.specs.Filled.{RoomsHold, KeepsRooms, Lays, LaysText}
use Rattle.xls_arrays.specs.declared.items.Span.{Span}
use Rattle.xls_arrays.specs.declared.items.SheetItem.{SheetItem}
use Rattle.xls_arrays.specs.declared.items.CellItem.{CellItem}
use Rattle.xls_arrays.specs.declared.rooms.Rooms.{Rooms}

-- the same arrays
pub keeps-refl : (r : Rooms) → KeepsRooms r r
keeps-refl r =
    record {
      sheets = refl;
      names = refl;
      cells = refl;
      formulas = refl;
      regions = refl;
      texts = refl;
      epoch = refl;
      reserved = refl;
    }

pub keeps-trans : {r s t : Rooms} → KeepsRooms r s → KeepsRooms s t → KeepsRooms r t
keeps-trans a b =
    record {
      sheets = a.sheets ∙ b.sheets;
      names = a.names ∙ b.names;
      cells = a.cells ∙ b.cells;
      formulas = a.formulas ∙ b.formulas;
      regions = a.regions ∙ b.regions;
      texts = a.texts ∙ b.texts;
      epoch = a.epoch ∙ b.epoch;
      reserved = a.reserved ∙ b.reserved;
    }

-- after what was laid before, these things are to be laid in all, and those are left
pub record IsPartly {X : Type 0} (step : Arrays → X → Arrays) (all left : List X) (before now : Rooms) : Type 0 where
  pub same : KeepsRooms before now
  pub laid : (a : Arrays) → RoomsHold before a → (b : Arrays) × RoomsHold now b × (laid step b left ≡ laid step a all)

pub partly-first : {X : Type 0} (step : Arrays → X → Arrays) (all left : List X) (r : Rooms) → left ≡ all
    → IsPartly step all left r r
partly-first step all left r is =
    record { same = keeps-refl r; laid = λ a h. (a, h, ap (laid step a) is) }

pub partly-next : {X : Type 0} (step : Arrays → X → Arrays) {all left rest : List X} {x : X} {before now next : Rooms}
    → IsPartly step all left before now → left ≡ x ∷ rest → KeepsRooms now next → Lays now next (λ a. step a x)
    → IsPartly step all rest before next
unfolding laid
partly-next step {x = x} p is same lays =
    record {
      same = keeps-trans p.same same;
      laid = λ a h.
          let b = p.laid a h in
          (step b.0 x, lays b.0 b.1, sym (ap (laid step b.0) is) ∙ b.2);
    }

pub partly-all : {X : Type 0} (step : Arrays → X → Arrays) {all left : List X} {before now : Rooms}
    → IsPartly step all left before now → left ≡ [] → Lays before now (λ a. laid step a all)
unfolding laid
partly-all step {all = all} {now = now} p is =
    λ a h.
    let b = p.laid a h in
    let e : b.0 ≡ laid step a all = sym (ap (laid step b.0) is) ∙ b.2 in
    rw (← e) b.1

-- ---- how many

-- each thing adds so many to what is counted
pub laid-counts : {X : Type 0} (step : Arrays → X → Arrays) (count : Arrays → ℕ) (k : ℕ)
    → ((a : Arrays) (x : X) → count (step a x) ≡ count a + k) → (a : Arrays) (xs : List X)
    → count (laid step a xs) ≡ count a + k * length xs
unfolding laid
laid-counts step count k adds a [] = omega arith
laid-counts step count k adds a (x ∷ xs) =
    laid-counts step count k adds (step a x) xs ∙ rw (adds a x) (omega arith)

-- ---- a thing with its text

-- the item of a cell whose text is there
abbrev pub item_by : CellEntry → Span → CellItem
item_by c span =
    record {
      row = c.0.0;
      column = c.0.1;
      kind = content_kind c.1;
      form = form_in c.1;
      value = value_in span.offset c.1;
      length = span.length;
    }

pub lays-cell : {r s t : Rooms} {text : List ℕ} {span : Span} (item : CellItem) (c : CellEntry) → LaysText r s text span → text ≡ content_text c.1
    → item ≡ item_by c span → Lays s t (λ a. with_cell_item a item) → Lays r t (λ a. with_cell_laid a c)
lays-cell {t = t} {text = text} item c lays is built then =
    λ a h.
    let laid = lays a h in
    let all : with_cell_item (with_text a text) item ≡ with_cell_laid a c =
    ap (with_cell_item (with_text a text)) (built ∙ ap (item_by c) (laid.1 ∙ ap (next_span a) is))
    ∙ ap (λ bytes. with_cell_item (with_text a bytes) (cell_item (length a.texts) c)) is in
    subst (RoomsHold t) all (then _ laid.0)

pub lays-formula : {r s t : Rooms} {text : List ℕ} {span : Span} (f : FormulaEntry) → LaysText r s text span → text ≡ encode_utf8_all f.1
    → Lays s t (λ a. with_formula_item a (formula_item span f)) → Lays r t (λ a. with_formula a f)
lays-formula {t = t} {text = text} {span = span} f lays is then =
    λ a h.
    let laid = lays a h in
    let all : with_formula_item (with_text a text) (formula_item span f) ≡ with_formula a f =
    ap (λ at. with_formula_item (with_text a text) (formula_item at f)) (laid.1 ∙ ap (next_span a) is)
    ∙ ap (λ bytes. with_formula_item (with_text a bytes) (formula_item (next_span a (encode_utf8_all f.1)) f)) is in
    subst (RoomsHold t) all (then _ laid.0)

pub lays-name : {r s t u : Rooms} {name text : List ℕ} {first second : Span} (n : List ℕ × List ℕ)
    → LaysText r s name first → LaysText s t text second → name ≡ encode_utf8_all n.0 → text ≡ encode_utf8_all n.1
    → Lays t u (λ a. with_name_item a (record { name = first; formula = second })) → Lays r u (λ a. with_name a n)
lays-name {u = u} {name = name} {text = text} {first = first} {second = second} n lays_name lays_text name_is text_is then =
    λ a h.
    let one = lays_name a h in
    let two = lays_text _ one.0 in
    let spans : with_name_item (with_text (with_text a name) text) (record { name = first; formula = second })
    ≡ with_name_item (with_text (with_text a name) text)
    (record { name = next_span a name; formula = next_span (with_text a name) text }) =
    ap (λ at. with_name_item (with_text (with_text a name) text) (record { name = at; formula = second })) one.1
    ∙ ap (λ at. with_name_item (with_text (with_text a name) text) (record { name = next_span a name; formula = at })) two.1 in
    let texts : with_name_item (with_text (with_text a name) text)
    (record { name = next_span a name; formula = next_span (with_text a name) text }) ≡ with_name a n =
    ap (λ bytes. with_name_item (with_text (with_text a bytes) text)
    (record { name = next_span a bytes; formula = next_span (with_text a bytes) text })) name_is
    ∙ ap (λ bytes. with_name_item (with_text (with_text a (encode_utf8_all n.0)) bytes)
    (record { name = next_span a (encode_utf8_all n.0); formula = next_span (with_text a (encode_utf8_all n.0)) bytes })) text_is in
    subst (RoomsHold u) (spans ∙ texts) (then _ two.0)

-- ---- a sheet

module _ (a : Arrays) (v : SheetView) where
  content_cells : length (with_content a v).cells ≡ length a.cells + length v.cells
  content_cells =
      let cells = laid with_cell_laid a v.cells in
      let formulas = laid with_formula cells v.formulas in
      laid-counts with_region (λ b. length b.cells) 0 (λ b x. sym (add-zero _)) formulas v.merges
      ∙ ap (λ n. n + 0 * length v.merges) (laid-counts with_formula (λ b. length b.cells) 0 (λ b x. sym (add-zero _)) cells v.formulas)
      ∙ ap (λ n. n + 0 * length v.formulas + 0 * length v.merges) (laid-counts with_cell_laid (λ b. length b.cells) 1 (λ b x. length_push b.cells _) a v.cells)
      ∙ omega arith

  content_formulas : length (with_content a v).formulas ≡ length a.formulas + length v.formulas
  content_formulas =
      let cells = laid with_cell_laid a v.cells in
      let formulas = laid with_formula cells v.formulas in
      laid-counts with_region (λ b. length b.formulas) 0 (λ b x. sym (add-zero _)) formulas v.merges
      ∙ ap (λ n. n + 0 * length v.merges) (laid-counts with_formula (λ b. length b.formulas) 1 (λ b x. length_push b.formulas _) cells v.formulas)
      ∙ ap (λ n. n + 1 * length v.formulas + 0 * length v.merges) (laid-counts with_cell_laid (λ b. length b.formulas) 0 (λ b x. sym (add-zero _)) a v.cells)
      ∙ omega arith

  content_regions : length (with_content a v).regions ≡ length a.regions + length v.merges
  content_regions =
      let cells = laid with_cell_laid a v.cells in
      let formulas = laid with_formula cells v.formulas in
      laid-counts with_region (λ b. length b.regions) 1 (λ b x. length_push b.regions _) formulas v.merges
      ∙ ap (λ n. n + 1 * length v.merges) (laid-counts with_formula (λ b. length b.regions) 0 (λ b x. sym (add-zero _)) cells v.formulas)
      ∙ ap (λ n. n + 0 * length v.formulas + 1 * length v.merges) (laid-counts with_cell_laid (λ b. length b.regions) 0 (λ b x. sym (add-zero _)) a v.cells)
      ∙ omega arith

-- a sheet without content adds none
pub lays-none : (r : Rooms) → Lays r r (λ a. with_content a no_content)
unfolding laid
lays-none r = λ a h. h

-- nor does what isn't there
pub lays-missing : (o : Option SheetView) (r : Rooms) → None ≡ o → Lays r r (λ a. with_content a (content_in o))
lays-missing None r e = lays-none r
lays-missing (Some v) r e = absurd (let none : None ≡ Some v = e in cc)

-- the counts after its content less those before it are its own
item_is : (a : Arrays) (s : SheetContent) (v : SheetView) (name : Span) (r t : Rooms) (b : Arrays) → RoomsHold r a → RoomsHold t (with_content b v)
    → length b.cells ≡ length a.cells → length b.formulas ≡ length a.formulas → length b.regions ≡ length a.regions
    → item_between s name r.laid t.laid ≡ sheet_item a name s v
item_is a s v name r t b before after cells formulas regions =
    let c : t.laid.cells - r.laid.cells ≡ length v.cells =
    omega (arith, before.cells.count, after.cells.count, content_cells b v, cells) in
    let f : t.laid.formulas - r.laid.formulas ≡ length v.formulas =
    omega (arith, before.formulas.count, after.formulas.count, content_formulas b v, formulas) in
    let g : t.laid.regions - r.laid.regions ≡ length v.merges =
    omega (arith, before.regions.count, after.regions.count, content_regions b v, regions) in
    rw (c, f, g, before.cells.count, before.formulas.count, before.regions.count) refl

pub lays-sheet : {r s t u : Rooms} {name : List ℕ} {span : Span} (item : SheetItem) (c : SheetContent) (v : SheetView)
    → LaysText r s name span → name ≡ encode_utf8_all c.name → Lays s t (λ a. with_content a v)
    → item ≡ item_between c span r.laid t.laid → Lays t u (λ a. with_sheet_item a item) → Lays r u (λ a. with_sheet a (c, v))
lays-sheet {r} {s} {t} {u} {name} {span} item c v lays is content built then =
    λ a h.
    let text = lays a h in
    let filled = content _ text.0 in
    let itself : item ≡ sheet_item a (next_span a (encode_utf8_all c.name)) c v =
    built ∙ item_is a c v span r t (with_text a name) h filled refl refl refl
    ∙ ap (λ at. sheet_item a at c v) (text.1 ∙ ap (next_span a) is) in
    let all : with_sheet_item (with_content (with_text a name) v) item ≡ with_sheet a (c, v) =
    ap (with_sheet_item (with_content (with_text a name) v)) itself
    ∙ ap (λ bytes. with_sheet_item (with_content (with_text a bytes) v)
    (sheet_item a (next_span a (encode_utf8_all c.name)) c v)) is in
    subst (RoomsHold u) all (then _ filled)

-- one sheet alone
pub lays-alone : {r s : Rooms} (t : Reported) → Lays r s (λ a. with_sheet a t) → Lays r s (λ a. laid with_sheet a (t ∷ []))
unfolding laid
lays-alone t lays = lays
