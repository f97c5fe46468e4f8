-- The table of a sheet's records, line by line.
use Rattle.std.proofs.Common.{◌≡◌, ◌≢◌, ℕ, List, [], ◌∷◌, map, length, Bool, true, false, Option, rules, Result, Ok, Err, refl, sym, ap, subst, ◌∙◌}
use Rattle.std.specs.Prelude.{IsErrAnd, ◌==◌, if◌then◌else◌}
use Rattle.std.specs.List.{AllByRecursion}
use Rattle.std.proofs.lemmas.Bool.{eqb-true}
use Rattle.xls_stream.specs.Substreams.{is_among, sheet_types}
use Rattle.xls_stream.specs.declared.types.TheConstants as types
use Rattle.xls_record.specs.declared.error.XlsError.{XlsError}
use Rattle.xls_record.specs.declared.version.Biff.{Biff}
use Rattle.xls_record.specs.Reading.{gives}
use Rattle.xls_record.proofs.ReadingLemmas.{gives-ok}
use Rattle.xls_data.specs.Content.{Content}
use Rattle.xls_data.specs.declared.regions.Dimensions.{Dimensions}
use Rattle.xls_biff.specs.Cells.{CellEntry, Position}
use Rattle.xls_biff.specs.Lines.{line_of}
use Rattle.xls_biff.specs.Records.Rk.{mul_rk_at}
use Rattle.xls_biff.specs.declared.sheet_record.SheetRecord as read
use Rattle.xls_biff.specs.SheetTable.{CellContext, ReadsByType, SheetRecord, TableLine, empty_record, cell_record, cells_record, shared_record, string_record, formula_record, regions_record, other_line, empty_line, cell_line, cells_line, shared_line, string_line, formula_line, regions_line, read_on_line, sheet_table, sheet_record_at, weight_of, weight_of_type, other_weights}

infixr 4 ◌&◌
-- what a line has, and what those after it have
pub ◌&◌ : {A B : Type 0} → A → B → A × B
a & b = (a, b)

-- what all lines have, and a type that has none, each type has
pub every_type : {Line : Type 0} (other : Line) (P : ℕ → Line → Type 0) (lines : List (ℕ × Line)) (typ : ℕ)
    → (is_among typ (map (λ line. line.0) lines) ≡ false → P typ other)
    → AllByRecursion (λ line. P line.0 line.1) lines → P typ (line_of other lines typ)
every_type other P [] typ none all = none refl
every_type {Line} other P (line ∷ lines) typ none all =
    by_test (typ == line.0) refl (λ t. every_type other P lines typ (λ h. none (rw t h)) all.1)
  where
    by_test : (b : Bool) → (typ == line.0) ≡ b → ((typ == line.0) ≡ false → P typ (line_of other lines typ))
        → P typ (if b then line.1 else line_of other lines typ)
    by_test true t later = subst (λ (n : ℕ). P n line.1) (sym (eqb-true typ line.0 t)) all.0
    by_test false t later = later t

-- ---- kinds

-- Formulas alone give formulas, and MergeCells alone regions
abbrev IsOwn : ℕ → TableLine → Type 0
IsOwn typ (formula_line read) = typ ≡ types.FORMULA
IsOwn typ (regions_line read) = typ ≡ types.MERGE_CELLS
IsOwn typ _ = Unit {0}

pub each_own : (typ : ℕ) → IsOwn typ (line_of other_line sheet_table typ)
each_own typ = every_type other_line IsOwn sheet_table typ (λ h. tt) (search rules)

-- what a fault has and each kind of record, each type has
module _ (Q : Result SheetRecord XlsError → Type 0) (fault : (e : XlsError) → Q (Err e)) (empty : Q (Ok empty_record)) (cells : (cs : List CellEntry) → Q (Ok (cells_record cs))) (shared : (c : Option CellEntry) → Q (Ok (shared_record c))) (string : (cs : List ℕ) → Q (Ok (string_record cs))) where
  kind : {X : Type 0} (f : X → SheetRecord) (r : Result X XlsError) → ((x : X) → Q (Ok (f x))) → Q (gives f r)
  kind f (Ok x) h = h x
  kind f (Err e) h = fault e

  on_line : (typ : ℕ) (line : TableLine) → IsOwn typ line
      → (typ ≡ types.FORMULA → (at : Position) (value : Option Content) (tokens : List ℕ) → Q (Ok (formula_record at value tokens)))
      → (typ ≡ types.MERGE_CELLS → (rs : List Dimensions) → Q (Ok (regions_record rs)))
      → (settings : CellContext) (body : List ℕ) → Q (read_on_line line settings body)
  on_line typ other_line own formula regions settings body = empty
  on_line typ (empty_line read) own formula regions settings body = kind (λ u. empty_record) (read settings body) (λ u. empty)
  on_line typ (cell_line read) own formula regions settings body = kind cell_record (read settings body) (λ c. cells (c ∷ []))
  on_line typ (cells_line read) own formula regions settings body = kind cells_record (read settings body) cells
  on_line typ (shared_line read) own formula regions settings body = kind shared_record (read settings body) shared
  on_line typ (string_line read) own formula regions settings body = kind string_record (read settings body) string
  on_line typ (formula_line read) own formula regions settings body =
      kind (λ f. formula_record f.0 f.1 f.2) (read settings body) (λ f. formula own f.0 f.1 f.2)
  on_line typ (regions_line read) own formula regions settings body = kind regions_record (read settings body) (regions own)

  pub each_kind : (typ : ℕ)
      → (typ ≡ types.FORMULA → (at : Position) (value : Option Content) (tokens : List ℕ) → Q (Ok (formula_record at value tokens)))
      → (typ ≡ types.MERGE_CELLS → (rs : List Dimensions) → Q (Ok (regions_record rs)))
      → (settings : CellContext) (body : List ℕ) → Q (sheet_record_at settings typ body)
  each_kind typ = on_line typ (line_of other_line sheet_table typ) (each_own typ)

-- ---- weights

-- every record of a line that isn't a MulRk's weighs so much
abbrev weight_on : TableLine → ℕ
weight_on other_line = 0
weight_on (empty_line read) = 0
weight_on (cells_line read) = 0
weight_on (regions_line read) = 0
weight_on _ = 1

abbrev Weighs : ℕ → TableLine → Type 0
Weighs typ (cells_line read) = typ ≡ types.MUL_RK
Weighs typ line = weight_of_type typ ≡ weight_on line

weighs : {X : Type 0} (f : X → SheetRecord) (r : Result X XlsError) (n : ℕ)
    → ((x : X) → n ≡ weight_of (f x)) → (g : SheetRecord) → gives f r ≡ Ok g → n ≡ weight_of g
weighs f r n same g e = let h = gives-ok f r g e in same h.0 ∙ ap weight_of h.2

unlisted : (typ : ℕ) → is_among typ sheet_types ≡ false → weight_of_type typ ≡ 0
unlisted typ h = rw h (either (is_among typ other_weights))
  where
    either : (b : Bool) → ◌≡◌ {A = ℕ} (if b then 0 else 0) 0
    either true = refl
    either false = refl

each_weight : (typ : ℕ) → Weighs typ (line_of other_line sheet_table typ)
each_weight typ = every_type other_line Weighs sheet_table typ (unlisted typ) (search rules)

weight_by : (typ : ℕ) (line : TableLine) → Weighs typ line → typ ≢ types.MUL_RK → (settings : CellContext) (body : List ℕ) (g : SheetRecord)
    → read_on_line line settings body ≡ Ok g → weight_of_type typ ≡ weight_of g
weight_by typ other_line w apart settings body g e = w ∙ let same : empty_record ≡ g = cc in ap weight_of same
weight_by typ (empty_line read) w apart settings body g e = w ∙ weighs (λ u. empty_record) (read settings body) 0 (λ u. refl) g e
weight_by typ (cell_line read) w apart settings body g e = w ∙ weighs cell_record (read settings body) 1 (λ c. refl) g e
weight_by typ (cells_line read) w apart settings body g e = absurd (apart w)
weight_by typ (shared_line read) w apart settings body g e = w ∙ weighs shared_record (read settings body) 1 (λ c. refl) g e
weight_by typ (string_line read) w apart settings body g e = w ∙ weighs string_record (read settings body) 1 (λ cs. refl) g e
weight_by typ (formula_line read) w apart settings body g e =
    w ∙ weighs (λ f. formula_record f.0 f.1 f.2) (read settings body) 1 (λ f. refl) g e
weight_by typ (regions_line read) w apart settings body g e = w ∙ weighs regions_record (read settings body) 0 (λ rs. refl) g e

pub weight_by_the_table : (typ : ℕ) → typ ≢ types.MUL_RK → (settings : CellContext) (body : List ℕ) (g : SheetRecord)
    → sheet_record_at settings typ body ≡ Ok g → weight_of_type typ ≡ weight_of g
weight_by_the_table typ = weight_by typ (line_of other_line sheet_table typ) (each_weight typ)

-- a MulRk weighs as its cells
pub all_cells : (settings : CellContext) (body : List ℕ) (n : ℕ)
    → ((cs : List CellEntry) → mul_rk_at settings.classes settings.is_1904 body ≡ Ok cs → n ≡ length cs)
    → (g : SheetRecord) → sheet_record_at settings types.MUL_RK body ≡ Ok g → n ≡ weight_of g
all_cells settings body n count g e =
    let h = gives-ok cells_record (mul_rk_at settings.classes settings.is_1904 body) g e in
    count h.0 h.1 ∙ ap weight_of h.2

-- ---- reading

-- a line that gives what a reader found, or its fault
pub line_is : {X : Type 0} (f : X → SheetRecord) (r s : Result X XlsError) → r ≡ s → gives f r ≡ gives f s
line_is {X} f r s e = ap (λ (x : Result X XlsError). gives f x) e

-- the reader of a line refuses a body so
abbrev Refuses : TableLine → CellContext → List ℕ → XlsError → Type 0
Refuses other_line settings body e = ⊥
Refuses (empty_line read) settings body e = read settings body ≡ Err e
Refuses (cell_line read) settings body e = read settings body ≡ Err e
Refuses (cells_line read) settings body e = read settings body ≡ Err e
Refuses (shared_line read) settings body e = read settings body ≡ Err e
Refuses (string_line read) settings body e = read settings body ≡ Err e
Refuses (formula_line read) settings body e = read settings body ≡ Err e
Refuses (regions_line read) settings body e = read settings body ≡ Err e

refused_on : (line : TableLine) (settings : CellContext) (body : List ℕ) (e : XlsError)
    → Refuses line settings body e → read_on_line line settings body ≡ Err e
refused_on other_line settings body e r = absurd r
refused_on (empty_line read) settings body e r = line_is (λ u. empty_record) (read settings body) (Err e) r
refused_on (cell_line read) settings body e r = line_is cell_record (read settings body) (Err e) r
refused_on (cells_line read) settings body e r = line_is cells_record (read settings body) (Err e) r
refused_on (shared_line read) settings body e r = line_is shared_record (read settings body) (Err e) r
refused_on (string_line read) settings body e r = line_is string_record (read settings body) (Err e) r
refused_on (formula_line read) settings body e r = line_is (λ f. formula_record f.0 f.1 f.2) (read settings body) (Err e) r
refused_on (regions_line read) settings body e r = line_is regions_record (read settings body) (Err e) r

-- a fault that the reader of a type's line finds is what is read
pub refused : (typ : ℕ) (biff : Biff) (body : List ℕ) (e : XlsError) (result : Result read.SheetRecord XlsError)
    → IsErrAnd result (λ found. found ≡ e) → ((settings : CellContext) → settings.version ≡ biff → Refuses (line_of other_line sheet_table typ) settings body e)
    → ReadsByType typ biff body result
refused typ biff body e (Err found) is r = record {
  exact = λ settings same. rw is (refused_on (line_of other_line sheet_table typ) settings body e (r settings same));
  items = tt;
}
refused typ biff body e (Ok g) is r = absurd is
