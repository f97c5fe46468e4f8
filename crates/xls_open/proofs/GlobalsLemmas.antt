-- The records of the globals, one after the other.
use Rattle.std.proofs.Common.{◌≡◌, ℕ, List, [], ◌∷◌, ◌++◌, refl, sym, ap, subst, ◌∙◌, Bool, true, false, Option, Some, None, Result, Ok, Err}
use Rattle.std.specs.Prelude.{length, unwrap_or}
use Rattle.xls_text.specs.declared.encoding.XlsEncoding.{XlsEncoding}
use Rattle.xls_stream.specs.Stream.{Group, Begins}
use Rattle.xls_stream.specs.Cut.{Cut}
use Rattle.xls_stream.specs.Walks.{IsBytes}
use Rattle.xls_stream.specs.Listing.{is_globals_type, is_plain_type, Shared, IsShared, Item, plain_item, table_item, sheet_item, IsItem}
use Rattle.xls_stream.specs.declared.part.Part.{Part}
use Rattle.xls_stream.proofs.HoldingLemmas.{has_item}
use Rattle.xls_data.specs.Sheets.{SheetContent}
use Rattle.xls_record.specs.declared.error.XlsError.{XlsError}
use Rattle.xls_record.specs.declared.error.XlsError.TheVariants as errors
use Rattle.xls_record.specs.declared.version.Biff.{Biff}
use Rattle.xls_record.specs.Reading.{gives}
use Rattle.xls_record.specs.declared.version.Biff.TheVariants.{Biff8}
use Rattle.xls_biff.specs.Records.ExternSheet.{refs_at}
use Rattle.xls_biff.specs.Records.Format.{format_code_at}
use Rattle.xls_formula.specs.Defined.{lbl_at}
use Rattle.xls_biff.specs.Records.BoundSheet.{bound_sheet_at}
use Rattle.xls_meaning.specs.Order.{map_with_earlier, first_of}
use Rattle.xls_meaning.specs.GlobalsTable as table
use Rattle.xls_meaning.specs.GlobalsTable.{GlobalsLine, fault_of, version_from, unless_refused, other_record, references_record, name_record, strings_record, sheet_record, shared_texts, plain_record_at, item_record_at}
use Rattle.xls_meaning.specs.Faults.{item_line, item_fault, cut_fault}
use Rattle.xls_meaning.specs.Rules.{Rules}
use Rattle.xls_meaning.proofs.GlobalsTableLemmas.{unlisted, unlisted_plain}
use Rattle.xls_meaning.proofs.OrderLemmas.{first_at, none_push, first_after}
use Rattle.xls_meaning.specs.Settings.{page_in}
use Rattle.xls_open.specs.Globals.{State, IsState, AreGlobals, GlobalsFault, ReadsGlobals}
use Rattle.xls_open.specs.Steps.{first_state, after, body_of}
use Rattle.xls_open.specs.CheckSteps.{AreChecked}
use Rattle.xls_open.specs.RecordSteps.{Stands, ReadsLine, IsTaken, version_of, version_by}
use Rattle.xls_open.specs.declared.globals_record.GlobalsRecord.{GlobalsRecord}
use Rattle.xls_open.specs.declared.globals_record.GlobalsRecord.TheVariants as read
use Rattle.xls_open.proofs.CheckWalkLemmas.{Passed, passed_nothing, passed_item, passed_other, holds_at, passed_cut, passed_eof, passed_end}
use Rattle.xls_open.proofs.StateLemmas.{same_settings_of, grown, nothing_yielded}
use Rattle.xls_open.proofs.LineLemmas.{not_yielded}

-- ---- a record and its item

-- what the three clauses of its reader say of a record
pub record IsRecordRead (forced : Option ℕ) (version : Biff) (g : Group) (result : Result GlobalsRecord XlsError) : Type 0 where
  pub plain : is_plain_type g.typ ≡ true → (page : XlsEncoding) → ReadsLine page version g.body (plain_record_at forced page version g.typ g.body) result
  pub table : g.typ ≡ 0x00FC → (page : XlsEncoding) (shared : Shared) → IsShared g shared → ReadsLine page version g.body (gives strings_record (shared_texts (length g.body) shared)) result
  pub sheet : g.typ ≡ 0x0085 → (page : XlsEncoding) → ReadsLine page version g.body (gives (λ (q : ℕ × SheetContent). sheet_record q.1) (bound_sheet_at page version g.body)) result

-- they speak of the item that the record stands for
item_read : (forced : Option ℕ) (version : Biff) (page : XlsEncoding) (bytes : List ℕ) (g : Group) (i : Item) (result : Result GlobalsRecord XlsError)
    → IsRecordRead forced version g result → IsItem bytes g i → ReadsLine page version (body_of i) (item_record_at forced page version i) result
item_read forced version page bytes g (plain_item typ body) result t k = rw (k.1, k.2) (t.plain k.0 page)
item_read forced version page bytes g (table_item body shared) result t k = rw k.1 (t.table k.0 page shared k.2)
item_read forced version page bytes g (sheet_item body kept cut) result t k = rw k.1 (t.sheet k.0 page)

-- ---- the globals so far

pub record GlobalsSoFar (rules : Rules) (stream rest : List ℕ) (s : State) : Type 0 where
  pub items : List Item
  pub passed : Passed stream rest items
  pub faultless : first_of (map_with_earlier (item_fault rules) [] items) ≡ None
  pub state : IsState rules items s

pub globals_nothing : (rules : Rules) (stream : List ℕ) (s : State) → IsBytes stream
    → IsState rules [] s → GlobalsSoFar rules stream stream s
globals_nothing rules stream s fits e = record {
  items = [];
  passed = passed_nothing stream fits;
  faultless = refl;
  state = e;
}

-- the globals after one more record, which was read so
pub record GlobalsNext (rules : Rules) (stream rest : List ℕ) (s : State) (x : GlobalsRecord) : Type 0 where
  pub next : State
  pub so_far : GlobalsSoFar rules stream rest next
  pub body : List ℕ
  pub gives : table.GlobalsRecord
  pub stands : Stands s.page s.version body x (Ok gives)
  pub next_is : next ≡ after s body gives

-- a line without a fault
yield_from : (l : GlobalsLine) → fault_of l ≡ None → (g : table.GlobalsRecord) × (l ≡ Ok g)
yield_from (Ok g) h = (g, refl)
yield_from (Err e) h = absurd cc

module _ (rules : Rules) (stream rest later : List ℕ) (s : State) (g : Group) (c : GlobalsSoFar rules stream rest s) (b : Begins rest g later) (n : g.typ ≡ 0x000A → ⊥) where
  abbrev line_of : Item → GlobalsLine
  line_of i = item_record_at rules.force_codepage s.page s.version i

  pub globals_next : (x : GlobalsRecord) → IsRecordRead rules.force_codepage s.version g (Ok x) → GlobalsNext rules stream later s x
  globals_next x t = by_type (is_globals_type g) refl
    where
      by_type : (u : Bool) → is_globals_type g ≡ u → GlobalsNext rules stream later s x
      by_type true u =
          let i = has_item stream g c.passed.whole in
          let said = item_read rules.force_codepage s.version s.page stream g i.0 (Ok x) t i.1 in
          let input = yield_from (line_of i.0) said.0 in
          let line : item_line rules c.items i.0 ≡ Ok input.0 = sym (same_settings_of rules c.items s c.state i.0) ∙ input.1 in
          record {
            next = after s (body_of i.0) input.0;
            so_far = record {
              items = c.items ++ i.0 ∷ [];
              passed = passed_item stream rest later c.items g c.passed b n i.0 u i.1;
              faultless = none_push (item_fault rules) c.items i.0 c.faultless (ap (fault_of {X = table.GlobalsRecord}) line);
              state = grown rules c.items s c.state i.0 input.0 line;
            };
            body = body_of i.0;
            gives = input.0;
            stands = subst (Stands s.page s.version (body_of i.0) x) input.1 said.1;
            next_is = refl;
          }
      by_type false u =
          let plain = unlisted_plain g.typ u in
          let nothing = unlisted rules.force_codepage s.page s.version g.typ g.body u in
          record {
            next = s;
            so_far = record {
              items = c.items;
              passed = passed_other stream rest later c.items g c.passed b n u;
              faultless = c.faultless;
              state = c.state;
            };
            body = g.body;
            gives = other_record;
            stands = subst (Stands s.page s.version g.body x) nothing (t.plain plain s.page).1;
            next_is = refl;
          }

  pub record_refused : (e : XlsError) → IsRecordRead rules.force_codepage s.version g (Err e) → GlobalsFault rules stream e
  record_refused e t = by_type (is_globals_type g) refl
    where
      by_type : (u : Bool) → is_globals_type g ≡ u → GlobalsFault rules stream e
      by_type true u =
          let i = has_item stream g c.passed.whole in
          let line : item_line rules c.items i.0 ≡ Err e =
          sym (same_settings_of rules c.items s c.state i.0) ∙ item_read rules.force_codepage s.version s.page stream g i.0 (Err e) t i.1 in
          let held = holds_at stream rest later c.items g c.passed b n i.0 u i.1 in (
            c.items ++ i.0 ∷ held.0,
            held.1,
            held.2,
            first_at (item_fault rules) c.items i.0 held.0 (cut_fault held.1 ∷ []) e c.faultless (ap (fault_of {X = table.GlobalsRecord}) line),
          )
      by_type false u =
          let plain = unlisted_plain g.typ u in
          let nothing = unlisted rules.force_codepage s.page s.version g.typ g.body u in
          absurd (let both : ◌≡◌ {A = GlobalsLine} (Ok other_record) (Err e) = sym nothing ∙ t.plain plain s.page in cc)

  -- what is kept of it
  pub globals_more : (x : GlobalsRecord) (t : State) → IsRecordRead rules.force_codepage s.version g (Ok x) → IsTaken s x t
      → GlobalsSoFar rules stream later t
  globals_more x t h k =
      let m = globals_next x h in
      subst (GlobalsSoFar rules stream later) (m.next_is ∙ sym (k m.body m.gives m.stands)) m.so_far

-- ---- the end

module _ (rules : Rules) (stream rest : List ℕ) (s : State) (c : GlobalsSoFar rules stream rest s) where
  pub globals_cut : (e : XlsError) (p : Part) → e ≡ errors.EoStream p → Cut rest p → GlobalsFault rules stream e
  globals_cut e p h k = (
    c.items,
    Some p,
    passed_cut stream rest c.items c.passed p k,
    first_after (map_with_earlier (item_fault rules) [] c.items) (Some (errors.EoStream p) ∷ []) c.faultless
        ∙ ap (λ (x : XlsError). Some x) (sym h),
  )

  pub globals_eof : (g : Group) (later : List ℕ) → Begins rest g later → g.typ ≡ 0x000A → AreGlobals rules stream s
  globals_eof g later b e = record {
    items = c.items;
    holds = passed_eof stream rest c.items c.passed g later b e;
    faultless = c.faultless;
    state = c.state;
  }

  pub globals_end : rest ≡ [] → AreGlobals rules stream s
  globals_end e = record {
    items = c.items;
    holds = passed_end stream rest c.items c.passed e;
    faultless = c.faultless;
    state = c.state;
  }

-- ---- what reading answers

pub reads_fault : (rules : Rules) (stream : List ℕ) (e : XlsError) → GlobalsFault rules stream e
    → ReadsGlobals rules stream (Err e)
reads_fault rules stream errors.Memory h = tt
reads_fault rules stream e h = h

-- ---- what checking keeps: the version

pub record CheckedSoFar (rules : Rules) (stream rest : List ℕ) (version : Biff) : Type 0 where
  pub state : State
  pub so_far : GlobalsSoFar rules stream rest state
  pub version_is : version ≡ state.version

no_version : {X : Type 0} (f : X → table.GlobalsRecord) → ((x : X) → version_from (Ok (f x)) ≡ None) → (r : Result X XlsError)
    → version_from (gives f r) ≡ None
no_version f h r = not_yielded version_from f h (λ e. refl) r

-- a line gives the version that its record gives
version_stands : (page : XlsEncoding) (version : Biff) (body : List ℕ) (x : GlobalsRecord) (l : GlobalsLine) → Stands page version body x l
    → version_from l ≡ version_of x
version_stands page version body read.Other l h = ap version_from h
version_stands page version body (read.Version v) l h = ap version_from h
version_stands page version body (read.Page p) l h = ap version_from h
version_stands page version body (read.Date b) l h = ap version_from h
version_stands page version body (read.Format r) l h = ap version_from h ∙ by_format (format_code_at page version r.now.body.now)
  where
    by_format : (f : Result (ℕ × List ℕ) XlsError) → version_from (unless_refused f) ≡ None
    by_format (Ok f) = refl
    by_format (Err e) = refl
version_stands page version body (read.Xf n) l h = ap version_from h
version_stands page version body (read.References r) l h =
    ap version_from h ∙ no_version references_record (λ x. refl) (refs_at version r.now.body.now)
version_stands page version body (read.Name r) l h =
    ap version_from h ∙ no_version name_record (λ x. refl) (lbl_at page version r.now.body.now)
version_stands page version body (read.Table r) l h =
    ap version_from h.2 ∙ no_version strings_record (λ x. refl) (shared_texts (length r.now.body.now) h.0)
version_stands page version body (read.Sheet r) l h =
    ap version_from h.1 ∙ no_version (λ (q : ℕ × SheetContent). sheet_record q.1) (λ x. refl) (bound_sheet_at page version r.now.body.now)

pub checked_nothing : (rules : Rules) (stream : List ℕ) → IsBytes stream → CheckedSoFar rules stream stream Biff8
checked_nothing rules stream fits = record {
  state = first_state (page_in rules []);
  so_far = globals_nothing rules stream (first_state (page_in rules [])) fits (nothing_yielded rules (page_in rules []) refl);
  version_is = refl;
}

pub checked_more : (rules : Rules) (stream rest later : List ℕ) (version : Biff) (g : Group) (x : GlobalsRecord)
    → CheckedSoFar rules stream rest version → Begins rest g later → (g.typ ≡ 0x000A → ⊥)
    → IsRecordRead rules.force_codepage version g (Ok x) → CheckedSoFar rules stream later (version_by x version)
checked_more rules stream rest later version g x c b n t =
    let m = globals_next rules stream rest later c.state g c.so_far b n x (subst (λ (v : Biff). IsRecordRead rules.force_codepage v g (Ok x)) c.version_is t) in
    record {
      state = m.next;
      so_far = m.so_far;
      version_is = ap (version_by x) c.version_is
          ∙ ap (λ (o : Option Biff). unwrap_or o c.state.version) (sym (version_stands c.state.page c.state.version m.body x (Ok m.gives) m.stands))
          ∙ ap (λ (s : State). s.version) (sym m.next_is);
    }

pub are_checked : (rules : Rules) (stream : List ℕ) (version : Biff) (s : State) → version ≡ s.version
    → AreGlobals rules stream s → AreChecked rules stream version
are_checked rules stream version s e a = record {
  items = a.items;
  holds = a.holds;
  faultless = a.faultless;
  version_is = e ∙ a.state.version;
}
