-- A record of the globals that was read without memory, and its line of the table.
use Rattle.std.proofs.Common.{◌≡◌, ℕ, ◌<◌, ◌≤◌, List, [], ◌∷◌, ◌++◌, length, map, drop, refl, sym, ap, ◌∙◌, arith, true, false, Some, None, Result, Ok, Err}
use Rattle.std.specs.Prelude.{IfErr, nat_lt}
use Rattle.std.specs.Char.Utf16.{utf16_lossy_chars}
use Rattle.xls_stream.specs.Stream.{Group}
use Rattle.xls_stream.specs.Listing.{Shared, no_table, table_of, table_without, IsShared}
use Rattle.xls_stream.specs.StringTable.{Mark, Missing, marked, Table, TableFault}
use Rattle.xls_stream.specs.declared.part.Part.TheVariants.{Sst}
use Rattle.xls_stream.proofs.TableReadings.{one_reading}
use Rattle.xls_data.specs.Sheets.{SheetContent}
use Rattle.xls_record.specs.declared.error.XlsError.{XlsError}
use Rattle.xls_record.specs.declared.error.XlsError.TheVariants as errors
use Rattle.xls_record.specs.Reading.{Fails, Gives, fault_in, gives}
use Rattle.xls_strings.specs.Sst.{error_of, CountsTable, ReadsTable, sst_marks, InTable}
use Rattle.xls_biff.specs.Records.BoundSheet.{bound_sheet_at}
use Rattle.xls_meaning.specs.GlobalsTable.{GlobalsRecord, other_record, format_record, strings_record, sheet_record, unless_refused, shared_texts, GlobalsLine, fault_of}
use Rattle.xls_open.specs.Globals.{State}
use Rattle.xls_open.specs.Steps.{after}
use Rattle.xls_open.proofs.OpenLemmas.{bound_offset}

-- ---- a line without a fault, by what a check says of its reader

module _ {X Y : Type 0} (f : X → GlobalsRecord) (h : X → Y) where
  pub fine : (r : Result X XlsError) (y : Y) → gives h r ≡ Ok y → fault_of (gives f r) ≡ None
  fine (Ok x) y e = refl
  fine (Err d) y e = absurd cc

  pub refused : (r : Result X XlsError) (e : XlsError) → gives h r ≡ Err e → gives f r ≡ Err e
  refused (Ok x) e g = absurd cc
  refused (Err d) e g = let same : d ≡ e = cc in ap (λ (y : XlsError). Err y) same

-- a Format has none
pub format_fine : (r : Result (ℕ × List ℕ) XlsError) → fault_of (unless_refused r) ≡ None
format_fine (Ok q) = refl
format_fine (Err e) = refl

-- ---- the string table

long_marks : (g : Group) → 8 ≤ length g.body → sst_marks g.body g.tail ≡ Ok (marked (drop 8 g.body) g.tail)
long_marks g h = let t : nat_lt (length g.body) 8 ≡ false = test h in rw t refl
  where
    test : 8 ≤ length g.body → nat_lt (length g.body) 8 ≡ false
    test l = grind arith

short_marks : (g : Group) → length g.body < 8 → sst_marks g.body g.tail ≡ Err (errors.Len 8 (length g.body) Sst)
short_marks g h = let t : nat_lt (length g.body) 8 ≡ true = test h in rw t refl
  where
    test : length g.body < 8 → nat_lt (length g.body) 8 ≡ true
    test l = grind arith

module _ (ms : List Mark) (len : ℕ) where
  count_whole : (ss : List (List ℕ)) (r : Result ℕ XlsError) → Table ms ss → CountsTable ms r
      → fault_in (shared_texts len (table_of ss)) ≡ fault_in r
  count_whole ss (Ok n) h i = refl
  count_whole ss (Err e) h i = absurd ((one_reading ms).apart ss i.0 h i.2)

  count_faulty : (m : Missing) (r : Result ℕ XlsError) → TableFault ms m → CountsTable ms r
      → fault_in (shared_texts len (table_without m)) ≡ fault_in r
  count_faulty m (Ok n) h i = absurd ((one_reading ms).apart i.0 m i.1 h)
  count_faulty m (Err e) h i =
      ap (λ (x : Missing). Err (error_of x)) ((one_reading ms).fault m i.0 h i.2)
      ∙ ap (λ (x : XlsError). Err x) (sym i.1)

  -- what was read
  read_whole : (ss : List (List ℕ)) (r : Result (List (List ℕ)) XlsError) → Table ms ss
      → ReadsTable ms r → Gives (λ t. t) r (shared_texts len (table_of ss))
  read_whole ss (Ok texts) h i =
      ap (λ (x : List (List ℕ)). Ok (map utf16_lossy_chars x)) ((one_reading ms).table ss i.0 h i.1)
      ∙ ap (λ (x : List (List ℕ)). Ok x) (sym i.2)
  read_whole ss (Err errors.Memory) h i = tt
  read_whole ss (Err e) h i = absurd ((one_reading ms).apart ss i.0 h i.2)

  read_faulty : (m : Missing) (r : Result (List (List ℕ)) XlsError) → TableFault ms m
      → ReadsTable ms r → Gives (λ t. t) r (shared_texts len (table_without m))
  read_faulty m (Ok texts) h i = absurd ((one_reading ms).apart i.0 m i.1 h)
  read_faulty m (Err errors.Memory) h i = tt
  read_faulty m (Err e) h i =
      ap (λ (x : Missing). Err (error_of x)) ((one_reading ms).fault m i.0 h i.2)
      ∙ ap (λ (x : XlsError). Err x) (sym i.1)

-- a count has the fault of the texts
pub table_counted : (g : Group) (shared : Shared) (r : Result ℕ XlsError) → IsShared g shared
    → InTable CountsTable (sst_marks g.body g.tail) r
    → fault_in (shared_texts (length g.body) shared) ≡ fault_in r
table_counted g no_table r h i =
    let e = short_marks g h in
    ap (λ (x : Result ℕ XlsError). fault_in x) (sym (rw e at i))
table_counted g (table_of ss) r h i =
    let e = long_marks g h.0 in
    count_whole (marked (drop 8 g.body) g.tail) (length g.body) ss r h.1 (rw e at i)
table_counted g (table_without m) r h i =
    let e = long_marks g h.0 in
    count_faulty (marked (drop 8 g.body) g.tail) (length g.body) m r h.1 (rw e at i)

read_short : (g : Group) (r : Result (List (List ℕ)) XlsError) → r ≡ Err (errors.Len 8 (length g.body) Sst)
    → Gives (λ t. t) r (shared_texts (length g.body) no_table)
read_short g r h = rw h refl

-- what was read is what the record holds
pub table_read : (g : Group) (shared : Shared) (r : Result (List (List ℕ)) XlsError)
    → IsShared g shared → InTable ReadsTable (sst_marks g.body g.tail) r
    → Gives (λ t. t) r (shared_texts (length g.body) shared)
table_read g no_table r h i = let e = short_marks g h in read_short g r (rw e at i)
table_read g (table_of ss) r h i =
    let e = long_marks g h.0 in
    read_whole (marked (drop 8 g.body) g.tail) (length g.body) ss r h.1 (rw e at i)
table_read g (table_without m) r h i =
    let e = long_marks g h.0 in
    read_faulty (marked (drop 8 g.body) g.tail) (length g.body) m r h.1 (rw e at i)

-- ---- what is kept

-- the reader of a table without a fault refuses for memory alone
pub only_memory : (g : Group) (shared : Shared) (r : Result (List (List ℕ)) XlsError) (l : GlobalsLine) → IsShared g shared
    → InTable ReadsTable (sst_marks g.body g.tail) r → l ≡ gives strings_record (shared_texts (length g.body) shared)
    → fault_of l ≡ None → IfErr r (λ e. e ≡ errors.Memory)
only_memory g shared r l h i k none = by_cases r (table_read g shared r h i)
  where
    by_cases : (q : Result (List (List ℕ)) XlsError) → Gives (λ t. t) q (shared_texts (length g.body) shared) → IfErr q (λ e. e ≡ errors.Memory)
    by_cases (Ok texts) f = tt
    by_cases (Err errors.Memory) f = refl
    by_cases (Err e) f =
        absurd (let n : Some e ≡ None = sym (ap (fault_of {X = GlobalsRecord}) (k ∙ ap (gives strings_record) f)) ∙ none in cc)

-- what a record of this line gives after what was read of it
line_is : {X : Type 0} (f : X → GlobalsRecord) (r : Result X XlsError) (x : X) (g : GlobalsRecord) → r ≡ Ok x
    → ◌≡◌ {A = GlobalsLine} (Ok g) (gives f r) → g ≡ f x
line_is f r x g h k = let e : ◌≡◌ {A = GlobalsLine} (Ok g) (Ok (f x)) = k ∙ ap (gives f) h in cc

module _ (s : State) (body : List ℕ) (g : GlobalsRecord) where
  pub table_taken : (group : Group) (shared : Shared) (texts : List (List ℕ)) → IsShared group shared
      → InTable ReadsTable (sst_marks group.body group.tail) (Ok texts)
      → ◌≡◌ {A = GlobalsLine} (Ok g) (gives strings_record (shared_texts (length group.body) shared))
      → record s { strings = texts } ≡ after s body g
  table_taken group shared texts h i k =
      let e = line_is strings_record (shared_texts (length group.body) shared) texts g (table_read group shared (Ok texts) h i) k in
      ap (after s body) (sym e)

  pub sheet_taken : (o : ℕ) (c : SheetContent) → bound_sheet_at s.page s.version body ≡ Ok (o, c)
      → ◌≡◌ {A = GlobalsLine} (Ok g) (gives (λ (q : ℕ × SheetContent). sheet_record q.1) (bound_sheet_at s.page s.version body))
      → record s { sheets = s.sheets ++ (o, c) ∷ [] } ≡ after s body g
  sheet_taken o c h k =
      let e = line_is (λ (q : ℕ × SheetContent). sheet_record q.1) (bound_sheet_at s.page s.version body) (o, c) g h k in
      ap (λ (x : ℕ). record s { sheets = s.sheets ++ (x, c) ∷ [] }) (bound_offset s.page s.version body (o, c) h) ∙ ap (after s body) (sym e)

  pub format_taken : (r : Result (ℕ × List ℕ) XlsError) (f : ℕ × List ℕ) → r ≡ Ok f
      → ◌≡◌ {A = GlobalsLine} (Ok g) (unless_refused r) → record s { codes = s.codes ++ f ∷ [] } ≡ after s body g
  format_taken r f h k =
      let e : ◌≡◌ {A = GlobalsLine} (Ok g) (Ok (format_record f.0 f.1)) = k ∙ ap unless_refused h in
      let same : g ≡ format_record f.0 f.1 = cc in
      ap (after s body) (sym same)

  pub format_passed : (r : Result (ℕ × List ℕ) XlsError) (e : XlsError) → Fails e r → (e ≡ errors.Memory → ⊥)
      → ◌≡◌ {A = GlobalsLine} (Ok g) (unless_refused r) → s ≡ after s body g
  format_passed r errors.Memory h n k = absurd (n refl)
  format_passed r e h n k =
      let f : ◌≡◌ {A = GlobalsLine} (Ok g) (Ok other_record) = k ∙ ap unless_refused h in
      let same : g ≡ other_record = cc in
      ap (after s body) (sym same)
