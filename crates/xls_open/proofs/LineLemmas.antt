-- Lines of the globals' table, and what one more gives.
use Rattle.std.proofs.Common.{rules, ◌≡◌, ℕ, List, [], ◌∷◌, ◌++◌, map, length, drop, refl, sym, ap, ◌∙◌, Bool, true, false, Option, Some, None, Result, Ok, Err}
use Rattle.std.specs.Prelude.{ℤ, ◌||◌, nat_lt, slice_index, unwrap_or}
use Rattle.std.specs.List.{flat_map, AllByRecursion}
use Rattle.std.proofs.lemmas.List.{append-nil, map-append}
use Rattle.xls_text.specs.declared.encoding.XlsEncoding.{XlsEncoding}
use Rattle.xls_stream.specs.Listing.{no_table, table_of, table_without, ListEntry, plain_entry, table_entry, sheet_entry, Item, plain_item, table_item, sheet_item, entry_of}
use Rattle.xls_stream.specs.declared.part.Part.TheVariants as parts
use Rattle.xls_data.specs.Sheets.{SheetContent}
use Rattle.xls_record.specs.declared.error.XlsError.{XlsError}
use Rattle.xls_record.specs.declared.error.XlsError.TheVariants as errors
use Rattle.xls_record.specs.declared.version.Biff.{Biff}
use Rattle.xls_record.specs.Reading.{gives}
use Rattle.xls_biff.specs.Records.BoundSheet.{sheet_by, bound_sheet_at}
use Rattle.xls_biff.proofs.TableLemmas.{every_type}
use Rattle.xls_meaning.specs.Order.{last_of, somes}
use Rattle.xls_meaning.specs.GlobalsTable.{NamedPlace, GlobalsRecord, other_record, format_record, references_record, name_record, sheet_record, unless_forced, unless_refused, PlainLine, other_line, globals_table, plain_record_at, item_record_at, entry_record_at, GlobalsLine, version_from, page_from, date_from, sheet_from}
use Rattle.xls_meaning.specs.Settings.{sets_1904}
use Rattle.xls_open.specs.Steps.{with_one, with_all, or_also}
use Rattle.xls_meaning.proofs.OrderLemmas.{somes-append, last-push, unwrap_push, flat_push}
use Rattle.xls_meaning.proofs.EntryLemmas.{long_sheet}

-- ---- what one more item gives

-- the list of what is there, the last that is there, and all that is there, of one more
pub somes_push : {L X : Type 0} (f : L → Option X) (ls : List L) (l : L)
    → somes (map f (ls ++ l ∷ [])) ≡ with_one (somes (map f ls)) (f l)
somes_push f ls l =
    ap somes (map-append f ls (l ∷ [])) ∙ somes-append (map f ls) (f l ∷ []) ∙ one (somes (map f ls)) (f l)
  where
    one : {X : Type 0} (xs : List X) (o : Option X) → xs ++ somes (o ∷ []) ≡ with_one xs o
    one xs None = append-nil xs
    one xs (Some x) = refl

pub last_or_push : {L X : Type 0} (f : L → Option X) (ls : List L) (l : L) (x : X)
    → unwrap_or (last_of (map f (ls ++ l ∷ []))) x ≡ unwrap_or (f l) (unwrap_or (last_of (map f ls)) x)
last_or_push {X = X} f ls l x =
    ap (λ (o : Option X). unwrap_or o x) (last-push f ls l) ∙ unwrap_push (f l) (last_of (map f ls)) x

pub all_push : {L X : Type 0} (f : L → Option (List X)) (ls : List L) (l : L)
    → flat_map (λ (xs : List X). xs) (somes (map f (ls ++ l ∷ []))) ≡ with_all (flat_map (λ (xs : List X). xs) (somes (map f ls))) (f l)
all_push {X = X} f ls l =
    ap (flat_map (λ (xs : List X). xs)) (somes_push f ls l) ∙ more (somes (map f ls)) (f l)
  where
    more : {X : Type 0} (xss : List (List X)) (o : Option (List X))
        → flat_map (λ (xs : List X). xs) (with_one xss o) ≡ with_all (flat_map (λ (xs : List X). xs) xss) o
    more xss None = refl
    more {X} xss (Some xs) = flat_push (λ (ys : List X). ys) xss xs

pub date_push : (ls : List GlobalsLine) (l : GlobalsLine) → sets_1904 (ls ++ l ∷ []) ≡ or_also (sets_1904 ls) (date_from l)
date_push [] l = both (date_from l)
  where
    both : (o : Option Bool) → unwrap_or o false || false ≡ or_also false o
    both None = refl
    both (Some true) = refl
    both (Some false) = refl
date_push (m ∷ ls) l =
    ap (λ (b : Bool). unwrap_or (date_from m) false || b) (date_push ls l)
    ∙ assoc (unwrap_or (date_from m) false) (sets_1904 ls) (date_from l)
  where
    assoc : (a b : Bool) (o : Option Bool) → a || or_also b o ≡ or_also (a || b) o
    assoc a b None = refl
    assoc true b (Some c) = refl
    assoc false b (Some c) = refl

-- ---- lines of the table

pub not_yielded : {X Y : Type 0} (f : GlobalsLine → Option Y) (g : X → GlobalsRecord) → ((x : X) → f (Ok (g x)) ≡ None)
    → ((e : XlsError) → f (Err e) ≡ None) → (r : Result X XlsError) → f (gives g r) ≡ None
not_yielded f g h k (Ok x) = h x
not_yielded f g h k (Err e) = k e

no_sheet_of : {X : Type 0} (g : X → GlobalsRecord) → ((x : X) → sheet_from (Ok (g x)) ≡ None)
    → (r : Result X XlsError) → sheet_from (gives g r) ≡ None
no_sheet_of g h r = not_yielded sheet_from g h (λ e. refl) r

no_sheet_unforced : (o : Option ℕ) (line : GlobalsLine) → sheet_from line ≡ None → sheet_from (unless_forced o line) ≡ None
no_sheet_unforced None line h = h
no_sheet_unforced (Some n) line h = refl

no_sheet_unrefused : (r : Result (ℕ × List ℕ) XlsError) → sheet_from (unless_refused r) ≡ None
no_sheet_unrefused (Ok f) = refl
no_sheet_unrefused (Err e) = refl

-- the records of a type give no sheet
abbrev HasNoSheet : ℕ → PlainLine → Type 0
HasNoSheet typ line = (forced : Option ℕ) (p : XlsEncoding) (v : Biff) (body : List ℕ) → sheet_from (line forced p v body) ≡ None

have_no_sheet : AllByRecursion (λ line. HasNoSheet line.0 line.1) globals_table
have_no_sheet = search (rules, no_sheet_of, no_sheet_unforced, no_sheet_unrefused) depth 16

-- a plain record gives none
pub no_sheet : (forced : Option ℕ) (p : XlsEncoding) (v : Biff) (typ : ℕ) (body : List ℕ)
    → sheet_from (plain_record_at forced p v typ body) ≡ None
no_sheet forced p v typ body = every_type other_line HasNoSheet globals_table typ (λ h forced p v body. refl) have_no_sheet forced p v body

-- pages and versions hang on nothing that is in force
module _ {X : Type 0} (f : GlobalsLine → Option X) (fails : (e : XlsError) → f (Err e) ≡ None)
    (format : (n : ℕ) (c : List ℕ) → f (Ok (format_record n c)) ≡ None) (other : f (Ok other_record) ≡ None)
    (references : (rs : List ℤ) → f (Ok (references_record rs)) ≡ None)
    (name : (n : NamedPlace) → f (Ok (name_record n)) ≡ None) (sheet : (s : SheetContent) → f (Ok (sheet_record s)) ≡ None) where
  no_format : (r : Result (ℕ × List ℕ) XlsError) → f (unless_refused r) ≡ None
  no_format (Ok q) = format q.0 q.1
  no_format (Err e) = other

  same_format : (r s : Result (ℕ × List ℕ) XlsError) → f (unless_refused r) ≡ f (unless_refused s)
  same_format r s = no_format r ∙ sym (no_format s)

  same_references : (r s : Result (List ℤ) XlsError) → f (gives references_record r) ≡ f (gives references_record s)
  same_references r s = not_yielded f references_record references fails r ∙ sym (not_yielded f references_record references fails s)

  same_name : (r s : Result NamedPlace XlsError) → f (gives name_record r) ≡ f (gives name_record s)
  same_name r s = not_yielded f name_record name fails r ∙ sym (not_yielded f name_record name fails s)

  -- the records of a type give the same under each page and version
  abbrev IsSame : ℕ → PlainLine → Type 0
  IsSame typ line = (forced : Option ℕ) (p q : XlsEncoding) (v w : Biff) (body : List ℕ) → f (line forced p v body) ≡ f (line forced q w body)

  are_same : AllByRecursion (λ line. IsSame line.0 line.1) globals_table
  are_same = search (rules, same_format, same_references, same_name) depth 16

  same_said : (forced : Option ℕ) (p q : XlsEncoding) (v w : Biff) (e : ListEntry)
      → f (entry_record_at forced p v e) ≡ f (entry_record_at forced q w e)
  same_said forced p q v w (plain_entry typ body) =
      every_type other_line IsSame globals_table typ (λ h forced p q v w body. refl) are_same forced p q v w body
  same_said forced p q v w (table_entry strings) = refl
  same_said forced p q v w (sheet_entry state kind text kept) =
      not_yielded f sheet_record sheet fails (sheet_by p v state kind text)
      ∙ sym (not_yielded f sheet_record sheet fails (sheet_by q w state kind text))

pub same_page : (forced : Option ℕ) (p q : XlsEncoding) (v w : Biff) (e : ListEntry)
    → page_from (entry_record_at forced p v e) ≡ page_from (entry_record_at forced q w e)
same_page = same_said page_from (λ e. refl) (λ n c. refl) refl (λ rs. refl) (λ n. refl) (λ s. refl)

pub same_version : (forced : Option ℕ) (p q : XlsEncoding) (v w : Biff) (e : ListEntry)
    → version_from (entry_record_at forced p v e) ≡ version_from (entry_record_at forced q w e)
same_version = same_said version_from (λ e. refl) (λ n c. refl) refl (λ rs. refl) (λ n. refl) (λ s. refl)

-- an item's line and its entry's
pub same_line : (forced : Option ℕ) (p : XlsEncoding) (v : Biff) (i : Item) (g : GlobalsRecord)
    → item_record_at forced p v i ≡ Ok g → entry_record_at forced p v (entry_of i) ≡ Ok g
same_line forced p v (plain_item typ body) g h = h
same_line forced p v (table_item body no_table) g h = absurd cc
same_line forced p v (table_item body (table_of ss)) g h = h
same_line forced p v (table_item body (table_without m)) g h = absurd cc
same_line forced p v (sheet_item body kept cut) g h = by_test (nat_lt (length body) 6) refl
  where
    through : (r : Result (ℕ × SheetContent) XlsError) (s : Result SheetContent XlsError) → gives (λ (q : ℕ × SheetContent). q.1) r ≡ s
        → gives (λ (q : ℕ × SheetContent). sheet_record q.1) r ≡ gives sheet_record s
    through (Ok q) s e = ap (gives sheet_record) e
    through (Err x) s e = ap (gives sheet_record) e

    by_test : (b : Bool) → nat_lt (length body) 6 ≡ b → gives sheet_record (sheet_by p v (slice_index body 4) (slice_index body 5) (drop 6 body)) ≡ Ok g
    by_test true t = absurd (let f : ◌≡◌ {A = GlobalsLine} (Err (errors.Len 6 (length body) parts.BoundSheet)) (Ok g) = rw t at h in cc)
    by_test false t =
        sym (through (bound_sheet_at p v body) (sheet_by p v (slice_index body 4) (slice_index body 5) (drop 6 body)) (long_sheet p v body t)) ∙ h
