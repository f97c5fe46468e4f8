-- No place of a stream has the fault of the outside, or one that only a formula, a format or a look-up
-- has.
use Rattle.std.proofs.Common.{rules, ℕ, List, [], ◌∷◌, ◌++◌, map, subst, Bool, true, false, Option, Some, None, Result, Ok, Err}
use Rattle.std.specs.Prelude.{if◌then◌else◌, nat_lt, length}
use Rattle.std.specs.Option.{option_or}
use Rattle.std.specs.Result.{result_map_both}
use Rattle.std.specs.List.{flat_map, AllByRecursion}
use Rattle.xls_text.specs.Pages.{page_of}
use Rattle.xls_text.specs.declared.encoding.XlsEncoding.{XlsEncoding}
use Rattle.xls_text.specs.declared.error.CfbError.{CfbError}
use Rattle.xls_stream.specs.Listing.{Kept, Shared, no_table, table_of, table_without, Item, plain_item, table_item, sheet_item, entry_of}
use Rattle.xls_stream.specs.StringTable.{Missing, short_head, no_units, no_tail}
use Rattle.xls_stream.specs.declared.part.Part.{Part}
use Rattle.xls_record.specs.declared.error.XlsError.{XlsError}
use Rattle.xls_record.specs.declared.error.XlsError.TheVariants as errors
use Rattle.xls_record.specs.declared.version.Biff.{Biff}
use Rattle.xls_record.specs.Reading.{◌>>=◌, gives, at_least}
use Rattle.xls_strings.specs.Sst.{error_of}
use Rattle.xls_biff.specs.Records.BoundSheet.{bound_sheet_at}
use Rattle.xls_biff.specs.SheetTable.{CellContext, read_on_line, sheet_table}
use Rattle.xls_biff.specs.SheetTable as biff
use Rattle.xls_biff.proofs.TableLemmas.{every_type}
use Rattle.xls_formula.specs.Defined.{place_at}
use Rattle.xls_meaning.specs.Order.{map_with_earlier, first_of}
use Rattle.xls_meaning.specs.Settings.{page_in, version_in, cells_of}
use Rattle.xls_meaning.specs.GlobalsTable.{GlobalsLine, unless_forced, unless_refused, shared_texts, PlainLine, other_line, globals_table, plain_record_at, fault_of, forced_fault}
use Rattle.xls_meaning.specs.SheetTable.{kept_line}
use Rattle.xls_open.specs.Opening.{IsOfOpening}
use Rattle.xls_meaning.specs.Faults.{item_fault, weight_in, weight_fault, kept_fault, cut_fault, part_places, sheet_places, globals_places, places}
use Rattle.xls_open.specs.Steps.{StreamFault}
use Rattle.xls_meaning.specs.Rules.{Rules}

abbrev pub IsClear : Option XlsError → Type 0
IsClear (Some errors.Io) = ⊥
IsClear (Some e) = IsOfOpening e
IsClear None = Unit {0}

-- ---- lists of places

or_clear : (a b : Option XlsError) → IsClear a → IsClear b → IsClear (option_or a b)
or_clear None b h k = k
or_clear (Some e) b h k = h

first_clear : (os : List (Option XlsError)) → AllByRecursion IsClear os → IsClear (first_of os)
first_clear [] a = tt
first_clear (o ∷ os) a = or_clear o (first_of os) a.0 (first_clear os a.1)

all_append : (os ps : List (Option XlsError)) → AllByRecursion IsClear os
    → AllByRecursion IsClear ps → AllByRecursion IsClear (os ++ ps)
all_append [] ps a b = b
all_append (o ∷ os) ps a b = (a.0, all_append os ps a.1 b)

all_over : {X : Type 0} (f : List X → X → Option XlsError)
    → ((before : List X) (x : X) → IsClear (f before x)) → (xs before : List X)
    → AllByRecursion IsClear (map_with_earlier f before xs)
all_over f h [] before = tt
all_over f h (x ∷ xs) before = (h before x, all_over f h xs (before ++ x ∷ []))

-- ---- what a definition refuses

abbrev Clear : {X : Type 0} → Result X XlsError → Type 0
Clear r = IsClear (fault_of r)

when : {X : Type 0} (t : Bool) (a b : Result X XlsError) → Clear a → Clear b
    → Clear (if t then a else b)
when true a b h k = h
when false a b h k = k

-- a definition that goes on
next : {X Y : Type 0} (r : Result X XlsError) (f : X → Result Y XlsError) → Clear r → ((x : X) → Clear (f x))
    → Clear (r >>= f)
next (Ok x) f h k = k x
next (Err e) f h k = h

-- a value that is changed
changed : {X Y : Type 0} (f : X → Y) (r : Result X XlsError) → Clear r → Clear (gives f r)
changed f r h = next r (λ x. Ok (f x)) h (λ x. tt)

least : (n : ℕ) (part : Part) (body : List ℕ) → Clear (at_least n part body)
least n part body = when (nat_lt (length body) n) _ _ tt tt

-- ---- definitions that go by constructors

kept_page_clear : (r : Result XlsEncoding CfbError) → Clear (result_map_both (λ page. page) (λ e. errors.Cfb e) r)
kept_page_clear (Ok p) = tt
kept_page_clear (Err e) = tt

pub forced_clear : (o : Option ℕ) → IsClear (forced_fault o)
forced_clear None = tt
forced_clear (Some n) = kept_page_clear (page_of n)

place_clear : (v : Biff) (bs : List ℕ) → Clear (place_at v bs)
place_clear v [] = tt
place_clear v (ptg ∷ rest) = search (rules, when) depth 12

unless_clear : (forced : Option ℕ) (line : GlobalsLine) → Clear line → Clear (unless_forced forced line)
unless_clear None line h = h
unless_clear (Some n) line h = tt

format_clear : (r : Result (ℕ × List ℕ) XlsError) → Clear (unless_refused r)
format_clear (Ok f) = tt
format_clear (Err e) = tt

missing_clear : (m : Missing) → IsClear (Some (error_of m))
missing_clear (short_head e f) = tt
missing_clear no_units = tt
missing_clear no_tail = tt

table_clear : (len : ℕ) (s : Shared) → Clear (shared_texts len s)
table_clear len no_table = tt
table_clear len (table_of ss) = tt
table_clear len (table_without m) = missing_clear m

-- ---- records of the globals

-- every record of a type is clear
abbrev IsClearLine : ℕ → PlainLine → Type 0
IsClearLine typ line = (forced : Option ℕ) (p : XlsEncoding) (v : Biff) (body : List ℕ) → Clear (line forced p v body)

plain_lines_clear : AllByRecursion (λ line. IsClearLine line.0 line.1) globals_table
plain_lines_clear = search (rules, when, next, kept_page_clear, place_clear, unless_clear, format_clear) depth 24

plain_clear : (forced : Option ℕ) (p : XlsEncoding) (v : Biff) (typ : ℕ) (body : List ℕ) → Clear (plain_record_at forced p v typ body)
plain_clear forced p v typ body = every_type other_line IsClearLine globals_table typ (λ h forced p v body. tt) plain_lines_clear forced p v body

sheet_clear : (p : XlsEncoding) (v : Biff) (body : List ℕ) → Clear (bound_sheet_at p v body)
sheet_clear p v body = search (rules, when, next) depth 20

item_clear : (rules : Rules) (before : List Item) (i : Item) → IsClear (item_fault rules before i)
item_clear rules before (plain_item typ body) =
    plain_clear rules.force_codepage (page_in rules (map entry_of before)) (version_in rules (map entry_of before)) typ body
item_clear rules before (table_item body s) = changed _ (shared_texts (length body) s) (table_clear (length body) s)
item_clear rules before (sheet_item body kept cut) =
    let p = page_in rules (map entry_of before) in
    let v = version_in rules (map entry_of before) in
    changed _ (bound_sheet_at p v body) (sheet_clear p v body)

-- ---- records of a sheet

-- every record of a type is clear
abbrev AreClear : ℕ → biff.TableLine → Type 0
AreClear typ line = (f : CellContext) (b : List ℕ) → Clear (read_on_line line f b)

all_clear : AllByRecursion (λ line. AreClear line.0 line.1) sheet_table
all_clear = search (rules, when, next) depth 20

line_clear : (f : CellContext) (k : Kept) → Clear (kept_line f k)
line_clear f k = every_type biff.other_line AreClear sheet_table k.typ (λ h f b. tt) all_clear f k.body

weight_clear : (rules : Rules) (s : CellContext) (ks : List Kept) → IsClear (weight_fault rules s ks)
weight_clear rules s ks = either (nat_lt rules.max_cells (weight_in s ks))
  where
    either : (t : Bool) → IsClear (if t then Some (errors.TooManyCells rules.max_cells) else None)
    either true = tt
    either false = tt

kept_clear : (rules : Rules) (s : CellContext) (before : List Kept) (k : Kept)
    → IsClear (kept_fault rules s before k)
kept_clear rules s before k =
    or_clear (fault_of (kept_line s k)) (weight_fault rules s (before ++ k ∷ [])) (line_clear s k) (weight_clear rules s (before ++ k ∷ []))

cut_clear : (cut : Option Part) → IsClear (cut_fault cut)
cut_clear None = tt
cut_clear (Some p) = tt

-- ---- all places

part_clear : (rules : Rules) (s : CellContext) (kept : List Kept) (cut : Option Part)
    → AllByRecursion IsClear (part_places rules s kept cut)
part_clear rules s kept cut =
    all_append (map_with_earlier (kept_fault rules s) [] kept) (cut_fault cut ∷ []) (all_over (kept_fault rules s) (kept_clear rules s) kept []) (cut_clear cut, tt)

sheets_clear : (rules : Rules) (s : CellContext) (items : List Item)
    → AllByRecursion IsClear (flat_map (sheet_places rules s) items)
sheets_clear rules s [] = tt
sheets_clear rules s (plain_item typ body ∷ items) = sheets_clear rules s items
sheets_clear rules s (table_item body shared ∷ items) = sheets_clear rules s items
sheets_clear rules s (sheet_item body kept cut ∷ items) =
    all_append (part_places rules s kept cut) (flat_map (sheet_places rules s) items) (part_clear rules s kept cut) (sheets_clear rules s items)

places_clear : (rules : Rules) (items : List Item) (cut : Option Part)
    → AllByRecursion IsClear (places rules items cut)
places_clear rules items cut =
    all_append (globals_places rules items cut) (flat_map (sheet_places rules (cells_of rules (map entry_of items))) items)
    (all_append (map_with_earlier (item_fault rules) [] items) (cut_fault cut ∷ []) (all_over (item_fault rules) (item_clear rules) items []) (cut_clear cut, tt))
    (sheets_clear rules (cells_of rules (map entry_of items)) items)

pub of_stream : (rules : Rules) (bytes : List ℕ) (e : XlsError) → StreamFault rules bytes e
    → IsClear (Some e)
of_stream rules bytes e f =
    subst IsClear f.3 (first_clear (places rules f.0 f.1) (places_clear rules f.0 f.1))

-- what is clear is a refusal of opening
pub is_of_opening : (e : XlsError) → IsClear (Some e) → IsOfOpening e
is_of_opening errors.Io h = tt
is_of_opening e h = h
