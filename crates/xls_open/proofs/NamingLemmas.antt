-- What formulas may name, by the records of the globals.
use Rattle.std.proofs.Common.{◌≡◌, ℕ, ◌+◌, List, [], ◌∷◌, ◌++◌, map, length, append_assoc, arith, refl, sym, ap, ◌∙◌, Option, Some, None, Result, Ok, Err}
use Rattle.std.specs.Prelude.{ℤ, pos, codes, String}
use Rattle.std.specs.Global.{Global}
use Rattle.std.specs.String.{string_bytes}
use Rattle.std.specs.Str.{chars, IsAscii}
use Rattle.std.specs.Option.{option_map}
use Rattle.std.proofs.lemmas.List.{length-map}
use Rattle.std.proofs.lemmas.List.FromFn.{map-range_with_len_more}
use Rattle.std.proofs.lemmas.Str.Ascii.{IsAscii-nil, IsAscii-cons}
use Rattle.xls_text.specs.declared.encoding.XlsEncoding.{XlsEncoding}
use Rattle.xls_stream.specs.Listing.{offset_at, Kept, ListEntry, Item, plain_item, table_item, sheet_item, entry_of}
use Rattle.xls_stream.specs.declared.part.Part.{Part}
use Rattle.xls_data.specs.Sheets.{SheetContent}
use Rattle.xls_record.specs.declared.version.Biff.{Biff}
use Rattle.xls_record.specs.declared.error.XlsError.{XlsError}
use Rattle.xls_strings.specs.Texts.{text_of}
use Rattle.xls_formula.specs.Context.{Context}
use Rattle.xls_formula.proofs.TextLemmas.{text_more, ascii_more}
use Rattle.xls_meaning.specs.Order.{map_with_earlier, first_of, somes}
use Rattle.xls_meaning.specs.Settings.{cells_of, page_in, version_in, SheetRecords, sheet_in, sheets_of, sheet_names_of, extern_refs, known_refs, own_refs, lbls_in, resolved_name, context_by, context_of}
use Rattle.xls_record.specs.Reading.{gives}
use Rattle.xls_meaning.specs.GlobalsTable.{NamedPlace, sheet_record, sheet_from, fault_of}
use Rattle.xls_meaning.specs.Faults.{item_fault}
use Rattle.xls_open.specs.Globals.{Sheets, pair_of, sheets_at, State, IsState, names_listed, IsNaming}
use Rattle.xls_meaning.specs.Held.{OpenedSheet, opened_in}
use Rattle.xls_open.specs.declared.names.Naming.{Naming}
use Rattle.xls_meaning.specs.Rules.{Rules}
use Rattle.xls_meaning.proofs.OrderLemmas.{or_none}
use Rattle.xls_meaning.proofs.EntryLemmas.{entries_push}
use Rattle.xls_meaning.proofs.HeldLemmas.{Found, sheet_line, said, no_head, is_named}

-- ---- the names of the sheets

module _ (rules : Rules) where
  -- those of the entries, and those of the items
  abbrev entry_names : List Item → List Item → List (List ℕ)
  entry_names before items = sheet_names_of (somes (map_with_earlier (sheet_in rules) (map entry_of before) (map entry_of items)))

  abbrev item_names : List Item → List Item → List (List ℕ)
  item_names before items = names_listed (map pair_of (somes (map_with_earlier (opened_in rules) before items)))

  name_here : (body : List ℕ) (kept : List Kept) (cut : Option Part) (items before : List Item)
      → (first_of (map_with_earlier (item_fault rules) (before ++ sheet_item body kept cut ∷ []) items) ≡ None
      → entry_names (before ++ sheet_item body kept cut ∷ []) items ≡ item_names (before ++ sheet_item body kept cut ∷ []) items)
      → first_of (map_with_earlier (item_fault rules) before (sheet_item body kept cut ∷ items)) ≡ None
      → (r : Found) → said rules before body ≡ r
      → entry_names before (sheet_item body kept cut ∷ items) ≡ item_names before (sheet_item body kept cut ∷ items)
  name_here body kept cut items before on f (Err e) h =
      absurd (no_head rules (cells_of rules []) before body e (map_with_earlier (item_fault rules) (before ++ sheet_item body kept cut ∷ []) items) h f)
  name_here body kept cut items before on f (Ok h) e =
      let i = sheet_item body kept cut in
      let o : OpenedSheet = record { offset = offset_at body; head = h.1; kept = kept; cut = cut } in
      let n = is_named (page_in rules (map entry_of before)) (version_in rules (map entry_of before)) body h e in
      let opened : opened_in rules before i ≡ Some o = rw e refl in
      let here : sheet_in rules (map entry_of before) (entry_of i) ≡ Some (h.1, kept) =
      ap (λ (r : Result SheetContent XlsError). option_map (λ (x : SheetContent). (x, kept)) (sheet_from (gives sheet_record r))) n.entry in
      let rest = on (or_none (fault_of (sheet_line (said rules before body))) (first_of (map_with_earlier (item_fault rules) (before ++ i ∷ []) items)) f).1 in
      ap (λ (x : Option SheetRecords). sheet_names_of (somes (x ∷ map_with_earlier (sheet_in rules) (map entry_of before ++ entry_of i ∷ []) (map entry_of items)))) here
      ∙ ap (λ (b : List ListEntry). h.1.name ∷ sheet_names_of (somes (map_with_earlier (sheet_in rules) b (map entry_of items)))) (sym (entries_push before i))
      ∙ ap (λ (l : List (List ℕ)). h.1.name ∷ l) rest
      ∙ ap (λ (x : Option OpenedSheet). names_listed (map pair_of (somes (x ∷ map_with_earlier (opened_in rules) (before ++ i ∷ []) items)))) (sym opened)

  name_all : (items before : List Item) → first_of (map_with_earlier (item_fault rules) before items) ≡ None
      → entry_names before items ≡ item_names before items
  name_all [] before f = refl
  name_all (plain_item typ body ∷ items) before f =
      let i = plain_item typ body in
      ap (λ (b : List ListEntry). sheet_names_of (somes (map_with_earlier (sheet_in rules) b (map entry_of items)))) (sym (entries_push before i))
      ∙ name_all items (before ++ i ∷ []) (or_none (item_fault rules before i) (first_of (map_with_earlier (item_fault rules) (before ++ i ∷ []) items)) f).1
  name_all (table_item body shared ∷ items) before f =
      let i = table_item body shared in
      ap (λ (b : List ListEntry). sheet_names_of (somes (map_with_earlier (sheet_in rules) b (map entry_of items)))) (sym (entries_push before i))
      ∙ name_all items (before ++ i ∷ []) (or_none (item_fault rules before i) (first_of (map_with_earlier (item_fault rules) (before ++ i ∷ []) items)) f).1
  name_all (sheet_item body kept cut ∷ items) before f =
      name_here body kept cut items before (λ g. name_all items (before ++ sheet_item body kept cut ∷ []) g) f (said rules before body) refl

  pub names_same : (items : List Item) → first_of (map_with_earlier (item_fault rules) [] items) ≡ None
      → sheet_names_of (sheets_of rules (map entry_of items)) ≡ names_listed (sheets_at rules items)
  names_same items f = name_all items [] f

pub same_count : (qs : List SheetRecords) (ps : Sheets) → sheet_names_of qs ≡ names_listed ps → length qs ≡ length ps
same_count qs ps e =
    sym (length-map qs (λ (q : SheetRecords). q.0.name)) ∙ ap length e
    ∙ length-map ps (λ (p : ℕ × SheetContent). p.1.name)

-- ---- the context

same_context : (rules : Rules) (p q : XlsEncoding) (v w : Biff) (ss ts : List (List ℕ)) (rs us : List ℤ) (ns ms : List NamedPlace)
    → p ≡ q → v ≡ w → ss ≡ ts → rs ≡ us → ns ≡ ms
    → context_by rules p v ss rs ns ≡ context_by rules q w ts us ms
same_context rules p q v w ss ts rs us ns ms a b c d e = rw (a, b, c, d, e) refl

pub same_refs : (v w : Biff) (n m : ℕ) (rs us : List ℤ) → v ≡ w → n ≡ m → rs ≡ us → known_refs v n rs ≡ known_refs w m us
same_refs v w n m rs us a b c = rw (a, b, c) refl

-- what the code has at hand
abbrev pub context_at : Rules → XlsEncoding → Biff → Naming → Context
context_at rules page version n = record {
  sheets = n.sheets;
  names = n.names;
  refs = n.refs;
  page = page;
  biff = version;
  functions = rules.functions;
  numbers = rules.numbers;
}

by_parts : (rules : Rules) (p : XlsEncoding) (v : Biff) (n : Naming) (ss : List (List ℕ)) (rs : List ℤ) (ls : List NamedPlace)
    → n.sheets ≡ ss → n.refs ≡ rs → n.names ≡ map (resolved_name ss rs) ls
    → context_at rules p v n ≡ context_by rules p v ss rs ls
by_parts rules p v n ss rs ls a b c = rw (a, b, c) refl

-- is what the items give
pub context_is : (rules : Rules) (items : List Item) (t : State) (n : Naming) → IsState rules items t
    → first_of (map_with_earlier (item_fault rules) [] items) ≡ None
    → IsNaming t.version t.sheets t.refs t.names n
    → context_at rules t.page t.version n ≡ context_of rules (map entry_of items)
context_is rules items t n h f i =
    let es = map entry_of items in
    let names : names_listed t.sheets ≡ sheet_names_of (sheets_of rules es) =
    ap names_listed h.sheets ∙ sym (names_same rules items f) in
    let count : length t.sheets ≡ length (sheets_of rules es) =
    sym (same_count (sheets_of rules es) t.sheets (sym names)) in
    by_parts rules t.page t.version n (names_listed t.sheets) (known_refs t.version (length t.sheets) t.refs) t.names i.sheets i.known i.names
    ∙ same_context rules t.page (page_in rules es) t.version (version_in rules es) (names_listed t.sheets) (sheet_names_of (sheets_of rules es)) (known_refs t.version (length t.sheets) t.refs) (known_refs (version_in rules es) (length (sheets_of rules es)) (extern_refs rules es)) t.names (lbls_in rules es)
    h.page h.version names
    (same_refs t.version (version_in rules es) (length t.sheets) (length (sheets_of rules es)) t.refs (extern_refs rules es) h.version count h.refs)
    h.names

-- ---- one more

pub refs_next : (i : ℕ) → own_refs (i + 1) ≡ own_refs i ++ pos i ∷ []
refs_next i = map-range_with_len_more pos 0 i i (omega arith)

pub after_mark : (start marked whole : String Global) (sheet text : List ℕ) → string_bytes start ≡ sheet
    → string_bytes marked ≡ string_bytes start ++ codes "!" → string_bytes whole ≡ string_bytes marked ++ text
    → text_of whole ≡ chars sheet ++ (codes "!" ++ chars text)
after_mark start marked whole sheet text a b c =
    text_more marked whole text c
    ∙ ap (λ (x : List ℕ). x ++ chars text) (ascii_more start marked (codes "!") mark_ascii b)
    ∙ append_assoc (text_of start) (codes "!") (chars text)
    ∙ ap (λ (x : List ℕ). chars x ++ (codes "!" ++ chars text)) a
  where
    mark_ascii : IsAscii (codes "!")
    mark_ascii = IsAscii-cons 33 [] (omega arith) IsAscii-nil
