-- The state of the globals is what their lines give.
use Rattle.std.proofs.Common.{◌≡◌, ℕ, List, [], ◌∷◌, ◌++◌, map, refl, sym, ap, ◌∙◌, Bool, Option, Some, None, Ok}
use Rattle.std.specs.Prelude.{ℤ, unwrap_or}
use Rattle.std.specs.Option.{option_map}
use Rattle.std.specs.List.{flat_map}
use Rattle.std.proofs.lemmas.List.{append-nil, map-append}
use Rattle.xls_text.specs.declared.encoding.XlsEncoding.{XlsEncoding}
use Rattle.xls_text.specs.declared.encoding.XlsEncoding.TheVariants.{Utf16}
use Rattle.xls_stream.specs.Listing.{offset_at, no_table, table_of, table_without, ListEntry, Item, plain_item, table_item, sheet_item, entry_of}
use Rattle.xls_data.specs.Sheets.{SheetContent}
use Rattle.xls_record.specs.declared.version.Biff.{Biff}
use Rattle.xls_record.specs.declared.version.Biff.TheVariants.{Biff8}
use Rattle.xls_meaning.specs.Order.{map_with_earlier, last_of, somes}
use Rattle.xls_meaning.specs.GlobalsTable.{NamedPlace, GlobalsRecord, item_record_at, GlobalsLine, version_from, page_from, date_from, code_from, xf_from, references_from, name_from, strings_from, sheet_from}
use Rattle.xls_meaning.specs.Settings.{said_by, first_page, page_in, version_in, line_in, lines_in, sets_1904}
use Rattle.xls_meaning.specs.Faults.{item_line}
use Rattle.xls_open.specs.Globals.{Sheets, State, pair_of, sheets_at, IsState}
use Rattle.xls_open.specs.Steps.{first_state, with_one, with_all, or_also, placed, after, body_of}
use Rattle.xls_meaning.specs.Held.{OpenedSheet, opened_in, opened_of}
use Rattle.xls_meaning.specs.Rules.{Rules}
use Rattle.xls_meaning.proofs.OrderLemmas.{map_with_earlier-push, somes-append}
use Rattle.xls_meaning.proofs.EntryLemmas.{entries_push}
use Rattle.xls_open.proofs.LineLemmas.{somes_push, last_or_push, all_push, date_push, no_sheet, same_page, same_version, same_line}

-- ---- the state after one more item

opened_push : (rules : Rules) (is : List Item) (i : Item)
    → option_map pair_of (opened_in rules is i) ≡ option_map (placed (body_of i)) (sheet_from (item_line rules is i))
opened_push rules is (plain_item typ body) =
    sym (ap (option_map (placed body)) (no_sheet rules.force_codepage (page_in rules (map entry_of is)) (version_in rules (map entry_of is)) typ body))
opened_push rules is (table_item body no_table) = refl
opened_push rules is (table_item body (table_of ss)) = refl
opened_push rules is (table_item body (table_without m)) = refl
opened_push rules is (sheet_item body kept cut) = found (sheet_from (item_line rules is (sheet_item body kept cut)))
  where
    found : (o : Option SheetContent) → option_map pair_of (option_map (λ (s : SheetContent). record { offset = offset_at body; head = s; kept = kept; cut = cut }) o) ≡ option_map (placed body) o
    found None = refl
    found (Some s) = refl

sheets_push : (os : List OpenedSheet) (o : Option OpenedSheet) → map pair_of (with_one os o) ≡ with_one (map pair_of os) (option_map pair_of o)
sheets_push os None = refl
sheets_push os (Some o) = map-append pair_of os (o ∷ [])

opened_more : (rules : Rules) (is : List Item) (i : Item)
    → opened_of rules (is ++ i ∷ []) ≡ with_one (opened_of rules is) (opened_in rules is i)
opened_more rules is i =
    ap somes (map_with_earlier-push (opened_in rules) is i)
    ∙ somes-append (map_with_earlier (opened_in rules) [] is) (opened_in rules is i ∷ [])
    ∙ one (opened_of rules is) (opened_in rules is i)
  where
    one : (os : List OpenedSheet) (o : Option OpenedSheet) → os ++ somes (o ∷ []) ≡ with_one os o
    one os None = append-nil os
    one os (Some x) = refl

pub nothing_yielded : (rules : Rules) (page : XlsEncoding) → page ≡ page_in rules []
    → IsState rules [] (first_state page)
nothing_yielded rules page h = record {
  page = h;
  version = refl;
  is_1904 = refl;
  codes = refl;
  identifiers = refl;
  strings = refl;
  refs = refl;
  names = refl;
  sheets = refl;
}

module _ (rules : Rules) (is : List Item) (s : State) (h : IsState rules is s) (i : Item) where
  -- the line of the item, under what the state has in force
  pub same_settings_of : item_record_at rules.force_codepage s.page s.version i ≡ item_line rules is i
  same_settings_of =
      ap (λ (p : XlsEncoding). item_record_at rules.force_codepage p s.version i) h.page
      ∙ ap (λ (v : Biff). item_record_at rules.force_codepage (page_in rules (map entry_of is)) v i) h.version

  pub grown : (g : GlobalsRecord) → item_line rules is i ≡ Ok g → IsState rules (is ++ i ∷ []) (after s (body_of i) g)
  grown g e =
      let es = map entry_of is in
      let push = entries_push is i in
      let forced = rules.force_codepage in
      let line : line_in rules es (entry_of i) ≡ Ok g = same_line forced (page_in rules es) (version_in rules es) i g e in
      let lines : lines_in rules (map entry_of (is ++ i ∷ [])) ≡ lines_in rules es ++ Ok g ∷ [] =
      ap (lines_in rules) push ∙ map_with_earlier-push (line_in rules) es (entry_of i)
      ∙ ap (λ (l : GlobalsLine). lines_in rules es ++ l ∷ []) line in
      let page : page_from (said_by forced (entry_of i)) ≡ page_from (Ok g) =
      same_page forced Utf16 (page_in rules es) Biff8 (version_in rules es) (entry_of i) ∙ ap page_from line in
      let version : version_from (said_by forced (entry_of i)) ≡ version_from (Ok g) =
      same_version forced Utf16 (page_in rules es) Biff8 (version_in rules es) (entry_of i) ∙ ap version_from line in
      record {
        page = ap (unwrap_or (page_from (Ok g))) h.page
            ∙ ap (λ (o : Option XlsEncoding). unwrap_or o (page_in rules es)) (sym page)
            ∙ sym (last_or_push (λ (e : ListEntry). page_from (said_by forced e)) es (entry_of i) (first_page forced))
            ∙ ap (page_in rules) (sym push);
        version = ap (unwrap_or (version_from (Ok g))) h.version
            ∙ ap (λ (o : Option Biff). unwrap_or o (version_in rules es)) (sym version)
            ∙ sym (last_or_push (λ (e : ListEntry). version_from (said_by forced e)) es (entry_of i) Biff8)
            ∙ ap (version_in rules) (sym push);
        is_1904 = ap (λ (b : Bool). or_also b (date_from (Ok g))) h.is_1904
            ∙ sym (date_push (lines_in rules es) (Ok g)) ∙ ap sets_1904 (sym lines);
        codes = ap (λ (l : List (ℕ × List ℕ)). with_one l (code_from (Ok g))) h.codes
            ∙ sym (somes_push code_from (lines_in rules es) (Ok g))
            ∙ ap (λ (l : List GlobalsLine). somes (map code_from l)) (sym lines);
        identifiers = ap (λ (l : List ℕ). with_one l (xf_from (Ok g))) h.identifiers
            ∙ sym (somes_push xf_from (lines_in rules es) (Ok g))
            ∙ ap (λ (l : List GlobalsLine). somes (map xf_from l)) (sym lines);
        strings = ap (unwrap_or (strings_from (Ok g))) h.strings
            ∙ sym (last_or_push strings_from (lines_in rules es) (Ok g) [])
            ∙ ap (λ (l : List GlobalsLine). unwrap_or (last_of (map strings_from l)) []) (sym lines);
        refs = ap (λ (l : List ℤ). with_all l (references_from (Ok g))) h.refs
            ∙ sym (all_push references_from (lines_in rules es) (Ok g))
            ∙ ap (λ (l : List GlobalsLine). flat_map (λ (rs : List ℤ). rs) (somes (map references_from l))) (sym lines);
        names = ap (λ (l : List NamedPlace). with_one l (name_from (Ok g))) h.names
            ∙ sym (somes_push name_from (lines_in rules es) (Ok g))
            ∙ ap (λ (l : List GlobalsLine). somes (map name_from l)) (sym lines);
        sheets = ap (λ (l : Sheets). with_one l (option_map (placed (body_of i)) (sheet_from (Ok g)))) h.sheets
            ∙ ap (λ (l : GlobalsLine). with_one (sheets_at rules is) (option_map (placed (body_of i)) (sheet_from l))) (sym e)
            ∙ ap (with_one (sheets_at rules is)) (sym (opened_push rules is i))
            ∙ sym (sheets_push (opened_of rules is) (opened_in rules is i))
            ∙ ap (map pair_of) (sym (opened_more rules is i));
      }
