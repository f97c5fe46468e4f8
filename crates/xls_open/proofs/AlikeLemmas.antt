-- The first fault of a stream hangs on the forced page and the bound of cells alone.
use Rattle.std.proofs.Common.{◌≡◌, ℕ, ◌+◌, ◌≤◌, List, [], ◌∷◌, ◌++◌, length, refl, sym, ap, subst, ◌∙◌, Option, Some, None}
use Rattle.std.specs.Prelude.{◌↔◌, nat_lt, if◌then◌else◌}
use Rattle.std.specs.Option.{option_or}
use Rattle.std.specs.List.{flat_map}
use Rattle.xls_stream.specs.Listing.{Kept, Item, plain_item, table_item, sheet_item}
use Rattle.xls_stream.specs.declared.part.Part.{Part}
use Rattle.xls_record.specs.declared.error.XlsError.{XlsError}
use Rattle.xls_record.specs.declared.error.XlsError.TheVariants.{TooManyCells}
use Rattle.xls_biff.specs.SheetTable.{CellContext}
use Rattle.xls_meaning.specs.Order.{map_with_earlier, first_of}
use Rattle.xls_meaning.specs.GlobalsTable.{forced_fault, fault_of}
use Rattle.xls_meaning.specs.SheetTable.{kept_line}
use Rattle.xls_meaning.specs.Faults.{outer_fault, weight_from, weight_in, weight_fault, kept_fault, cut_fault, part_places, sheet_places, globals_places, places, FirstAfter, FirstFault}
use Rattle.xls_open.specs.Checking.{checked, FirstChecked}
use Rattle.xls_open.specs.CheckSteps.{settings_checked}
use Rattle.xls_meaning.specs.Rules.{Rules}
use Rattle.xls_meaning.proofs.LawLemmas.{limit_none}
use Rattle.xls_meaning.specs.Settings.{Settings}

earlier_same : {X Y : Type 0} (f g : List X → X → Y) → ((before : List X) (x : X) → f before x ≡ g before x)
    → (xs before : List X) → map_with_earlier f before xs ≡ map_with_earlier g before xs
earlier_same f g h [] before = refl
earlier_same {Y = Y} f g h (x ∷ xs) before =
    ap (λ (y : Y). y ∷ map_with_earlier f (before ++ x ∷ []) xs) (h before x)
    ∙ ap (λ (ys : List Y). g before x ∷ ys) (earlier_same f g h xs (before ++ x ∷ []))

module _ (rules : Rules) where
  -- the rules by default, under the same page and bound
  abbrev same : Rules
  same = checked rules.force_codepage rules.max_cells

  -- ---- a sheet

  module _ (s t : Settings) (e : s.cells ≡ t.cells) where
    weight_same : (ks : List Kept) → weight_in s.cells ks ≡ weight_in t.cells ks
    weight_same [] = refl
    weight_same (k ∷ ks) =
        ap (λ (c : CellContext). weight_from (kept_line c k) + weight_in s.cells ks) e
        ∙ ap (λ (n : ℕ). weight_from (kept_line t.cells k) + n) (weight_same ks)

    kept_same : (before : List Kept) (k : Kept) → kept_fault rules s.cells before k ≡ kept_fault same t.cells before k
    kept_same before k =
        ap (λ (c : CellContext). option_or (fault_of (kept_line c k)) (weight_fault rules s.cells (before ++ k ∷ []))) e
        ∙ ap (λ (n : ℕ). option_or (fault_of (kept_line t.cells k)) (if nat_lt rules.max_cells n then Some (TooManyCells rules.max_cells) else None)) (weight_same (before ++ k ∷ []))

    part_same : (kept : List Kept) (cut : Option Part) → part_places rules s.cells kept cut ≡ part_places same t.cells kept cut
    part_same kept cut =
        ap (λ (l : List (Option XlsError)). l ++ cut_fault cut ∷ []) (earlier_same (kept_fault rules s.cells) (kept_fault same t.cells) kept_same kept [])

    sheet_same : (i : Item) → sheet_places rules s.cells i ≡ sheet_places same t.cells i
    sheet_same (plain_item typ body) = refl
    sheet_same (table_item body shared) = refl
    sheet_same (sheet_item body kept cut) = part_same kept cut

    sheets_same : (is : List Item) → flat_map (sheet_places rules s.cells) is ≡ flat_map (sheet_places same t.cells) is
    sheets_same [] = refl
    sheets_same (i ∷ is) =
        ap (λ (l : List (Option XlsError)). l ++ flat_map (sheet_places rules s.cells) is) (sheet_same i)
        ∙ ap (λ (l : List (Option XlsError)). sheet_places same t.cells i ++ l) (sheets_same is)

  -- ---- all places

  pub places_same : (items : List Item) (cut : Option Part) → places rules items cut ≡ places same items cut
  places_same items cut =
      ap (λ (l : List (Option XlsError)). globals_places rules items cut ++ l) (sheets_same (settings_checked rules items) (settings_checked same items) refl items)

  after_same : (bytes : List ℕ) (e : XlsError) (o : Option XlsError)
      → FirstAfter o rules bytes e ↔ FirstAfter o same bytes e
  after_same bytes e (Some f) = (λ h. h, λ h. h)
  after_same bytes e None = (
    λ h. (h.0, h.1, h.2, ap first_of (sym (places_same h.0 h.1)) ∙ h.3),
    λ h. (h.0, h.1, h.2, ap first_of (places_same h.0 h.1) ∙ h.3),
  )

  -- within the byte limit the forced page comes first
  outer_within : (bytes : List ℕ) → length bytes ≤ rules.max_bytes → outer_fault rules bytes ≡ forced_fault rules.force_codepage
  outer_within bytes h =
      ap (λ (o : Option XlsError). option_or o (forced_fault rules.force_codepage)) (limit_none rules bytes h)

pub checked_alike : (rules : Rules) (bytes : List ℕ) → length bytes ≤ rules.max_bytes → (e : XlsError)
    → FirstFault rules bytes e ↔ FirstChecked rules.force_codepage rules.max_cells bytes e
checked_alike rules bytes h e =
    let outer = outer_within rules bytes h in
    let both = after_same rules bytes e (forced_fault rules.force_codepage) in (
      λ f. both.0 (subst (λ (o : Option XlsError). FirstAfter o rules bytes e) outer f),
      λ f. subst (λ (o : Option XlsError). FirstAfter o rules bytes e) (sym outer) (both.1 f),
    )
