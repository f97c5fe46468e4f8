-- Sheets that are put one after another, each with what it shows.
use Rattle.std.proofs.Common.{◌≡◌, ℕ, ◌+◌, ◌<◌, ◌≤◌, List, [], ◌∷◌, ◌++◌, length, map, get_or, drop, sym, ap, ◌∙◌, refl, arith}
use Rattle.std.specs.Prelude.{slice_get}
use Rattle.std.proofs.lemmas.List.{length-map}
use Rattle.xls_data.specs.Sheets.{SheetContent, sheet_content}
use Rattle.xls_data.specs.declared.sheets.Sheet.{Sheet}
use Rattle.xls_output.specs.Output.{Output}
use Rattle.xls_output.specs.declared.stop.Stop.{Stop}
use Rattle.xls_output.specs.Each.{GathersEach, GivesUpEach}
use Rattle.xls_output.proofs.EachLemmas.{each-stops-more, each-stops-then, each-then}
use Rattle.xls_listing.specs.Listing.{Line, each_sheet, sheet_line, displayed_at}
use Rattle.xls_listing.proofs.LineLemmas.{PutsSome, some-all, some-first, some-next, some-stopped}
use Rattle.xls_listing.proofs.DisplayedLemmas.{mapped, sheets_end, sheets_step}

-- the sheets of a workbook before an index are put
abbrev pub PutsSheets : {V : Type 0} → (Line → List ℕ → Type 0) → (V → List Line) → List SheetContent → List V → ℕ → Output → Output → Type 0
PutsSheets P displayed heads contents i before after =
    PutsSome P (each_sheet displayed heads contents) (each_sheet displayed (drop i heads) (drop i contents)) before after

pub sheets-first : {V : Type 0} (P : Line → List ℕ → Type 0) (displayed : V → List Line) (heads : List SheetContent) (contents : List V) (a : Output)
    → PutsSheets P displayed heads contents 0 a a
sheets-first P displayed heads contents a =
    some-first P (each_sheet displayed heads contents) (each_sheet displayed heads contents) a refl

module _ {V : Type 0} (displayed : V → List Line) (heads : List SheetContent) (contents : List V) (sheets : List Sheet)
    (same : map sheet_content sheets ≡ heads) (i : ℕ) where
  -- what is left from an index on
  step : (s : Sheet) → i < length sheets → s ≡ get_or sheets i s
      → each_sheet displayed (drop i heads) (drop i contents)
      ≡ (sheet_line (sheet_content s) ∷ displayed_at displayed (slice_get contents i))
      ++ each_sheet displayed (drop (i + 1) heads) (drop (i + 1) contents)
  step s l is =
      sheets_step displayed heads contents i (sheet_content s) (mapped sheet_content sheets heads i s l is same)

  -- the line of the next sheet is put, and what it shows
  pub sheets-next : {P : Line → List ℕ → Type 0} (s : Sheet) → i < length sheets → s ≡ get_or sheets i s → {a b c d : Output}
      → PutsSheets P displayed heads contents i a b → GathersEach P (sheet_line (sheet_content s) ∷ []) b c
      → GathersEach P (displayed_at displayed (slice_get contents i)) c d → PutsSheets P displayed heads contents (i + 1) a d
  sheets-next s l is p line rest = some-next p (step s l is) (each-then line rest)

  -- its line wasn't put whole
  pub sheets-line-stopped : {P : Line → List ℕ → Type 0} (s : Sheet) → i < length sheets → s ≡ get_or sheets i s → {a b c : Output} {e : Stop}
      → PutsSheets P displayed heads contents i a b → GivesUpEach P (sheet_line (sheet_content s) ∷ []) b c e
      → GivesUpEach P (each_sheet displayed heads contents) a c e
  sheets-line-stopped s l is p line =
      some-stopped (each_sheet displayed (drop (i + 1) heads) (drop (i + 1) contents)) p (step s l is)
      (each-stops-more (displayed_at displayed (slice_get contents i)) line)

  -- what it shows wasn't
  pub sheets-stopped : {P : Line → List ℕ → Type 0} (s : Sheet) → i < length sheets → s ≡ get_or sheets i s → {a b c d : Output} {e : Stop}
      → PutsSheets P displayed heads contents i a b → GathersEach P (sheet_line (sheet_content s) ∷ []) b c
      → GivesUpEach P (displayed_at displayed (slice_get contents i)) c d e
      → GivesUpEach P (each_sheet displayed heads contents) a d e
  sheets-stopped s l is p line rest =
      some-stopped (each_sheet displayed (drop (i + 1) heads) (drop (i + 1) contents)) p (step s l is)
      (each-stops-then line rest)

  -- all are put
  pub sheets-all : {P : Line → List ℕ → Type 0} → length sheets ≤ i → {a b : Output} → PutsSheets P displayed heads contents i a b
      → GathersEach P (each_sheet displayed heads contents) a b
  sheets-all end p =
      let count : length heads ≡ length sheets = ap length (sym same) ∙ length-map sheets sheet_content in
      some-all p (sheets_end displayed heads contents i (omega (arith, count, end)))
