-- Sheets, one after the other.
use Rattle.std.proofs.Common.{◌≡◌, ℕ, zero, suc, List, [], ◌∷◌, ◌++◌, drop, sym, ap, ◌∙◌, append_assoc, Option, Some, None, refl, ◌<◌, length, map, get_or, subst, arith}
use Rattle.std.specs.Prelude.{encode_utf8_all, slice_get}
use Rattle.std.proofs.lemmas.Grind.{flat_map-append}
use Rattle.std.proofs.lemmas.List.{append-nil}
use Rattle.xls_data.specs.Sheets.{SheetContent, sheet_content}
use Rattle.xls_data.specs.declared.sheets.Sheet.{Sheet}
use Rattle.xls_meaning.specs.Reading.{SheetView}
use Rattle.example_formulas.specs.Lines.{lines_at, listing}

listing_of_none : (sheets : List SheetContent) → listing sheets [] ≡ []
listing_of_none [] = refl
listing_of_none (s ∷ sheets) = refl

-- the lines from a sheet on
pub listing-drop : (sheets : List SheetContent) (views : List SheetView) (i : ℕ) (s : SheetContent)
    → slice_get sheets i ≡ Some s
    → listing (drop i sheets) (drop i views)
    ≡ lines_at s.name (slice_get views i) ++ listing (drop (suc i) sheets) (drop (suc i) views)
listing-drop [] views i s e = absurd (let n : None ≡ Some s = e in cc)
listing-drop (t ∷ sheets) [] zero s e = sym (listing_of_none sheets)
listing-drop (t ∷ sheets) [] (suc i) s e =
    listing_of_none (drop i sheets) ∙ sym (listing_of_none (drop (suc i) sheets))
listing-drop (t ∷ sheets) (v ∷ views) zero s e =
    let same : t ≡ s = cc in
    ap (λ (x : SheetContent). lines_at x.name (Some v) ++ listing sheets views) same
listing-drop (t ∷ sheets) (v ∷ views) (suc i) s e = listing-drop sheets views i s e

-- the lines of one sheet more
pub one_sheet_more : (sheets : List SheetContent) (views : List SheetView) (i j : ℕ)
    (s : SheetContent) (name old new all : List ℕ) → slice_get sheets i ≡ Some s → name ≡ s.name
    → j ≡ suc i → old ++ listing (drop i sheets) (drop i views) ≡ all
    → new ≡ old ++ lines_at name (slice_get views i)
    → new ++ listing (drop j sheets) (drop j views) ≡ all
one_sheet_more sheets views i j s name old new all is named next so_far more =
    ap (λ (k : ℕ). new ++ listing (drop k sheets) (drop k views)) next
    ∙ (ap (λ (xs : List ℕ). xs ++ listing (drop (suc i) sheets) (drop (suc i) views))
    (more ∙ ap (λ (n : List ℕ). old ++ lines_at n (slice_get views i)) named)
    ∙ (append_assoc old (lines_at s.name (slice_get views i)) (listing (drop (suc i) sheets) (drop (suc i) views))
    ∙ (ap (λ (xs : List ℕ). old ++ xs) (sym (listing-drop sheets views i s is)) ∙ so_far)))

-- what is told of a sheet
sheet_at : (sheets : List Sheet) (i : ℕ) (s : Sheet) → i < length sheets → s ≡ get_or sheets i s
    → slice_get (map sheet_content sheets) i ≡ Some (sheet_content s)
sheet_at [] i s below is = absurd (omega (arith, below))
sheet_at (t ∷ sheets) zero s below is = ap (λ (x : Sheet). Some (sheet_content x)) (sym is)
sheet_at (t ∷ sheets) (suc i) s below is = sheet_at sheets i s (omega (arith, below)) is

pub reported_at : (sheets : List Sheet) (reported : List SheetContent) (i : ℕ) (s : Sheet)
    → i < length sheets → s ≡ get_or sheets i s → map sheet_content sheets ≡ reported
    → slice_get reported i ≡ Some (sheet_content s)
reported_at sheets reported i s below is e =
    subst (λ (l : List SheetContent). slice_get l i ≡ Some (sheet_content s)) e (sheet_at sheets i s below is)
