-- The sheets with their contents, and the last sheet of a name, by the list and by the workbook.
use Rattle.std.proofs.Common.{◌≡◌, ℕ, List, [], ◌∷◌, length, map, refl, ap, subst, ◌∙◌, arith, Bool, true, false, Option, Some, None}
use Rattle.std.specs.Prelude.{◌==◌, if◌then◌else◌, unwrap_or}
use Rattle.std.specs.Option.{option_or}
use Rattle.std.specs.List.{AllZip}
use Rattle.std.specs.Cmp.Lexicographic.{pointwise}
use Rattle.xls_stream.specs.Listing.{Kept}
use Rattle.xls_data.specs.Sheets.{SheetContent}
use Rattle.xls_meaning.specs.Settings.{Settings, SheetRecords}
use Rattle.xls_meaning.specs.Reading.{SheetView, IsContent, last_named, kept_named, IsDisplayed}
use Rattle.xls_open.specs.Workbook.{views_listed}
use Rattle.xls_open.specs.Steps.{AreSheets}
use Rattle.xls_meaning.specs.Reading.{paired}
use Rattle.xls_meaning.specs.Held.{no_view}

module _ (s : Settings) where
  -- ---- the last of two

  abbrev IsSame : Option SheetView → Option (List Kept) → Type 0
  IsSame None None = Unit {0}
  IsSame None (Some k) = ⊥
  IsSame (Some v) None = ⊥
  IsSame (Some v) (Some k) = IsContent s k v

  or_same : (a b : Option SheetView) (c d : Option (List Kept)) → IsSame a c → IsSame b d
      → IsSame (option_or a b) (option_or c d)
  or_same None b None d h i = i
  or_same None b (Some k) d h i = absurd h
  or_same (Some v) b None d h i = absurd h
  or_same (Some v) b (Some k) d h i = h

  by_test : (t : Bool) (v : SheetView) (k : List Kept) → IsContent s k v
      → IsSame (if t then Some v else None) (if t then Some k else None)
  by_test true v k h = h
  by_test false v k h = tt

  displayed_so : (a : Option SheetView) (c : Option (List Kept)) → IsSame a c
      → IsContent s (unwrap_or c []) (unwrap_or a no_view)
  displayed_so None None h = record {
    ascending = tt;
    last = λ p. refl;
    formulas_ascending = tt;
    last_formulas = λ p. refl;
    merges = refl;
  }
  displayed_so None (Some k) h = absurd h
  displayed_so (Some v) None h = absurd h
  displayed_so (Some v) (Some k) h = h

  -- ---- the last of a name

  same_last : (name : List ℕ) (ts : List SheetContent) (vs : List SheetView) (qs : List SheetRecords)
      → AreSheets s ts vs qs → IsSame (last_named (paired ts vs) name) (last_named qs name)
  same_last name [] [] [] a = tt
  same_last name [] [] (p ∷ qs) a = absurd a
  same_last name [] (d ∷ vs) qs a = absurd a
  same_last name (t ∷ ts) [] qs a = absurd a
  same_last name (t ∷ ts) (d ∷ vs) [] a = absurd a
  same_last name (t ∷ ts) (v ∷ vs) (q ∷ qs) a =
      let names : t.name ≡ q.0.name = ap (λ (h : SheetContent). h.name) a.0 in
      or_same (last_named (paired ts vs) name) (if pointwise ◌==◌ t.name name then Some v else None) (last_named qs name) (if pointwise ◌==◌ q.0.name name then Some q.1 else None) (same_last name ts vs qs a.2)
      (subst (λ (n : List ℕ). IsSame (if pointwise ◌==◌ t.name name then Some v else None) (if pointwise ◌==◌ n name then Some q.1 else None)) names
      (by_test (pointwise ◌==◌ t.name name) v q.1 a.1))

  -- ---- the reading

  pub heads : (ts : List SheetContent) (vs : List SheetView) (qs : List SheetRecords)
      → AreSheets s ts vs qs → ts ≡ map (λ (q : SheetRecords). q.0) qs
  heads [] [] [] a = refl
  heads [] [] (p ∷ qs) a = absurd a
  heads [] (d ∷ vs) qs a = absurd a
  heads (t ∷ ts) [] qs a = absurd a
  heads (t ∷ ts) (d ∷ vs) [] a = absurd a
  heads (t ∷ ts) (v ∷ vs) (q ∷ qs) a =
      ap (λ (h : SheetContent). h ∷ ts) a.0
      ∙ ap (λ (l : List SheetContent). q.0 ∷ l) (heads ts vs qs a.2)

  pub same_length : (ts : List SheetContent) (vs : List SheetView) (qs : List SheetRecords)
      → AreSheets s ts vs qs → length vs ≡ length ts
  same_length [] [] [] a = refl
  same_length [] [] (p ∷ qs) a = absurd a
  same_length [] (d ∷ vs) qs a = absurd a
  same_length (t ∷ ts) [] qs a = absurd a
  same_length (t ∷ ts) (d ∷ vs) [] a = absurd a
  same_length (t ∷ ts) (d ∷ vs) (p ∷ qs) a = omega (arith, same_length ts vs qs a.2)

  module _ (all : List SheetContent) (every : List SheetView) (list : List SheetRecords) (whole : AreSheets s all every list) where
    contents_displayed : (ts : List SheetContent) (vs : List SheetView) (qs : List SheetRecords)
        → AreSheets s ts vs qs → AllZip (IsDisplayed s list) (views_listed (paired all every) ts) qs
    contents_displayed [] [] [] a = tt
    contents_displayed [] [] (p ∷ qs) a = absurd a
    contents_displayed [] (d ∷ vs) qs a = absurd a
    contents_displayed (t ∷ ts) [] qs a = absurd a
    contents_displayed (t ∷ ts) (d ∷ vs) [] a = absurd a
    contents_displayed (t ∷ ts) (v ∷ vs) (q ∷ qs) a =
        let names : t.name ≡ q.0.name = ap (λ (h : SheetContent). h.name) a.0 in (
          subst (λ (n : List ℕ). IsContent s (kept_named list n) (unwrap_or (last_named (paired all every) t.name) no_view)) names
              (displayed_so (last_named (paired all every) t.name) (last_named list t.name) (same_last t.name all every list whole)),
          contents_displayed ts vs qs a.2,
        )

  -- each sheet shows the content of the last sheet of its name
  pub all_displayed : (ts : List SheetContent) (vs : List SheetView) (qs : List SheetRecords)
      → AreSheets s ts vs qs → AllZip (IsDisplayed s qs) (views_listed (paired ts vs) ts) qs
  all_displayed ts vs qs a = contents_displayed ts vs qs a ts vs qs a
