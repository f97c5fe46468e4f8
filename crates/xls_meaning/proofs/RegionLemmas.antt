-- In a reading, what a sheet shows is the content of the last sheet of its name.
use Rattle.std.proofs.Common.{◌≡◌, ℕ, List, [], ◌∷◌, map, length, zero, suc, refl, sym, ap, subst, ◌∙◌, arith, Bool, true, false, Option, Some, None}
use Rattle.std.specs.Prelude.{◌==◌, if◌then◌else◌, slice_get, unwrap_or}
use Rattle.std.specs.Option.{option_or}
use Rattle.std.specs.List.{AllZip}
use Rattle.std.specs.Cmp.Lexicographic.{pointwise}
use Rattle.std.proofs.lemmas.Slice.Eq.{bytes_eq-Decides}
use Rattle.xls_stream.specs.Listing.{ListEntry}
use Rattle.xls_data.specs.Sheets.{SheetContent}
use Rattle.xls_meaning.specs.Settings.{Settings, settings_of, SheetRecords, sheets_of}
use Rattle.xls_meaning.specs.Reading.{SheetView, BookView, IsContent, IsDisplayed, IsReading, kept_named, last_named, paired, displayed_of}
use Rattle.xls_meaning.specs.Rules.{Rules}
use Rattle.xls_meaning.specs.Held.{no_view}
use Rattle.xls_meaning.proofs.NamedLemmas.{named_some}

abbrev sheet : SheetRecords → SheetContent
sheet q = q.0

module _ (s : Settings) (all : List SheetRecords) where
  -- at an index
  content_at : (vs : List SheetView) (qs : List SheetRecords) (n : ℕ) (t : SheetContent) (v : SheetView)
      → AllZip (IsDisplayed s all) vs qs → slice_get (map sheet qs) n ≡ Some t → slice_get vs n ≡ Some v
      → IsContent s (kept_named all t.name) v
  content_at [] qs n t v a at found = absurd cc
  content_at (w ∷ vs) [] n t v a at found = absurd a
  content_at (w ∷ vs) (q ∷ qs) zero t v a at found =
      let same : q.0 ≡ t = cc in
      let is : w ≡ v = cc in
      subst (λ (x : SheetContent). IsContent s (kept_named all x.name) v) same (subst (IsContent s (kept_named all q.0.name)) is a.0)
  content_at (w ∷ vs) (q ∷ qs) (suc n) t v a at found = content_at vs qs n t v a.1 at found

  -- by name
  last_content : (vs : List SheetView) (qs : List SheetRecords) (name : List ℕ) (last : SheetView)
      → AllZip (IsDisplayed s all) vs qs → last_named (paired (map sheet qs) vs) name ≡ Some last
      → IsContent s (kept_named all name) last
  last_content [] [] name last a found = absurd cc
  last_content [] (q ∷ qs) name last a found = absurd a
  last_content (v ∷ vs) [] name last a found = absurd a
  last_content (v ∷ vs) (q ∷ qs) name last a found =
      by_cases (last_named (paired (map sheet qs) vs) name) refl (pointwise ◌==◌ q.0.name name) refl (λ h. last_content vs qs name last a.1 h) found
    where
      by_cases : (o : Option SheetView) → last_named (paired (map sheet qs) vs) name ≡ o
          → (b : Bool) → pointwise ◌==◌ q.0.name name ≡ b
          → (last_named (paired (map sheet qs) vs) name ≡ Some last → IsContent s (kept_named all name) last)
          → option_or o (if b then Some v else None) ≡ Some last → IsContent s (kept_named all name) last
      by_cases (Some w) e b t following h = following (e ∙ h)
      by_cases None e true t following h =
          let is : v ≡ last = cc in
          subst (λ (x : List ℕ). IsContent s (kept_named all x) last) ((bytes_eq-Decides q.0.name name).0 t) (subst (IsContent s (kept_named all q.0.name)) is a.0)
      by_cases None e false t following h = absurd cc

  same_length : (vs : List SheetView) (qs : List SheetRecords) → AllZip (IsDisplayed s all) vs qs
      → length vs ≡ length (map sheet qs)
  same_length [] [] a = refl
  same_length [] (q ∷ qs) a = absurd a
  same_length (v ∷ vs) [] a = absurd a
  same_length (v ∷ vs) (q ∷ qs) a = let rest = same_length vs qs a.1 in omega (arith, rest)

  by_name : (vs : List SheetView) (qs : List SheetRecords) (n : ℕ) (t : SheetContent) (v : SheetView)
      → AllZip (IsDisplayed s all) vs qs → slice_get (map sheet qs) n ≡ Some t → slice_get vs n ≡ Some v
      → (last : SheetView) × (last_named (paired (map sheet qs) vs) t.name ≡ Some last) × (v.merges ≡ last.merges)
  by_name vs qs n t v a at found =
      let there = named_some no_view (map sheet qs) vs n t (same_length vs qs a) at in (
        unwrap_or (last_named (paired (map sheet qs) vs) t.name) no_view,
        there,
        (content_at vs qs n t v a at found).merges
            ∙ sym (last_content vs qs t.name (unwrap_or (last_named (paired (map sheet qs) vs) t.name) no_view) a there).merges,
      )

pub regions_by_name : (rules : Rules) (entries : List ListEntry) (book : BookView)
    → IsReading rules entries book → (n : ℕ) (t : SheetContent) (v : SheetView)
    → slice_get book.sheets n ≡ Some t → slice_get book.contents n ≡ Some v
    → (last : SheetView) × (displayed_of book t.name ≡ Some last) × (v.merges ≡ last.merges)
regions_by_name rules entries book r n t v at found =
    let qs = sheets_of rules entries in
    let found_by = by_name (settings_of rules entries) qs book.contents qs n t v r.contents (ap (λ (x : List SheetContent). slice_get x n) (sym r.sheets) ∙ at) found in
    subst (λ (x : List SheetContent). (last : SheetView) × (last_named (paired x book.contents) t.name ≡ Some last) × (v.merges ≡ last.merges)) (sym r.sheets) found_by
