-- What the formulas of a view cite is what those of the workbook of its bytes cite.
use Rattle.std.proofs.Common.{◌≡◌, ℕ, zero, suc, ◌+◌, ◌<◌, ◌≤◌, List, [], ◌∷◌, ◌++◌, map, length, take, refl, sym, ap, subst, ◌∙◌, arith, append_assoc, take_all, Option, Some, None}
use Rattle.std.specs.Prelude.{slice_get}
use Rattle.std.specs.List.{flat_map, AllZip}
use Rattle.std.specs.Option.{option_map}
use Rattle.std.proofs.lemmas.List.{append-nil}
use Rattle.xls_formula.specs.Context.{Context}
use Rattle.xls_meaning.specs.Rules.{Rules}
use Rattle.xls_meaning.specs.Settings.{SheetRecords, sheets_of, sheet_names_of, context_of}
use Rattle.xls_view.specs.Formulas.{Formula}
use Rattle.xls_view.specs.Viewing.{Viewed, IsViewed, ShowsFormulas}
use Rattle.xls_view.specs.Walking.{NamedContext}
use Rattle.xls_refs.specs.Cited.{AreCited, BookCitation, BookCited, cited_by}
use Rattle.xls_refs.specs.Citing.{IsBookCited}
use Rattle.xls_refs.specs.Views.{cited_in, cited_of, each_cited, sheets_cited, sheets_from}

-- ---- the law

-- what was mapped, joined
each_map : {X Y : Type 0} (f : X → List Y) (xs : List X) → flat_map (λ (ys : List Y). ys) (map f xs) ≡ flat_map f xs
each_map f [] = refl
each_map {X} {Y} f (x ∷ xs) = ap (λ (ys : List Y). f x ++ ys) (each_map f xs)

cited_as_displayed : (context : Context) (all : List SheetRecords) (index : ℕ) (displayed : List (List Formula)) (qs : List SheetRecords)
    → AllZip (ShowsFormulas all) displayed qs
    → AreCited context all index qs (flat_map each_cited (sheets_from context index (sheet_names_of qs) displayed))
cited_as_displayed context all index [] [] z = refl
cited_as_displayed context all index [] (q ∷ qs) z = absurd z
cited_as_displayed context all index (formulas ∷ displayed) [] z = absurd z
cited_as_displayed context all index (formulas ∷ displayed) (q ∷ qs) z = (
  each_cited (map (cited_by context index q.0.name) formulas),
  flat_map each_cited (sheets_from context (suc index) (sheet_names_of qs) displayed),
  refl,
  record {
    formulas = formulas;
    last = z.0;
    cited_is = each_map (cited_by context index q.0.name) formulas;
  },
  cited_as_displayed context all (suc index) displayed qs z.1,
)

pub viewed_is_cited : (rules : Rules) (bytes : List ℕ) (view : Viewed) → IsViewed rules bytes view
    → IsBookCited rules bytes (cited_in view)
viewed_is_cited rules bytes view h = record {
  sound = h.sound;
  entries = h.entries;
  carries = h.carries;
  full = h.full;
  every = λ others c.
      let sheets = sheets_of rules others in
      let context = context_of rules others in
      record {
        names = ap (λ (x : Context). x.sheets) (h.context others c);
        cites = subst (λ (x : Context). AreCited context sheets 0 sheets (flat_map each_cited (sheets_from x 0 x.sheets view.formulas)))
            (sym (h.context others c)) (cited_as_displayed context sheets 0 view.formulas sheets (h.formulas others c));
      };
}

-- ---- the sheet at an index

-- its name and its formulas
pub sheet_at : (context : Context) (index : ℕ) (names : List (List ℕ)) (displayed : List (List Formula)) (n : ℕ) (name : List ℕ) (formulas : List Formula)
    → slice_get names n ≡ Some name → slice_get displayed n ≡ Some formulas
    → slice_get (sheets_from context index names displayed) n ≡ Some (map (cited_by context (index + n) name) formulas)
sheet_at context index [] displayed n name formulas h k = absurd cc
sheet_at context index (m ∷ names) [] n name formulas h k = absurd cc
sheet_at context index (m ∷ names) (fs ∷ displayed) zero name formulas h k =
    let same_name : m ≡ name = cc in
    let same : fs ≡ formulas = cc in
    let here : index ≡ index + 0 = omega arith in
    ap (λ (i : ℕ). Some (map (cited_by context i m) fs)) here ∙ rw (same_name, same) refl
sheet_at context index (m ∷ names) (fs ∷ displayed) (suc n) name formulas h k =
    let next : suc index + n ≡ index + suc n = omega arith in
    sheet_at context (suc index) names displayed n name formulas h k
    ∙ ap (λ (i : ℕ). Some (map (cited_by context i name) formulas)) next

pub no_name_at : (context : Context) (index : ℕ) (names : List (List ℕ)) (displayed : List (List Formula)) (n : ℕ)
    → slice_get names n ≡ None → slice_get (sheets_from context index names displayed) n ≡ None
no_name_at context index [] displayed n h = refl
no_name_at context index (m ∷ names) [] n h = refl
no_name_at context index (m ∷ names) (fs ∷ displayed) zero h = absurd cc
no_name_at context index (m ∷ names) (fs ∷ displayed) (suc n) h = no_name_at context (suc index) names displayed n h

pub nothing_displayed_at : (context : Context) (index : ℕ) (names : List (List ℕ)) (displayed : List (List Formula)) (n : ℕ)
    → slice_get displayed n ≡ None → slice_get (sheets_from context index names displayed) n ≡ None
nothing_displayed_at context index [] displayed n h = refl
nothing_displayed_at context index (m ∷ names) [] n h = refl
nothing_displayed_at context index (m ∷ names) (fs ∷ displayed) zero h = absurd cc
nothing_displayed_at context index (m ∷ names) (fs ∷ displayed) (suc n) h = nothing_displayed_at context (suc index) names displayed n h

-- nothing that was mapped is nothing
pub none_mapped : {X Y : Type 0} (f : X → Y) (o : Option X) → None ≡ option_map f o → o ≡ None
none_mapped f None h = refl
none_mapped f (Some x) h = absurd cc

-- what the formulas there cite, where they may name what those of the view may
pub found_sheet : (v : Viewed) (n : ℕ) (name : List ℕ) (context : Context) (found : NamedContext)
    → Some name ≡ slice_get v.context.sheets n
    → Some found ≡ option_map (λ (fs : List Formula). record { context = v.context; left = fs }) (slice_get v.formulas n)
    → context ≡ v.context
    → Some (map (cited_by context n name) found.left) ≡ slice_get (sheets_cited v) n
found_sheet v n name context found h k same = by_displayed (slice_get v.formulas n) refl k
  where
    by_displayed : (o : Option (List Formula)) → slice_get v.formulas n ≡ o
        → Some found ≡ option_map (λ (fs : List Formula). record { context = v.context; left = fs }) o
        → Some (map (cited_by context n name) found.left) ≡ slice_get (sheets_cited v) n
    by_displayed None at e = absurd cc
    by_displayed (Some fs) at e =
        let is : found ≡ record { context = v.context; left = fs } = cc in
        let here : n ≡ 0 + n = omega arith in
        ap (λ (x : Context). Some (map (cited_by x n name) found.left)) same
        ∙ ap (λ (x : NamedContext). Some (map (cited_by v.context n name) x.left)) is
        ∙ ap (λ (i : ℕ). Some (map (cited_by v.context i name) fs)) here
        ∙ sym (sheet_at v.context 0 v.context.sheets v.formulas n name fs (sym h) at)

-- ---- one sheet after the other

pub length-sheets_from : (context : Context) (index : ℕ) (names : List (List ℕ)) (displayed : List (List Formula))
    → length (sheets_from context index names displayed) ≤ length names
length-sheets_from context index [] displayed = omega arith
length-sheets_from context index (m ∷ names) [] = omega arith
length-sheets_from context index (m ∷ names) (fs ∷ displayed) =
    let others = length-sheets_from context (suc index) names displayed in omega (arith, others)

cited_push : (sheets : List (List (List BookCitation))) (i : ℕ)
    → flat_map each_cited (take (suc i) sheets) ≡ flat_map each_cited (take i sheets) ++ cited_of (slice_get sheets i)
cited_push [] zero = refl
cited_push [] (suc i) = refl
cited_push (s ∷ sheets) zero = append-nil (each_cited s)
cited_push (s ∷ sheets) (suc i) =
    ap (λ (l : List BookCitation). each_cited s ++ l) (cited_push sheets i)
    ∙ sym (append_assoc (each_cited s) (flat_map each_cited (take i sheets)) (cited_of (slice_get sheets i)))

-- what the sheets so far cite, and the next one
pub sheets_more : (sheets : List (List (List BookCitation))) (i : ℕ)
    → flat_map each_cited (take (i + 1) sheets) ≡ flat_map each_cited (take i sheets) ++ cited_of (slice_get sheets i)
sheets_more sheets i =
    let next : i + 1 ≡ suc i = omega arith in
    ap (λ (n : ℕ). flat_map each_cited (take n sheets)) next ∙ cited_push sheets i

-- what all of them cite
pub sheets_all : (context : Context) (names : List (List ℕ)) (displayed : List (List Formula)) (i : ℕ) → length names ≤ i
    → flat_map each_cited (take i (sheets_from context 0 names displayed)) ≡ flat_map each_cited (sheets_from context 0 names displayed)
sheets_all context names displayed i l =
    let within = length-sheets_from context 0 names displayed in
    ap (flat_map each_cited) (take_all i (sheets_from context 0 names displayed) (omega (arith, within, l)))

-- the names of the sheets, and what all of them cite
pub whole : (v : Viewed) (names : List (List ℕ)) (cites : List BookCitation) (i : ℕ) → names ≡ v.context.sheets → length names ≤ i
    → cites ≡ flat_map each_cited (take i (sheets_cited v)) → ◌≡◌ {A = BookCited} (record { names = names; cites = cites }) (cited_in v)
whole v names cites i same l is =
    let within : length v.context.sheets ≤ i = rw (← same) l in
    ap (λ (x : List (List ℕ)). record { names = x; cites = cites }) same
    ∙ ap (λ (x : List BookCitation). record { names = v.context.sheets; cites = x }) (is ∙ sheets_all v.context v.context.sheets v.formulas i within)

-- ---- texts

-- one more text of a list, where there is one
pub texts_more : (texts : List (List ℕ)) (i : ℕ) (text : List ℕ) → Some text ≡ slice_get texts i → take (i + 1) texts ≡ take i texts ++ text ∷ []
texts_more texts i text h = subst (λ (n : ℕ). take n texts ≡ take i texts ++ text ∷ []) next (push texts i h)
  where
    next : suc i ≡ i + 1
    next = omega arith

    push : (xs : List (List ℕ)) (n : ℕ) → Some text ≡ slice_get xs n → take (suc n) xs ≡ take n xs ++ text ∷ []
    push [] n e = absurd cc
    push (x ∷ xs) zero e = let same : text ≡ x = cc in ap (λ (y : List ℕ). y ∷ []) (sym same)
    push (x ∷ xs) (suc n) e = ap (λ (l : List (List ℕ)). x ∷ l) (push xs n e)

pub no_text : (texts : List (List ℕ)) (i : ℕ) → None ≡ slice_get texts i → i < length texts → ⊥
no_text [] i h l = omega arith
no_text (x ∷ texts) zero h l = cc
no_text (x ∷ texts) (suc i) h l = no_text texts i h (omega arith)
