-- The names of a workbook with their ranges, in the order of the index.
use Rattle.std.proofs.Common.{◌≡◌, ℕ, List, [], ◌∷◌, ◌++◌, length, map, refl, sym, ap, subst, ◌∙◌, append_assoc, arith, inl, inr, Bool, true, false, cond, Option, Some, None, Less}
use Rattle.std.specs.Prelude.{String, slice_get, nat_lt, get_or, ◌<◌}
use Rattle.std.specs.Global.{Global}
use Rattle.std.specs.List.{All, AllByRecursion}
use Rattle.std.specs.Option.{option_map}
use Rattle.std.specs.List.Sorted.{IsStrictlySortedBy}
use Rattle.std.specs.Map.{lookup}
use Rattle.std.specs.BTreeMap.{BTreeMap, get_by_text, is_at}
use Rattle.std.specs.Ordering.{nat_cmp}
use Rattle.std.specs.Cmp.Lexicographic.{slice_cmp}
use Rattle.std.specs.String.{string_bytes}
use Rattle.std.specs.Str.{chars}
use Rattle.std.proofs.lemmas.List.{append-nil, map-append, length-append, length-map, get_or_at}
use Rattle.std.proofs.lemmas.Map.Text.{is_eq-slice_cmp}
use Rattle.std.proofs.lemmas.Option.{slice_get-map}
use Rattle.std.proofs.lemmas.Slice.Eq.{bytes_eq-Decides}
use Rattle.std.proofs.lemmas.Str.{IsUtf8-string_bytes}
use Rattle.xls_data.specs.Sheets.{SheetContent, sheet_content}
use Rattle.xls_data.specs.declared.sheets.Sheet.{Sheet}
use Rattle.xls_meaning.specs.Reading.{SheetView, last_named, paired}
use Rattle.xls_view.specs.Index.{last_place, IsIndex}
use Rattle.xls_meaning.specs.Held.{no_view}
use Rattle.xls_book.specs.LookUps.{Equal, Blank, IsBox, IsListed, Worksheet, IsWorksheet, AreWorksheets}
use Rattle.xls_view.proofs.IndexLemmas.{at_place, named_place}
use Rattle.xls_meaning.proofs.NamedLemmas.{named_some}

-- a name of the index, and the place of its last sheet
abbrev Placed : Type 0
Placed = String Global × ℕ

abbrev key_bytes : Placed → List ℕ
key_bytes e = string_bytes e.0

abbrev name_bytes : Worksheet → List ℕ
name_bytes w = string_bytes w.0

-- ---- order

sorted_bytes : (es : List Placed)
    → IsStrictlySortedBy (λ (x y : String Global). slice_cmp nat_cmp (string_bytes x) (string_bytes y)) (map (λ (e : Placed). e.0) es)
    → IsStrictlySortedBy (slice_cmp nat_cmp) (map key_bytes es)
unfolding IsStrictlySortedBy
sorted_bytes [] h = h
sorted_bytes (e ∷ es) h = (all_less es h.0, sorted_bytes es h.1)
  where
    all_less : (fs : List Placed)
        → AllByRecursion (λ (y : String Global). slice_cmp nat_cmp (string_bytes e.0) (string_bytes y) ≡ Less) (map (λ (f : Placed). f.0) fs)
        → AllByRecursion (λ (y : List ℕ). slice_cmp nat_cmp (string_bytes e.0) y ≡ Less) (map key_bytes fs)
    all_less [] a = tt
    all_less (f ∷ fs) a = (a.0, all_less fs a.1)

-- ---- every name

abbrev key_test : List ℕ → String Global → Bool
key_test name = is_at (λ (k : String Global). slice_cmp nat_cmp name (string_bytes k))

listed_step : (name : List ℕ) (e : Placed) (es : List Placed) (i : ℕ)
    → (lookup (key_test name) es ≡ Some i → IsListed (map key_bytes es) name)
    → (b : Bool) → key_test name e.0 ≡ b → cond b (Some e.1) (lookup (key_test name) es) ≡ Some i
    → IsListed (map key_bytes (e ∷ es)) name
listed_step name e es i on true t h =
    inl (sym ((bytes_eq-Decides name (string_bytes e.0)).0 (sym (is_eq-slice_cmp name (string_bytes e.0)) ∙ t)))
listed_step name e es i on false t h = inr (on h)

-- a name that is found is a key
lookup_listed : (name : List ℕ) (es : List Placed) (i : ℕ) → lookup (key_test name) es ≡ Some i
    → IsListed (map key_bytes es) name
lookup_listed name [] i h = absurd cc
lookup_listed name (e ∷ es) i h =
    listed_step name e es i (λ g. lookup_listed name es i g) (key_test name e.0) refl h

listed_chars : (bs : List (List ℕ)) (b : List ℕ) → IsListed bs b → IsListed (map chars bs) (chars b)
listed_chars [] b h = h
listed_chars (c ∷ bs) b h = elim h [ inl e ↦ inl (ap chars e) | inr l ↦ inr (listed_chars bs b l) ]

-- ---- the list so far

module _ (eq : Equal) (blank : Blank) (named : List ℕ → Option SheetView) where
  pub record Listing (entries : List Placed) (done : List Worksheet) (rest : List Placed) : Type 0 where
    pub prefix : List Placed
    pub whole : entries ≡ prefix ++ rest
    pub names : map name_bytes done ≡ map key_bytes prefix
    pub each : AllByRecursion (IsWorksheet eq blank named) done

  pub listing_nothing : (entries : List Placed) (done : List Worksheet) → done ≡ [] → Listing entries done entries
  listing_nothing entries done e =
      subst (λ (d : List Worksheet). Listing entries d entries) (sym e) (record {
        prefix = [];
        whole = refl;
        names = refl;
        each = tt;
      })

  all_push : (xs : List Worksheet) (y : Worksheet) → AllByRecursion (IsWorksheet eq blank named) xs
      → IsWorksheet eq blank named y → AllByRecursion (IsWorksheet eq blank named) (xs ++ y ∷ [])
  all_push [] y a h = (h, tt)
  all_push (x ∷ xs) y a h = (a.0, all_push xs y a.1 h)

  pub listing_more : (entries : List Placed) (done new : List Worksheet) (e : Placed) (rest : List Placed) (w : Worksheet) (view : SheetView)
      → Listing entries done (e ∷ rest) → new ≡ done ++ w ∷ [] → string_bytes w.0 ≡ string_bytes e.0
      → named (chars (string_bytes e.0)) ≡ Some view → IsBox eq blank view.cells w.1
      → Listing entries new rest
  listing_more entries done new e rest w view l puts same found box =
      subst (λ (d : List Worksheet). Listing entries d rest) (sym puts) (record {
        prefix = l.prefix ++ e ∷ [];
        whole = l.whole ∙ sym (append_assoc l.prefix (e ∷ []) rest);
        names = map-append name_bytes done (w ∷ [])
            ∙ ap (λ (x : List (List ℕ)). x ++ string_bytes w.0 ∷ []) l.names
            ∙ ap (λ (x : List ℕ). map key_bytes l.prefix ++ x ∷ []) same
            ∙ sym (map-append key_bytes l.prefix (e ∷ []));
        each = all_push done w l.each (view, ap (λ (x : List ℕ). named (chars x)) same ∙ found, box);
      })

-- what holds of all entries holds of the next one
pub entry_holds : (P : Placed → Type 0) (entries prefix : List Placed) (e : Placed) (rest : List Placed)
    → entries ≡ prefix ++ e ∷ rest → All P entries → P e
entry_holds P entries prefix e rest w a =
    subst P (ap (λ (x : List Placed). get_or x (length prefix) e) w ∙ get_or_at prefix e rest e (length prefix) refl)
    (a (length prefix) e (within (ap (λ (x : List Placed). length x) w)))
  where
    within : length entries ≡ length (prefix ++ e ∷ rest) → length prefix < length entries
    within h = omega (arith, h, length-append prefix (e ∷ rest))

pub not_past : (i n : ℕ) → i < n → false ≡ nat_lt i n → ⊥
not_past i n l e = grind arith

-- ---- by the index

module _ (sheets : List Sheet) (contents : List SheetView) (index : BTreeMap (String Global) ℕ) (is_index : IsIndex index sheets) (len : length contents ≡ length sheets) where
  abbrev pub of_name : List ℕ → Option SheetView
  of_name = last_named (paired (map sheet_content sheets) contents)

  -- an entry's name shows what stands at its place
  pub entry_shows : (e : Placed) → get_by_text index (string_bytes e.0) ≡ Some e.1
      → of_name (chars (string_bytes e.0)) ≡ slice_get contents e.1
  entry_shows e h =
      named_place sheets contents (string_bytes e.0) (IsUtf8-string_bytes e.0) len
      ∙ ap (λ (o : Option ℕ). at_place o contents) (sym (is_index (string_bytes e.0)) ∙ h)

  some_place : (o : Option ℕ) (v : SheetView) → at_place o contents ≡ Some v → (i : ℕ) × (o ≡ Some i)
  some_place None v h = absurd cc
  some_place (Some i) v h = (i, refl)

  sheet_listed : (n : ℕ) (t : Sheet) → slice_get sheets n ≡ Some t
      → IsListed (map chars (map key_bytes index.entries)) (sheet_content t).name
  sheet_listed n t at =
      let names = map sheet_content sheets in
      let bytes = string_bytes t.name in
      let here : slice_get names n ≡ Some (sheet_content t) = slice_get-map sheet_content sheets n ∙ ap (λ (o : Option Sheet). option_map sheet_content o) at in
      let found = named_some no_view names contents n (sheet_content t) (len ∙ sym (length-map sheets sheet_content)) here in
      let place = some_place (last_place sheets bytes) _ (sym (named_place sheets contents bytes (IsUtf8-string_bytes t.name) len) ∙ found) in
      listed_chars (map key_bytes index.entries) bytes (lookup_listed bytes index.entries place.0 (is_index bytes ∙ place.1))

  all_listed : (names : List (List ℕ)) → names ≡ map chars (map key_bytes index.entries) → (ts done : List Sheet)
      → sheets ≡ done ++ ts
      → AllByRecursion (λ (s : SheetContent). IsListed names s.name) (map sheet_content ts)
  all_listed names e [] done w = tt
  all_listed names e (t ∷ ts) done w = (
    subst (λ (x : List (List ℕ)). IsListed x (sheet_content t).name) (sym e) (sheet_listed (length done) t (ap (λ (x : List Sheet). slice_get x (length done)) w ∙ at_end done t ts)),
    all_listed names e ts (done ++ t ∷ []) (w ∙ sym (append_assoc done (t ∷ []) ts)),
  )
    where
      at_end : (xs : List Sheet) (y : Sheet) (ys : List Sheet) → slice_get (xs ++ y ∷ ys) (length xs) ≡ Some y
      at_end [] y ys = refl
      at_end (x ∷ xs) y ys = at_end xs y ys

  chars_of : (list : List Worksheet) → map (λ (w : Worksheet). chars (string_bytes w.0)) list ≡ map chars (map name_bytes list)
  chars_of [] = refl
  chars_of (w ∷ list) = ap (λ (l : List (List ℕ)). chars (string_bytes w.0) ∷ l) (chars_of list)

  pub listing_end : (eq : Equal) (blank : Blank) (list : List Worksheet) (rest : List Placed) → rest ≡ []
      → Listing eq blank of_name index.entries list rest
      → IsStrictlySortedBy (λ (x y : String Global). slice_cmp nat_cmp (string_bytes x) (string_bytes y)) (map (λ (e : Placed). e.0) index.entries)
      → AreWorksheets eq blank of_name (map sheet_content sheets) list
  listing_end eq blank list rest e l sorted =
      let all : index.entries ≡ l.prefix = l.whole ∙ ap (λ (x : List Placed). l.prefix ++ x) e ∙ append-nil l.prefix in
      let names : map name_bytes list ≡ map key_bytes index.entries = l.names ∙ ap (map key_bytes) (sym all) in
      record {
        ordered = subst (IsStrictlySortedBy (slice_cmp nat_cmp)) (sym names) (sorted_bytes index.entries sorted);
        each = l.each;
        every = all_listed (map (λ (w : Worksheet). chars (string_bytes w.0)) list) (chars_of list ∙ ap (map chars) names) sheets [] refl;
      }
