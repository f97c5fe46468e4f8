-- The last of a name or of an identifier among the first so many, and the contents by name.
use Rattle.std.proofs.Common.{◌≡◌, ℕ, zero, suc, ◌+◌, ◌<◌, ◌≤◌, List, [], ◌∷◌, ◌++◌, length, map, take, get_or, refl, sym, ap, subst, ◌∙◌, arith, Bool, true, false, cond, Option, Some, None}
use Rattle.std.specs.Prelude.{◌==◌, if◌then◌else◌, is_some, slice_get, nat_lt, IfSome}
use Rattle.std.specs.Option.{option_or, option_map, option_copied}
use Rattle.std.specs.Borrow.{Bor}
use Rattle.std.specs.List.{AllByRecursion}
use Rattle.std.specs.String.{string_bytes}
use Rattle.std.specs.Str.{chars, bytes_eq, IsUtf8}
use Rattle.std.specs.Cmp.Lexicographic.{pointwise}
use Rattle.std.proofs.lemmas.List.{take_more, length-take-le, map-append}
use Rattle.std.proofs.lemmas.Option.{slice_get_past, slice_get_read}
use Rattle.std.proofs.lemmas.Str.{IsUtf8-string_bytes}
use Rattle.xls_data.specs.Sheets.{SheetContent, sheet_content}
use Rattle.xls_data.specs.declared.sheets.Sheet.{Sheet}
use Rattle.xls_meaning.specs.Reading.{last_named, paired}
use Rattle.xls_view.specs.Index.{last_place}
use Rattle.xls_view.proofs.NameLemmas.{same_text}
use Rattle.xls_open.proofs.MapLemmas.{map_more}

-- ---- places

place_push : (ts : List Sheet) (t : Sheet) (name : List ℕ)
    → last_place (ts ++ t ∷ []) name ≡ cond (bytes_eq (string_bytes t.name) name) (Some (length ts)) (last_place ts name)
place_push [] t name = by_test (bytes_eq (string_bytes t.name) name)
  where
    by_test : (b : Bool) → ◌≡◌ {A = Option ℕ} (if b then Some 0 else None) (cond b (Some 0) None)
    by_test true = refl
    by_test false = refl
place_push (u ∷ ts) t name =
    rw (place_push ts t name) (by_test (bytes_eq (string_bytes t.name) name) (last_place ts name) (if bytes_eq (string_bytes u.name) name then Some 0 else None))
  where
    by_test : (b : Bool) (o p : Option ℕ)
        → option_or (option_map suc (cond b (Some (length ts)) o)) p ≡ cond b (Some (suc (length ts))) (option_or (option_map suc o) p)
    by_test true o p = refl
    by_test false o p = refl

place_more : (ts : List Sheet) (i : ℕ) (t : Sheet) (name : List ℕ) → i < length ts → t ≡ get_or ts i t
    → last_place (take (i + 1) ts) name ≡ cond (bytes_eq (string_bytes t.name) name) (Some i) (last_place (take i ts) name)
place_more ts i t name l e =
    ap (λ (x : List Sheet). last_place x name) (take_more ts i t l)
    ∙ ap (λ (x : Sheet). last_place (take i ts ++ x ∷ []) name) (sym e)
    ∙ place_push (take i ts) t name
    ∙ ap (λ (k : ℕ). cond (bytes_eq (string_bytes t.name) name) (Some k) (last_place (take i ts) name)) (length-take-le i ts (omega arith))

-- where the map had the places of the sheets so far, it has them after one more
pub place_next : (ts : List Sheet) (i : ℕ) (t : Sheet) (text : List ℕ) (old new : List ℕ → Option ℕ)
    → i < length ts → t ≡ get_or ts i t → text ≡ string_bytes (get_or ts i t).name
    → ((name : List ℕ) → old name ≡ last_place (take i ts) name)
    → ((name : List ℕ) → new name ≡ cond (bytes_eq text name) (Some i) (old name))
    → (name : List ℕ) → new name ≡ last_place (take (i + 1) ts) name
place_next ts i t text old new l e is had puts name =
    puts name
    ∙ ap (λ (b : List ℕ). cond (bytes_eq b name) (Some i) (old name)) (is ∙ ap (λ (x : Sheet). string_bytes x.name) (sym e))
    ∙ ap (cond (bytes_eq (string_bytes t.name) name) (Some i)) (had name)
    ∙ sym (place_more ts i t name l e)

-- ---- the content of a name

-- what stands at a place
abbrev pub at_place : {X : Type 0} → Option ℕ → List X → Option X
at_place None xs = None
at_place (Some i) xs = slice_get xs i

within_step : (o : Option ℕ) (b : Bool) (n : ℕ) → ((i : ℕ) → o ≡ Some i → i < n) → (i : ℕ)
    → option_or (option_map suc o) (if b then Some 0 else None) ≡ Some i → i < suc n
within_step None true n h i e = let z : 0 ≡ i = cc in omega arith
within_step None false n h i e = absurd cc
within_step (Some j) b n h i e = let z : suc j ≡ i = cc in let l = h j refl in omega arith

pub place_within : (ts : List Sheet) (name : List ℕ) (i : ℕ) → last_place ts name ≡ Some i → i < length ts
place_within [] name i e = absurd cc
place_within (t ∷ ts) name i e =
    within_step (last_place ts name) (bytes_eq (string_bytes t.name) name) (length ts) (λ j f. place_within ts name j f) i e

module _ {X : Type 0} where
  is_there : (xs : List X) (i : ℕ) (o : Option X) → i < length xs → option_or (slice_get xs i) o ≡ slice_get xs i
  is_there [] i o l = absurd (omega arith)
  is_there (x ∷ xs) zero o l = refl
  is_there (x ∷ xs) (suc i) o l = is_there xs i o (omega arith)

  place_step : (v : X) (vs : List X) (o : Option ℕ) (b : Bool) → ((i : ℕ) → o ≡ Some i → i < length vs)
      → option_or (at_place o vs) (if b then Some v else None)
      ≡ at_place (option_or (option_map suc o) (if b then Some 0 else None)) (v ∷ vs)
  place_step v vs None true h = refl
  place_step v vs None false h = refl
  place_step v vs (Some i) b h = is_there vs i (if b then Some v else None) (h i refl)

  -- the last of a name stands at the place of its last sheet
  pub named_place : (ts : List Sheet) (vs : List X) (name : List ℕ) → IsUtf8 name → length vs ≡ length ts
      → last_named (paired (map sheet_content ts) vs) (chars name) ≡ at_place (last_place ts name) vs
  named_place [] vs name u e = refl
  named_place (t ∷ ts) [] name u e = absurd (omega (arith, e))
  named_place (t ∷ ts) (v ∷ vs) name u e =
      let len : length vs ≡ length ts = omega (arith, e) in
      ap (λ (o : Option X). option_or o (if pointwise ◌==◌ (chars (string_bytes t.name)) (chars name) then Some v else None)) (named_place ts vs name u len)
      ∙ ap (λ (b : Bool). option_or (at_place (last_place ts name) vs) (if b then Some v else None)) (sym (same_text (string_bytes t.name) name (IsUtf8-string_bytes t.name) u))
      ∙ place_step v vs (last_place ts name) (bytes_eq (string_bytes t.name) name) (λ i f. let l = place_within ts name i f in omega (arith, l, len))

  -- what was found so is what stands at the last sheet of the name
  pub found_at : (ts : List Sheet) (vs : List X) (name : List ℕ) (o : Option ℕ) (r : Option X)
      → IsUtf8 name → length vs ≡ length ts → last_place ts name ≡ o → r ≡ at_place o vs
      → r ≡ last_named (paired (map sheet_content ts) vs) (chars name)
  found_at ts vs name o r u len h is =
      is ∙ ap (λ (p : Option ℕ). at_place p vs) (sym h) ∙ sym (named_place ts vs name u len)

-- ---- what each index shows

-- an element that was looked up in a slice
pub looked : {X : Type 0} (xs : List X) (n : ℕ) (r : Option (Bor X)) → is_some r ≡ nat_lt n (length xs)
    → IfSome r (λ x. x.now ≡ get_or xs n x.now) → option_copied r ≡ slice_get xs n
looked {X} xs n None t h = sym (slice_get_past xs n (past t))
  where
    past : false ≡ nat_lt n (length xs) → length xs ≤ n
    past e = grind arith
looked {X} xs n (Some x) t h = sym (slice_get_read xs (length xs) n x.now refl (within t) h)
  where
    within : true ≡ nat_lt n (length xs) → n < length xs
    within e = grind arith

all_read : {X : Type 0} (P : X → Type 0) (xs : List X) (n : ℕ) (x : X) → AllByRecursion P xs → n < length xs
    → x ≡ get_or xs n x → P x
all_read P [] n x a l e = absurd (omega arith)
all_read P (y ∷ ys) zero x a l e = subst P (sym e) a.0
all_read P (y ∷ ys) (suc n) x a l e = all_read P ys n x a.1 (omega arith) e

-- what holds of all elements holds of one that was looked up
pub all_looked : {X : Type 0} (P : X → Type 0) (xs : List X) (n : ℕ) (r : Option (Bor X))
    → is_some r ≡ nat_lt n (length xs) → IfSome r (λ x. x.now ≡ get_or xs n x.now) → AllByRecursion P xs
    → IfSome r (λ x. P x.now)
all_looked P xs n None t h a = tt
all_looked P xs n (Some x) t h a = all_read P xs n x.now a (within t) h
  where
    within : true ≡ nat_lt n (length xs) → n < length xs
    within e = grind arith

-- ---- names

abbrev names_of : List Sheet → List (List ℕ)
names_of ts = map (λ (s : SheetContent). s.name) (map sheet_content ts)

-- one more name
pub names_next : {S : Type 0} (text : S → List ℕ) (ts : List Sheet) (i : ℕ) (t : Sheet) (old new : List S) (name : S)
    → i < length ts → t ≡ get_or ts i t → map text old ≡ names_of (take i ts) → new ≡ old ++ name ∷ []
    → text name ≡ chars (string_bytes t.name) → map text new ≡ names_of (take (i + 1) ts)
names_next {S} text ts i t old new name l e had puts is =
    ap (map text) puts ∙ map-append text old (name ∷ [])
    ∙ ap (λ (x : List (List ℕ)). x ++ text name ∷ []) had
    ∙ ap (λ (x : List ℕ). names_of (take i ts) ++ x ∷ []) is
    ∙ sym (ap (map (λ (s : SheetContent). s.name)) (map_more sheet_content ts i t l e)
    ∙ map-append (λ (s : SheetContent). s.name) (map sheet_content (take i ts)) (sheet_content t ∷ []))
