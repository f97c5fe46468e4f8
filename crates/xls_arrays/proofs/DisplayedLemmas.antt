-- Sheets with what their indexes show.
use Rattle.std.proofs.Common.{◌≡◌, ℕ, zero, suc, ◌+◌, ◌<◌, ◌≤◌, List, [], ◌∷◌, length, map, get_or, drop, drop-cons, add-one, refl, sym, ap, ◌∙◌, arith, slice_get, Option, Some, None, if◌then◌else◌, ◌==◌, rules}
use Rattle.std.proofs.lemmas.List.{drop_all}
use Rattle.std.specs.List.{zip}
use Rattle.xls_data.specs.Sheets.{SheetContent}
use Rattle.xls_meaning.specs.Reading.{BookView, SheetView}
use Rattle.xls_view.specs.Formats.{FormattedCell}
use Rattle.xls_view.specs.Viewing.{Viewed}
use Rattle.xls_arrays.specs.Arrays.{Reported}
use Rattle.xls_arrays.specs.Classed.{classed_book, classed_content}
use Rattle.xls_arrays.specs.Displayed.{alone, asked_for, content_in, each_with, no_content}
use Rattle.xls_arrays.specs.declared.options.Options.{Options}

-- ---- lists by their index

-- what stands at an index of a list that was mapped
pub mapped : {X Y : Type 0} (f : X → Y) (xs : List X) (ys : List Y) (i : ℕ) (x : X) → i < length xs
    → x ≡ get_or xs i x → map f xs ≡ ys → slice_get ys i ≡ Some (f x)
mapped {X} {Y} f xs ys i x l e m = ap (λ (zs : List Y). slice_get zs i) (sym m) ∙ at_index xs i l e
  where
    at_index : (zs : List X) (k : ℕ) → k < length zs → x ≡ get_or zs k x → slice_get (map f zs) k ≡ Some (f x)
    at_index [] k l e = absurd (omega arith)
    at_index (z ∷ zs) zero l e = ap (λ (w : X). Some (f w)) (sym e)
    at_index (z ∷ zs) (suc k) l e = at_index zs k (omega arith) e

-- what is left of a list that is mapped
pub map-drop : {X Y : Type 0} (f : X → Y) (xs : List X) (k : ℕ) (x : X) → k < length xs → x ≡ get_or xs k x
    → map f (drop k xs) ≡ f x ∷ map f (drop (k + 1) xs)
map-drop f xs k x l is =
    let rest : drop k xs ≡ get_or xs k x ∷ drop (k + 1) xs = rw add-one (drop-cons xs k x l) in
    ap (map f) rest ∙ ap (λ y. f y ∷ map f (drop (k + 1) xs)) (sym is)

pub map-drop_all : {X Y : Type 0} (f : X → Y) (xs : List X) (k : ℕ) → length xs ≤ k → map f (drop k xs) ≡ []
map-drop_all f xs k l = ap (map f) (drop_all k xs l)

-- the next thing of a list that is mapped
pub map-next : {X Y : Type 0} (f : X → Y) {xs rest : List X} {x : X} {y : Y} → xs ≡ x ∷ rest → f x ≡ y
    → map f xs ≡ y ∷ map f rest
map-next f {rest = rest} is same = ap (map f) is ∙ ap (λ z. z ∷ map f rest) same

-- ---- sheets

drop_nothing : {X : Type 0} (k : ℕ) → drop {A = X} k [] ≡ []
drop_nothing zero = refl
drop_nothing (suc k) = refl

none_at : {X : Type 0} (k : ℕ) → slice_get {X = X} [] k ≡ None
none_at k = refl

each_from : (ss : List SheetContent) (vs : List SheetView) (i : ℕ) (s : SheetContent) → slice_get ss i ≡ Some s
    → each_with (drop i ss) (drop i vs) ≡ (s, content_in (slice_get vs i)) ∷ each_with (drop (suc i) ss) (drop (suc i) vs)
each_from [] vs i s e = absurd (let n : None ≡ Some s = e in cc)
each_from (t ∷ ss) [] zero s e =
    let same : t ≡ s = cc in ap (λ (x : SheetContent). (x, no_content) ∷ each_with ss []) same
each_from (t ∷ ss) (v ∷ vs) zero s e =
    let same : t ≡ s = cc in ap (λ (x : SheetContent). (x, v) ∷ each_with ss vs) same
each_from (t ∷ ss) [] (suc i) s e =
    ap (λ (l : List SheetView). each_with (drop i ss) l) (sym (drop_nothing i)) ∙ each_from ss [] i s e
    ∙ ap (λ (o : Option SheetView). (s, content_in o) ∷ each_with (drop (suc i) ss) (drop (suc i) [])) (none_at i)
each_from (t ∷ ss) (v ∷ vs) (suc i) s e = each_from ss vs i s e

-- the sheets from an index on
pub each-step : (ss : List SheetContent) (vs : List SheetView) (i : ℕ) (s : SheetContent) → slice_get ss i ≡ Some s
    → each_with (drop i ss) (drop i vs) ≡ (s, content_in (slice_get vs i)) ∷ each_with (drop (i + 1) ss) (drop (i + 1) vs)
each-step ss vs i s e =
    each_from ss vs i s e
    ∙ ap (λ (n : ℕ). (s, content_in (slice_get vs i)) ∷ each_with (drop n ss) (drop n vs)) (sym (add-one i))

pub each-end : (ss : List SheetContent) (vs : List SheetView) (i : ℕ) → length ss ≤ i
    → each_with (drop i ss) (drop i vs) ≡ []
each-end ss vs i l = ap (λ (x : List SheetContent). each_with x (drop i vs)) (drop_all i ss l)

-- the sheet of an index, with what it shows
pub each-at : (ss : List SheetContent) (vs : List SheetView) (i : ℕ) (s : SheetContent) → slice_get ss i ≡ Some s
    → slice_get (each_with ss vs) i ≡ Some (s, content_in (slice_get vs i))
each-at [] vs i s e = absurd (let n : None ≡ Some s = e in cc)
each-at (t ∷ ss) [] zero s e = let same : t ≡ s = cc in ap (λ (x : SheetContent). Some (x, no_content)) same
each-at (t ∷ ss) (v ∷ vs) zero s e = let same : t ≡ s = cc in ap (λ (x : SheetContent). Some (x, v)) same
each-at (t ∷ ss) [] (suc i) s e = each-at ss [] i s e
each-at (t ∷ ss) (v ∷ vs) (suc i) s e = each-at ss vs i s e

-- ---- which sheets are asked for

pub asked-all : (o : Options) (book : BookView) → o.which ≡ 0 → asked_for o book ≡ Some (each_with book.sheets book.contents)
asked-all o book e = rw e refl

pub asked-one : (o : Options) (book : BookView) (t : Reported) → o.which ≡ 1
    → slice_get (each_with book.sheets book.contents) o.sheet ≡ Some t → asked_for o book ≡ Some (t ∷ [])
asked-one o book t e there = rw e (ap alone there)

neither : (n : ℕ) (x y z : Option (List Reported)) → (n ≡ 0 → ⊥) → (n ≡ 1 → ⊥)
    → (if n == 0 then x else if n == 1 then y else z) ≡ z
neither n x y z not_all not_one = search (rules, not_all, not_one)

pub asked-bare : (o : Options) (book : BookView) → (o.which ≡ 0 → ⊥) → (o.which ≡ 1 → ⊥)
    → asked_for o book ≡ Some (each_with book.sheets [])
asked-bare o book not_all not_one = neither o.which _ _ _ not_all not_one

-- ---- what the sheets show under the codes of their cells

pairs-at : (f : SheetView × List FormattedCell → SheetView) (vs : List SheetView) (cs : List (List FormattedCell)) (i : ℕ)
    (v : SheetView) (c : List FormattedCell) → slice_get vs i ≡ Some v → slice_get cs i ≡ Some c
    → slice_get (map f (zip vs cs)) i ≡ Some (f (v, c))
pairs-at f [] cs i v c e d = absurd (let n : None ≡ Some v = e in cc)
pairs-at f (w ∷ vs) [] i v c e d = absurd (let n : None ≡ Some c = d in cc)
pairs-at f (w ∷ vs) (x ∷ cs) zero v c e d =
    let same : w ≡ v = cc in let too : x ≡ c = cc in rw (same, too) refl
pairs-at f (w ∷ vs) (x ∷ cs) (suc i) v c e d = pairs-at f vs cs i v c e d

pairs-missing : (f : SheetView × List FormattedCell → SheetView) (vs : List SheetView) (cs : List (List FormattedCell)) (i : ℕ)
    → None ≡ slice_get vs i → None ≡ slice_get (map f (zip vs cs)) i
pairs-missing f [] cs i e = refl
pairs-missing f (w ∷ vs) [] i e = refl
pairs-missing f (w ∷ vs) (x ∷ cs) zero e = absurd (let n : None ≡ Some w = e in cc)
pairs-missing f (w ∷ vs) (x ∷ cs) (suc i) e = pairs-missing f vs cs i e

-- what an index shows
pub classed-at : (view : Viewed) (i : ℕ) (v : SheetView) (c : List FormattedCell) → Some v ≡ slice_get view.book.contents i
    → Some c ≡ slice_get view.formatted i → Some (classed_content view (v, c)) ≡ slice_get (classed_book view).contents i
classed-at view i v c e d = sym (pairs-at (classed_content view) view.book.contents view.formatted i v c (sym e) (sym d))

-- and nothing where there is no such sheet
pub classed-missing : (view : Viewed) (i : ℕ) → None ≡ slice_get view.book.contents i
    → None ≡ slice_get (classed_book view).contents i
classed-missing view i e = pairs-missing (classed_content view) view.book.contents view.formatted i e
