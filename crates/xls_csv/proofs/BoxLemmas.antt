-- A range that is the dense box of cells has the contents of the dense box.
use Rattle.std.proofs.Common.{◌≡◌, ℕ, zero, suc, ◌+◌, ◌-◌, ◌*◌, ◌<◌, ◌≤◌, ◌⊎◌, inl, inr, Bool, true, false, List, [], ◌∷◌, ◌++◌, length, map, take, drop, get_or, refl, sym, ap, ◌∙◌, arith, Option, Some, None}
use Rattle.std.specs.Prelude.{◌==◌, ◌&&◌, if◌then◌else◌, unwrap_or, Any}
use Rattle.std.specs.Option.{option_map, option_or}
use Rattle.std.specs.List.{flat_map, range_with_len, AllByRecursion}
use Rattle.std.proofs.lemmas.Bool.{cases_lt}
use Rattle.std.proofs.lemmas.List.{ext_get_or, get_or-take, get_or-drop, drop-drop, take-append-drop, length-take, length-drop, length-map, get_or-map}
use Rattle.std.proofs.lemmas.List.Elements.{All-from_recursion}
use Rattle.std.proofs.lemmas.List.FromFn.{length-map-range_with_len, get_or-map-range_with_len}
use Rattle.xls_data.specs.Content.{Content, nothing}
use Rattle.xls_data.specs.Data.{content_of, is_nothing}
use Rattle.xls_data.specs.declared.values.Data.{Data}
use Rattle.xls_data.specs.declared.values.Data.TheVariants as variant
use Rattle.std.proofs.lemmas.Nat.{mul-add-lt}
use Rattle.xls_range.specs.Grid.{Grid, IsRange, IsIn, IsCopyOf, Shows, cell_at}
use Rattle.xls_range.specs.Lists.{rows_of}
use Rattle.xls_range.specs.Sparse.{last_at, IsLeast, IsGreatest, AreCorners, IsDense}
use Rattle.xls_range.proofs.CellLemmas.{cell_at-IsIn}
use Rattle.xls_biff.specs.Cells.{CellEntry, Position, cell_entry_of}
use Rattle.xls_csv.specs.Text.{contents_of}
use Rattle.xls_range.specs.Bounds.{least, greatest, rows_at, columns_at}
use Rattle.xls_csv.specs.Dense.{dense_value, box_of, dense}

-- ---- corners

least_le : {X : Type 0} (read : X → ℕ) (m n : ℕ) (xs : List X) → m ≤ least n (map read xs)
    → (m ≤ n) × AllByRecursion (λ y. m ≤ read y) xs
least_le read m n [] h = (h, tt)
least_le read m n (x ∷ xs) h =
    let rest = least_le read m n xs (omega (arith, h)) in
    (rest.0, (omega (arith, h), rest.1))

le_greatest : {X : Type 0} (read : X → ℕ) (m n : ℕ) (xs : List X) → greatest n (map read xs) ≤ m
    → (n ≤ m) × AllByRecursion (λ y. read y ≤ m) xs
le_greatest read m n [] h = (h, tt)
le_greatest read m n (x ∷ xs) h =
    let rest = le_greatest read m n xs (omega (arith, h)) in
    (rest.0, (omega (arith, h), rest.1))

-- an element at the start, or in the rest
any_rest : {X : Type 0} (P : X → Type 0) (x : X) (xs : List X) → Any P xs → Any P (x ∷ xs)
any_rest P x xs a = let near = a.2 in (suc a.0, a.1, omega arith, a.3, a.4)

any_first : {X : Type 0} (P : X → Type 0) (x : X) (xs : List X) → P x → Any P (x ∷ xs)
any_first P x xs p = (0, x, omega arith, refl, p)

least_some : {X : Type 0} (read : X → ℕ) (n : ℕ) (xs : List X)
    → (n ≡ least n (map read xs)) ⊎ Any (λ y. read y ≡ least n (map read xs)) xs
least_some read n [] = inl refl
least_some {X} read n (x ∷ xs) = elim (cases_lt (read x) (least n (map read xs))) [
  | inl l ↦
      let e : read x ≡ least n (map read (x ∷ xs)) = omega arith in
      inr (any_first (λ y. read y ≡ least n (map read (x ∷ xs))) x xs e)
  | inr l ↦
      let e : least n (map read xs) ≡ least n (map read (x ∷ xs)) = omega arith in
      elim (least_some read n xs) [
        | inl here ↦ inl (here ∙ e)
        | inr a ↦ inr (any_rest (λ y. read y ≡ least n (map read (x ∷ xs))) x xs (a.0, a.1, a.2, a.3, a.4 ∙ e))
      ]
]

greatest_some : {X : Type 0} (read : X → ℕ) (n : ℕ) (xs : List X)
    → (n ≡ greatest n (map read xs)) ⊎ Any (λ y. read y ≡ greatest n (map read xs)) xs
greatest_some read n [] = inl refl
greatest_some {X} read n (x ∷ xs) = elim (cases_lt (greatest n (map read xs)) (read x)) [
  | inl l ↦
      let e : read x ≡ greatest n (map read (x ∷ xs)) = omega arith in
      inr (any_first (λ y. read y ≡ greatest n (map read (x ∷ xs))) x xs e)
  | inr l ↦
      let e : greatest n (map read xs) ≡ greatest n (map read (x ∷ xs)) = omega arith in
      elim (greatest_some read n xs) [
        | inl here ↦ inl (here ∙ e)
        | inr a ↦ inr (any_rest (λ y. read y ≡ greatest n (map read (x ∷ xs))) x xs (a.0, a.1, a.2, a.3, a.4 ∙ e))
      ]
]

is_least : {X : Type 0} (read : X → ℕ) (x : X) (xs : List X) → IsLeast read (x ∷ xs) (least (read x) (map read xs))
is_least read x xs =
    let n = least (read x) (map read xs) in
    record {
      all = All-from_recursion (λ y. n ≤ read y) (x ∷ xs) (least_le read n (read x) xs (omega arith));
      some = elim (least_some read (read x) xs) [
        | inl e ↦ any_first (λ y. read y ≡ n) x xs e
        | inr a ↦ any_rest (λ y. read y ≡ n) x xs a
      ];
    }

is_greatest : {X : Type 0} (read : X → ℕ) (x : X) (xs : List X) → IsGreatest read (x ∷ xs) (greatest (read x) (map read xs))
is_greatest read x xs =
    let n = greatest (read x) (map read xs) in
    record {
      all = All-from_recursion (λ y. read y ≤ n) (x ∷ xs) (le_greatest read n (read x) xs (omega arith));
      some = elim (greatest_some read (read x) xs) [
        | inl e ↦ any_first (λ y. read y ≡ n) x xs e
        | inr a ↦ any_rest (λ y. read y ≡ n) x xs a
      ];
    }

-- a cell of a sheet
abbrev DataCell : Type 0
DataCell = Position × Data

rows_same : (cs : List DataCell) → rows_at (map cell_entry_of cs) ≡ map (λ (c : DataCell). c.0.0) cs
rows_same [] = refl
rows_same (c ∷ cs) = ap (λ l. c.0.0 ∷ l) (rows_same cs)

columns_same : (cs : List DataCell) → columns_at (map cell_entry_of cs) ≡ map (λ (c : DataCell). c.0.1) cs
columns_same [] = refl
columns_same (c ∷ cs) = ap (λ l. c.0.1 ∷ l) (columns_same cs)

corners : (c : DataCell) (cs : List DataCell)
    → AreCorners (c ∷ cs) (least c.0.0 (rows_at (map cell_entry_of cs)), least c.0.1 (columns_at (map cell_entry_of cs)))
    (greatest c.0.0 (rows_at (map cell_entry_of cs)), greatest c.0.1 (columns_at (map cell_entry_of cs)))
corners c cs = rw (rows_same cs, columns_same cs) (record {
  top = is_least (λ (x : DataCell). x.0.0) c cs;
  left = is_least (λ (x : DataCell). x.0.1) c cs;
  bottom = is_greatest (λ (x : DataCell). x.0.0) c cs;
  right = is_greatest (λ (x : DataCell). x.0.1) c cs;
})

-- ---- values

last_content : (cs : List DataCell) (p : Position) → last_at (map cell_entry_of cs) p ≡ option_map content_of (last_at cs p)
last_content [] p = refl
last_content (c ∷ cs) p =
    rw (last_content cs p) (chosen (last_at cs p) ((c.0.0 == p.0) && (c.0.1 == p.1)))
  where
    chosen : (o : Option Data) (b : Bool)
        → option_or (option_map content_of o) (if b then Some (content_of c.1) else None)
        ≡ option_map content_of (option_or o (if b then Some c.1 else None))
    chosen (Some x) b = refl
    chosen None true = refl
    chosen None false = refl

-- ---- rows

rows_joined : (n width : ℕ) (xs : List Content) → length xs ≡ n * width
    → flat_map (λ (r : List Content). r) (rows_of n width xs) ≡ xs
rows_joined zero width [] e = refl
rows_joined zero width (x ∷ xs) e = absurd (omega (arith, e))
rows_joined (suc n) width xs e =
    let left : length (drop width xs) ≡ n * width = omega (arith, e, length-drop width xs) in
    ap (λ (l : List Content). take width xs ++ l) (rows_joined n width (drop width xs) left) ∙ take-append-drop width xs

row_displayed : (xs : List Content) (cells : List CellEntry) (left width i row : ℕ) → i * width + width ≤ length xs
    → ((j : ℕ) → j < width → get_or xs (i * width + j) nothing ≡ dense_value nothing cells row (left + j))
    → take width (drop (i * width) xs) ≡ map (dense_value nothing cells row) (range_with_len left width)
row_displayed xs cells left width i row near h =
    let size : length (take width (drop (i * width) xs)) ≡ width =
    omega (arith, length-take width (drop (i * width) xs), length-drop (i * width) xs) in
    let other : length (map (dense_value nothing cells row) (range_with_len left width)) ≡ width =
    length-map-range_with_len (dense_value nothing cells row) left width in
    ext_get_or nothing _ _ (size ∙ sym other) (λ j l.
    let within : j < width = omega (arith, size, l) in
    get_or-take width (drop (i * width) xs) j nothing within ∙ get_or-drop (i * width) xs j nothing
    ∙ h j within ∙ sym (get_or-map-range_with_len (dense_value nothing cells row) left width j (left + j) nothing within refl))

rows_displayed : (xs : List Content) (cells : List CellEntry) (top left width n i : ℕ) → (i + n) * width ≤ length xs
    → ((k j : ℕ) → k < i + n → j < width → get_or xs (k * width + j) nothing ≡ dense_value nothing cells (top + k) (left + j))
    → rows_of n width (drop (i * width) xs)
    ≡ map (λ r. map (dense_value nothing cells r) (range_with_len left width)) (range_with_len (top + i) n)
rows_displayed xs cells top left width zero i near h = refl
rows_displayed xs cells top left width (suc n) i near h =
    let split : (i + suc n) * width ≡ i * width + width + n * width = omega arith in
    let first = row_displayed xs cells left width i (top + i) (omega (arith, near, split)) (λ j l. h i j (omega arith) l) in
    let next : i * width + width ≡ (i + 1) * width = omega arith in
    let count : i + suc n ≡ i + 1 + n = omega arith in
    let others = rows_displayed xs cells top left width n (i + 1) (rw count at near) (λ k j l m. h k j (omega (arith, l, count)) m) in
    let place : top + (i + 1) ≡ top + i + 1 = omega arith in
    rw (first, drop-drop width (i * width) xs, next) (ap (λ l. map (dense_value nothing cells (top + i)) (range_with_len left width) ∷ l) (rw place at others))

-- ---- the box

blank : (y : Data) → is_nothing y ≡ true → content_of y ≡ nothing
blank (variant.Int n) h = absurd cc
blank (variant.Float n) h = absurd cc
blank (variant.String s) h = absurd cc
blank (variant.Bool b) h = absurd cc
blank (variant.DateTime d) h = absurd cc
blank (variant.DateTimeIso s) h = absurd cc
blank (variant.DurationIso s) h = absurd cc
blank (variant.Error e) h = absurd cc
blank variant.Empty h = refl

-- equal values have equal contents
abbrev pub TellsContents : (Data → Data → Bool) → Type 0
TellsContents eq = (a b : Data) → eq a b ≡ true → content_of a ≡ content_of b

by_last : (eq : Data → Data → Bool) → TellsContents eq → (o : Option Data) (y : Data) → IsCopyOf eq is_nothing o y
    → content_of y ≡ unwrap_or (option_map content_of o) nothing
by_last eq same None y h = blank y h
by_last eq same (Some x) y h = sym (same x y h)

-- what stands in a row and a column, counted from the start
cell_displayed : (eq : Data → Data → Bool) → TellsContents eq → (cells : List DataCell) (g : Grid Data) → IsRange g
    → Shows eq is_nothing (λ row column. last_at cells (row, column)) g
    → (k j : ℕ) → k < g.height → j < g.width
    → get_or (map content_of g.cells) (k * g.width + j) nothing ≡ dense_value nothing (map cell_entry_of cells) (g.top + k) (g.left + j)
cell_displayed eq same cells g is shows k j l m =
    let y = get_or g.cells (k * g.width + j) variant.Empty in
    let near : k * g.width + j < length g.cells = omega (arith, is.count, mul-add-lt k g.width j g.height l m) in
    let inside : IsIn g (g.top + k) (g.left + j) = record { low = omega arith; high = omega arith; left = omega arith; right = omega arith } in
    let row : g.top + k - g.top ≡ k = omega arith in
    let column : g.left + j - g.left ≡ j = omega arith in
    let here : cell_at g (g.top + k) (g.left + j) ≡ Some y =
    rw (row, column) at (cell_at-IsIn g (g.top + k) (g.left + j) variant.Empty is.count inside) in
    let copy = shows.displayed (g.top + k) (g.left + j) y here in
    get_or-map content_of g.cells (k * g.width + j) variant.Empty nothing near
    ∙ by_last eq same (last_at cells (g.top + k, g.left + j)) y copy
    ∙ ap (λ o. unwrap_or o nothing) (sym (last_content cells (g.top + k, g.left + j)))

pub dense_box : (eq : Data → Data → Bool) → TellsContents eq → (cells : List DataCell) (g : Grid Data) → IsRange g
    → IsDense eq is_nothing cells g → contents_of g ≡ dense (map cell_entry_of cells)
dense_box eq same [] g is h = let e = h.empty refl in rw e refl
dense_box eq same (c ∷ cs) g is h =
    let entries = map cell_entry_of (c ∷ cs) in
    let box = box_of entries in
    let at = h.corners _ _ (corners c cs) in
    let top : g.top ≡ box.top = at.top in
    let left : g.left ≡ box.left = at.left in
    let height : g.height ≡ box.height = omega (arith, at.top, at.bottom) in
    let width : g.width ≡ box.width = omega (arith, at.left, at.right) in
    let xs = map content_of g.cells in
    let count : length xs ≡ g.height * g.width = length-map g.cells content_of ∙ is.count in
    let none : 0 * g.width ≡ 0 = omega arith in
    let start : g.top + 0 ≡ g.top = omega arith in
    let all : 0 + g.height ≡ g.height = omega arith in
    let rows : rows_of g.height g.width xs ≡ map (λ r. map (dense_value nothing entries r) (range_with_len g.left g.width)) (range_with_len g.top g.height) =
    rw (none, start) at (rows_displayed xs entries g.top g.left g.width g.height 0 (omega (arith, count, all))
    (λ k j l m. cell_displayed eq same (c ∷ cs) g is h.shows k j (omega (arith, l)) m)) in
    let joined : xs ≡ flat_map (λ (r : List Content). r) (map (λ r. map (dense_value nothing entries r) (range_with_len g.left g.width)) (range_with_len g.top g.height)) =
    sym (rows_joined g.height g.width xs count) ∙ ap (flat_map (λ (r : List Content). r)) rows in
    rw (joined, top, left, height, width) refl
