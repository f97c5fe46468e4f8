use Rattle.std.proofs.Common.{◌≡◌, ℕ, ◌+◌, ◌-◌, ◌*◌, ◌<◌, ◌≤◌, arith, refl, List, length, ◌⊎◌, inl, inr, get_or, sym, ◌∙◌, ap, ◌≢◌, Some, None, Bool, true, subst, get_or-set_other, get_or-set_same}
use Rattle.std.specs.Prelude.{slice_get, slice_set, ◌==◌, ◌&&◌, if◌then◌else◌}
use Rattle.std.proofs.lemmas.Option.{slice_get-get_or, get_or_from_slice_get, none-some}
use Rattle.std.proofs.lemmas.List.{length-set}
use Rattle.std.proofs.lemmas.Bool.{cases_lt, cases_eq, ne_eqb, eq-eqb}
use Rattle.std.proofs.lemmas.Nat.{mul-add-lt}
use Rattle.xls_range.proofs.GridLemmas.{cell_inside, cell_outside}
use Rattle.xls_range.proofs.MoveLemmas.{apart}
use Rattle.xls_range.specs.Moves.{IsMoved, LeavesOthers}
use Rattle.xls_range.specs.Grid.{Grid, cell_at, AreBlank, Grows, Sets, grown_height, grown_width, IsIn}

-- what moving the old cells into a box of blanks gives
pub grows_from : {T : Type 0} (blank : T → Bool) (top left h w rows columns : ℕ) (xs bs ys : List T) → h ≤ rows → w ≤ columns
    → AreBlank blank (rows * columns) bs → length ys ≡ rows * columns → IsMoved w columns h 0 xs ys → LeavesOthers h w columns bs ys
    → Grows blank (record { top = top; left = left; height = h; width = w; cells = xs }) (record { top = top; left = left; height = rows; width = columns; cells = ys }) rows columns
grows_from blank top left h w rows columns xs bs ys hp wp b long moved others = record {
  top = refl;
  left = refl;
  height = refl;
  width = refl;
  count = long;
  kept = λ r c x p q. moved r c x q (inl p);
  blanks = λ r c x p q far.
      let near : r * columns + c < length bs = omega (arith, mul-add-lt r columns c rows p q, b.number) in
      let alone : (r' c' : ℕ) → r' < h → c' < w → r * columns + c ≢ r' * columns + c' =
      λ r' c' p' q'. apart r c r' c' columns q (omega arith) (λ e. elim far [ inl low ↦ absurd (omega (arith, e.0)) | inr right ↦ absurd (omega (arith, e.1)) ]) in
      rw (others (r * columns + c) x alone) (b.all (r * columns + c) x near);
}

-- a cell that is there stands inside, at its index
pub record IsThere {T : Type 0} (g : Grid T) (row column : ℕ) (x : T) : Type 0 where
  pub low : g.top ≤ row
  pub high : row < g.top + g.height
  pub left : g.left ≤ column
  pub right : column < g.left + g.width
  pub read : slice_get g.cells ((row - g.top) * g.width + (column - g.left)) ≡ Some x

-- a position is inside, or outside on one side
pub sides : {T : Type 0} (g : Grid T) (row column : ℕ) → ((g.top ≤ row) × (row < g.top + g.height) × (g.left ≤ column) × (column < g.left + g.width)) ⊎ ((row < g.top) ⊎ ((g.top + g.height ≤ row) ⊎ ((column < g.left) ⊎ (g.left + g.width ≤ column))))
sides g row column = elim (cases_lt row g.top) [
  | inl a ↦ inr (inl a)
  | inr a ↦ elim (cases_lt row (g.top + g.height)) [
    | inr b ↦ inr (inr (inl b))
    | inl b ↦ elim (cases_lt column g.left) [
      | inl d ↦ inr (inr (inr (inl d)))
      | inr d ↦ elim (cases_lt column (g.left + g.width)) [ inl e ↦ inl (a, b, d, e) | inr e ↦ inr (inr (inr (inr e))) ]
    ]
  ]
]

pub there : {T : Type 0} (g : Grid T) (row column : ℕ) (x : T) → cell_at g row column ≡ Some x → IsThere g row column x
there g row column x e = elim (sides g row column) [
  | inl i ↦ record { low = i.0; high = i.1; left = i.2; right = i.3; read = sym (cell_inside g row column i.0 i.1 i.2 i.3) ∙ e }
  | inr o ↦ absurd (none-some x (sym (cell_outside g row column o) ∙ e))
]

-- a grown range with a value written into it
abbrev pub written : {T : Type 0} → Grid T → ℕ → ℕ → T → Grid T
written mid r c value = record mid { cells = slice_set mid.cells (r * mid.width + c) value }

-- the old box with other cells
abbrev pub boxed : {T : Type 0} → Grid T → ℕ → ℕ → List T → Grid T
boxed old rows columns ys = record { top = old.top; left = old.left; height = rows; width = columns; cells = ys }

abbrev pub put_into : {T : Type 0} → Grid T → ℕ → List T → ℕ → ℕ → T → List T
put_into old columns ys row column value = slice_set ys ((row - old.top) * columns + (column - old.left)) value

pub set_here : {T : Type 0} (old : Grid T) (ys : List T) (rows columns row column : ℕ) (value : T)
    → old.top ≤ row → old.left ≤ column → row - old.top < rows → column - old.left < columns → length ys ≡ rows * columns
    → cell_at (boxed old rows columns (put_into old columns ys row column value)) row column ≡ Some value
set_here old ys rows columns row column value tp lp rp cp count =
    let i = (row - old.top) * columns + (column - old.left) in
    let near : i < length ys = omega (arith, mul-add-lt (row - old.top) columns (column - old.left) rows rp cp) in
    let room : i < length (slice_set ys i value) = omega (arith, length-set ys i value) in
    cell_inside (boxed old rows columns (slice_set ys i value)) row column tp (omega arith) lp (omega arith)
    ∙ slice_get-get_or (slice_set ys i value) i value room ∙ ap (λ v. Some v) (get_or-set_same ys i value value near)

pub set_others : {T : Type 0} (blank : T → Bool) (old : Grid T) (ys : List T) (rows columns row column : ℕ) (value : T)
    → old.top ≤ row → old.left ≤ column → row - old.top < rows → column - old.left < columns → old.height ≤ rows → old.width ≤ columns
    → Grows blank old (boxed old rows columns ys) rows columns
    → (p q : ℕ) (x : T) → ((p ≡ row) × (q ≡ column) → ⊥) → cell_at old p q ≡ Some x
    → cell_at (boxed old rows columns (put_into old columns ys row column value)) p q ≡ Some x
set_others blank old ys rows columns row column value tp lp rp cp hp wp grows p q x ne was =
    let t = there old p q x was in
    let i = (row - old.top) * columns + (column - old.left) in
    let j = (p - old.top) * columns + (q - old.left) in
    let inR : p - old.top < old.height = omega (arith, t.low, t.high) in
    let inC : q - old.left < old.width = omega (arith, t.left, t.right) in
    let far : j ≢ i = apart (p - old.top) (q - old.left) (row - old.top) (column - old.left) columns (omega arith) cp
    (λ e. ne (omega (arith, e.0, t.low), omega (arith, e.1, t.left))) in
    let near : j < length (slice_set ys i value) = omega (arith, length-set ys i value, grows.count, mul-add-lt (p - old.top) columns (q - old.left) rows (omega arith) (omega arith)) in
    cell_inside (boxed old rows columns (slice_set ys i value)) p q t.low (omega arith) t.left (omega arith)
    ∙ slice_get-get_or (slice_set ys i value) j x near
    ∙ ap (λ v. Some v) (get_or-set_other ys i j value x far ∙ grows.kept (p - old.top) (q - old.left) x inR inC ∙ get_or_from_slice_get old.cells _ x x t.read)

-- a position with no cell is outside
pub beyond : {T : Type 0} (g : Grid T) (row column : ℕ) (x : T) → length g.cells ≡ g.height * g.width → g.top ≤ row → g.left ≤ column → cell_at g row column ≡ None
    → (g.height ≤ row - g.top) ⊎ (g.width ≤ column - g.left)
beyond g row column x count tp lp none =
    elim (cases_lt (row - g.top) g.height) [
      | inr b ↦ inl b
      | inl a ↦ elim (cases_lt (column - g.left) g.width) [
        | inr d ↦ inr d
        | inl e ↦
            let i = (row - g.top) * g.width + (column - g.left) in
            let near : i < length g.cells = omega (arith, mul-add-lt (row - g.top) g.width (column - g.left) g.height a e) in
            absurd (none-some _ (sym none ∙ cell_inside g row column tp (omega arith) lp (omega arith) ∙ slice_get-get_or g.cells i x near))
      ]
    ]

pub set_blanks : {T : Type 0} (blank : T → Bool) (old : Grid T) (ys : List T) (rows columns row column : ℕ) (value : T)
    → old.top ≤ row → old.left ≤ column → row - old.top < rows → column - old.left < columns → length old.cells ≡ old.height * old.width
    → Grows blank old (boxed old rows columns ys) rows columns
    → (p q : ℕ) (x : T) → ((p ≡ row) × (q ≡ column) → ⊥) → cell_at old p q ≡ None
    → cell_at (boxed old rows columns (put_into old columns ys row column value)) p q ≡ Some x → blank x ≡ true
set_blanks blank old ys rows columns row column value tp lp rp cp count grows p q x ne was is =
    let i = (row - old.top) * columns + (column - old.left) in
    let j = (p - old.top) * columns + (q - old.left) in
    let t = there (boxed old rows columns (slice_set ys i value)) p q x is in
    let inR : p - old.top < rows = omega (arith, t.low, t.high) in
    let inC : q - old.left < columns = omega (arith, t.left, t.right) in
    let far : j ≢ i = apart (p - old.top) (q - old.left) (row - old.top) (column - old.left) columns inC cp
    (λ e. ne (omega (arith, e.0, t.low), omega (arith, e.1, t.left))) in
    let same : get_or ys j x ≡ x = sym (get_or-set_other ys i j value x far) ∙ get_or_from_slice_get (slice_set ys i value) j x x t.read in
    rw same at (grows.blanks (p - old.top) (q - old.left) x inR inC (beyond old p q x count t.low t.left was))

pub sets_from : {T : Type 0} (blank : T → Bool) (old : Grid T) (ys : List T) (row column rows columns : ℕ) (value : T)
    → length old.cells ≡ old.height * old.width → old.top ≤ row → old.left ≤ column
    → rows ≡ grown_height old row → columns ≡ grown_width old column
    → (mid : Grid T) → mid ≡ record { top = old.top; left = old.left; height = rows; width = columns; cells = ys }
    → Grows blank old mid rows columns
    → Sets blank old (written mid (row - old.top) (column - old.left) value) row column value
sets_from blank old ys row column rows columns value count tp lp re ce mid e0 grown =
    let r = row - old.top in
    let k = column - old.left in
    let P : Grid _ → Type 0 = λ m. Sets blank old (written m r k value) row column value in
    let Q : Grid _ → Type 0 = λ m. Grows blank old m rows columns in
    let grows = subst Q e0 grown in
    let new : Grid _ = record { top = old.top; left = old.left; height = rows; width = columns; cells = slice_set ys (r * columns + k) value } in
    let inR : r < rows = omega arith in
    let inC : k < columns = omega arith in
    let higher : old.height ≤ rows = omega arith in
    let wider : old.width ≤ columns = omega arith in
    subst P (sym e0) (record {
      top = refl;
      left = refl;
      height = re;
      width = ce;
      here = set_here old ys rows columns row column value tp lp inR inC grows.count;
      others = λ p q x ne was. set_others blank old ys rows columns row column value tp lp inR inC higher wider grows p q x ne was;
      blanks = λ p q x ne was is. set_blanks blank old ys rows columns row column value tp lp inR inC count grows p q x ne was is;
    })

pub same_grid : {T : Type 0} (m : Grid T) (t l h w : ℕ) → m.top ≡ t → m.left ≡ l → m.height ≡ h → m.width ≡ w → m ≡ record { top = t; left = l; height = h; width = w; cells = m.cells }
same_grid m t l h w a b c d = rw (← a, ← b, ← c, ← d)

pub away_from : {T : Type 0} (g : Grid T) (row column : ℕ) (value : T) → length g.cells ≡ g.height * g.width → IsIn g row column
    → (r c : ℕ) → ((r ≡ row) × (c ≡ column) → ⊥) → cell_at (written g (row - g.top) (column - g.left) value) r c ≡ cell_at g r c
away_from g row column value count inside r c ne =
    let i = (row - g.top) * g.width + (column - g.left) in
    let j = (r - g.top) * g.width + (c - g.left) in
    elim (sides g r c) [
      | inr out ↦ cell_outside (written g (row - g.top) (column - g.left) value) r c out ∙ sym (cell_outside g r c out)
      | inl within ↦
          let inR : r - g.top < g.height = omega (arith, within.0, within.1) in
          let inC : c - g.left < g.width = omega (arith, within.2, within.3) in
          let far : j ≢ i = apart (r - g.top) (c - g.left) (row - g.top) (column - g.left) g.width inC (omega (arith, inside.left, inside.right))
          (λ e. ne (omega (arith, e.0, within.0, inside.low), omega (arith, e.1, within.2, inside.left))) in
          let near : j < length g.cells = omega (arith, count, mul-add-lt (r - g.top) g.width (c - g.left) g.height inR inC) in
          let room : j < length (slice_set g.cells i value) = omega (arith, length-set g.cells i value) in
          cell_inside (written g (row - g.top) (column - g.left) value) r c within.0 within.1 within.2 within.3
          ∙ slice_get-get_or (slice_set g.cells i value) j value room
          ∙ ap (λ v. Some v) (get_or-set_other g.cells i j value value far)
          ∙ sym (cell_inside g r c within.0 within.1 within.2 within.3 ∙ slice_get-get_or g.cells j value near)
    ]

-- where a value is written at a position that is inside, only that position changes
pub cell_at-written : {T : Type 0} (g : Grid T) (row column : ℕ) (value : T) → length g.cells ≡ g.height * g.width → IsIn g row column
    → (r c : ℕ) → cell_at (written g (row - g.top) (column - g.left) value) r c ≡ (if (row == r) && (column == c) then Some value else cell_at g r c)
cell_at-written g row column value count inside r c =
    let away : ((r ≡ row) × (c ≡ column) → ⊥) → cell_at (written g (row - g.top) (column - g.left) value) r c ≡ cell_at g r c = away_from g row column value count inside r c in
    elim (cases_eq row r) [
      | inr ne ↦ rw (ne_eqb row r ne) (away (λ e. ne (sym e.0)))
      | inl same ↦ elim (cases_eq column c) [
        | inr ne ↦ rw (eq-eqb row r same, ne_eqb column c ne) (away (λ e. ne (sym e.1)))
        | inl also ↦ rw (eq-eqb row r same, eq-eqb column c also, ← same, ← also)
            (set_here g g.cells g.height g.width row column value inside.low inside.left (omega (arith, inside.low, inside.high)) (omega (arith, inside.left, inside.right)) count)
      ]
    ]
