-- Lines that tell what is damaged, counted one after another.
use Rattle.std.proofs.Common.{◌≡◌, ℕ, ◌+◌, ◌<◌, ◌≤◌, Bool, false, cond, List, [], ◌∷◌, ◌++◌, length, map, drop, take, get_or}
use Rattle.std.proofs.Common.{Option, Some, None, Result, refl, sym, ap, subst, ◌∙◌, arith}
use Rattle.std.specs.Prelude.{IfOk}
use Rattle.std.specs.List.{flat_map}
use Rattle.std.specs.declared.alloc.AllocError.{AllocError}
use Rattle.std.proofs.lemmas.List.{flat_map_more, take_all, take_more}
use Rattle.std.proofs.lemmas.List.Sums.{sum_by-append}
use Rattle.xls_data.specs.Sheets.{SheetContent}
use Rattle.xls_meaning.specs.Reading.{last_named}
use Rattle.xls_open.specs.Globals.{Sheets}
use Rattle.xls_other_books.specs.Books.{Book}
use Rattle.xls_other_books.specs.Formulas.{Outside, outside_of}
use Rattle.xls_other_books.specs.Links.{Links}
use Rattle.xls_other_books.specs.Texts.{kind_text}
use Rattle.xls_parts.specs.PartRecords.{own_records}
use Rattle.xls_record.specs.declared.version.Biff.{Biff}
use Rattle.xls_stream.specs.StringTable.{Mark}
use Rattle.xls_style_cells.specs.Cells.{Cell, cells_of}
use Rattle.xls_style_cells.specs.Tables.{runs_of, string_table}
use Rattle.xls_styles.specs.Styles.{Styles}
use Rattle.xls_beside.specs.Books.{book_if, book_lines, book_name, book_sheet, damage_if}
use Rattle.xls_beside.specs.Books.{cited_line, linked_lines, outside_in, outside_lines}
use Rattle.xls_beside.specs.Damaged.{at_most_counted, damaged_among, is_damaged}
use Rattle.xls_beside.specs.Lines.{Line}
use Rattle.xls_beside.specs.Parts.{lines_if, lines_of_sheet, parts_of, sheet_lines}
use Rattle.xls_beside.specs.Styles.{cell_lines, damaged_style, run_line, styles_in, told_lines}
use Rattle.xls_beside.specs.declared.parts.SheetPart.{SheetPart}

-- ---- how many among lines

pub among-append : (xs ys : List Line) → damaged_among (xs ++ ys) ≡ damaged_among xs + damaged_among ys
among-append xs ys = sum_by-append (λ (l : Line). cond (is_damaged l) 1 0) xs ys

-- none, where no line tells of something damaged
pub none_of : {X : Type 0} (f : X → Line) (xs : List X) → ((x : X) → is_damaged (f x) ≡ false) → damaged_among (map f xs) ≡ 0
none_of f [] none = refl
none_of f (x ∷ xs) none =
    let first : damaged_among (f x ∷ []) ≡ 0 = ap (λ (b : Bool). 0 + cond {A = ℕ} b 1 0) (none x) in
    omega (arith, among-append (f x ∷ []) (map f xs), first, none_of f xs none)

pub none_in : {X : Type 0} (f : X → List Line) (xs : List X) → ((x : X) → damaged_among (f x) ≡ 0) → damaged_among (flat_map f xs) ≡ 0
none_in f [] none = refl
none_in f (x ∷ xs) none = omega (arith, among-append (f x) (flat_map f xs), none x, none_in f xs none)

none_if : (part_lines : SheetPart → List Line) (part : Option SheetPart) → ((p : SheetPart) → damaged_among (part_lines p) ≡ 0)
    → damaged_among (lines_if part_lines part) ≡ 0
none_if part_lines None none = refl
none_if part_lines (Some p) none = none p

-- none of the lines of sheets, where none of a part
pub none_in_sheets : (part_lines : SheetPart → List Line) (parts : List (SheetContent × SheetPart)) (sheets : Sheets)
    → ((p : SheetPart) → damaged_among (part_lines p) ≡ 0) → damaged_among (sheet_lines part_lines parts sheets) ≡ 0
none_in_sheets part_lines parts sheets none =
    none_in (λ (q : ℕ × SheetContent). lines_of_sheet part_lines parts q.1) sheets
    (λ q. none_if part_lines (last_named parts q.1.name) none)

-- all, where each line tells of something damaged
pub all_of : {X : Type 0} (f : X → Line) (xs : List X) → ((x : X) → damaged_among (f x ∷ []) ≡ 1) → damaged_among (map f xs) ≡ length xs
all_of f [] each = refl
all_of f (x ∷ xs) each = omega (arith, among-append (f x ∷ []) (map f xs), each x, all_of f xs each)

-- ---- sums that end at the greatest number

pub both_counted : (n m : ℕ) {a b sum : ℕ} → a ≡ at_most_counted n → b ≡ at_most_counted m → sum ≡ at_most_counted (a + b)
    → sum ≡ at_most_counted (n + m)
both_counted n m p q s = omega (arith, p, q, s)

-- one of them was no greater
pub one_counted : (n m : ℕ) {a b sum : ℕ} → a ≡ at_most_counted n → b ≡ m → sum ≡ at_most_counted (a + b) → sum ≡ at_most_counted (n + m)
one_counted n m p q s = omega (arith, p, q, s)

-- ---- the things in a list, by their index

grown : {X : Type 0} (f : X → List Line) (xs : List X) (k : ℕ) (d : X) → k < length xs
    → damaged_among (flat_map f (take k xs)) + damaged_among (f (get_or xs k d)) ≡ damaged_among (flat_map f (take (k + 1) xs))
grown f xs k d l =
    sym (among-append (flat_map f (take k xs)) (f (get_or xs k d)))
    ∙ ap damaged_among (flat_map_more f [] (take k xs) (get_or xs k d) ∙ ap (flat_map f) (sym (take_more xs k d l)))

-- those of the first so many are counted
abbrev pub CountedFirst : {X : Type 0} → (X → List Line) → List X → ℕ → ℕ → Type 0
CountedFirst f xs k count = count ≡ at_most_counted (damaged_among (flat_map f (take k xs)))

pub first_next : {X : Type 0} (f : X → List Line) (xs : List X) (k : ℕ) (d : X) {count more sum : ℕ} → k < length xs
    → CountedFirst f xs k count → more ≡ at_most_counted (damaged_among (f (get_or xs k d))) → sum ≡ at_most_counted (count + more)
    → CountedFirst f xs (k + 1) sum
first_next f xs k d l so next sums = both_counted _ _ so next sums ∙ ap at_most_counted (grown f xs k d l)

pub first_one : {X : Type 0} (f : X → List Line) (xs : List X) (k : ℕ) (d : X) {count more sum : ℕ} → k < length xs
    → CountedFirst f xs k count → more ≡ damaged_among (f (get_or xs k d)) → sum ≡ at_most_counted (count + more)
    → CountedFirst f xs (k + 1) sum
first_one f xs k d l so next sums = one_counted _ _ so next sums ∙ ap at_most_counted (grown f xs k d l)

pub first_all : {X : Type 0} (f : X → List Line) (xs : List X) (k : ℕ) {count : ℕ} → length xs ≤ k → CountedFirst f xs k count
    → count ≡ at_most_counted (damaged_among (flat_map f xs))
first_all f xs k end so = so ∙ ap (λ (ys : List _). at_most_counted (damaged_among (flat_map f ys))) (take_all k xs end)

-- ---- the things that an iterator gives

-- those that are counted and those of what is left are together all
pub record CountedSome {X : Type 0} (f : X → Line) (all left : List X) (count : ℕ) : Type 0 where
  pub whole : at_most_counted (count + damaged_among (map f left)) ≡ at_most_counted (damaged_among (map f all))
  pub small : at_most_counted count ≡ count

pub some_first : {X : Type 0} (f : X → Line) {all left : List X} → left ≡ all → CountedSome f all left 0
some_first f e = record { whole = omega (arith, ap (λ (xs : List _). damaged_among (map f xs)) e); small = refl }

pub some_next : {X : Type 0} (f : X → Line) {all old left : List X} {x : X} {count more sum : ℕ}
    → CountedSome f all old count → old ≡ x ∷ left → more ≡ damaged_among (f x ∷ []) → sum ≡ at_most_counted (count + more) → CountedSome f all left sum
some_next f {all} {old} {left} {x} {count} {more} {sum} so is next sums =
    let split : damaged_among (map f old) ≡ more + damaged_among (map f left) =
    ap (λ (xs : List _). damaged_among (map f xs)) is ∙ among-append (f x ∷ []) (map f left)
    ∙ ap (λ (n : ℕ). n + damaged_among (map f left)) (sym next) in
    record { whole = omega (arith, split, sums, so.whole); small = omega (arith, sums) }

pub some_all : {X : Type 0} (f : X → Line) {all left : List X} {count : ℕ} → CountedSome f all left count → left ≡ []
    → count ≡ at_most_counted (damaged_among (map f all))
some_all f {all} {left} {count} so none =
    let end : damaged_among (map f left) ≡ 0 = ap (λ (xs : List _). damaged_among (map f xs)) none in
    omega (arith, so.small, so.whole, end)

-- ---- the same lines, spelled otherwise

pub counts_same : {xs ys : List Line} → xs ≡ ys → at_most_counted (damaged_among xs) ≡ at_most_counted (damaged_among ys)
counts_same e = ap (λ (ls : List Line). at_most_counted (damaged_among ls)) e

pub counts_as : {xs ys : List Line} (r : Result ℕ AllocError) → xs ≡ ys → IfOk r (λ n. n ≡ at_most_counted (damaged_among xs))
    → IfOk r (λ n. n ≡ at_most_counted (damaged_among ys))
counts_as r e p = subst (λ (ls : List Line). IfOk r (λ n. n ≡ at_most_counted (damaged_among ls))) e p

-- ---- what is linked

no_kind : (kind : Option (List ℕ)) (b : Book) → damaged_among (book_if kind b) ≡ 0
no_kind None b = refl
no_kind (Some kind) b = refl

-- names and the record may be damaged
pub book_split : (b : Book)
    → damaged_among (book_lines b) ≡ damaged_among (map (book_name b.linked) b.names) + damaged_among (damage_if b.damage)
book_split b =
    let names = map (book_name b.linked) b.names in
    let sheets = map book_sheet b.sheets in
    omega (
      arith,
      among-append (book_if (kind_text b.linked) b) (sheets ++ (names ++ damage_if b.damage)),
      among-append sheets (names ++ damage_if b.damage),
      among-append names (damage_if b.damage),
      no_kind (kind_text b.linked) b,
      none_of book_sheet b.sheets (λ name. refl),
    )

no_outside : (o : Option Outside) → damaged_among (outside_lines o) ≡ 0
no_outside None = refl
no_outside (Some o) = none_of (cited_line o.row o.column) o.cited (λ c. refl)

-- nothing that formulas cite is
pub books_alone : (linked : Links) (version : Biff) (sheets : Sheets) (stream : List ℕ)
    → damaged_among (linked_lines linked version sheets stream) ≡ damaged_among (flat_map book_lines linked.books)
books_alone linked version sheets stream =
    let parts = parts_of version sheets stream in
    omega (
      arith,
      among-append (flat_map book_lines linked.books) (sheet_lines (outside_in linked stream) parts sheets),
      none_in_sheets (outside_in linked stream) parts sheets
          (λ part. none_in (λ r. outside_lines (outside_of linked r)) (own_records part.offset (drop part.offset stream))
          (λ r. no_outside (outside_of linked r))),
    )

-- ---- how cells look

no_cell : (version : Biff) (s : Styles) (table : List Mark) (c : Cell) → damaged_among (cell_lines version s table c) ≡ 0
no_cell version s table c = none_of (run_line s c.0) (runs_of version table c.1.1) (λ r. refl)

-- each damaged record of the globals is told, and no cell is damaged
pub damages_alone : (version : Biff) (s : Styles) (sheets : Sheets) (stream : List ℕ)
    → damaged_among (told_lines version s sheets stream) ≡ length s.damages
damages_alone version s sheets stream =
    let table = string_table stream in
    let parts = parts_of version sheets stream in
    omega (
      arith,
      among-append (map damaged_style s.damages) (sheet_lines (styles_in version s table stream) parts sheets),
      all_of damaged_style s.damages (λ d. refl),
      none_in_sheets (styles_in version s table stream) parts sheets
          (λ part. none_in (cell_lines version s table) (cells_of version (own_records 0 (drop part.offset stream)))
          (no_cell version s table)),
    )
