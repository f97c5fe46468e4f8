-- A box of which some rows and columns can't be seen.
use Rattle.std.proofs.Common.{◌≡◌, ◌⊎◌, inl, inr, ℕ, zero, suc, ◌+◌, ◌-◌, ◌<◌, ◌≤◌, Bool, true, false, List, [], ◌∷◌, ◌++◌, length, map, take, Option, Result, Ok, Err, append_assoc, append-nil, length-append, arith, refl, sym, ap, subst, ◌∙◌}
use Rattle.std.specs.Prelude.{◌==◌, ◌&&◌}
use Rattle.std.specs.Result.{IsErrAnd}
use Rattle.xls_view.specs.Formats.{FormattedCell}
use Rattle.xls_output.specs.Each.{Concatenates, GathersEach}
use Rattle.xls_output.specs.SinkState.{SinkState}
use Rattle.xls_output.specs.Output.{Buffers, GivesUp, Output}
use Rattle.xls_output.specs.declared.stop.Stop.{Stop}
use Rattle.xls_output.specs.declared.stop.Stop.TheVariants.{Memory}
use Rattle.xls_output.proofs.EachLemmas.{EachSome}
use Rattle.xls_output.proofs.OutputLemmas.{gathers-nothing, gathers-then, stops-memory, stops-then}
use Rattle.xls_hidden.specs.Hidden.{Hidden}
use Rattle.xls_hidden.specs.Lines.{Table}
use Rattle.xls_hidden_cells.specs.Seen.{is_hidden, seen_from, seen_rows}
use Rattle.xls_csv.specs.Boxes.{BeginsRow, FieldForm, IsFields, IsRow, IsSeparated}
use Rattle.xls_csv.specs.Steps.{IsNextField, PutsFields, PutsNext}
use Rattle.xls_csv.specs.Seen.{seen_in}
use Rattle.xls_csv.specs.Walk.{Formatted, left_over, no_cell, row_over, rows_over, take_at, walk_box}
use Rattle.xls_csv.specs.declared.extent.Extent.{Extent}
use Rattle.xls_csv.proofs.WalkLemmas.{rows_from}
use Rattle.xls_csv.proofs.RowLemmas.{one, row_next}

-- ---- what can be seen of a list

hidden_first : {T : Type 0} (table : Table) (line : ℕ) (x : T) (xs : List T) → is_hidden table line ≡ true
    → seen_from table line (x ∷ xs) ≡ seen_from table (line + 1) xs
hidden_first table line x xs t = rw t refl

seen_first : {T : Type 0} (table : Table) (line : ℕ) (x : T) (xs : List T) → is_hidden table line ≡ false
    → seen_from table line (x ∷ xs) ≡ x ∷ seen_from table (line + 1) xs
seen_first table line x xs t = rw t refl

-- ---- the next field

next_stop : (form : FieldForm) (is_first : Bool) (value : Formatted) {a b : Output} {e : Stop} (r : Result Bool Stop) → IsErrAnd r (λ d. d ≡ e)
    → (text : List ℕ) × ((text ≡ []) ⊎ IsNextField form is_first value text) × GivesUp a b text e → PutsNext form is_first value a b r
next_stop form is_first value (Ok x) none p = absurd none
next_stop form is_first value {a = a} {b = b} (Err d) is (text, part, stops) = (text, part, subst (GivesUp a b text) (sym is) stops)

-- out of memory before it was put
pub next_memory : (form : FieldForm) (is_first : Bool) (value : Formatted) (w : SinkState) (n : ℕ) (g h : List ℕ) (r : Result Bool Stop)
    → IsErrAnd r (λ d. d ≡ Memory)
    → PutsNext form is_first value (record { sink = w; kept = g; lender = n }) (record { sink = w; kept = h; lender = n }) r
next_memory form is_first value w n g h r is = next_stop form is_first value r is ([], inl refl, stops-memory [] (gathers-nothing _))

-- it was appended, and then it was given up
pub next_unwritten : (form : FieldForm) (is_first : Bool) (value : Formatted) {a b : Output} {e : Stop} {text : List ℕ} (r : Result Bool Stop)
    → IsErrAnd r (λ d. d ≡ e) → IsNextField form is_first value text → GivesUp a b text e → PutsNext form is_first value a b r
next_unwritten form is_first value {text = text} r is field stops = next_stop form is_first value r is (text, inr field, stops)

-- ---- fields one after another

-- whether a list has no item
abbrev pub is_nil : {X : Type 0} → List X → Bool
is_nil [] = true
is_nil (x ∷ xs) = false

texts_then : {A : Type 0} (P : A → List ℕ → Type 0) (xs : List A) (y : A) (t u : List ℕ) → Concatenates P xs t → P y u
    → Concatenates P (xs ++ y ∷ []) (t ++ u)
texts_then P [] y t u none p = (u, [], p, refl, ap (λ (l : List ℕ). l ++ u) none ∙ sym (append-nil u))
texts_then P (x ∷ xs) y t u (first, others, p, rest, is) q = (
  first,
  others ++ u,
  p,
  texts_then P xs y others u rest q,
  ap (λ (l : List ℕ). l ++ u) is ∙ append_assoc first others u,
)

-- the first field, or one behind others
fields_then : (form : FieldForm) (done : List Formatted) (value : Formatted) (t u : List ℕ) → IsFields form done t
    → IsNextField form (is_nil done) value u → IsFields form (done ++ value ∷ []) (t ++ u)
fields_then form [] value t u none is = (u, [], is, refl, ap (λ (l : List ℕ). l ++ u) none ∙ sym (append-nil u))
fields_then form (x ∷ xs) value t u (field, others, f, rest, e) is = (
  field,
  others ++ u,
  f,
  texts_then (IsSeparated form) xs value others u rest is,
  ap (λ (l : List ℕ). l ++ u) e ∙ append_assoc field others u,
)

not_first : {X : Type 0} (xs : List X) (y : X) → false ≡ is_nil (xs ++ y ∷ [])
not_first [] y = refl
not_first (x ∷ xs) y = refl

both_bare : (n m : ℕ) → ((n == 0) && (m == 0)) ≡ (n + m == 0)
both_bare n m = grind arith

-- ---- the fields up to a column

-- with these cells left at a column, the fields that can be seen before it are gathered
pub record SeenSoFar (form : FieldForm) (table : Table) (row left width : ℕ) (all : List FormattedCell) (a : Output) (column : ℕ)
    (cells : List FormattedCell) (is_first is_bare : Bool) (b : Output) : Type 0 where
  pub done : List Formatted
  pub text : List ℕ
  pub fields : IsFields form done text
  pub first : is_first ≡ is_nil done
  pub bare : is_bare ≡ (length text == 0)
  pub whole : done ++ seen_from table column (row_over no_cell row column (left + width - column) cells) ≡ seen_from table left (row_over no_cell row left width all)
  pub rest : left_over no_cell row column (left + width - column) cells ≡ left_over no_cell row left width all
  pub gathers : Buffers a b text

pub seen_none : (form : FieldForm) (table : Table) (row left width : ℕ) (all : List FormattedCell) (a : Output)
    → SeenSoFar form table row left width all a left all true true a
seen_none form table row left width all a =
    let same : left + width - left ≡ width = omega arith in
    record {
      done = [];
      text = [];
      fields = refl;
      first = refl;
      bare = refl;
      whole = rw same refl;
      rest = rw same refl;
      gathers = gathers-nothing a;
    }

-- what is left from a column on, where that can't be seen, and where it can
next_hidden : (table : Table) (row column end : ℕ) (cells rest : List FormattedCell) (value : Formatted) → column < end
    → is_hidden table column ≡ true → take_at no_cell row column cells ≡ (value, rest)
    → seen_from table column (row_over no_cell row column (end - column) cells)
    ≡ seen_from table (column + 1) (row_over no_cell row (column + 1) (end - (column + 1)) rest)
next_hidden table row column end cells rest value l t taken =
    ap (seen_from table column) (row_next row column end cells l).0 ∙ (rw taken (hidden_first table column value _ t))

next_seen : (table : Table) (row column end : ℕ) (cells rest : List FormattedCell) (value : Formatted) → column < end
    → is_hidden table column ≡ false → take_at no_cell row column cells ≡ (value, rest)
    → seen_from table column (row_over no_cell row column (end - column) cells)
    ≡ value ∷ seen_from table (column + 1) (row_over no_cell row (column + 1) (end - (column + 1)) rest)
next_seen table row column end cells rest value l t taken =
    ap (seen_from table column) (row_next row column end cells l).0 ∙ (rw taken (seen_first table column value _ t))

next_left : (row column end : ℕ) (cells rest : List FormattedCell) (value : Formatted) → column < end
    → take_at no_cell row column cells ≡ (value, rest)
    → left_over no_cell row column (end - column) cells ≡ left_over no_cell row (column + 1) (end - (column + 1)) rest
next_left row column end cells rest value l taken = (row_next row column end cells l).1 ∙ rw taken refl

-- a column that can't be seen
pub seen_skip : {form : FieldForm} {table : Table} {row left width column : ℕ} {all cells rest : List FormattedCell} {value : Formatted}
    {is_first is_bare : Bool} {a b : Output}
    → column < left + width → is_hidden table column ≡ true → take_at no_cell row column cells ≡ (value, rest)
    → SeenSoFar form table row left width all a column cells is_first is_bare b
    → SeenSoFar form table row left width all a (column + 1) rest is_first is_bare b
seen_skip {table = table} {row = row} {left = left} {width = width} {column = column} {cells = cells} {rest = rest} {value = value} l t taken so = record {
  done = so.done;
  text = so.text;
  fields = so.fields;
  first = so.first;
  bare = so.bare;
  whole = ap (λ (r : List Formatted). so.done ++ r) (sym (next_hidden table row column (left + width) cells rest value l t taken)) ∙ so.whole;
  rest = sym (next_left row column (left + width) cells rest value l taken) ∙ so.rest;
  gathers = so.gathers;
}

-- all fields of the row, where this one is the next
row_whole : (table : Table) (row left width : ℕ) {column : ℕ} (all cells : List FormattedCell) {rest : List FormattedCell} {value : Formatted} (done : List Formatted)
    → column < left + width → is_hidden table column ≡ false → take_at no_cell row column cells ≡ (value, rest)
    → done ++ seen_from table column (row_over no_cell row column (left + width - column) cells) ≡ seen_from table left (row_over no_cell row left width all)
    → (done ++ value ∷ []) ++ seen_from table (column + 1) (row_over no_cell row (column + 1) (left + width - (column + 1)) rest)
    ≡ seen_from table left (row_over no_cell row left width all)
row_whole table row left width {column} all cells {rest} {value} done l t taken whole =
    append_assoc done (value ∷ []) _
    ∙ (ap (λ (r : List Formatted). done ++ r) (sym (next_seen table row column (left + width) cells rest value l t taken)) ∙ whole)

-- the field of a column that can be seen
pub seen_more : {form : FieldForm} {table : Table} {row left width column : ℕ} {all cells rest : List FormattedCell} {value : Formatted}
    {is_first is_bare is_empty : Bool} {a b c : Output}
    → column < left + width → is_hidden table column ≡ false → take_at no_cell row column cells ≡ (value, rest)
    → SeenSoFar form table row left width all a column cells is_first is_bare b
    → PutsNext form is_first value b c (Ok is_empty)
    → SeenSoFar form table row left width all a (column + 1) rest false (is_bare && is_empty) c
seen_more {form} {table} {row} {left} {width} {column} {all} {cells} {rest = rest} {value = value} l t taken so (text, (is, empty), gathers) = record {
  done = so.done ++ value ∷ [];
  text = so.text ++ text;
  fields = fields_then form so.done value so.text text so.fields (subst (λ (f : Bool). IsNextField form f value text) so.first is);
  first = not_first so.done value;
  bare = rw (so.bare, empty, length-append so.text text) (both_bare (length so.text) (length text));
  whole = row_whole table row left width all cells so.done l t taken so.whole;
  rest = sym (next_left row column (left + width) cells rest value l taken) ∙ so.rest;
  gathers = gathers-then so.gathers gathers;
}

take_front : {X : Type 0} (xs ys : List X) → take (length xs) (xs ++ ys) ≡ xs
take_front [] ys = refl
take_front (x ∷ xs) ys = ap (λ (l : List _). x ∷ l) (take_front xs ys)

-- the first fields of a row
begins_front : (form : FieldForm) (row front rest : List Formatted) (text : List ℕ) → front ++ rest ≡ row → IsFields form front text
    → BeginsRow form row text
begins_front form row front rest text e is =
    (length front, subst (λ (r : List Formatted). IsFields form r text) (sym (take_front front rest) ∙ ap (take (length front)) e) is)

-- it was given up at a field
pub seen_stop : {form : FieldForm} {table : Table} {row left width column : ℕ} {all cells rest : List FormattedCell} {value : Formatted}
    {is_first is_bare : Bool} {a b c : Output} {e : Stop}
    → column < left + width → is_hidden table column ≡ false → take_at no_cell row column cells ≡ (value, rest)
    → SeenSoFar form table row left width all a column cells is_first is_bare b
    → PutsNext form is_first value b c (Err e)
    → (text : List ℕ) × BeginsRow form (seen_from table left (row_over no_cell row left width all)) text × GivesUp a c text e
seen_stop {form} {table} {row} {left} {width} {all = all} {cells = cells} {value = value} l t taken so (text, inl none, stops) = (
  so.text ++ text,
  begins_front form _ so.done _ (so.text ++ text) so.whole
      (subst (IsFields form so.done) (sym (append-nil so.text) ∙ ap (λ (u : List ℕ). so.text ++ u) (sym none)) so.fields),
  stops-then so.gathers stops,
)
seen_stop {form} {table} {row} {left} {width} {all = all} {cells = cells} {value = value} l t taken so (text, inr is, stops) = (
  so.text ++ text,
  begins_front form _ (so.done ++ value ∷ []) _ (so.text ++ text) (row_whole table row left width all cells so.done l t taken so.whole)
      (fields_then form so.done value so.text text so.fields (subst (λ (f : Bool). IsNextField form f value text) so.first is)),
  stops-then so.gathers stops,
)

pub seen_all : {form : FieldForm} {table : Table} {row left width column : ℕ} {all cells : List FormattedCell} {is_first is_bare : Bool} {a b : Output}
    → left + width ≤ column → SeenSoFar form table row left width all a column cells is_first is_bare b
    → PutsFields form (seen_from table left (row_over no_cell row left width all)) a b (Ok is_bare)
    × (cells ≡ left_over no_cell row left width all)
seen_all {form} {table} {row} {left} {width} {column} {cells = cells} l so =
    let none : left + width - column ≡ 0 = omega arith in
    let no_field : seen_from table column (row_over no_cell row column (left + width - column) cells) ≡ [] = rw none refl in
    let same_cells : left_over no_cell row column (left + width - column) cells ≡ cells = rw none refl in
    let same : so.done ≡ _ = sym (append-nil so.done) ∙ (ap (λ (r : List Formatted). so.done ++ r) (sym no_field) ∙ so.whole) in (
      (so.text, (subst (λ (r : List Formatted). IsFields form r so.text) same so.fields, so.bare), so.gathers),
      sym same_cells ∙ so.rest,
    )

-- ---- a whole box

-- what can be seen of the rows over a box of the cells is that of its rows
pub walked_seen : (hidden : Option Hidden) (cells ahead : List FormattedCell) {extent box : Extent} → ahead ≡ cells → extent ≡ box
    → seen_in hidden extent (walk_box no_cell extent ahead) ≡ seen_in hidden box (walk_box no_cell box cells)
walked_seen hidden cells ahead {extent} {box} e is = rw (e, is) refl

-- ---- a row that is passed over

pub skip_none : (row left width : ℕ) (all : List FormattedCell)
    → left_over no_cell row left (left + width - left) all ≡ left_over no_cell row left width all
skip_none row left width all =
    let same : left + width - left ≡ width = omega arith in
    rw same refl

pub skip_more : (row left width : ℕ) {column : ℕ} (all cells : List FormattedCell) {rest : List FormattedCell} {value : Formatted} → column < left + width
    → take_at no_cell row column cells ≡ (value, rest)
    → left_over no_cell row column (left + width - column) cells ≡ left_over no_cell row left width all
    → left_over no_cell row (column + 1) (left + width - (column + 1)) rest ≡ left_over no_cell row left width all
skip_more row left width {column} all cells {rest = rest} {value = value} l taken so =
    sym (next_left row column (left + width) cells rest value l taken) ∙ so

pub skip_all : (row left width : ℕ) {column : ℕ} (all cells : List FormattedCell) → left + width ≤ column
    → left_over no_cell row column (left + width - column) cells ≡ left_over no_cell row left width all
    → cells ≡ left_over no_cell row left width all
skip_all row left width {column} all cells l so =
    let none : left + width - column ≡ 0 = omega arith in
    let same_cells : left_over no_cell row column (left + width - column) cells ≡ cells = rw none refl in
    sym same_cells ∙ so

-- ---- the rows from one on

rows_behind : {T : Type 0} (hidden : Hidden) (top i left : ℕ) (rows : List (List T))
    → map (seen_from hidden.columns left) (seen_from hidden.rows (top + i + 1) rows) ≡ seen_rows hidden (top + (i + 1)) left rows
rows_behind hidden top i left rows =
    let next : top + (i + 1) ≡ top + i + 1 = omega arith in
    rw next refl

-- the next one can't be seen
pub row_hidden : (hidden : Hidden) (top i left width height : ℕ) (cells rest : List FormattedCell) → i < height
    → is_hidden hidden.rows (top + i) ≡ true → rest ≡ left_over no_cell (top + i) left width cells
    → seen_rows hidden (top + i) left (rows_over no_cell (height - i) (top + i) left width cells)
    ≡ seen_rows hidden (top + (i + 1)) left (rows_over no_cell (height - (i + 1)) (top + (i + 1)) left width rest)
row_hidden hidden top i left width height cells rest l t is =
    ap (seen_rows hidden (top + i) left) (rows_from no_cell height top left width i cells l)
    ∙ (ap (map (seen_from hidden.columns left)) (hidden_first hidden.rows (top + i) _ _ t)
    ∙ (rows_behind hidden top i left _ ∙ rw is refl))

-- it can
pub row_seen : (hidden : Hidden) (top i left width height : ℕ) (cells rest : List FormattedCell) → i < height
    → is_hidden hidden.rows (top + i) ≡ false → rest ≡ left_over no_cell (top + i) left width cells
    → seen_rows hidden (top + i) left (rows_over no_cell (height - i) (top + i) left width cells)
    ≡ seen_from hidden.columns left (row_over no_cell (top + i) left width cells)
    ∷ seen_rows hidden (top + (i + 1)) left (rows_over no_cell (height - (i + 1)) (top + (i + 1)) left width rest)
row_seen hidden top i left width height cells rest l t is =
    ap (seen_rows hidden (top + i) left) (rows_from no_cell height top left width i cells l)
    ∙ (ap (map (seen_from hidden.columns left)) (seen_first hidden.rows (top + i) _ _ t)
    ∙ ap (λ (r : List (List Formatted)). seen_from hidden.columns left (row_over no_cell (top + i) left width cells) ∷ r)
    (rows_behind hidden top i left _ ∙ rw is refl))

-- the same rows are left
pub some_as : {form : FieldForm} {all old left : List (List Formatted)} {a b : Output} → old ≡ left → EachSome (IsRow form) one all old a b
    → EachSome (IsRow form) one all left a b
some_as {form} {all} {a = a} {b = b} e so = subst (λ (l : List (List Formatted)). EachSome (IsRow form) one all l a b) e so
