-- A box that is put row by row, and a row field by field.
use Rattle.std.proofs.Common.{◌≡◌, inl, inr, ℕ, zero, suc, ◌+◌, ◌-◌, ◌<◌, ◌≤◌, Bool, true, false, List, [], ◌∷◌, ◌++◌, length, Result, Ok, Err, append_assoc, append-nil, length-append, arith, refl, sym, ap, subst, ◌∙◌}
use Rattle.std.specs.Prelude.{◌==◌, ◌&&◌}
use Rattle.std.specs.List.{flat_map}
use Rattle.std.specs.Result.{IsErrAnd}
use Rattle.std.proofs.lemmas.List.{take_all}
use Rattle.xls_view.specs.Formats.{FormattedCell}
use Rattle.xls_output.specs.Added.{AddsText}
use Rattle.xls_output.specs.Each.{Concatenates, GathersEach, GivesUpEach}
use Rattle.xls_output.specs.SinkState.{SinkState}
use Rattle.xls_output.specs.Output.{Buffers, GivesUp, Output}
use Rattle.xls_output.specs.declared.stop.Stop.{Stop}
use Rattle.xls_output.specs.declared.stop.Stop.TheVariants.{Memory}
use Rattle.xls_output.proofs.EachLemmas.{EachSome, each-as, each-some-all, each-some-first, each-some-next, each-some-stopped, each-stops-as}
use Rattle.xls_output.proofs.OutputLemmas.{gathers-added, gathers-then, stops-as, stops-memory, stops-then}
use Rattle.xls_csv.specs.Boxes.{BeginsBox, BeginsRow, FieldForm, GivesUpBox, IsBox, IsFields, IsRow, IsSeparated, PutsBox, row_end}
use Rattle.xls_csv.specs.Steps.{PutsFields}
use Rattle.xls_csv.specs.Walk.{Formatted, left_over, no_cell, row_over, take_at}

-- ---- items one by one

abbrev pub one : {X : Type 0} → X → List X
one x = x ∷ []

pub singles : {X : Type 0} (xs : List X) → flat_map one xs ≡ xs
singles [] = refl
singles (x ∷ xs) = ap (λ (l : List _). x ∷ l) (singles xs)

-- ---- a field after a delimiter

pub separated_added : (form : FieldForm) (value : Formatted) (g : List ℕ) {h k : List ℕ} → h ≡ g ++ form.delimiter ∷ []
    → AddsText (form.IsField value) h k → AddsText (IsSeparated form value) g k
separated_added form value g e (field, is, f) = (
  form.delimiter ∷ field,
  (field, is, refl),
  f ∙ ap (λ (t : List ℕ). t ++ field) e ∙ append_assoc g (form.delimiter ∷ []) field,
)

-- ---- the fields after the first, up to a column

-- with these cells left at a column, the fields before it are gathered
pub record FieldsSoFar (form : FieldForm) (row left width : ℕ) (all : List FormattedCell) (a : Output) (column : ℕ)
    (cells : List FormattedCell) (b : Output) : Type 0 where
  pub fields : EachSome (IsSeparated form) one (row_over no_cell row (left + 1) (width - 1) all) (row_over no_cell row column (left + width - column) cells) a b
  pub rest : left_over no_cell row column (left + width - column) cells ≡ left_over no_cell row (left + 1) (width - 1) all

pub fields_none : (form : FieldForm) (row left width : ℕ) (all : List FormattedCell) (a : Output)
    → FieldsSoFar form row left width all a (left + 1) all a
fields_none form row left width all a =
    let same : left + width - (left + 1) ≡ width - 1 = omega arith in
    record {
      fields = each-some-first (IsSeparated form) one _ _ a (rw same refl);
      rest = rw same refl;
    }

pub row_next : (row column end : ℕ) (cells : List FormattedCell) → column < end
    → (row_over no_cell row column (end - column) cells
    ≡ (take_at no_cell row column cells).0 ∷ row_over no_cell row (column + 1) (end - (column + 1)) (take_at no_cell row column cells).1)
    × (left_over no_cell row column (end - column) cells ≡ left_over no_cell row (column + 1) (end - (column + 1)) (take_at no_cell row column cells).1)
row_next row column end cells l =
    let more : end - column ≡ suc (end - (column + 1)) = omega arith in
    rw more (refl, refl)

pub fields_more : {form : FieldForm} {row left width column : ℕ} {all cells cells' : List FormattedCell} {a b c : Output}
    → column < left + width → FieldsSoFar form row left width all a column cells b
    → GathersEach (IsSeparated form) ((take_at no_cell row column cells).0 ∷ []) b c → cells' ≡ (take_at no_cell row column cells).1
    → FieldsSoFar form row left width all a (column + 1) cells' c
fields_more {row = row} {left = left} {width = width} {column = column} {cells = cells} l so gathers left_is =
    let next = row_next row column (left + width) cells l in
    rw left_is (record {
      fields = each-some-next one so.fields next.0 gathers;
      rest = sym next.1 ∙ so.rest;
    })

pub fields_stop : {form : FieldForm} {row left width column : ℕ} {all cells : List FormattedCell} {a b c : Output} {e : Stop}
    → column < left + width → FieldsSoFar form row left width all a column cells b
    → GivesUpEach (IsSeparated form) ((take_at no_cell row column cells).0 ∷ []) b c e
    → GivesUpEach (IsSeparated form) (row_over no_cell row (left + 1) (width - 1) all) a c e
fields_stop {row = row} {left = left} {width = width} {column = column} {cells = cells} l so stops =
    each-stops-as (each-some-stopped one so.fields (row_next row column (left + width) cells l).0 stops) (singles _)

pub fields_all : {form : FieldForm} {row left width column : ℕ} {all cells : List FormattedCell} {a b : Output}
    → left + width ≤ column → FieldsSoFar form row left width all a column cells b
    → GathersEach (IsSeparated form) (row_over no_cell row (left + 1) (width - 1) all) a b
    × (cells ≡ left_over no_cell row (left + 1) (width - 1) all)
fields_all {row = row} {left = left} {width = width} {column = column} {cells = cells} l so =
    let none : left + width - column ≡ 0 = omega arith in
    let no_field : row_over no_cell row column (left + width - column) cells ≡ [] = rw none refl in
    let same_cells : left_over no_cell row column (left + width - column) cells ≡ cells = rw none refl in
    (each-as (each-some-all one so.fields no_field) (singles _), sym same_cells ∙ so.rest)

-- ---- a row

length-row_over : (row column n : ℕ) (cells : List FormattedCell) → length (row_over no_cell row column n cells) ≡ n
length-row_over row column zero cells = refl
length-row_over row column (suc n) cells = ap suc (length-row_over row (column + 1) n (take_at no_cell row column cells).1)

-- a row that has a column: what stands in the first, and those after it
pub row_first : (row left width : ℕ) (cells rest : List FormattedCell) (value : Formatted) → take_at no_cell row left cells ≡ (value, rest)
    → (width ≡ 0 → ⊥)
    → (row_over no_cell row left width cells ≡ value ∷ row_over no_cell row (left + 1) (width - 1) rest)
    × (width ≡ suc (length (row_over no_cell row (left + 1) (width - 1) rest)))
row_first row left width cells rest value taken some =
    let more : width ≡ suc (width - 1) = omega (arith, some) in
    (by_count width (width - 1) more, more ∙ ap suc (sym (length-row_over row (left + 1) (width - 1) rest)))
  where
    by_count : (n m : ℕ) → n ≡ suc m → row_over no_cell row left n cells ≡ value ∷ row_over no_cell row (left + 1) m rest
    by_count n m e = rw (e, taken) refl

-- out of memory before a field was put, whatever is kept then
pub row_memory : (form : FieldForm) (row : List Formatted) {w : SinkState} {n : ℕ} {g h : List ℕ} (a : Output)
    → Buffers a (record { sink = w; kept = g; lender = n }) []
    → (text : List ℕ) × BeginsRow form row text × GivesUp a (record { sink = w; kept = h; lender = n }) text Memory
row_memory form row a p = ([], (0, refl), stops-memory [] p)

-- the first field was put, and then it was given up
pub row_stop_first : (form : FieldForm) {row : List Formatted} (value : Formatted) (values : List Formatted) {a b c : Output} {field : List ℕ} {e : Stop}
    → row ≡ value ∷ values → form.IsField value field → Buffers a b field → GivesUp b c [] e
    → (text : List ℕ) × BeginsRow form row text × GivesUp a c text e
row_stop_first form value values {field = field} is f p q =
    let begins : BeginsRow form (value ∷ values) (field ++ []) = (1, (field, [], f, refl, refl)) in
    (field ++ [], subst (λ (r : List Formatted). BeginsRow form r (field ++ [])) (sym is) begins, stops-then p q)

-- the first field was put, and of the others some
pub row_stop_others : (form : FieldForm) {row : List Formatted} (value : Formatted) (values : List Formatted) {a b c : Output} {field : List ℕ} {e : Stop}
    → row ≡ value ∷ values → form.IsField value field → Buffers a b field
    → GivesUpEach (IsSeparated form) values b c e
    → (text : List ℕ) × BeginsRow form row text × GivesUp a c text e
row_stop_others form value values {field = field} is f p q =
    let begins : BeginsRow form (value ∷ values) (field ++ q.text) = (suc q.count, (field, q.text, f, q.texts, refl)) in
    (field ++ q.text, subst (λ (r : List Formatted). BeginsRow form r (field ++ q.text)) (sym is) begins, stops-then p q.stops)

-- a row is no byte where it is one field that is none
bare : (form : FieldForm) (values : List Formatted) (field others : List ℕ) (width : ℕ) (is_empty : Bool)
    → Concatenates (IsSeparated form) values others → width ≡ suc (length values) → is_empty ≡ (length field == 0)
    → (is_empty && (width == 1)) ≡ (length (field ++ others) == 0)
bare form [] field others width is_empty none e f = rw (none, e, f, append-nil field) (same (length field == 0))
  where
    same : (b : Bool) → (b && true) ≡ b
    same true = refl
    same false = refl
bare form (x ∷ xs) field others width is_empty (first, rest, (f, _, is), _, e) w t =
    rw (w, t, length-append field others, e, length-append first rest, is) (more (length field == 0) (length xs) (length field) (length f) (length rest))
  where
    more : (b : Bool) (n m k j : ℕ) → (b && (suc (suc n) == 1)) ≡ (m + (suc k + j) == 0)
    more true n m k j = grind arith
    more false n m k j = grind arith

-- all fields were put
pub row_all : (form : FieldForm) {row : List Formatted} (value : Formatted) (values : List Formatted) (width : ℕ) {is_empty is_bare : Bool} {a b c : Output} {field : List ℕ}
    → row ≡ value ∷ values → width ≡ suc (length values) → form.IsField value field → is_empty ≡ (length field == 0)
    → is_bare ≡ (is_empty && (width == 1)) → Buffers a b field → GathersEach (IsSeparated form) values b c
    → (text : List ℕ) × (IsFields form row text × (is_bare ≡ (length text == 0))) × Buffers a c text
row_all form value values width {is_empty} {field = field} is w f t now p q =
    let fields : IsFields form (value ∷ values) (field ++ q.text) = (field, q.text, f, q.texts, refl) in (
      field ++ q.text,
      (
        subst (λ (r : List Formatted). IsFields form r (field ++ q.text)) (sym is) fields,
        now ∙ bare form values field q.text width is_empty q.texts w t,
      ),
      gathers-then p q.gathers,
    )

pub puts_fields_stop : (form : FieldForm) (row : List Formatted) {a b : Output} {e : Stop} (r : Result Bool Stop) → IsErrAnd r (λ d. d ≡ e)
    → (text : List ℕ) × BeginsRow form row text × GivesUp a b text e → PutsFields form row a b r
puts_fields_stop form row (Ok x) none p = absurd none
puts_fields_stop form row {a = a} {b = b} (Err d) is (text, begins, stops) = (text, begins, subst (GivesUp a b text) (sym is) stops)

-- ---- the end of a row

whole_row : (form : FieldForm) (row : List Formatted) (text : List ℕ) → IsFields form row text → BeginsRow form row text
whole_row form row text is =
    (length row, subst (λ (r : List Formatted). IsFields form r text) (sym (take_all (length row) row (omega arith))) is)

pub end_put : {form : FieldForm} {row : List Formatted} {is_bare : Bool} {a : Output} {w : SinkState} {n : ℕ} {g h : List ℕ}
    → (text : List ℕ) × (IsFields form row text × (is_bare ≡ (length text == 0))) × Buffers a (record { sink = w; kept = g; lender = n }) text
    → h ≡ g ++ row_end is_bare → GathersEach (IsRow form) (row ∷ []) a (record { sink = w; kept = h; lender = n })
end_put {form} {row} {is_bare} {g = g} {h = h} (fields, (is, bare), p) e =
    let text = fields ++ row_end is_bare in
    record {
      text = text;
      texts = (text, [], (fields, is, ap (λ (t : Bool). fields ++ row_end t) bare), refl, sym (append-nil text));
      gathers = gathers-then p (gathers-added g h (row_end is_bare) e);
    }

-- out of memory after all fields
pub end_memory : {form : FieldForm} {row : List Formatted} {is_bare : Bool} {a : Output} {w : SinkState} {n : ℕ} {g h : List ℕ}
    → (text : List ℕ) × (IsFields form row text × (is_bare ≡ (length text == 0))) × Buffers a (record { sink = w; kept = g; lender = n }) text
    → GivesUpBox form (row ∷ []) a (record { sink = w; kept = h; lender = n }) Memory
end_memory {form} {row} (fields, (is, _), p) =
    (fields, inl (whole_row form row fields is), stops-as (stops-memory [] p) (append-nil fields))

-- ---- a part of some rows

pub begins_nothing : (form : FieldForm) (rows : List (List Formatted)) → BeginsBox form rows []
begins_nothing form [] = refl
begins_nothing form (row ∷ rows) = inl (0, refl)

pub begins_all : (form : FieldForm) (rows : List (List Formatted)) (text : List ℕ) → IsBox form rows text → BeginsBox form rows text
begins_all form [] text is = is
begins_all form (row ∷ rows) text (first, others, is, rest, e) = inr (first, others, is, begins_all form rows others rest, e)

-- a part of the first rows is one of all
begins_more : (form : FieldForm) (xs ys : List (List Formatted)) (text : List ℕ) → BeginsBox form xs text → BeginsBox form (xs ++ ys) text
begins_more form [] ys text none = rw none (begins_nothing form ys)
begins_more form (x ∷ xs) ys text (inl begins) = inl begins
begins_more form (x ∷ xs) ys text (inr (first, others, is, rest, e)) = inr (first, others, is, begins_more form xs ys others rest, e)

-- all of the first rows, and a part of the others
begins_then : (form : FieldForm) (xs ys : List (List Formatted)) (t u : List ℕ) → IsBox form xs t → BeginsBox form ys u
    → BeginsBox form (xs ++ ys) (t ++ u)
begins_then form [] ys t u none begins = rw none begins
begins_then form (x ∷ xs) ys t u (first, others, is, rest, e) begins = inr (
  first,
  others ++ u,
  is,
  begins_then form xs ys others u rest begins,
  ap (λ (l : List ℕ). l ++ u) e ∙ append_assoc first others u,
)

-- ---- rows one after another

pub box_stop : {form : FieldForm} {all old left : List (List Formatted)} {row : List Formatted} {a b c : Output} {e : Stop}
    → EachSome (IsRow form) one all old a b → old ≡ row ∷ left → GivesUpBox form (row ∷ []) b c e → GivesUpBox form all a c e
box_stop {form} {all} {old} {left} {row} so is (text, begins, stops) =
    let whole : so.out ++ row ∷ left ≡ all =
    ap (λ (l : List _). so.out ++ l) (sym is ∙ sym (singles old)) ∙ so.whole ∙ singles all in (
      so.gathers.text ++ text,
      subst (λ (l : List (List Formatted)). BeginsBox form l (so.gathers.text ++ text)) whole
          (begins_then form so.out (row ∷ left) so.gathers.text text so.gathers.texts (begins_more form (row ∷ []) left text begins)),
      stops-then so.gathers.gathers stops,
    )

pub box_all : {form : FieldForm} {all left : List (List Formatted)} {a b : Output}
    → EachSome (IsRow form) one all left a b → left ≡ [] → GathersEach (IsRow form) all a b
box_all so none = each-as (each-some-all one so none) (singles _)

pub puts_box_stop : {X : Type 0} (form : FieldForm) (rows : List (List Formatted)) {a b : Output} {e : Stop} (r : Result X Stop)
    → IsErrAnd r (λ d. d ≡ e) → GivesUpBox form rows a b e → PutsBox form rows a b r
puts_box_stop form rows (Ok x) none p = absurd none
puts_box_stop form rows {a = a} {b = b} (Err d) is p = subst (GivesUpBox form rows a b) (sym is) p
