-- The mark and the box of a table.
use Rattle.std.proofs.Common.{◌≡◌, ℕ, Bool, List, [], ◌++◌, Result, Ok, Err, append-nil, refl, sym, subst, ◌∙◌}
use Rattle.std.specs.Result.{IsErrAnd}
use Rattle.xls_output.specs.Each.{GathersEach}
use Rattle.xls_output.specs.SinkState.{SinkState}
use Rattle.xls_output.specs.Output.{Buffers, GivesUp, Output}
use Rattle.xls_output.specs.declared.stop.Stop.{Stop}
use Rattle.xls_output.specs.declared.stop.Stop.TheVariants.{Memory}
use Rattle.xls_output.proofs.GatherLemmas.{stops-from, stops-memory-now}
use Rattle.xls_output.proofs.OutputLemmas.{gathers-added, gathers-after, gathers-then, stops-after, stops-then, wrote}
use Rattle.xls_csv.specs.Boxes.{FieldForm, GivesUpBox, IsRow}
use Rattle.xls_csv.specs.Walk.{Formatted}
use Rattle.xls_csv.proofs.RowLemmas.{begins_all, begins_nothing}
use Rattle.xls_tables.specs.Tables.{DeliversTable, IsTable, StopsTable, WroteTable, byte_order_mark}

pub delivers_stop : {X : Type 0} (form : FieldForm) (is_marked : Bool) (rows : List (List Formatted)) (a b : SinkState) {e : Stop} (r : Result X Stop)
    → IsErrAnd r (λ f. f ≡ e) → StopsTable form is_marked rows a b e → DeliversTable form is_marked rows a b r
delivers_stop form is_marked rows a b (Ok x) none p = absurd none
delivers_stop form is_marked rows a b {e} (Err f) is p = subst (StopsTable form is_marked rows a b) (sym is) p

-- out of memory before anything
pub table_memory : (form : FieldForm) (is_marked : Bool) (rows : List (List Formatted)) (a : SinkState)
    → StopsTable form is_marked rows a a Memory
table_memory form is_marked rows a = record {
  text = byte_order_mark is_marked;
  part = ([], begins_nothing form rows, sym (append-nil (byte_order_mark is_marked)));
  stops = stops-memory-now a [] (byte_order_mark is_marked);
}

-- the mark was gathered first
pub marked : (is_marked : Bool) {w : SinkState} {n : ℕ} {kept old : List ℕ} → kept ≡ old → old ≡ byte_order_mark is_marked
    → Buffers (record { sink = w; kept = []; lender = n }) (record { sink = w; kept = kept; lender = n }) (byte_order_mark is_marked)
marked is_marked {kept = kept} e is = gathers-added [] kept (byte_order_mark is_marked) (e ∙ is)

-- after the mark
pub table_stop : (form : FieldForm) (is_marked : Bool) (rows : List (List Formatted)) {a b c : Output} {e : Stop} → a.kept ≡ []
    → Buffers a b (byte_order_mark is_marked) → GivesUpBox form rows b c e
    → StopsTable form is_marked rows a.sink c.sink e
table_stop form is_marked rows none mark (text, begins, stops) = record {
  text = byte_order_mark is_marked ++ text;
  part = (text, begins, refl);
  stops = stops-from none (stops-then mark stops).stops;
}

pub table_gathered : (form : FieldForm) (is_marked : Bool) (rows : List (List Formatted)) {a b c : Output}
    → Buffers a b (byte_order_mark is_marked)
    → GathersEach (IsRow form) rows b c
    → (text : List ℕ) × IsTable form is_marked rows text × Buffers a c text
table_gathered form is_marked rows mark box =
    (byte_order_mark is_marked ++ box.text, (box.text, box.texts, refl), gathers-then mark box.gathers)

-- all was gathered, and then it was given up
pub table_unfinished : (form : FieldForm) (is_marked : Bool) (rows : List (List Formatted)) {a b c : Output} {e : Stop} → a.kept ≡ []
    → (text : List ℕ) × IsTable form is_marked rows text × Buffers a b text → GivesUp b c [] e
    → StopsTable form is_marked rows a.sink c.sink e
table_unfinished form is_marked rows none (text, (body, is, e), gathers) stops = record {
  text = text;
  part = (body, begins_all form rows body is, e);
  stops = stops-from none (stops-after gathers stops).stops;
}

pub table_finished : (form : FieldForm) (is_marked : Bool) (rows : List (List Formatted)) {a b c : Output} → a.kept ≡ []
    → (text : List ℕ) × IsTable form is_marked rows text × Buffers a b text → Buffers b c [] → c.kept ≡ []
    → WroteTable form is_marked rows a.sink c.sink
table_finished form is_marked rows none (text, is, gathers) last none' =
    record { text = text; table = is; wrote = wrote none (gathers-after gathers last) none' }

-- what is so of the sink of a writer is so of the one that was lent to it
pub lent_back : {K : Type 0} (P : SinkState → SinkState → Type 0) (state : K → SinkState) {x x' y y' : K}
    → x' ≡ x → y' ≡ y → P (state x') (state y') → P (state x) (state y)
lent_back P state {x} {x'} {y} {y'} e e' p =
    subst (λ (k : _). P (state k) (state y)) e (subst (λ (k : _). P (state x') (state k)) e' p)
