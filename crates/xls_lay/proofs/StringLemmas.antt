-- The strings of a table, one after the other.
use Rattle.std.proofs.Common.{◌≡◌, ℕ, ◌+◌, ◌<◌, ◌≤◌, ◌^◌, List, [], ◌++◌, length, take, drop, get_or, refl, sym, ap, subst, ◌∙◌, append_assoc, arith}
use Rattle.std.proofs.lemmas.List.{append-nil, drop_all, length-drop}
use Rattle.xls_stream.specs.StringTable.{Mark}
use Rattle.xls_layouts.specs.LaidStrings.{marks_of_string, marks_of_strings}
use Rattle.xls_layouts.specs.Canonical.{fill_from, canonical_string, canonical_strings}
use Rattle.xls_lay.specs.Inside.{total, parts_of}
use Rattle.xls_lay.specs.Filling.{IsFilled, Fills}
use Rattle.xls_output.specs.Output.{Output}
use Rattle.xls_output.specs.declared.stop.Stop.{Stop}
use Rattle.xls_lay.specs.Putting.{PutsOn, StopsOn}
use Rattle.xls_lay.specs.declared.fill.Fill.{Fill}
use Rattle.xls_lay.specs.declared.table.TableWriter.{TableWriter}
use Rattle.xls_lay.proofs.InsideLemmas.{next_size}
use Rattle.xls_lay.proofs.FilledLemmas.{fills_both, fills_same}
use Rattle.xls_lay.proofs.PutLemmas.{on_both, on_same, on_stopped, on_stopped_more}

abbrev pub strings_marks : ℕ → List (List ℕ) → List Mark
strings_marks used strings = marks_of_strings (canonical_strings used strings)

-- these marks are those of some strings, and where so much is used then, the others are still to come
pub record Walked (from now : ℕ) (sizes units rest : List ℕ) (i : ℕ) (ms : List Mark) : Type 0 where
  pub whole : ms ++ strings_marks now (parts_of (drop i sizes) rest) ≡ strings_marks from (parts_of sizes units)
  pub left : total (drop i sizes) ≡ length rest

walked_none : (from : ℕ) (sizes units : List ℕ) → total sizes ≡ length units → Walked from from sizes units units 0 []
walked_none from sizes units e = record { whole = refl; left = e }

module _ (from now : ℕ) (sizes units rest : List ℕ) (i : ℕ) (ms : List Mark) (w : Walked from now sizes units rest i ms) where
  abbrev size : ℕ
  size = get_or sizes i 0

  pub walked_within : i < length sizes → size ≤ length rest
  walked_within lt = let e = rw (next_size sizes i lt) at w.left in omega (arith, e)

  abbrev string : List Mark
  string = marks_of_string (canonical_string now (take size rest))

  walked_more : (next : ℕ) → i < length sizes → next ≡ fill_from now string
      → Walked from next sizes units (drop size rest) (i + 1) (ms ++ string)
  walked_more next lt e =
      let sizes_are = rw (next_size sizes i lt) at w.left in
      let others = parts_of (drop (i + 1) sizes) (drop size rest) in
      record {
        whole =
            append_assoc ms string (strings_marks next others)
            ∙ ap (λ (n : ℕ). ms ++ (string ++ strings_marks n others)) e
            ∙ ap (λ (ns : List ℕ). ms ++ strings_marks now (parts_of ns rest)) (sym (next_size sizes i lt))
            ∙ w.whole;
        left = omega (arith, sizes_are, length-drop size rest);
      }

  walked_all : length sizes ≤ i → ms ≡ strings_marks from (parts_of sizes units)
  walked_all le =
      sym (append-nil ms)
      ∙ ap (λ (ns : List ℕ). ms ++ strings_marks now (parts_of ns rest)) (sym (drop_all i sizes le))
      ∙ w.whole

-- ---- strings that are counted

pub record Counted (old now : Fill) (sizes units rest : List ℕ) (i : ℕ) : Type 0 where
  pub ms : List Mark
  pub fills : Fills old ms now
  pub walked : Walked old.used now.used sizes units rest i ms

pub counted_none : (old : Fill) (sizes units : List ℕ) → old.size < 2 ^ 64 → IsFilled old → total sizes ≡ length units
    → Counted old old sizes units units 0
counted_none old sizes units small room e = record {
  ms = [];
  fills = fills_same old small room;
  walked = walked_none old.used sizes units e;
}

module _ (old now : Fill) (sizes units rest : List ℕ) (i : ℕ) (h : Counted old now sizes units rest i) where
  pub counted_within : i < length sizes → get_or sizes i 0 ≤ length rest
  counted_within lt = walked_within old.used now.used sizes units rest i h.ms h.walked lt

  pub counted_more : (new : Fill) → i < length sizes
      → Fills now (marks_of_string (canonical_string now.used (take (get_or sizes i 0) rest))) new
      → Counted old new sizes units (drop (get_or sizes i 0) rest) (i + 1)
  counted_more new lt f =
      let string = marks_of_string (canonical_string now.used (take (get_or sizes i 0) rest)) in
      record {
        ms = h.ms ++ string;
        fills = fills_both old now new h.ms string h.fills f;
        walked = walked_more old.used now.used sizes units rest i h.ms h.walked new.used lt f.used;
      }

  pub counted_all : length sizes ≤ i → Fills old (strings_marks old.used (parts_of sizes units)) now
  counted_all le =
      subst (λ (x : List Mark). Fills old x now) (walked_all old.used now.used sizes units rest i h.ms h.walked le) h.fills

-- ---- strings that are put

pub record PutStrings (before : Output) (old : TableWriter) (after : Output) (now : TableWriter) (sizes units rest : List ℕ) (i : ℕ) : Type 0 where
  pub ms : List Mark
  pub puts : PutsOn before old ms after now
  pub walked : Walked (length old.body.items) (length now.body.items) sizes units rest i ms

pub strings_none : (s : Output) (old : TableWriter) (sizes units : List ℕ) → total sizes ≡ length units
    → PutStrings s old s old sizes units units 0
strings_none s old sizes units e = record {
  ms = [];
  puts = on_same s old;
  walked = walked_none (length old.body.items) sizes units e;
}

module _ (s : Output) (old : TableWriter) (t : Output) (now : TableWriter) (sizes units rest : List ℕ) (i : ℕ) (h : PutStrings s old t now sizes units rest i) where
  pub strings_within : i < length sizes → get_or sizes i 0 ≤ length rest
  strings_within lt = walked_within (length old.body.items) (length now.body.items) sizes units rest i h.ms h.walked lt

  abbrev next : List Mark
  next = marks_of_string (canonical_string (length now.body.items) (take (get_or sizes i 0) rest))

  pub strings_more : (u : Output) (new : TableWriter) → i < length sizes → PutsOn t now next u new
      → PutStrings s old u new sizes units (drop (get_or sizes i 0) rest) (i + 1)
  strings_more u new lt f = record {
    ms = h.ms ++ next;
    puts = on_both old now new h.ms next h.puts f;
    walked = walked_more (length old.body.items) (length now.body.items) sizes units rest i h.ms h.walked (length new.body.items) lt f.moves.used;
  }

  -- the next string wasn't put
  pub strings_stop : (u : Output) (e : Stop) → i < length sizes → StopsOn t now next u e
      → StopsOn s old (strings_marks (length old.body.items) (parts_of sizes units)) u e
  strings_stop u e lt stops =
      let w = walked_more (length old.body.items) (length now.body.items) sizes units rest i h.ms h.walked (fill_from (length now.body.items) next) lt refl in
      on_stopped_more old (h.ms ++ next) (strings_marks (fill_from (length now.body.items) next) (parts_of (drop (i + 1) sizes) (drop (get_or sizes i 0) rest))) _ w.whole
      (on_stopped old now h.ms next h.puts stops)

  pub strings_all : length sizes ≤ i → PutsOn s old (strings_marks (length old.body.items) (parts_of sizes units)) t now
  strings_all le =
      subst (λ (x : List Mark). PutsOn s old x t now)
      (walked_all (length old.body.items) (length now.body.items) sizes units rest i h.ms h.walked le) h.puts
