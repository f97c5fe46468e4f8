-- Marks that are put one after the other.
use Rattle.std.proofs.Common.{◌≡◌, ℕ, suc, ◌+◌, ◌<◌, ◌≤◌, ◌^◌, Bool, true, false, List, [], ◌∷◌, ◌++◌, length, map, drop, get_or, Some, None, refl, sym, ap, subst, ◌∙◌, append_assoc, arith, Result, Ok, Err}
use Rattle.std.specs.Prelude.{not}
use Rattle.std.specs.Result.{IsErrAnd}
use Rattle.xls_output.specs.Output.{Output, Puts}
use Rattle.xls_output.specs.SinkState.{SinkState}
use Rattle.xls_output.specs.declared.stop.Stop.{Stop}
use Rattle.xls_output.specs.declared.stop.Stop.TheVariants.{Memory}
use Rattle.xls_output.proofs.OutputLemmas.{gathers-added, gathers-after, gathers-nothing, gathers-then, stops-after, stops-as, stops-memory-now, stops-more, stops-then}
use Rattle.std.specs.List.{flat_map, AllByRecursion}
use Rattle.std.proofs.lemmas.List.{append-nil, drop_all, length-append}
use Rattle.xls_stream.specs.Stream.{record_bytes}
use Rattle.xls_stream.specs.StringTable.{Mark, prefix_of}
use Rattle.xls_layouts.specs.LaidStrings.{put, wide_bit, unit_bytes, marks_of_break, marks_of_steps, pieces_of, marks_of_string, FitsWidth}
use Rattle.xls_layouts.specs.Canonical.{passes, cut_if, fill_from, unit_size, used_after, canonical_string, is_narrow, IsUnit}
use Rattle.xls_layouts.proofs.CanonicalTableLemmas.{fit_width}
use Rattle.xls_lay.specs.Cutting.{rest_bytes}
use Rattle.xls_lay.specs.Putting.{Moves, PutsMarks, PutsOn, PutsOrStops, StopsOn, cut_marks}
use Rattle.xls_lay.specs.declared.table.TableWriter.{TableWriter}
use Rattle.xls_lay.proofs.FillLemmas.{fill-append, below, not_below}
use Rattle.xls_lay.proofs.CutLemmas.{unit_marks, units_marks, marks_next, fill_unit, next_is, head_marks, fill_head, string_marks}

moves_both : (a b c : TableWriter) (ms ns : List Mark) (xs ys : List ℕ) → Moves a ms xs b → Moves b ns ys c
    → Moves a (ms ++ ns) (xs ++ ys) c
moves_both a b c ms ns xs ys h k = record {
  whole = λ more.
      append_assoc xs ys (rest_bytes c.typ c.body.items more) ∙ ap (λ (x : List ℕ). xs ++ x) (k.whole more) ∙ h.whole (ns ++ more)
      ∙ ap (λ (x : List Mark). rest_bytes a.typ a.body.items x) (sym (append_assoc ms ns more));
  used = k.used ∙ ap (λ (n : ℕ). fill_from n ns) h.used ∙ sym (fill-append (length a.body.items) ms ns);
}

stays : (p : TableWriter) → Moves p [] [] p
stays p = record { whole = λ more. refl; used = refl }

pub puts_same : (d : List ℕ) (p : TableWriter) → PutsMarks d p [] d p
puts_same d p = record { bytes = []; done = sym (append-nil d); moves = stays p }

pub puts_both : (d e f : List ℕ) (a b c : TableWriter) (ms ns : List Mark) → PutsMarks d a ms e b → PutsMarks e b ns f c
    → PutsMarks d a (ms ++ ns) f c
puts_both d e f a b c ms ns h k = record {
  bytes = h.bytes ++ k.bytes;
  done = k.done ∙ ap (λ (x : List ℕ). x ++ k.bytes) h.done ∙ append_assoc d h.bytes k.bytes;
  moves = moves_both a b c ms ns h.bytes k.bytes h.moves k.moves;
}

-- marks were put, and then others that end no record
pub puts_within : (d e : List ℕ) (a b c : TableWriter) (ms ns : List Mark) → PutsMarks d a ms e b → Moves b ns [] c
    → PutsMarks d a (ms ++ ns) e c
puts_within d e a b c ms ns h k = puts_both d e e a b c ms ns h (record { bytes = []; done = sym (append-nil e); moves = k })

-- ---- in a writer

pub on_same : (s : Output) (p : TableWriter) → PutsOn s p [] s p
on_same s p = record { bytes = []; gathers = gathers-nothing s; moves = stays p }

pub on_both : {s t u : Output} (a b c : TableWriter) (ms ns : List Mark) → PutsOn s a ms t b → PutsOn t b ns u c → PutsOn s a (ms ++ ns) u c
on_both a b c ms ns h k = record {
  bytes = h.bytes ++ k.bytes;
  gathers = gathers-then h.gathers k.gathers;
  moves = moves_both a b c ms ns h.bytes k.bytes h.moves k.moves;
}

-- marks were put, and then others weren't
pub on_stopped : {s t u : Output} {e : Stop} (a b : TableWriter) (ms ns : List Mark) → PutsOn s a ms t b → StopsOn t b ns u e
    → StopsOn s a (ms ++ ns) u e
on_stopped a b ms ns h stops = λ more.
    stops-as (stops-then h.gathers (stops more))
    (h.moves.whole (ns ++ more) ∙ ap (λ (x : List Mark). rest_bytes a.typ a.body.items x) (sym (append_assoc ms ns more)))

-- of more marks too
pub on_stopped_more : {s t : Output} {e : Stop} (a : TableWriter) (ms ns all : List Mark) → ms ++ ns ≡ all → StopsOn s a ms t e → StopsOn s a all t e
on_stopped_more a ms ns all is stops = λ more.
    stops-as (stops (ns ++ more))
    (ap (λ (x : List Mark). rest_bytes a.typ a.body.items x) (sym (append_assoc ms ns more) ∙ ap (λ (x : List Mark). x ++ more) is))

pub on_stop : {X : Type 0} (s : Output) (a : TableWriter) (ms : List Mark) (t : Output) (b : TableWriter) {e : Stop} (r : Result X Stop)
    → IsErrAnd r (λ d. d ≡ e) → StopsOn s a ms t e → PutsOrStops s a ms t b r
on_stop s a ms t b (Ok x) none p = absurd none
on_stop s a ms t b {e} (Err d) is p = subst (StopsOn s a ms t) (sym is) p

module _ (w : SinkState) (n : ℕ) (g h : List ℕ) where
  abbrev holds : List ℕ → Output
  holds kept = record { sink = w; kept = kept; lender = n }

  -- out of memory before anything was passed on
  pub on_memory : (a : TableWriter) (ms : List Mark) → StopsOn (holds g) a ms (holds h) Memory
  on_memory a ms = λ more. stops-memory-now (rest_bytes a.typ a.body.items (ms ++ more))

  -- marks were put, and then what was done was passed on, or not
  pub on_pass : {X : Type 0} (a b : TableWriter) (ms : List Mark) (t : Output) (r : Result X Stop)
      → PutsMarks g a ms h b → Puts (holds h) t [] r → PutsOrStops (holds g) a ms t b r
  on_pass a b ms t (Ok x) p q = record {
    bytes = p.bytes;
    gathers = gathers-after (gathers-added g h p.bytes p.done) q;
    moves = p.moves;
  }
  on_pass a b ms t (Err d) p q = λ more.
      stops-as (stops-more (rest_bytes b.typ b.body.items more) (stops-after (gathers-added g h p.bytes p.done) q))
      (p.moves.whole more)

-- ---- bytes, and a mark

prefixes : (bs : List ℕ) (more : List Mark) → prefix_of (map Some bs ++ more) ≡ bs ++ prefix_of more
prefixes [] more = refl
prefixes (b ∷ bs) more = ap (λ (x : List ℕ). b ∷ x) (prefixes bs more)

others : (bs : List ℕ) (more : List Mark) → pieces_of (map Some bs ++ more) ≡ pieces_of more
others [] more = refl
others (b ∷ bs) more = others bs more

pub fill-bytes : (used : ℕ) (bs : List ℕ) → fill_from used (map Some bs) ≡ used + length bs
fill-bytes used [] = omega arith
fill-bytes used (b ∷ bs) = fill-bytes (suc used) bs ∙ omega arith

pub moves_bytes : (a b : TableWriter) (bytes : List ℕ) → b.typ ≡ a.typ → b.body.items ≡ a.body.items ++ bytes → Moves a (map Some bytes) [] b
moves_bytes a b bytes t e = record {
  whole = λ more.
      ap (λ (n : ℕ). rest_bytes n b.body.items more) t
      ∙ ap (λ (x : List ℕ). rest_bytes a.typ x more) e
      ∙ ap (λ (x : List ℕ). record_bytes a.typ x ++ flat_map (record_bytes 0x003C) (pieces_of more)) (append_assoc a.body.items bytes (prefix_of more))
      ∙ ap (λ (x : List ℕ). record_bytes a.typ (a.body.items ++ x) ++ flat_map (record_bytes 0x003C) (pieces_of more)) (sym (prefixes bytes more))
      ∙ ap (λ (x : List (List ℕ)). record_bytes a.typ (a.body.items ++ prefix_of (map Some bytes ++ more)) ++ flat_map (record_bytes 0x003C) x) (sym (others bytes more));
  used = ap length e ∙ length-append a.body.items bytes ∙ sym (fill-bytes (length a.body.items) bytes);
}

pub puts_mark : (d f : List ℕ) (a b : TableWriter) → f ≡ d ++ record_bytes a.typ a.body.items → b.typ ≡ 0x003C
    → b.body.items ≡ [] → PutsMarks d a (None ∷ []) f b
puts_mark d f a b is t e = record {
  bytes = record_bytes a.typ a.body.items;
  done = is;
  moves = record {
    whole = λ more.
        ap (λ (n : ℕ). record_bytes a.typ a.body.items ++ rest_bytes n b.body.items more) t
        ∙ ap (λ (x : List ℕ). record_bytes a.typ a.body.items ++ rest_bytes 60 x more) e
        ∙ ap (λ (x : List ℕ). record_bytes a.typ x ++ rest_bytes 60 [] more) (sym (append-nil a.body.items));
    used = ap length e;
  };
}

-- ---- units

pub record PutUnits (before : List ℕ) (old : TableWriter) (after : List ℕ) (now : TableWriter) (wide : Bool) (units : List ℕ) (i : ℕ) : Type 0 where
  pub ms : List Mark
  pub puts : PutsMarks before old ms after now
  pub whole : ms ++ units_marks wide (length now.body.items) (drop i units) ≡ units_marks wide (length old.body.items) units
  pub fit : AllByRecursion (FitsWidth wide) (drop i units)

pub units_none : (d : List ℕ) (old : TableWriter) (wide : Bool) (units : List ℕ) → AllByRecursion (FitsWidth wide) units
    → PutUnits d old d old wide units 0
units_none d old wide units h = record { ms = []; puts = puts_same d old; whole = refl; fit = h }

module _ (d : List ℕ) (old : TableWriter) (e : List ℕ) (now : TableWriter) (wide : Bool) (units : List ℕ) (i : ℕ) (h : PutUnits d old e now wide units i) where
  pub units_fit : i < length units → FitsWidth wide (get_or units i 0)
  units_fit lt = (rw (next_is units i lt) at h.fit).0

  pub units_more : (f : List ℕ) (new : TableWriter) → i < length units
      → PutsMarks e now (unit_marks wide (length now.body.items) (get_or units i 0)) f new → PutUnits d old f new wide units (i + 1)
  units_more f new lt p =
      let used = length now.body.items in
      let u = get_or units i 0 in
      let um = unit_marks wide used u in
      let rest = drop (i + 1) units in
      record {
        ms = h.ms ++ um;
        puts = puts_both d e f old now new h.ms um h.puts p;
        whole =
            append_assoc h.ms um (units_marks wide (length new.body.items) rest)
            ∙ ap (λ (n : ℕ). h.ms ++ (um ++ units_marks wide n rest)) (p.moves.used ∙ fill_unit wide used u)
            ∙ ap (λ (x : List Mark). h.ms ++ x) (sym (marks_next wide used u rest))
            ∙ ap (λ (x : List ℕ). h.ms ++ units_marks wide used x) (sym (next_is units i lt))
            ∙ h.whole;
        fit = (rw (next_is units i lt) at h.fit).1;
      }

  pub units_all : length units ≤ i → PutsMarks d old (units_marks wide (length old.body.items) units) e now
  units_all le =
      let all : h.ms ≡ units_marks wide (length old.body.items) units =
      sym (append-nil h.ms) ∙ ap (λ (x : List ℕ). h.ms ++ units_marks wide (length now.body.items) x) (sym (drop_all i units le)) ∙ h.whole in
      subst (λ (x : List Mark). PutsMarks d old x e now) all h.puts

-- ---- a string

pub puts_string : (d x y : List ℕ) (old middle new : TableWriter) (us : List ℕ) (narrow : Bool) → narrow ≡ is_narrow us
    → PutsMarks d old (head_marks (passes (length old.body.items) 3) (not narrow) (length us)) x middle
    → PutsMarks x middle (units_marks (not narrow) (length middle.body.items) us) y new
    → PutsMarks d old (marks_of_string (canonical_string (length old.body.items) us)) y new
puts_string d x y old middle new us narrow e t f =
    let used = length old.body.items in
    let wide = not (is_narrow us) in
    let head = head_marks (passes used 3) wide (length us) in
    let h : PutsMarks d old head x middle = subst (λ (b : Bool). PutsMarks d old (head_marks (passes used 3) (not b) (length us)) x middle) e t in
    let units = units_marks wide (used_after (passes used 3) 0 used 3) us in
    let g : PutsMarks x middle units y new =
    subst (λ (n : ℕ). PutsMarks x middle (units_marks wide n us) y new) (h.moves.used ∙ fill_head (passes used 3) wide used (length us))
    (subst (λ (b : Bool). PutsMarks x middle (units_marks (not b) (length middle.body.items) us) y new) e f) in
    subst (λ (ms : List Mark). PutsMarks d old ms y new) (sym (string_marks used us)) (puts_both d x y old middle new head units h g)

-- ---- cuts

-- what stays within may stand in the same record
pub within_passes : (used more : ℕ) → used + more ≤ 8224 → passes used more ≡ false
within_passes used more h = not_below 8224 (used + more) h

pub beyond_passes : (used more : ℕ) → 8224 < used + more → passes used more ≡ true
beyond_passes used more h = below 8224 (used + more) h

pub head_uncut : (d : List ℕ) (a : TableWriter) → length a.body.items + 3 ≤ 8224 → PutsMarks d a (marks_of_break (passes (length a.body.items) 3)) d a
head_uncut d a h = subst (λ (p : Bool). PutsMarks d a (marks_of_break p) d a) (sym (within_passes (length a.body.items) 3 h)) (puts_same d a)

pub head_cut : (d e : List ℕ) (a b : TableWriter) → 8224 < length a.body.items + 3 → PutsMarks d a (None ∷ []) e b
    → PutsMarks d a (marks_of_break (passes (length a.body.items) 3)) e b
head_cut d e a b h p = subst (λ (q : Bool). PutsMarks d a (marks_of_break q) e b) (sym (beyond_passes (length a.body.items) 3 h)) p

pub unit_uncut : (d : List ℕ) (a : TableWriter) (wide : Bool) → length a.body.items + unit_size wide ≤ 8224
    → PutsMarks d a (cut_marks wide (length a.body.items)) d a
unit_uncut d a wide h =
    subst (λ (p : Bool). PutsMarks d a (marks_of_steps wide (cut_if p wide [])) d a) (sym (within_passes (length a.body.items) (unit_size wide) h)) (puts_same d a)

pub unit_cut : (d e : List ℕ) (a b c : TableWriter) (wide : Bool) → 8224 < length a.body.items + unit_size wide → PutsMarks d a (None ∷ []) e b
    → Moves b (Some (wide_bit wide) ∷ []) [] c → PutsMarks d a (cut_marks wide (length a.body.items)) e c
unit_cut d e a b c wide h p q =
    subst (λ (x : Bool). PutsMarks d a (marks_of_steps wide (cut_if x wide [])) e c) (sym (beyond_passes (length a.body.items) (unit_size wide) h))
    (puts_within d e a b c (None ∷ []) (Some (wide_bit wide) ∷ []) p q)

cut_then : (p wide : Bool) (u : ℕ) → marks_of_steps wide (cut_if p wide []) ++ map Some (unit_bytes wide u) ≡ marks_of_steps wide (cut_if p wide (put u ∷ []))
cut_then true true u = refl
cut_then true false u = refl
cut_then false true u = refl
cut_then false false u = refl

pub cut_unit : (wide : Bool) (used u : ℕ) → cut_marks wide used ++ map Some (unit_bytes wide u) ≡ unit_marks wide used u
cut_unit wide used u = cut_then (passes used (unit_size wide)) wide u

-- ---- the width of a string

all_units : (us : List ℕ) → ((i : ℕ) → get_or us i 0 < 2 ^ 16) → AllByRecursion IsUnit us
all_units [] h = tt
all_units (u ∷ us) h = (h 0, all_units us (λ i. h (suc i)))

pub units_fit_width : (us : List ℕ) (narrow : Bool) → narrow ≡ is_narrow us → ((i : ℕ) → get_or us i 0 < 2 ^ 16)
    → AllByRecursion (FitsWidth (not narrow)) us
units_fit_width us narrow e h = fit_width us narrow (sym e) (all_units us h)
