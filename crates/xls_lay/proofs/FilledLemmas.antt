-- How many bytes units and strings add, one after the other.
use Rattle.std.proofs.Common.{◌≡◌, ℕ, ◌+◌, ◌<◌, ◌≤◌, ◌^◌, Bool, List, [], ◌++◌, length, drop, get_or, refl, sym, ap, subst, ◌∙◌, append_assoc, arith}
use Rattle.std.specs.Prelude.{not}
use Rattle.std.proofs.lemmas.List.{drop_all, append-nil}
use Rattle.xls_stream.specs.StringTable.{Mark}
use Rattle.xls_layouts.specs.LaidStrings.{marks_of_string}
use Rattle.xls_layouts.specs.Canonical.{passes, fill_from, unit_size, used_after, canonical_string, is_narrow}
use Rattle.xls_lay.specs.Writing.{saturated}
use Rattle.xls_lay.specs.Cutting.{marks_size}
use Rattle.xls_lay.specs.Filling.{IsFilled, Fills, TakesMarks}
use Rattle.xls_lay.specs.declared.fill.Fill.{Fill}
use Rattle.xls_lay.proofs.FillLemmas.{fill-append, size-append, saturated-add}
use Rattle.xls_lay.proofs.CutLemmas.{unit_marks, units_marks, marks_next, fill_unit, size_unit, next_is, head_marks, fill_head, size_head, string_marks}

-- one after the other
pub fills_both : (a b c : Fill) (ms ns : List Mark) → Fills a ms b → Fills b ns c → Fills a (ms ++ ns) c
fills_both a b c ms ns h k = record {
  used = k.used ∙ ap (λ (n : ℕ). fill_from n ns) h.used ∙ sym (fill-append a.used ms ns);
  size =
      k.size ∙ ap (λ (n : ℕ). saturated (n + marks_size ns)) h.size
      ∙ saturated-add (a.size + marks_size ms) (marks_size ns)
      ∙ ap saturated (let e = size-append ms ns in let g : a.size + marks_size ms + marks_size ns ≡ a.size + marks_size (ms ++ ns) = omega (arith, e) in g);
  room = k.room;
}

pub fills_same : (a : Fill) → a.size < 2 ^ 64 → IsFilled a → Fills a [] a
fills_same a small room = record { used = refl; size = omega arith; room = room }

-- a unit
pub fills_unit : (a b : Fill) (wide : Bool) (u : ℕ) → TakesMarks a 1 (unit_size wide) b → Fills a (unit_marks wide a.used u) b
fills_unit a b wide u h = record {
  used = h.used ∙ sym (fill_unit wide a.used u);
  size = h.size ∙ ap (λ (n : ℕ). saturated (a.size + n)) (sym (size_unit wide a.used u));
  room = h.room;
}

-- a head
pub fills_head : (a b : Fill) (wide : Bool) (count : ℕ) → TakesMarks a 0 3 b → Fills a (head_marks (passes a.used 3) wide count) b
fills_head a b wide count h = record {
  used = h.used ∙ sym (fill_head (passes a.used 3) wide a.used count);
  size = h.size ∙ ap (λ (n : ℕ). saturated (a.size + n)) (sym (size_head (passes a.used 3) wide count));
  room = h.room;
}

-- ---- units

-- some units are added, and the others are still to come
pub record Adding (old now : Fill) (wide : Bool) (units : List ℕ) (i : ℕ) : Type 0 where
  pub ms : List Mark
  pub added : Fills old ms now
  pub whole : ms ++ units_marks wide now.used (drop i units) ≡ units_marks wide old.used units

pub adding_none : (old : Fill) (wide : Bool) (units : List ℕ) → old.size < 2 ^ 64 → IsFilled old → Adding old old wide units 0
adding_none old wide units small room = record { ms = []; added = fills_same old small room; whole = refl }

pub adding_more : (old now new : Fill) (wide : Bool) (units : List ℕ) (i : ℕ) → i < length units
    → Adding old now wide units i → TakesMarks now 1 (unit_size wide) new → Adding old new wide units (i + 1)
adding_more old now new wide units i lt h t =
    let u = get_or units i 0 in
    let um = unit_marks wide now.used u in
    let rest = drop (i + 1) units in
    record {
      ms = h.ms ++ um;
      added = fills_both old now new h.ms um h.added (fills_unit now new wide u t);
      whole =
          append_assoc h.ms um (units_marks wide new.used rest)
          ∙ ap (λ (n : ℕ). h.ms ++ (um ++ units_marks wide n rest)) t.used
          ∙ ap (λ (x : List Mark). h.ms ++ x) (sym (marks_next wide now.used u rest))
          ∙ ap (λ (x : List ℕ). h.ms ++ units_marks wide now.used x) (sym (next_is units i lt))
          ∙ h.whole;
    }

pub adding_all : (old now : Fill) (wide : Bool) (units : List ℕ) (i : ℕ) → length units ≤ i
    → Adding old now wide units i → Fills old (units_marks wide old.used units) now
adding_all old now wide units i le h =
    let all : h.ms ≡ units_marks wide old.used units =
    sym (append-nil h.ms) ∙ ap (λ (x : List ℕ). h.ms ++ units_marks wide now.used x) (sym (drop_all i units le)) ∙ h.whole in
    subst (λ (x : List Mark). Fills old x now) all h.added

-- ---- a string

pub fills_string : (old middle new : Fill) (us : List ℕ) (narrow : Bool) → narrow ≡ is_narrow us → TakesMarks old 0 3 middle
    → Fills middle (units_marks (not narrow) middle.used us) new → Fills old (marks_of_string (canonical_string old.used us)) new
fills_string old middle new us narrow e t f =
    let head = head_marks (passes old.used 3) (not (is_narrow us)) (length us) in
    let units = units_marks (not (is_narrow us)) (used_after (passes old.used 3) 0 old.used 3) us in
    let g : Fills middle units new =
    subst (λ (n : ℕ). Fills middle (units_marks (not (is_narrow us)) n us) new) t.used
    (subst (λ (b : Bool). Fills middle (units_marks (not b) middle.used us) new) e f) in
    subst (λ (x : List Mark). Fills old x new) (sym (string_marks old.used us))
    (fills_both old middle new head units (fills_head old middle (not (is_narrow us)) (length us) t) g)
