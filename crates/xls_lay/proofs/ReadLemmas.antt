-- A stream as far as it was read.
use Rattle.std.proofs.Common.{◌≡◌, ℕ, ◌+◌, ◌<◌, ◌≤◌, ◌^◌, Bool, true, false, List, [], ◌∷◌, ◌++◌, length, map, drop, slice_index, refl, sym, ap, subst, ◌∙◌, arith, inl, inr, Option, Some, None, Result, Ok, Err}
use Rattle.std.specs.List.{AllByRecursion}
use Rattle.std.proofs.lemmas.List.{map-append, length-append}
use Rattle.xls_stream.specs.Stream.{Group, Begins, group_bytes}
use Rattle.xls_stream.specs.Cut.{Cut}
use Rattle.xls_stream.specs.Walks.{IsBytes}
use Rattle.xls_stream.specs.Listing.{Kept, ListEntry, sheet_entry, entry_of, is_globals_type, offset_at, is_plain_type, Item, plain_item, table_item, sheet_item, IsItem, IsWholeItem, IsPart, IsSheetPart, Holds, Carries}
use Rattle.xls_stream.specs.declared.part.Part.{Part}
use Rattle.xls_stream.proofs.HoldingLemmas.{has_item, one_holds}
use Rattle.xls_record.specs.declared.error.XlsError.{XlsError}
use Rattle.xls_record.specs.declared.error.XlsError.TheVariants as errors
use Rattle.xls_formula.specs.declared.numbers.NumberStyle.TheVariants.{Bits}
use Rattle.xls_meaning.specs.Rules.{Rules}
use Rattle.xls_meaning.specs.Faults.{IsSound}
use Rattle.xls_open.proofs.AlikeLemmas.{checked_alike}
use Rattle.xls_open.proofs.LaidLemmas.{one_list_per_stream}
use Rattle.xls_open.proofs.CheckWalkLemmas.{Passed, passed_nothing, passed_item, passed_other, holds_at, passed_cut, passed_eof, passed_end}
use Rattle.xls_layouts.specs.Canonical.{AreBytes}
use Rattle.xls_layouts.proofs.CanonicalByteLemmas.{each_byte}
use Rattle.xls_lay.specs.Reading.{IsFaultless}
use Rattle.xls_lay.specs.Taking.{TakesEntry, TakesNothing, TakesPart}
use Rattle.xls_lay.proofs.PushLemmas.{are_bytes}
use Rattle.xls_lay.proofs.UnitLemmas.{bytes_split}

-- ---- a sheet

pub sheet_taken : (old middle new : List ListEntry) (state kind : ℕ) (name : List ℕ) (kept : List Kept) (result : Result (Unit {0}) XlsError)
    → middle ≡ old ++ sheet_entry state kind name [] ∷ [] → TakesPart middle kept result new → TakesEntry old (sheet_entry state kind name kept) result new
sheet_taken old middle new state kind name kept (Ok u) m t = t old state kind name [] m
sheet_taken old middle new state kind name kept (Err e) m t = t

-- a part that is there
pub part_there : (stream : List ℕ) (offset : ℕ) (kept : List Kept) → IsSheetPart stream offset kept None → IsPart (drop offset stream) kept None
part_there stream offset kept h = elim h [
  | inl p ↦ p.1
  | inr q ↦ absurd (let e = q.2 in cc)
]

-- ---- a stream without a fault carries a list

abbrev rules_for : List ℕ → Rules
rules_for bytes = record {
  force_codepage = None;
  max_bytes = length bytes;
  max_cells = 33_554_432;
  functions = [];
  numbers = Bits;
}

faultless_sound : (bytes : List ℕ) → IsFaultless bytes → IsSound (rules_for bytes) bytes
faultless_sound bytes h = λ e f. h e ((checked_alike (rules_for bytes) bytes (omega arith) e).0 f)

pub faultless_carries : (bytes : List ℕ) → IsBytes bytes → IsFaultless bytes → (list : List ListEntry) × Carries bytes list
faultless_carries bytes fits h =
    let full = ((one_list_per_stream (rules_for bytes) bytes fits).full (omega arith)).0 (faultless_sound bytes h) in
    (full.1, full.2)

-- ---- the globals so far

pub record Read (stream rest : List ℕ) (list : List ListEntry) : Type 0 where
  pub items : List Item
  pub passed : Passed stream rest items
  pub taken : list ≡ map entry_of items
  pub within : length rest ≤ length stream

pub nothing_read : (stream : List ℕ) → IsBytes stream → Read stream stream []
nothing_read stream fits = record { items = []; passed = passed_nothing stream fits; taken = refl; within = omega arith }

all_split : (xs : List Item) (y : Item) (ys : List Item) → AllByRecursion IsWholeItem (xs ++ y ∷ ys) → IsWholeItem y
all_split [] y ys h = h.0
all_split (x ∷ xs) y ys h = all_split xs y ys h.1

module _ (stream rest after : List ℕ) (list : List ListEntry) (c : (all : List ListEntry) × Carries stream all) (r : Read stream rest list) (g : Group) (b : Begins rest g after) (n : g.typ ≡ 0x000A → ⊥) where
  sizes : length (group_bytes g) + length after ≡ length rest
  sizes = let w = b.whole in omega (arith, ap length w, length-append (group_bytes g) after)

  pub group_small : length stream < 2 ^ 32 → length (group_bytes g) < 2 ^ 32
  group_small h = omega (arith, h, sizes, r.within)

  -- its item is whole
  pub whole_item : is_globals_type g ≡ true → (i : Item) × IsItem stream g i × IsWholeItem i
  whole_item t =
      let i = has_item stream g r.passed.whole in
      let held = holds_at stream rest after r.items g r.passed b n i.0 t i.1 in
      let same = one_holds stream r.passed.whole (r.items ++ i.0 ∷ held.0) c.1.items held.1 None held.2 c.1.holds in
      (i.0, i.1, all_split r.items i.0 held.0 (subst (λ (x : List Item). AllByRecursion IsWholeItem x) (sym same.0) c.1.whole))

  pub group_fits : IsBytes (group_bytes g)
  group_fits =
      let all : AreBytes rest = are_bytes rest r.passed.fits in
      let w = b.whole in
      each_byte (group_bytes g) (bytes_split (group_bytes g) after (subst (λ (x : List ℕ). AreBytes x) w all)).0

  -- what appending its entry gave
  abbrev Appended : Result (Unit {0}) XlsError → List ListEntry → Type 0
  Appended result new = is_globals_type g ≡ true → (i : Item) → IsItem stream g i → IsWholeItem i → TakesEntry list (entry_of i) result new

  abbrev Passed_by : Result (Unit {0}) XlsError → List ListEntry → Type 0
  Passed_by result new = is_globals_type g ≡ false → TakesNothing list result new

  pub read_more : (new : List ListEntry) → Appended (Ok tt) new → Passed_by (Ok tt) new → Read stream after new
  read_more new entry other = by_type (is_globals_type g) refl
    where
      by_type : (u : Bool) → is_globals_type g ≡ u → Read stream after new
      by_type true t =
          let i = whole_item t in record {
            items = r.items ++ i.0 ∷ [];
            passed = passed_item stream rest after r.items g r.passed b n i.0 t i.1;
            taken = entry t i.0 i.1 i.2 ∙ ap (λ (x : List ListEntry). x ++ entry_of i.0 ∷ []) r.taken ∙ sym (map-append entry_of r.items (i.0 ∷ []));
            within = omega (arith, sizes, r.within);
          }
      by_type false t = record {
        items = r.items;
        passed = passed_other stream rest after r.items g r.passed b n t;
        taken = other t ∙ r.taken;
        within = omega (arith, sizes, r.within);
      }

  -- only want of memory refuses
  pub read_refused : (e : XlsError) (new : List ListEntry) → Appended (Err e) new → Passed_by (Err e) new → e ≡ errors.Memory
  read_refused e new entry other = by_type (is_globals_type g) refl
    where
      by_type : (u : Bool) → is_globals_type g ≡ u → e ≡ errors.Memory
      by_type true t = let i = whole_item t in entry t i.0 i.1 i.2
      by_type false t = absurd (other t)

module _ (stream rest : List ℕ) (list : List ListEntry) (c : (all : List ListEntry) × Carries stream all) (r : Read stream rest list) where
  -- the globals aren't cut
  pub read_uncut : {X : Type 0} (p : Part) → Cut rest p → X
  read_uncut p k =
      let same = one_holds stream r.passed.whole r.items c.1.items (Some p) None (passed_cut stream rest r.items r.passed p k) c.1.holds in
      absurd (let e : Some p ≡ None = same.1 in cc)

  carried : Holds stream r.items None → Carries stream list
  carried h =
      let same = one_holds stream r.passed.whole r.items c.1.items None None h c.1.holds in
      record {
        items = r.items;
        holds = h;
        whole = subst (λ (x : List Item). AllByRecursion IsWholeItem x) (sym same.0) c.1.whole;
        entries_are = r.taken;
      }

  pub read_eof : (g : Group) (after : List ℕ) → Begins rest g after → g.typ ≡ 0x000A → Carries stream list
  read_eof g after b e = carried (passed_eof stream rest r.items r.passed g after b e)

  pub read_end : rest ≡ [] → Carries stream list
  read_end e = carried (passed_end stream rest r.items r.passed e)

-- ---- the entry of a BoundSheet8 record

pub sheet_item_taken : (stream : List ℕ) (g : Group) (i : Item) (old new : List ListEntry) (result : Result (Unit {0}) XlsError)
    → g.typ ≡ 0x0085 → IsItem stream g i → IsWholeItem i
    → ((kept : List Kept) → IsSheetPart stream (offset_at g.body) kept None
    → TakesEntry old (sheet_entry (slice_index g.body 4) (slice_index g.body 5) (drop 6 g.body) kept) result new)
    → TakesEntry old (entry_of i) result new
sheet_item_taken stream g (plain_item typ body) old new result t k w h = absurd (let f : is_plain_type 133 ≡ true = rw t at k.0 in cc)
sheet_item_taken stream g (table_item body shared) old new result t k w h = absurd (let l = k.0 in let m = t in omega (arith, l, m))
sheet_item_taken stream g (sheet_item body kept cut) old new result t k w h =
    subst (λ (x : List ℕ). TakesEntry old (sheet_entry (slice_index x 4) (slice_index x 5) (drop 6 x) kept) result new) (sym k.1)
    (h kept (subst (λ (x : Option Part). IsSheetPart stream (offset_at g.body) kept x) w.1 k.2))
