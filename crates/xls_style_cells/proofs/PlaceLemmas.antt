-- Where records begin in a part.
use Rattle.std.proofs.Common.{append_assoc, ◌≡◌, ℕ, zero, suc, ◌+◌, ◌-◌, ◌<◌, List, [], ◌∷◌, ◌++◌, length, drop, map, refl, sym, ap, ◌∙◌, subst, arith, Bool, true, false, Option, Some, None}
use Rattle.std.specs.Prelude.{◌==◌, nat_le, if◌then◌else◌}
use Rattle.std.specs.List.{AllByRecursion, range_with_len}
use Rattle.std.proofs.lemmas.List.FromFn.{map-range_with_len_more}
use Rattle.std.proofs.lemmas.List.{map-append, drop-drop}
use Rattle.std.proofs.Math.Seq.{drop-nil}
use Rattle.xls_range.specs.Positions.{Position, last_at, IsAscending}
use Rattle.xls_record.specs.declared.version.Biff.{Biff}
use Rattle.xls_stream.specs.declared.types.TheConstants.{BOF, EOF}
use Rattle.xls_parts.specs.declared.types.TheConstants.{USER_S_VIEW_BEGIN, USER_S_VIEW_END}
use Rattle.xls_parts.specs.PartRecords.{Placed, size_at, starts_whole, first_at, records_within, records_at, outer_from, own_from, own_records}
use Rattle.xls_parts.proofs.PartRecordsLemmas.{within_first, within_none, records_first, records_empty}
use Rattle.xls_style_cells.specs.Order.{settled}
use Rattle.xls_style_cells.specs.Cells.{Cell, cells_at, cells_in, cells_of, cell_count, position_in, positions_of, style_at}
use Rattle.xls_style_cells.specs.Places.{Place, place_of, places_of, places_in, record_at, style_placed, cell_placed, first_of, style_in}
use Rattle.xls_style_cells.proofs.SettledLemmas.{is_settled, settled_seen}

-- the record begins where it says
abbrev pub IsAt : List ℕ → Placed → Type 0
IsAt part r = record_at part r.offset ≡ Some r

abbrev pub AllAt : List ℕ → List Placed → Type 0
AllAt part rs = AllByRecursion (IsAt part) rs

module _ (part : List ℕ) where
  first_is : (offset : ℕ) (bytes : List ℕ) → drop offset part ≡ bytes → starts_whole bytes ≡ true → record_at part offset ≡ Some (first_at offset bytes)
  first_is offset bytes e w = rw e (ap first_of (records_first offset bytes w))

  all_within : (n offset : ℕ) (bytes : List ℕ) → drop offset part ≡ bytes → AllAt part (records_within n offset bytes)
  unfolding records_within
  all_within zero offset bytes e = tt
  all_within (suc n) offset bytes e =
      by_test (starts_whole bytes) refl
      (all_within n (offset + (4 + size_at bytes)) (drop (4 + size_at bytes) bytes) (sym (drop-drop (4 + size_at bytes) offset part) ∙ ap (drop (4 + size_at bytes)) e))
    where
      by_test : (b : Bool) → starts_whole bytes ≡ b → AllAt part (records_within n (offset + (4 + size_at bytes)) (drop (4 + size_at bytes) bytes)) → AllAt part (records_within (suc n) offset bytes)
      by_test true w others = subst (AllAt part) (sym (within_first n offset bytes w)) (first_is offset bytes e w, others)
      by_test false w others = subst (AllAt part) (sym (within_none (suc n) offset bytes w)) tt

  all_outer : (rs : List Placed) (depth : ℕ) → AllAt part rs → AllAt part (outer_from depth rs)
  unfolding outer_from
  all_outer [] depth a = tt
  all_outer (r ∷ rs) depth a = by_test (λ n. all_outer rs n a.1) (r.typ == BOF) (r.typ == EOF) (nat_le depth 1)
    where
      by_test : ((n : ℕ) → AllAt part (outer_from n rs)) → (b e d : Bool) → AllAt part (if b then outer_from (depth + 1) rs else if e then (if d then [] else outer_from (depth - 1) rs) else if d then r ∷ outer_from depth rs else outer_from depth rs)
      by_test others true e d = others (depth + 1)
      by_test others false true true = tt
      by_test others false true false = others (depth - 1)
      by_test others false false true = (a.0, others depth)
      by_test others false false false = others depth

  all_own : (rs : List Placed) (inside : Bool) → AllAt part rs → AllAt part (own_from inside rs)
  unfolding own_from
  all_own [] inside a = tt
  all_own (r ∷ rs) inside a = by_test (λ i. all_own rs i a.1) (r.typ == USER_S_VIEW_BEGIN) (r.typ == USER_S_VIEW_END) inside
    where
      by_test : ((i : Bool) → AllAt part (own_from i rs)) → (b e i : Bool) → AllAt part (if b then own_from true rs else if e then own_from false rs else if i then own_from true rs else r ∷ own_from false rs)
      by_test others true e i = others true
      by_test others false true i = others false
      by_test others false false true = others true
      by_test others false false false = (a.0, others false)

  pub all_at : AllAt part (own_records 0 part)
  all_at = all_own (outer_from 0 (records_at 0 part)) false (all_outer (records_at 0 part) 0 (all_within (length part) 0 part refl))

  -- ---- cells by their places

  module _ (version : Biff) where
    positions_placed : (r : Placed) (ps : List Position) → IsAt part r
        → map (cell_placed version part) (map (place_of r.offset) ps) ≡ map {B = Cell} (λ (p : Position). (p, style_at version r p)) ps
    positions_placed r [] a = refl
    positions_placed r (p ∷ ps) a =
        ap (λ (o : Option Placed). (p, style_in version o p) ∷ map (cell_placed version part) (map (place_of r.offset) ps)) a
        ∙ ap (λ (cs : List Cell). (p, style_at version r p) ∷ cs) (positions_placed r ps a)

    records_placed : (rs : List Placed) → AllAt part rs → map (cell_placed version part) (places_in rs) ≡ cells_in version rs
    records_placed [] a = refl
    records_placed (r ∷ rs) a =
        map-append (cell_placed version part) (places_of r) (places_in rs)
        ∙ ap (λ (cs : List Cell). cs ++ map (cell_placed version part) (places_in rs)) (positions_placed r (positions_of r) a.0)
        ∙ ap (λ (cs : List Cell). cells_at version r ++ cs) (records_placed rs a.1)

    -- places in order are the cells in order
    pub in_order : (found : List Place) → IsAscending (map (λ (c : Place). c.0) found) → ((p : Position) → last_at found p ≡ last_at (places_in (own_records 0 part)) p)
        → map (cell_placed version part) found ≡ cells_of version (own_records 0 part)
    in_order found a h =
        ap (map (cell_placed version part)) (is_settled (places_in (own_records 0 part)) found a h)
        ∙ settled_seen (style_placed version part) (places_in (own_records 0 part))
        ∙ ap settled (records_placed (own_records 0 part) all_at)

-- no record begins past the end
pub none_past : (part : List ℕ) (at : ℕ) → length part < at → record_at part at ≡ None
none_past part at h = let none = drop-past part at h in rw (none, records_empty at) refl
  where
    drop-past : (xs : List ℕ) (n : ℕ) → length xs < n → drop n xs ≡ []
    drop-past [] n h = drop-nil n
    drop-past (x ∷ xs) zero h = absurd (omega (arith, h))
    drop-past (x ∷ xs) (suc n) h = drop-past xs n (omega (arith, h))

-- ---- the places of one record

module _ (r : Placed) where
  pub more_places : (before now new : List Place) (i : ℕ) (p : Position) → now ≡ before ++ map {B = Place} (λ (k : ℕ). (position_in r.body k, r.offset)) (range_with_len 0 i)
      → p ≡ position_in r.body i → new ≡ now ++ (p, r.offset) ∷ [] → new ≡ before ++ map {B = Place} (λ (k : ℕ). (position_in r.body k, r.offset)) (range_with_len 0 (i + 1))
  more_places before now new i p e q more =
      let place : ℕ → Place = λ k. (position_in r.body k, r.offset) in
      let zero_add : 0 + i ≡ i = omega arith in
      more
      ∙ ap (λ (x : Position). now ++ (x, r.offset) ∷ []) q
      ∙ ap (λ (ps : List Place). ps ++ place i ∷ []) e
      ∙ append_assoc before (map place (range_with_len 0 i)) (place i ∷ [])
      ∙ ap (λ (ps : List Place). before ++ ps) (sym (map-range_with_len_more place 0 i i zero_add))

  numbered : (is : List ℕ) → map {B = Place} (λ (k : ℕ). (position_in r.body k, r.offset)) is ≡ map (place_of r.offset) (map (position_in r.body) is)
  numbered [] = refl
  numbered (i ∷ is) = ap (λ (ps : List Place). (position_in r.body i, r.offset) ∷ ps) (numbered is)

  pub all_places : (before now : List Place) (i : ℕ) → now ≡ before ++ map {B = Place} (λ (k : ℕ). (position_in r.body k, r.offset)) (range_with_len 0 i)
      → i ≡ cell_count r → now ≡ before ++ places_of r
  all_places before now i e n =
      e ∙ ap (λ (k : ℕ). before ++ map {B = Place} (λ (k : ℕ). (position_in r.body k, r.offset)) (range_with_len 0 k)) n
      ∙ ap (λ (ps : List Place). before ++ ps) (numbered (range_with_len 0 (cell_count r)))
