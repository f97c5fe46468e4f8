-- The records of a part, one after the other.
use Rattle.std.proofs.Common.{◌≡◌, ℕ, ◌+◌, ◌<◌, ◌≤◌, ◌-◌, List, [], ◌∷◌, ◌++◌, map, refl, sym, ap, ◌∙◌, append_assoc, arith, inl, inr, Bool, true, false, Option, Some, None, Result, Ok, Err}
use Rattle.std.specs.Prelude.{◌&&◌, ◌==◌, nat_lt, if◌then◌else◌, unwrap_or}
use Rattle.std.specs.Option.{option_or, option_map}
use Rattle.std.specs.List.{flat_map}
use Rattle.std.proofs.lemmas.List.{append-nil, map-append}
use Rattle.xls_stream.specs.Stream.{Group}
use Rattle.xls_stream.specs.Counting.{From, found_from, with_group}
use Rattle.xls_stream.specs.Walks.{IsBytes}
use Rattle.xls_stream.specs.Substreams.{SheetPart}
use Rattle.xls_stream.specs.Listing.{Kept, kept_group, kept_of}
use Rattle.xls_stream.specs.declared.part.Part.{Part}
use Rattle.xls_stream.proofs.Runs.{Run-append}
use Rattle.xls_stream.proofs.Founds.{found_nothing}
use Rattle.xls_stream.proofs.Ends.{has_groups}
use Rattle.xls_stream.proofs.Outlines.{run_bytes, same_parts}
use Rattle.xls_record.specs.declared.error.XlsError.{XlsError}
use Rattle.xls_record.specs.declared.error.XlsError.TheVariants as errors
use Rattle.xls_biff.specs.Outer.{Keeps, Over, CutShort}
use Rattle.xls_biff.specs.SheetTable.{position_in}
use Rattle.xls_range.specs.Positions.{Position, IsAscending, last_at, cell_position}
use Rattle.xls_meaning.specs.Order.{map_with_earlier, last_of}
use Rattle.xls_meaning.specs.Settings.{Settings}
use Rattle.xls_meaning.specs.SheetTable.{Yield, kept_line, last_formula, yield_in}
use Rattle.xls_meaning.specs.Reading.{yield_of, yields_of}
use Rattle.xls_meaning.specs.Faults.{weight_from, weight_in, weight_fault}
use Rattle.xls_open.specs.Steps.{weight_left}
use Rattle.xls_meaning.specs.Rules.{Rules}
use Rattle.xls_meaning.proofs.OrderLemmas.{map_with_earlier-push, last-push, unwrap_push, flat_push}

pub part_from : (part : List ℕ) (groups : List Group) (cut : Option Part) → IsBytes part
    → From (found_from 0) part groups cut → SheetPart part groups cut
part_from part groups cut fits f = (same_parts part groups cut fits).1 f

-- ---- steps of the walk

pub keeps_from : (before : List ℕ) (was : ℕ) (g : Group) (after : List ℕ) (now : ℕ) (more : List Group) (cut : Option Part) → Keeps before was g after now → From (found_from now) after more cut → From (found_from was) before (g ∷ more) cut
keeps_from before was g after now more cut k f = record {
  all = (k.groups ++ g ∷ []) ++ f.all;
  stop = f.stop;
  walk = record {
    rest = f.walk.rest;
    run = Run-append before (k.groups ++ g ∷ []) f.all after f.walk.rest k.run f.walk.run;
    end =
        f.walk.end;
  };
  is = ap (λ (x : List Group). found_from was x f.stop) (append_assoc k.groups (g ∷ []) f.all)
      ∙ k.kept f.all f.stop ∙ ap (with_group g) f.is;
}

pub over_from : (before : List ℕ) (was : ℕ) → IsBytes before → Over before was
    → From (found_from was) before [] None
over_from before was fits o =
    elim o.over [
      | inl e ↦ record {
        all = o.groups;
        stop = None;
        walk = record { rest = o.rest; run = o.run; end = e.0 };
        is = e.1;
      }
      | inr h ↦
          let w = has_groups o.rest (run_bytes before o.groups o.rest o.run fits) in
          record {
            all = o.groups ++ w.0;
            stop = w.1;
            walk = record {
              rest = w.2.rest;
              run = Run-append before o.groups w.0 o.rest w.2.rest o.run w.2.run;
              end = w.2.end;
            };
            is = h w.0 w.1;
          }
    ]

pub cut_from : (before : List ℕ) (was : ℕ) (e : XlsError) (c : CutShort before was e)
    → From (found_from was) before [] (Some c.part)
cut_from before was e c = record {
  all = c.skipped.groups;
  stop = Some c.part;
  walk = record { rest = c.rest; run = c.skipped.run; end = c.cut };
  is = ap (λ (x : List Group). found_from was x (Some c.part)) (sym (append-nil c.skipped.groups))
      ∙ c.skipped.kept [] (Some c.part) ∙ found_nothing c.now (Some c.part);
}

pub keeps_bytes : (before : List ℕ) (was : ℕ) (g : Group) (after : List ℕ) (now : ℕ)
    → Keeps before was g after now → IsBytes before → IsBytes after
keeps_bytes before was g after now k fits = run_bytes before (k.groups ++ g ∷ []) after k.run fits

-- ---- what one more record gives

pub kept_push : (gs : List Group) (g : Group) → kept_of (gs ++ g ∷ []) ≡ kept_of gs ++ kept_group g ∷ []
kept_push gs g = map-append kept_group gs (g ∷ [])

-- what is given after one more record
yields_push : (s : Settings) (ks : List Kept) (k : Kept)
    → yields_of s (ks ++ k ∷ []) ≡ yields_of s ks ++ yield_of (yield_in s ks k) ∷ []
yields_push s ks k =
    ap (map yield_of) (map_with_earlier-push (yield_in s) ks k)
    ∙ map-append yield_of (map_with_earlier (yield_in s) [] ks) (yield_in s ks k ∷ [])

yield_push : {X : Type 0} (f : Yield → List X) (s : Settings) (ks : List Kept) (k : Kept)
    → flat_map f (yields_of s (ks ++ k ∷ [])) ≡ flat_map f (yields_of s ks) ++ f (yield_of (yield_in s ks k))
yield_push f s ks k =
    ap (flat_map f) (yields_push s ks k) ∙ flat_push f (yields_of s ks) (yield_of (yield_in s ks k))

-- where the last Formula stands
pub place_push : (s : Settings) (ks : List Kept) (k : Kept) (at following : Position) → at ≡ last_formula s.cells ks
    → following ≡ unwrap_or (position_in (kept_line s.cells k)) at → following ≡ last_formula s.cells (ks ++ k ∷ [])
place_push s ks k at following had is =
    let place : Kept → Option Position = λ (j : Kept). position_in (kept_line s.cells j) in
    is ∙ ap (unwrap_or (place k)) had
    ∙ sym (unwrap_push (place k) (last_of (map place ks)) (0, 0))
    ∙ ap (λ (o : Option Position). unwrap_or o (0, 0)) (sym (last-push place ks k))

pub weight_push : (s : Settings) (ks : List Kept) (k : Kept) → weight_in s.cells (ks ++ k ∷ []) ≡ weight_in s.cells ks + weight_from (kept_line s.cells k)
weight_push s [] k = omega arith
weight_push s (j ∷ ks) k = let on = weight_push s ks k in omega (arith, on)

-- after a record whose weight was taken
pub has_room : (limit room weight left : ℕ) → weight_left limit room weight ≡ Ok left → room ≡ left + weight
has_room limit room weight left h = by_test (nat_lt room weight) refl
  where
    enough : nat_lt room weight ≡ false → ◌≡◌ {A = Result ℕ XlsError} (Ok (room - weight)) (Ok left) → room ≡ left + weight
    enough t e = let f : room - weight ≡ left = cc in let l : weight ≤ room = grind arith in omega (arith, f, l)

    by_test : (b : Bool) → nat_lt room weight ≡ b → room ≡ left + weight
    by_test true t = absurd (let e : Err (errors.TooManyCells limit) ≡ Ok left = rw t at h in cc)
    by_test false t = enough t (rw t at h)

pub no_room : (limit room weight : ℕ) (e : XlsError) → weight_left limit room weight ≡ Err e
    → (room < weight) × (e ≡ errors.TooManyCells limit)
no_room limit room weight e h = by_test (nat_lt room weight) refl
  where
    less : nat_lt room weight ≡ true → room < weight
    less t = grind arith

    by_test : (b : Bool) → nat_lt room weight ≡ b → (room < weight) × (e ≡ errors.TooManyCells limit)
    by_test true t = (less t, let f : Err (errors.TooManyCells limit) ≡ Err e = rw t at h in cc)
    by_test false t = absurd (let f : ◌≡◌ {A = Result ℕ XlsError} (Ok (room - weight)) (Err e) = rw t at h in cc)

pub light : (rules : Rules) (s : Settings) (ks : List Kept) → weight_in s.cells ks ≤ rules.max_cells
    → weight_fault rules s.cells ks ≡ None
light rules s ks h = let t : nat_lt rules.max_cells (weight_in s.cells ks) ≡ false = test h in rw t refl
  where
    test : weight_in s.cells ks ≤ rules.max_cells → nat_lt rules.max_cells (weight_in s.cells ks) ≡ false
    test l = grind arith

pub heavy : (rules : Rules) (s : Settings) (ks : List Kept) → rules.max_cells < weight_in s.cells ks
    → weight_fault rules s.cells ks ≡ Some (errors.TooManyCells rules.max_cells)
heavy rules s ks h = let t : nat_lt rules.max_cells (weight_in s.cells ks) ≡ true = test h in rw t refl
  where
    test : rules.max_cells < weight_in s.cells ks → nat_lt rules.max_cells (weight_in s.cells ks) ≡ true
    test l = grind arith

-- ---- the part so far

-- ---- faults

-- ---- the end

module _ {T X : Type 0} (content : T → X) where
  by_content : (found : List (Position × T)) (p : Position)
      → last_at (map (λ (c : Position × T). (c.0, content c.1)) found) p ≡ option_map content (last_at found p)
  by_content [] p = refl
  by_content (x ∷ xs) p = rw (by_content xs p) (both (last_at xs p) (x.0.0 == p.0 && x.0.1 == p.1))
    where
      both : (o : Option T) (b : Bool)
          → option_or (option_map content o) (if b then Some (content x.1) else None) ≡ option_map content (option_or o (if b then Some x.1 else None))
      both (Some y) b = refl
      both None true = refl
      both None false = refl

  -- sorted cells by their contents
  pub same_last : (found input : List (Position × T)) (p : Position) → last_at found p ≡ last_at input p
      → last_at (map (λ (c : Position × T). (c.0, content c.1)) found) p ≡ last_at (map (λ (c : Position × T). (c.0, content c.1)) input) p
  same_last found input p h =
      by_content found p ∙ ap (option_map content) h ∙ sym (by_content input p)

  pub positions : (found : List (Position × T))
      → map (λ (c : Position × X). c.0) (map (λ (c : Position × T). (c.0, content c.1)) found) ≡ map cell_position found
  positions [] = refl
  positions (x ∷ xs) = ap (λ (l : List Position). x.0 ∷ l) (positions xs)

-- two lists of cells, of which one is the other in order
pub record IsSorted {T : Type 0} (input found : List (Position × T)) : Type 0 where
  pub ascending : IsAscending (map cell_position found)
  pub last : (p : Position) → last_at found p ≡ last_at input p
