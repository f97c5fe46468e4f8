-- Sectors that follow one another: their bytes are one part of the area.
use Rattle.std.proofs.Common.{◌≡◌, ◌≢◌, ℕ, zero, suc, ◌+◌, ◌-◌, ◌*◌, ◌<◌, ◌≤◌, min, List, [], ◌∷◌, ◌++◌, length, get_or, take, drop, Bool, true, false, Ok, refl, sym, ap, ◌∙◌, inl, inr, arith, length-take, length-drop, append-nil}
use Rattle.std.specs.Prelude.{◌==◌, ◌||◌, ◌&&◌, IfSome, Option, Some, None}
use Rattle.std.proofs.Common.{Bor}
use Rattle.std.proofs.Math.Seq.{take-add}
use Rattle.std.proofs.lemmas.Bool.{cases_lt}
use Rattle.std.proofs.lemmas.List.{drop_more, drop-drop, take-take}
use Rattle.xls_sectors.specs.Streams.{Space, sector_at, part_of, gathered, is_run}
use Rattle.xls_sectors.proofs.SpaceLemmas.{gathered_none}

-- what a run of at least one sector says of the first
run_parts : (size sector first : ℕ) (r : Bool) → 0 < size → ((size == 0) || ((sector == first) && r)) ≡ true → (sector ≡ first) × (r ≡ true)
run_parts size sector first r some h = (grind arith, grind arith)

not_zero : (n : ℕ) → (suc n == 0) ≡ true → ⊥
not_zero n h = grind arith

pub is_run_none : (unit first : ℕ) (sectors : List ℕ) → is_run unit 0 first sectors ≡ true
is_run_none unit first [] = refl
is_run_none unit first (sector ∷ sectors) = refl

module _ (unit left expected i : ℕ) (all : List ℕ) (total : Bool) (within : i < length all)
    (so_far : is_run unit left expected (drop i all) ≡ total) where
  here : is_run unit left expected (get_or all i 0 ∷ drop (i + 1) all) ≡ total
  here = ap (λ (xs : List ℕ). is_run unit left expected xs) (sym (drop_more all i 0 within)) ∙ so_far

  pub is_run_more : left ≢ 0 → get_or all i 0 ≡ expected → is_run unit (left - unit) (expected + 1) (drop (i + 1) all) ≡ total
  is_run_more some same = grind (arith, here)

  pub is_run_other : left ≢ 0 → get_or all i 0 ≢ expected → false ≡ total
  is_run_other some other = grind (arith, here)

-- the first bytes of a sector that is there
part_there : (space : Space) (size sector : ℕ) → size ≤ space.sector_size → sector * space.sector_size + size ≤ length space.area
    → part_of space size sector ≡ Ok (take size (drop (sector * space.sector_size) space.area))
part_there space size sector small room =
    let there : size ≤ length (sector_at space sector) = simp (length-take, length-drop) (omega arith) in
    let cut : take size (sector_at space sector) ≡ take size (drop (sector * space.sector_size) space.area) =
    take-take size space.sector_size (drop (sector * space.sector_size) space.area) small in
    grind (arith, there, cut)

pub run_gathered : (space : Space) (size first : ℕ) (sectors : List ℕ) → is_run space.sector_size size first sectors ≡ true
    → first * space.sector_size + size ≤ length space.area
    → gathered space size sectors ≡ Ok (take size (drop (first * space.sector_size) space.area))
unfolding gathered
run_gathered space zero first sectors run room = gathered_none space sectors
run_gathered space (suc n) first [] run room = absurd (not_zero n run)
run_gathered space (suc n) first (sector ∷ sectors) run room =
    let parts = run_parts (suc n) sector first (is_run space.sector_size (suc n - space.sector_size) (first + 1) sectors) (omega arith) run in
    let bytes = drop (first * space.sector_size) space.area in
    rw parts.0
    (elim (cases_lt space.sector_size (suc n)) [
      | inr all ↦
          let least : min (suc n) space.sector_size ≡ suc n = omega arith in
          let none : suc n - space.sector_size ≡ 0 = omega arith in
          rw (least, none, part_there space (suc n) first all room, gathered_none space sectors) (ap Ok (append-nil (take (suc n) bytes)))
      | inl more ↦
          let least : min (suc n) space.sector_size ≡ space.sector_size = omega arith in
          let start : (first + 1) * space.sector_size ≡ first * space.sector_size + space.sector_size = grind arith in
          let rest : gathered space (suc n - space.sector_size) sectors ≡ Ok (take (suc n - space.sector_size) (drop ((first + 1) * space.sector_size) space.area)) =
          run_gathered space (suc n - space.sector_size) (first + 1) sectors parts.1 (rw start (omega arith)) in
          let whole : space.sector_size + (suc n - space.sector_size) ≡ suc n = omega arith in
          let following : drop ((first + 1) * space.sector_size) space.area ≡ drop space.sector_size bytes =
          rw start (sym (drop-drop space.sector_size (first * space.sector_size) space.area)) in
          let joined : take space.sector_size bytes ++ take (suc n - space.sector_size) (drop space.sector_size bytes) ≡ take (suc n) bytes =
          sym (take-add space.sector_size (suc n - space.sector_size) bytes) ∙ ap (λ (k : ℕ). take k bytes) whole in
          rw (least, part_there space space.sector_size first (omega arith) (omega arith), rest, following) (ap Ok joined)
    ])

pub run_found : (space : Space) (size first : ℕ) (sectors : List ℕ) (found : Option (Bor (List ℕ)))
    → is_run space.sector_size size first sectors ≡ true
    → IfSome found (λ bytes. (first * space.sector_size + size ≤ length space.area) × (bytes.now ≡ take size (drop (first * space.sector_size) space.area)))
    → IfSome found (λ bytes. gathered space size sectors ≡ Ok bytes.now)
run_found space size first sectors None run h = tt
run_found space size first sectors (Some bytes) run h = run_gathered space size first sectors run h.0 ∙ ap Ok (sym h.1)
