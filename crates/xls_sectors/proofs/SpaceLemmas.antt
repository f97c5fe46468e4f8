-- The chains in a table: a chain as long as the table, and the bytes of sectors one after the other.
use Rattle.std.proofs.Common.{◌≡◌, ℕ, ◌+◌, ◌<◌, ◌≤◌, min, List, [], ◌∷◌, ◌++◌, length, get_or, drop, Some, None, Result, Ok, Err, refl, sym, ap, ◌∙◌, inl, inr, arith, length-append, append_assoc, append-nil, ◌-◌, ◌*◌}
use Rattle.std.proofs.Math.Nat.{zero-sub}
use Rattle.std.proofs.lemmas.Bool.{cases_lt}
use Rattle.std.proofs.lemmas.List.{drop_more}
use Rattle.std.proofs.lemmas.Option.{slice_get_past}
use Rattle.xls_sectors.specs.declared.error.SectorFault.{SectorFault}
use Rattle.xls_sectors.specs.Header.{SPECIAL}
use Rattle.xls_sectors.specs.Reading.{◌>>=◌}
use Rattle.xls_sectors.specs.Chains.{Path, Loops}
use Rattle.xls_sectors.specs.Streams.{Space, next_in, sector_at, part_of, gathered, chain_size}
use Rattle.xls_sectors.proofs.ChainLemmas.{Path-push, long_loops}

-- from the table's length on there are no sectors, nor from the first special number on
next_in_past : (space : Space) (n : ℕ) → min (length space.entries) SPECIAL ≤ n → next_in space n ≡ None
next_in_past space n le =
    elim (cases_lt n SPECIAL) [
      | inl lt ↦ let past = slice_get_past space.entries n (omega arith) in grind (arith, past)
      | inr ge ↦ grind arith
    ]

-- a path of as many sectors as there are that leads to one more
pub full_loops : (space : Space) (first number after : ℕ) (sectors : List ℕ) → Path (next_in space) first sectors number
    → next_in space number ≡ Some after → length sectors ≡ min (length space.entries) SPECIAL → Loops (next_in space) first
full_loops space first number after sectors p more full =
    long_loops (next_in space) first after (min (length space.entries) SPECIAL) (sectors ++ number ∷ []) (next_in_past space)
    (Path-push (next_in space) first sectors number after p more) (simp length-append (omega arith))

-- ---- the bytes of sectors

-- bytes before those that are still to come
abbrev pub with_prefix : List ℕ → Result (List ℕ) SectorFault → Result (List ℕ) SectorFault
with_prefix prefix read = read >>= λ bytes. Ok (prefix ++ bytes)

regroup : (prefix part : List ℕ) (read : Result (List ℕ) SectorFault)
    → with_prefix prefix (read >>= λ others. Ok (part ++ others)) ≡ with_prefix (prefix ++ part) read
regroup prefix part (Ok others) = ap Ok (sym (append_assoc prefix part others))
regroup prefix part (Err f) = refl

pub gathered_more : (space : Space) (left sector : ℕ) (prefix part sectors : List ℕ) (total : Result (List ℕ) SectorFault)
    → part_of space (min left space.sector_size) sector ≡ Ok part
    → with_prefix prefix (gathered space left (sector ∷ sectors)) ≡ total
    → with_prefix (prefix ++ part) (gathered space (left - space.sector_size) sectors) ≡ total
unfolding gathered
gathered_more space left sector prefix part sectors total h so_far =
    let one : with_prefix prefix (gathered space left (sector ∷ sectors)) ≡ with_prefix (prefix ++ part) (gathered space (left - space.sector_size) sectors) =
    rw h (regroup prefix part (gathered space (left - space.sector_size) sectors)) in
    sym one ∙ so_far

pub gathered_fault : (space : Space) (left sector : ℕ) (prefix sectors : List ℕ) (fault : SectorFault) (total : Result (List ℕ) SectorFault)
    → part_of space (min left space.sector_size) sector ≡ Err fault
    → with_prefix prefix (gathered space left (sector ∷ sectors)) ≡ total → total ≡ Err fault
unfolding gathered
gathered_fault space left sector prefix sectors fault total h so_far =
    let one : with_prefix prefix (gathered space left (sector ∷ sectors)) ≡ Err fault = rw h refl in
    sym so_far ∙ one

pub gathered_done : (space : Space) (left : ℕ) (prefix : List ℕ) (total : Result (List ℕ) SectorFault)
    → with_prefix prefix (gathered space left []) ≡ total → total ≡ Ok prefix
unfolding gathered
gathered_done space left prefix total so_far = sym so_far ∙ ap Ok (append-nil prefix)

pub gathered_begun : (read : Result (List ℕ) SectorFault) → with_prefix [] read ≡ read
gathered_begun (Ok bytes) = refl
gathered_begun (Err fault) = refl

-- the same for the sector at an index
module _ (space : Space) (left wanted i : ℕ) (prefix all : List ℕ) (total : Result (List ℕ) SectorFault) (within : i < length all)
    (least : wanted ≡ min left space.sector_size) (so_far : with_prefix prefix (gathered space left (drop i all)) ≡ total) where
  here : with_prefix prefix (gathered space left (get_or all i 0 ∷ drop (i + 1) all)) ≡ total
  here = ap (λ (xs : List ℕ). with_prefix prefix (gathered space left xs)) (sym (drop_more all i 0 within)) ∙ so_far

  pub gathered_step : (part : List ℕ) → part_of space wanted (get_or all i 0) ≡ Ok part
      → with_prefix (prefix ++ part) (gathered space (left - wanted) (drop (i + 1) all)) ≡ total
  gathered_step part h =
      let less : left - wanted ≡ left - space.sector_size = omega arith in
      let p : part_of space (min left space.sector_size) (get_or all i 0) ≡ Ok part = ap (λ (n : ℕ). part_of space n (get_or all i 0)) (sym least) ∙ h in
      rw less (gathered_more space left (get_or all i 0) prefix part (drop (i + 1) all) total p here)

  pub gathered_stop : (fault : SectorFault) → part_of space wanted (get_or all i 0) ≡ Err fault → total ≡ Err fault
  gathered_stop fault h =
      let p : part_of space (min left space.sector_size) (get_or all i 0) ≡ Err fault = ap (λ (n : ℕ). part_of space n (get_or all i 0)) (sym least) ∙ h in
      gathered_fault space left (get_or all i 0) prefix (drop (i + 1) all) fault total p here

-- no more bytes are needed
part_none : (space : Space) (sector : ℕ) → part_of space 0 sector ≡ Ok []
part_none space sector = grind arith

pub gathered_none : (space : Space) (sectors : List ℕ) → gathered space 0 sectors ≡ Ok []
unfolding gathered
gathered_none space [] = refl
gathered_none space (sector ∷ sectors) =
    let rest : gathered space (0 - space.sector_size) sectors ≡ Ok [] = rw zero-sub (gathered_none space sectors) in
    let none : min 0 space.sector_size ≡ 0 = omega arith in
    rw (none, part_none space sector, rest) refl

-- the size of a whole chain, by its last sector
pub chain_size_last : (space : Space) (sectors : List ℕ) (last : ℕ)
    → chain_size space (sectors ++ last ∷ []) ≡ length sectors * space.sector_size + length (sector_at space last)
chain_size_last space [] last = grind arith
chain_size_last space (s ∷ []) last = grind arith
chain_size_last space (s ∷ t ∷ sectors) last =
    let rest = chain_size_last space (t ∷ sectors) last in
    grind (arith, rest)
