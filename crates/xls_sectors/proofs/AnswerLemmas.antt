-- Each relation gives exactly one answer.
use Rattle.std.proofs.Common.{◌≡◌, ℕ, zero, suc, ◌≤◌, List, [], Option, None, Result, Ok, Err, refl, sym, ap, ◌∙◌, inl, inr, arith, ◌++◌, ◌∷◌, ◌*◌, ◌+◌, ◌-◌, min, length, length-append}
use Rattle.std.proofs.lemmas.Bool.{cases_lt}
use Rattle.std.proofs.lemmas.Grind.{common_steps}
use Rattle.xls_sectors.specs.declared.error.SectorFault.{SectorFault}
use Rattle.xls_sectors.specs.Header.{SPECIAL, header_of, header_entries}
use Rattle.xls_sectors.specs.declared.header.Header.{Header}
use Rattle.xls_sectors.specs.Reading.{◌>>=◌}
use Rattle.xls_sectors.specs.Chains.{Stops, OfChain}
use Rattle.xls_sectors.specs.Streams.{Space, next_in, sector_at, part_of, gathered, stream_of, Stream, WholeChain}
use Rattle.xls_sectors.specs.Tables.{next_difat, area_of, Difat, opened_by, OpensBy, OpensSectors}
use Rattle.xls_sectors.specs.Laws.{OneAnswer, OneOutcome}
use Rattle.xls_sectors.proofs.ChainLemmas.{one_outcome}

-- the sectors of a chain, and the number after them
abbrev pub IsRead : {X : Type 0} → (ℕ → Option ℕ) → ℕ → (List ℕ → ℕ → Result X SectorFault) → Result X SectorFault → Type 0
IsRead next first read result = (sectors : List ℕ) × ((after : ℕ) × Stops next first sectors after × (result ≡ read sectors after))

module _ {X : Type 0} (next : ℕ → Option ℕ) (bound first : ℕ) (looped : SectorFault) (read : List ℕ → ℕ → Result X SectorFault) (one : OneOutcome next bound first) where
  of_chain_some : (result : Result X SectorFault) × OfChain next first looped read result
  of_chain_some =
      elim one.some as (λ _. (result : Result X SectorFault) × OfChain next first looped read result) [
        | inl x ↦ (read x.0 x.1.0, inl (x.0, (x.1.0, x.1.1, refl)))
        | inr l ↦ (Err looped, inr (l, refl))
      ]

  both_read : (r s : Result X SectorFault) → IsRead next first read r → IsRead next first read s → r ≡ s
  both_read r s x y =
      let sectors : x.0 ≡ y.0 = one.sectors x.0 y.0 x.1.0 y.1.0 x.1.1 y.1.1 in
      let after : x.1.0 ≡ y.1.0 = one.after x.0 y.0 x.1.0 y.1.0 x.1.1 y.1.1 in
      x.1.2 ∙ ap (λ (ss : List ℕ). read ss x.1.0) sectors ∙ ap (read y.0) after ∙ sym y.1.2

  of_chain_same : (r s : Result X SectorFault) → OfChain next first looped read r → OfChain next first looped read s → r ≡ s
  of_chain_same r s (inl x) (inl y) = both_read r s x y
  of_chain_same r s (inl x) (inr y) = absurd (one.apart x.0 x.1.0 x.1.1 y.0)
  of_chain_same r s (inr x) (inl y) = absurd (one.apart y.0 y.1.0 y.1.1 x.0)
  of_chain_same r s (inr x) (inr y) = x.1 ∙ sym y.1

  pub of_chain_one : OneAnswer (OfChain next first looped read)
  of_chain_one = record { some = of_chain_some; same = of_chain_same }

-- ---- streams

next_in_special : (space : Space) (n : ℕ) → SPECIAL ≤ n → next_in space n ≡ None
next_in_special space n le = grind arith

pub stream_one : (space : Space) (first size : ℕ) → OneAnswer (Stream space first size)
stream_one space first zero = record { some = (Ok [], refl); same = λ r s p q. p ∙ sym q }
stream_one space first (suc n) =
    of_chain_one (next_in space) SPECIAL first _ _ (one_outcome (next_in space) SPECIAL first (next_in_special space))

pub whole_chain_one : (space : Space) (first : ℕ) → OneAnswer (WholeChain space first)
whole_chain_one space first =
    of_chain_one (next_in space) SPECIAL first _ _ (one_outcome (next_in space) SPECIAL first (next_in_special space))

-- ---- files

next_difat_special : (size : ℕ) (area : List ℕ) (n : ℕ) → SPECIAL ≤ n → next_difat size area n ≡ None
next_difat_special size area n le = grind arith

difat_one : (size : ℕ) (area entries : List ℕ) (first : ℕ) → OneAnswer (Difat size area entries first)
difat_one size area entries first =
    of_chain_one (next_difat size area) SPECIAL first _ _ (one_outcome (next_difat size area) SPECIAL first (next_difat_special size area))

opens_by_one : (read : Result Header SectorFault) (file : List ℕ) → OneAnswer (OpensBy read file)
opens_by_one (Err e) file = record { some = (Err e, refl); same = λ r s p q. p ∙ sym q }
opens_by_one (Ok header) file =
    let area = area_of header file in
    let one = difat_one header.sector_size area (header_entries file) header.first_difat in
    record {
      some = (one.some.0 >>= opened_by header area, (one.some.0, one.some.1, refl));
      same = λ r s p q.
          p.2 ∙ ap (λ (l : Result (List ℕ) SectorFault). l >>= opened_by header area) (one.same p.0 q.0 p.1 q.1) ∙ sym q.2;
    }

pub opens_one : (file : List ℕ) → OneAnswer (OpensSectors file)
opens_one file = opens_by_one (header_of file) file

-- ---- the length of a stream that is answered

part_length : (space : Space) (size sector : ℕ) (part : List ℕ) → part_of space size sector ≡ Ok part → length part ≡ size
part_length space size sector part h =
    elim (cases_lt (length (sector_at space sector)) size) [
      | inl short ↦ absurd (grind arith)
      | inr enough ↦ grind (arith, common_steps)
    ]

-- a result of two parts is there where both are
both_parts : (r : Result (List ℕ) SectorFault) (s : Result (List ℕ) SectorFault) (bytes : List ℕ)
    → (r >>= λ part. s >>= λ others. Ok (part ++ others)) ≡ Ok bytes
    → (part : List ℕ) × (others : List ℕ) × (r ≡ Ok part) × (s ≡ Ok others) × (bytes ≡ part ++ others)
both_parts (Ok part) (Ok others) bytes h = (part, others, refl, refl, cc)
both_parts (Ok part) (Err e) bytes h = absurd (cc)
both_parts (Err e) s bytes h = absurd (cc)

pub gathered_length : (space : Space) (size : ℕ) (sectors : List ℕ) (bytes : List ℕ)
    → gathered space size sectors ≡ Ok bytes → length bytes ≡ min size (length sectors * space.sector_size)
unfolding gathered
gathered_length space size [] bytes h = let e : bytes ≡ [] = cc in rw e (omega arith)
gathered_length space size (sector ∷ sectors) bytes h =
    let parts = both_parts (part_of space (min size space.sector_size) sector) (gathered space (size - space.sector_size) sectors) bytes h in
    let first = part_length space (min size space.sector_size) sector parts.0 parts.2 in
    let rest = gathered_length space (size - space.sector_size) sectors parts.1 parts.3 in
    let product : suc (length sectors) * space.sector_size ≡ length sectors * space.sector_size + space.sector_size = grind arith in
    rw (parts.4, length-append, first, rest) (rw product (omega arith))

stream_length : (space : Space) (first size : ℕ) (sectors : List ℕ) (after : ℕ) (bytes : List ℕ)
    → Ok bytes ≡ stream_of space first size sectors after → length bytes ≡ size
stream_length space first size sectors after bytes h =
    elim (cases_lt (length sectors * space.sector_size) size) [
      | inl short ↦ absurd (grind arith)
      | inr enough ↦
          let g : gathered space size sectors ≡ Ok bytes = grind arith in
          gathered_length space size sectors bytes g ∙ omega arith
    ]

pub stream_whole : (space : Space) (first size : ℕ) (bytes : List ℕ) → Stream space first size (Ok bytes) → length bytes ≡ size
stream_whole space first zero bytes h = let e : bytes ≡ [] = cc in rw e refl
stream_whole space first (suc n) bytes (inl x) = stream_length space first (suc n) x.0 x.1.0 bytes x.1.2
stream_whole space first (suc n) bytes (inr y) = absurd (let e : Ok bytes ≡ Err _ = y.1 in cc)
