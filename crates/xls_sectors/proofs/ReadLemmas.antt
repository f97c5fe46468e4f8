-- From the sectors of a chain to what is read of it.
use Rattle.std.proofs.Common.{◌≡◌, ◌≢◌, ℕ, zero, suc, List, length, Option, Result, Ok, Err, IfOk, refl, sym, ap, subst, ◌∙◌, inl, inr}
use Rattle.xls_sectors.specs.declared.error.SectorFault.{SectorFault}
use Rattle.xls_sectors.specs.declared.error.SectorFault.TheVariants as faults
use Rattle.xls_sectors.specs.declared.error.SectorError.{SectorError}
use Rattle.xls_sectors.specs.declared.error.SectorError.TheVariants as errors
use Rattle.xls_sectors.specs.Reading.{Fails, Gives}
use Rattle.xls_sectors.specs.Chains.{OfChain, Sectors, Stops}
use Rattle.xls_sectors.specs.Streams.{Space, next_in, stream_of, Stream}
use Rattle.xls_sectors.proofs.AnswerLemmas.{stream_whole}
use Rattle.xls_sectors.proofs.ChainLemmas.{same_chain}

abbrev pub Pair : Type 0
Pair = List ℕ × ℕ

pair_same : (p q : Pair) → (let r : Result Pair SectorFault = Ok p in r) ≡ Ok q → p ≡ q
pair_same p q e = cc

ok_or_err : (p : Pair) (f : SectorFault) → (let r : Result Pair SectorFault = Ok p in r) ≡ Err f → ⊥
ok_or_err p f e = cc

fault_same : (f g : SectorFault) → (let r : Result Pair SectorFault = Err f in r) ≡ Err g → f ≡ g
fault_same f g e = cc

module _ {X : Type 0} (next : ℕ → Option ℕ) (first : ℕ) (looped : SectorFault) (read : List ℕ → ℕ → Result X SectorFault) where
  pub chain_read : (sectors : List ℕ) (after : ℕ) → Sectors next first looped (Ok (sectors, after)) → OfChain next first looped read (read sectors after)
  chain_read sectors after (inl x) =
      let same : (let p : Pair = (sectors, after) in p) ≡ (x.0, x.1.0) = pair_same _ _ x.1.2 in
      inl (x.0, (x.1.0, x.1.1, ap (λ (p : Pair). read p.0 p.1) same))
  chain_read sectors after (inr y) = absurd (ok_or_err _ _ y.1)

  -- the sectors of a chain are those at which it stops
  pub chain_is : (sectors others : List ℕ) (after at : ℕ) → Sectors next first looped (Ok (sectors, after)) → Stops next first others at → others ≡ sectors
  chain_is sectors others after at (inl x) stops =
      let same : (let p : Pair = (sectors, after) in p) ≡ (x.0, x.1.0) = pair_same _ _ x.1.2 in
      (same_chain next first at x.1.0 others x.0 stops.path stops.stop x.1.1.path x.1.1.stop).0 ∙ sym (ap (λ (p : Pair). p.0) same)
  chain_is sectors others after at (inr y) stops = absurd (ok_or_err _ _ y.1)

  pub chain_fault : (fault : SectorFault) → Sectors next first looped (Err fault) → OfChain next first looped read (Err fault)
  chain_fault fault (inl x) = absurd (ok_or_err _ _ (sym x.1.2))
  chain_fault fault (inr y) = inr (y.0, ap Err (fault_same _ _ y.1))

  pub chain_fails : (e : SectorError) → Fails e (Sectors next first looped) → Fails e (OfChain next first looped read)
  chain_fails (errors.Fault f) h = chain_fault f h
  chain_fails errors.Memory h = tt

-- an answer is the one that is given
pub gives_is : {X Y : Type 0} (view : X → Y) (result : Result X SectorError) (answer : Result Y SectorFault) (Answers : Result Y SectorFault → Type 0)
    → Gives view result (λ r. r ≡ answer) → Answers answer → Gives view result Answers
gives_is view (Ok x) answer Answers h a = subst Answers (sym h) a
gives_is view (Err (errors.Fault f)) answer Answers h a = subst Answers (sym h) a
gives_is view (Err errors.Memory) answer Answers h a = tt

pub stream_read : (space : Space) (first size : ℕ) (sectors : List ℕ) (after : ℕ) → size ≢ 0
    → Sectors (next_in space) first (faults.Loop space.table first) (Ok (sectors, after))
    → Stream space first size (stream_of space first size sectors after)
stream_read space first zero sectors after some h = absurd (some refl)
stream_read space first (suc n) sectors after some h = chain_read _ _ _ (stream_of space first (suc n)) sectors after h

pub stream_fails : (space : Space) (first size : ℕ) (e : SectorError) → size ≢ 0
    → Fails e (Sectors (next_in space) first (faults.Loop space.table first)) → Fails e (Stream space first size)
stream_fails space first zero e some h = absurd (some refl)
stream_fails space first (suc n) e some h = chain_fails _ _ _ (stream_of space first (suc n)) e h

-- what is given of a stream is whole
pub gives_whole : {X : Type 0} (view : X → List ℕ) (space : Space) (first size : ℕ) (result : Result X SectorError)
    → Gives view result (Stream space first size) → IfOk result (λ x. length (view x) ≡ size)
gives_whole view space first size (Ok x) h = stream_whole space first size (view x) h
gives_whole view space first size (Err e) h = tt
