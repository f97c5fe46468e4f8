-- The number of operands, token by token.
use Rattle.std.proofs.Common.{zero, suc, ◌≡◌, ℕ, ◌+◌, ◌<◌, List, [], ◌∷◌, length, drop, Result, Ok, Err, refl, ◌∙◌, ap, arith}
use Rattle.xls_record.specs.declared.version.Biff.{Biff}
use Rattle.xls_shown_ptg.specs.Reading.{◌>>=◌}
use Rattle.xls_shown_ptg.specs.ShownTokens.{shown_at}
use Rattle.xls_shown_ptg.specs.declared.fault.Fault.{Fault}
use Rattle.xls_shown_ptg.specs.declared.tokens.ShownPtg.{ShownPtg}
use Rattle.xls_formula_shown.specs.ShownFold.{too_few}
use Rattle.xls_shown_refs.specs.Counts.{counted, joined, stepped, token_step}
use Rattle.xls_shown_refs.specs.declared.steps.Step.{Step}

abbrev Read : Type 0
Read = Result (ShownPtg (List ℕ) × ℕ) Fault

abbrev Stepped : Type 0
Stepped = Result (Step × List ℕ) Fault

module _ (biff : Biff) where
  -- what follows a token, its step, and the number that this leaves
  abbrev after_read : List ℕ → List ℕ → ℕ → Read → Result ℕ Fault
  after_read bytes extra count r =
      r >>= (λ x. token_step biff extra x.0 >>= (λ e. stepped e.0 count >>= (λ n. counted biff bytes x.1 e.1 n)))

  abbrev after_step : List ℕ → ℕ → ℕ → Stepped → Result ℕ Fault
  after_step bytes more count r = r >>= (λ e. stepped e.0 count >>= (λ n. counted biff bytes more e.1 n))

  abbrev after_count : List ℕ → ℕ → List ℕ → Result ℕ Fault → Result ℕ Fault
  after_count bytes more left r = r >>= (λ n. counted biff bytes more left n)

  -- the bytes that belong to the last token are skipped
  counted_skip : (bytes : List ℕ) (more : ℕ) (extra : List ℕ) (count : ℕ) → counted biff bytes more extra count ≡ counted biff (drop more bytes) 0 extra count
  counted_skip [] zero extra count = refl
  counted_skip [] (suc more) extra count = refl
  counted_skip (b ∷ bytes) zero extra count = refl
  counted_skip (b ∷ bytes) (suc more) extra count = counted_skip bytes more extra count

  pub counted_one : (bytes extra : List ℕ) (count : ℕ) (t : ShownPtg (List ℕ)) (more : ℕ) (s : Step) (left : List ℕ) (n : ℕ) → 0 < length bytes
      → shown_at biff bytes ≡ Ok (t, more) → token_step biff extra t ≡ Ok (s, left) → stepped s count ≡ Ok n
      → counted biff bytes 0 extra count ≡ counted biff (drop (1 + more) bytes) 0 left n
  counted_one [] extra count t more s left n lt read step count_is = absurd (omega arith)
  counted_one (b ∷ bytes) extra count t more s left n lt read step count_is =
      let k : suc more ≡ 1 + more = omega arith in
      ap (after_read bytes extra count) read
      ∙ (ap (after_step bytes more count) step
      ∙ (ap (after_count bytes more left) count_is
      ∙ (counted_skip bytes more left n ∙ ap (λ i. counted biff (drop i (b ∷ bytes)) 0 left n) k)))

  pub counted_unread : (bytes extra : List ℕ) (count : ℕ) (e : Fault) → 0 < length bytes → shown_at biff bytes ≡ Err e
      → counted biff bytes 0 extra count ≡ Err e
  counted_unread [] extra count e lt read = absurd (omega arith)
  counted_unread (b ∷ bytes) extra count e lt read = ap (after_read bytes extra count) read

  pub counted_unstepped : (bytes extra : List ℕ) (count : ℕ) (t : ShownPtg (List ℕ)) (more : ℕ) (e : Fault) → 0 < length bytes
      → shown_at biff bytes ≡ Ok (t, more) → token_step biff extra t ≡ Err e → counted biff bytes 0 extra count ≡ Err e
  counted_unstepped [] extra count t more e lt read step = absurd (omega arith)
  counted_unstepped (b ∷ bytes) extra count t more e lt read step =
      ap (after_read bytes extra count) read ∙ ap (after_step bytes more count) step

  pub counted_few : (bytes extra : List ℕ) (count : ℕ) (t : ShownPtg (List ℕ)) (more : ℕ) (s : Step) (left : List ℕ) (e : Fault) → 0 < length bytes
      → shown_at biff bytes ≡ Ok (t, more) → token_step biff extra t ≡ Ok (s, left) → stepped s count ≡ Err e → counted biff bytes 0 extra count ≡ Err e
  counted_few [] extra count t more s left e lt read step count_is = absurd (omega arith)
  counted_few (b ∷ bytes) extra count t more s left e lt read step count_is =
      ap (after_read bytes extra count) read ∙ (ap (after_step bytes more count) step ∙ ap (after_count bytes more left) count_is)

-- ---- so many operands made one

pub joined_some : (taken count left : ℕ) → left + taken ≡ count → joined taken count ≡ Ok (left + 1)
joined_some zero count left e = let n : suc count ≡ left + 1 = omega (arith, e) in ap (λ (k : ℕ). Ok k) n
joined_some (suc n) zero left e = absurd (omega (arith, e))
joined_some (suc n) (suc count) left e = joined_some n count left (omega (arith, e))

pub joined_few : (taken count : ℕ) → count < taken → joined taken count ≡ Err too_few
joined_few zero count lt = absurd (omega (arith, lt))
joined_few (suc n) zero lt = refl
joined_few (suc n) (suc count) lt = joined_few n count (omega (arith, lt))
