-- The values of a constant array are passed one after another.
use Rattle.std.proofs.Common.{◌≡◌, ℕ, suc, List, ◌∷◌, Result, Ok, Err, refl, ap, ◌∙◌}
use Rattle.xls_record.specs.declared.version.Biff.{Biff}
use Rattle.xls_shown_ptg.specs.Arrays.{Left, ser_at, sers_at}
use Rattle.xls_shown_ptg.specs.Reading.{◌>>=◌, gives}
use Rattle.xls_shown_ptg.specs.declared.arrays.SerAr.{SerAr}
use Rattle.xls_shown_ptg.specs.declared.fault.Fault.{Fault}

abbrev Value : Type 0
Value = SerAr (List ℕ)

-- what stands behind so many
abbrev pub rest_at : Biff → ℕ → List ℕ → Result (List ℕ) Fault
rest_at biff n bytes = gives (λ (x : List Value × List ℕ). x.1) (sers_at biff n bytes)

abbrev then_others : Biff → ℕ → Left Value → Result (List ℕ) Fault
then_others biff n r =
    gives (λ (x : List Value × List ℕ). x.1) (r >>= (λ first. sers_at biff n first.1 >>= (λ others. Ok (first.0 ∷ others.0, others.1))))

behind_first : (v : Value) (r : Left (List Value))
    → gives (λ (x : List Value × List ℕ). x.1) (r >>= (λ others. Ok (v ∷ others.0, others.1))) ≡ gives (λ (x : List Value × List ℕ). x.1) r
behind_first v (Ok x) = refl
behind_first v (Err e) = refl

pub rest_one : (biff : Biff) (n : ℕ) (bytes : List ℕ) (v : Value) (left : List ℕ) → ser_at biff bytes ≡ Ok (v, left)
    → rest_at biff (suc n) bytes ≡ rest_at biff n left
rest_one biff n bytes v left e = ap (then_others biff n) e ∙ behind_first v (sers_at biff n left)

pub rest_bad : (biff : Biff) (n : ℕ) (bytes : List ℕ) (e : Fault) → ser_at biff bytes ≡ Err e → rest_at biff (suc n) bytes ≡ Err e
rest_bad biff n bytes e h = ap (then_others biff n) h
