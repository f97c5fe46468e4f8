-- Which entries were met.
use Rattle.std.proofs.Common.{zero, suc, replicate, ◌≡◌, ℕ, ◌<◌, List, [], ◌∷◌, length, Bool, true, false, cond, Option, None, Err, refl, ◌∙◌, ap, sym, subst, inl, inr, ◌≢◌, arith}
use Rattle.std.proofs.lemmas.Grind.{get_or-set_at}
use Rattle.std.proofs.lemmas.Bool.{cases_eq}
use Rattle.std.proofs.lemmas.Bool.Decides.{nat_tests}
use Rattle.std.proofs.Math.ListN.{get_or, set}
use Rattle.std.specs.List.{slice_get}
use Rattle.std.proofs.lemmas.List.{get_or_past, get_or-set_other}
use Rattle.std.proofs.lemmas.Option.{slice_get_cases}
use Rattle.xls_compound.specs.declared.fault.DirectoryFault.TheVariants as faults
use Rattle.xls_compound.specs.DirectoryEntries.{Entry}
use Rattle.xls_compound.specs.Tree.{is_met, tree_entry_at, listed}
use Rattle.xls_compound.specs.Steps.{AreMarks}

-- an entry that was met before
pub twice : (entries : List Entry) (marks : List Bool) (met : List ℕ) (number : ℕ) → AreMarks marks met
    → get_or marks number false ≡ true → Err (faults.Twice number) ≡ tree_entry_at entries met number
twice entries marks met number h marked =
    ap (λ (b : Bool). cond b (Err (faults.Twice number)) (listed number (slice_get entries number))) (sym marked ∙ h number)

-- one that wasn't
pub unmet_entry : (entries : List Entry) (marks : List Bool) (met : List ℕ) (number : ℕ) → AreMarks marks met
    → get_or marks number false ≡ false → listed number (slice_get entries number) ≡ tree_entry_at entries met number
unmet_entry entries marks met number h unmarked =
    ap (λ (b : Bool). cond b (Err (faults.Twice number)) (listed number (slice_get entries number))) (sym unmarked ∙ h number)

-- one that the directory doesn't have
pub missing : (entries : List Entry) (marks : List Bool) (met : List ℕ) (number : ℕ) → AreMarks marks met
    → length marks ≡ length entries → slice_get entries number ≡ None
    → Err (faults.Missing number) ≡ tree_entry_at entries met number
missing entries marks met number h same none =
    elim (slice_get_cases entries number).1 [
      | inl there ↦ absurd (cc (none, there.2))
      | inr past ↦
          let unmarked : get_or marks number false ≡ false = get_or_past marks number false (omega (arith, past.0)) in
          ap (λ (o : Option Entry). listed number o) (sym none) ∙ unmet_entry entries marks met number h unmarked
    ]

-- an entry that is met joins those that were
is_met_now : (met : List ℕ) (number : ℕ) → is_met (number ∷ met) number ≡ true
is_met_now met number = grind (arith, nat_tests)

is_met_else : (met : List ℕ) (number k : ℕ) → k ≢ number → is_met (number ∷ met) k ≡ is_met met k
is_met_else met number k h = grind (arith, nat_tests)

pub marks_now : (marks : List Bool) (met : List ℕ) (number : ℕ) → AreMarks marks met → number < length marks
    → AreMarks (set marks number true) (number ∷ met)
marks_now marks met number h within k =
    elim (cases_eq k number) [
      | inl same ↦ get_or-set_at marks number k true false same within ∙ sym (subst (λ (j : ℕ). is_met (number ∷ met) j ≡ true) (sym same) (is_met_now met number))
      | inr other ↦ get_or-set_other marks number k true false other ∙ h k ∙ sym (is_met_else met number k other)
    ]

-- nothing is marked yet
pub none_marked : (n : ℕ) → AreMarks (replicate n false) []
none_marked zero k = refl
none_marked (suc n) zero = refl
none_marked (suc n) (suc k) = none_marked n k
