-- Steps over a sheet part.
use Rattle.std.proofs.Common.{◌≡◌, true, false, ℕ, ◌+◌, ◌-◌, ◌<◌, ◌≤◌, List, [], ◌∷◌, ◌++◌, refl, sym, ap, ◌∙◌, append_assoc, arith, inl, inr, Option, None}
use Rattle.std.proofs.lemmas.List.{append-nil}
use Rattle.std.specs.List.{flat_map}
use Rattle.xls_stream.specs.Stream.{Group, group_bytes, Begins}
use Rattle.xls_stream.specs.Substreams.{IsBof, IsEof, IsPlain, is_sheet_type}
use Rattle.xls_stream.specs.Counting.{Found, with_group, keep, found_from}
use Rattle.xls_stream.specs.declared.part.Part.{Part}
use Rattle.xls_stream.proofs.Runs.{Run-push, Run-whole, begins_fewer}
use Rattle.xls_stream.proofs.Founds.{step_bof, step_eof, step_inside, step_kept, step_over, found_nothing}
use Rattle.xls_biff.specs.Outer.{Skips, Keeps, Over}

pub skips_none : (b : List ℕ) (n : ℕ) → Skips b n b n
skips_none b n = record { groups = []; run = refl; kept = λ more cut. refl; fewer = omega arith }

-- what is left ends the bytes before
pub skipped_of : (b mid : List ℕ) (n m : ℕ) → Skips b n mid m → (skipped : List ℕ) × (b ≡ skipped ++ mid)
skipped_of b mid n m s = (flat_map group_bytes s.groups, Run-whole b s.groups mid s.run)

skips_by : (b mid after : List ℕ) (n m k : ℕ) (g : Group) → Skips b n mid m → Begins mid g after → ((more : List Group) (cut : Option Part) → found_from m (g ∷ more) cut ≡ found_from k more cut) → Skips b n after k
skips_by b mid after n m k g s h step = record {
  groups = s.groups ++ g ∷ [];
  run = Run-push b s.groups g mid after s.run h;
  kept = λ more cut. ap (λ (x : List Group). found_from n x cut) (append_assoc s.groups (g ∷ []) more) ∙ s.kept (g ∷ more) cut ∙ step more cut;
  fewer = let f = s.fewer in omega (arith, begins_fewer mid g after h);
}

pub skips_bof : (b mid after : List ℕ) (n m : ℕ) (g : Group) → Skips b n mid m → Begins mid g after → IsBof g → Skips b n after (m + 1)
skips_bof b mid after n m g s h e = skips_by b mid after n m (m + 1) g s h (λ more cut. step_bof m g more cut e)

pub skips_eof : (b mid after : List ℕ) (n m : ℕ) (g : Group) → Skips b n mid m → Begins mid g after → IsEof g → 1 < m → Skips b n after (m - 1)
skips_eof b mid after n m g s h e lt = skips_by b mid after n m (m - 1) g s h (λ more cut. step_eof m g more cut lt e)

pub skips_inside : (b mid after : List ℕ) (n m : ℕ) (g : Group) → Skips b n mid m → Begins mid g after → IsPlain g → 1 < m → Skips b n after m
skips_inside b mid after n m g s h e lt = skips_by b mid after n m m g s h (λ more cut. step_inside m g more cut lt e)

keep_none : (g : Group) (f : Found) → is_sheet_type g ≡ false → keep g f ≡ f
keep_none g f t = rw t refl

keep_one : (g : Group) (f : Found) → is_sheet_type g ≡ true → keep g f ≡ with_group g f
keep_one g f t = rw t refl

pub skips_other : (b mid after : List ℕ) (n m : ℕ) (g : Group) → Skips b n mid m → Begins mid g after → IsPlain g → m ≤ 1 → is_sheet_type g ≡ false → Skips b n after m
skips_other b mid after n m g s h e le t = skips_by b mid after n m m g s h (λ more cut. step_kept m g more cut le e ∙ keep_none g (found_from m more cut) t)

pub keeps : (b mid after : List ℕ) (n m : ℕ) (g : Group) → Skips b n mid m → Begins mid g after → IsPlain g → m ≤ 1 → is_sheet_type g ≡ true → Keeps b n g after m
keeps b mid after n m g s h e le t = record {
  groups = s.groups;
  is_kept = t;
  run = Run-push b s.groups g mid after s.run h;
  kept = λ more cut. s.kept (g ∷ more) cut ∙ step_kept m g more cut le e ∙ keep_one g (found_from m more cut) t;
  fewer = let f = s.fewer in omega (arith, begins_fewer mid g after h);
}

pub over_eof : (b mid after : List ℕ) (n m : ℕ) (g : Group) → Skips b n mid m → Begins mid g after → IsEof g → m ≤ 1 → Over b n
over_eof b mid after n m g s h e le = record {
  groups = s.groups ++ g ∷ [];
  rest = after;
  run = Run-push b s.groups g mid after s.run h;
  over = inr (λ more cut. ap (λ (x : List Group). found_from n x cut) (append_assoc s.groups (g ∷ []) more) ∙ s.kept (g ∷ more) cut ∙ step_over m g more cut le e);
}

pub over_end : (b mid : List ℕ) (n m : ℕ) → Skips b n mid m → mid ≡ [] → Over b n
over_end b mid n m s z = record { groups = s.groups; rest = mid; run = s.run; over = inl (z, ap (λ (x : List Group). found_from n x None) (sym (append-nil s.groups)) ∙ s.kept [] None ∙ found_nothing m None) }
