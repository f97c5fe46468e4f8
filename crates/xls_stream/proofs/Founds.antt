-- One step of the count with the end, at any count.
use Rattle.std.proofs.Common.{◌≡◌, ◌≢◌, ℕ, zero, suc, ◌+◌, ◌-◌, ◌<◌, ◌≤◌, false, List, [], ◌∷◌, refl, sym, ap, ◌∙◌, arith, add-one, Option, None}
use Rattle.std.specs.Prelude.{◌==◌}
use Rattle.xls_stream.specs.Stream.{Group}
use Rattle.xls_stream.specs.Substreams.{IsBof, IsEof, IsPlain}
use Rattle.xls_stream.specs.Counting.{bof, eof, other, group_kind, keep, found_from}
use Rattle.xls_stream.specs.declared.part.Part.{Part}

kind_bof : (g : Group) → IsBof g → group_kind g ≡ bof
kind_bof g h = rw h refl

kind_eof : (g : Group) → IsEof g → group_kind g ≡ eof
kind_eof g h = rw h refl

apart : (m n : ℕ) → m ≢ n → (m == n) ≡ false
apart m n h = grind arith

kind_other : (g : Group) → IsPlain g → group_kind g ≡ other
kind_other g h = rw (apart g.typ 2057 h.0, apart g.typ 10 h.1) refl

pub at_own_bof : (g : Group) (gs : List Group) (cut : Option Part) → IsBof g
    → found_from 0 (g ∷ gs) cut ≡ found_from 1 gs cut
unfolding found_from
at_own_bof g gs cut h = rw (kind_bof g h) refl

pub at_nested_bof : (g : Group) (gs : List Group) (cut : Option Part) → IsBof g
    → found_from 1 (g ∷ gs) cut ≡ found_from 2 gs cut
unfolding found_from
at_nested_bof g gs cut h = rw (kind_bof g h) refl

pub at_inner_bof : (n : ℕ) (g : Group) (gs : List Group) (cut : Option Part) → IsBof g
    → found_from (suc (suc n)) (g ∷ gs) cut ≡ found_from (suc (suc (suc n))) gs cut
unfolding found_from
at_inner_bof n g gs cut h = rw (kind_bof g h) refl

pub step_bof : (m : ℕ) (g : Group) (more : List Group) (cut : Option Part) → IsBof g
    → found_from m (g ∷ more) cut ≡ found_from (m + 1) more cut
step_bof zero g more cut h = at_own_bof g more cut h
step_bof (suc zero) g more cut h = at_nested_bof g more cut h
step_bof (suc (suc n)) g more cut h =
    at_inner_bof n g more cut h
    ∙ ap (λ (k : ℕ). found_from k more cut) (sym (add-one (suc (suc n))))

pub at_inner_eof : (n : ℕ) (g : Group) (gs : List Group) (cut : Option Part) → IsEof g
    → found_from (suc (suc n)) (g ∷ gs) cut ≡ found_from (suc n) gs cut
unfolding found_from
at_inner_eof n g gs cut h = rw (kind_eof g h) refl

pub step_eof : (m : ℕ) (g : Group) (more : List Group) (cut : Option Part) → 1 < m → IsEof g
    → found_from m (g ∷ more) cut ≡ found_from (m - 1) more cut
step_eof zero g more cut lt h = absurd (omega arith)
step_eof (suc zero) g more cut lt h = absurd (omega arith)
step_eof (suc (suc n)) g more cut lt h =
    let e : suc n ≡ suc (suc n) - 1 = omega arith in
    at_inner_eof n g more cut h ∙ ap (λ (k : ℕ). found_from k more cut) e

pub step_inside : (m : ℕ) (g : Group) (more : List Group) (cut : Option Part) → 1 < m → IsPlain g
    → found_from m (g ∷ more) cut ≡ found_from m more cut
unfolding found_from
step_inside zero g more cut lt h = absurd (omega arith)
step_inside (suc zero) g more cut lt h = absurd (omega arith)
step_inside (suc (suc n)) g more cut lt h = rw (kind_other g h) refl

pub step_kept : (m : ℕ) (g : Group) (more : List Group) (cut : Option Part) → m ≤ 1 → IsPlain g
    → found_from m (g ∷ more) cut ≡ keep g (found_from m more cut)
unfolding found_from
step_kept zero g more cut le h = rw (kind_other g h) refl
step_kept (suc zero) g more cut le h = rw (kind_other g h) refl
step_kept (suc (suc n)) g more cut le h = absurd (omega arith)

pub step_over : (m : ℕ) (g : Group) (more : List Group) (cut : Option Part) → m ≤ 1 → IsEof g
    → found_from m (g ∷ more) cut ≡ ([], None)
unfolding found_from
step_over zero g more cut le h = rw (kind_eof g h) refl
step_over (suc zero) g more cut le h = rw (kind_eof g h) refl
step_over (suc (suc n)) g more cut le h = absurd (omega arith)

pub found_nothing : (m : ℕ) (cut : Option Part) → found_from m [] cut ≡ ([], cut)
unfolding found_from
found_nothing m cut = refl
