-- What is used of a record body or piece, and how many bytes its marks add.
use Rattle.std.proofs.Common.{◌≡◌, ℕ, suc, ◌+◌, ◌<◌, ◌≤◌, Bool, true, false, List, [], ◌∷◌, ◌++◌, length, drop, get_or, Some, None, refl, sym, ap, ◌∙◌, arith}
use Rattle.std.specs.Prelude.{nat_lt, ◌&&◌}
use Rattle.std.proofs.Math.Seq.{drop-cons}
use Rattle.std.proofs.lemmas.List.{drop_all}
use Rattle.xls_stream.specs.StringTable.{Mark}
use Rattle.xls_layouts.specs.Canonical.{fill_from, is_narrow}
use Rattle.xls_lay.specs.Writing.{saturated}
use Rattle.xls_lay.specs.Cutting.{marks_size}

pub fill-append : (used : ℕ) (ms more : List Mark)
    → fill_from used (ms ++ more) ≡ fill_from (fill_from used ms) more
fill-append used [] more = refl
fill-append used (None ∷ ms) more = fill-append 0 ms more
fill-append used (Some b ∷ ms) more = fill-append (suc used) ms more

pub size-append : (ms more : List Mark) → marks_size (ms ++ more) ≡ marks_size ms + marks_size more
size-append [] more = omega arith
size-append (None ∷ ms) more = omega (arith, size-append ms more)
size-append (Some b ∷ ms) more = omega (arith, size-append ms more)

-- ---- saturated sums

pub saturated-add : (a b : ℕ) → saturated (saturated a + b) ≡ saturated (a + b)
saturated-add a b = omega arith

pub saturated-both : (a b : ℕ) → saturated (saturated a + saturated b) ≡ saturated (a + b)
saturated-both a b = omega arith

-- ---- narrow strings

pub below : (m n : ℕ) → m < n → nat_lt m n ≡ true
below m n h = grind arith

pub not_below : (m n : ℕ) → n ≤ m → nat_lt m n ≡ false
not_below m n h = grind arith

narrow_cons : (u : ℕ) (us : List ℕ) → u < 256 → is_narrow (u ∷ us) ≡ is_narrow us
narrow_cons u us h = ap (λ (b : Bool). b && is_narrow us) (below u 256 h)

wide_cons : (u : ℕ) (us : List ℕ) → 256 ≤ u → is_narrow (u ∷ us) ≡ false
wide_cons u us h = ap (λ (b : Bool). b && is_narrow us) (not_below u 256 h)

pub narrow_more : (us : List ℕ) (i : ℕ) → i < length us → get_or us i 0 < 256
    → is_narrow us ≡ is_narrow (drop i us) → is_narrow us ≡ is_narrow (drop (i + 1) us)
narrow_more us i lt h e =
    let next : i + 1 ≡ suc i = omega arith in
    e ∙ ap is_narrow (drop-cons us i 0 lt) ∙ narrow_cons (get_or us i 0) (drop (suc i) us) h ∙ ap (λ (k : ℕ). is_narrow (drop k us)) (sym next)

pub narrow_none : (us : List ℕ) (i : ℕ) → i < length us → 256 ≤ get_or us i 0
    → is_narrow us ≡ is_narrow (drop i us) → is_narrow us ≡ false
narrow_none us i lt h e =
    e ∙ ap is_narrow (drop-cons us i 0 lt) ∙ wide_cons (get_or us i 0) (drop (suc i) us) h

pub narrow_all : (us : List ℕ) (i : ℕ) → length us ≤ i → is_narrow us ≡ is_narrow (drop i us)
    → is_narrow us ≡ true
narrow_all us i le e = e ∙ ap is_narrow (drop_all i us le)
