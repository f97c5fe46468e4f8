-- The walk over the items of a section.
use Rattle.std.proofs.Common.{◌≡◌, ℕ, zero, suc, ◌==◌, ◌||◌, Bool, false, List, [], ◌∷◌, length, ◌<◌, drop, ap, ap₂, sym, refl, ◌∙◌, arith}
use Rattle.std.specs.List.{list_any}
use Rattle.std.proofs.lemmas.Bool.Decides.{nat_tests}
use Rattle.xls_number_formats.specs.Grammar.{Token, head_of, is_place, items_from, after_from}
use Rattle.std.specs.Str.{chars}
use Rattle.xls_number_formats.specs.Walk.{Left, items_left, after_left}
use Rattle.xls_number_formats.specs.Cuts.{IsCut}
use Rattle.xls_number_formats.specs.declared.heads.Cut.{Cut}

-- what belongs to an item before is passed over
pub items_past : (n : ℕ) (placed : Bool) (cs : List ℕ) → items_from n placed cs ≡ items_from 0 placed (drop n cs)
items_past zero placed [] = refl
items_past zero placed (c ∷ cs) = refl
items_past (suc n) placed [] = refl
items_past (suc n) placed (c ∷ cs) = items_past n placed cs

pub after_past : (n : ℕ) (placed : Bool) (cs : List ℕ) → after_from n placed cs ≡ after_from 0 placed (drop n cs)
after_past zero placed [] = refl
after_past zero placed (c ∷ cs) = refl
after_past (suc n) placed [] = refl
after_past (suc n) placed (c ∷ cs) = after_past n placed cs

-- a step over the first item
pub items_step : (placed : Bool) (c : ℕ) (cs : List ℕ) → (c == 59) ≡ false
    → items_from 0 placed (c ∷ cs) ≡ ((head_of placed c cs).item, (head_of placed c cs).text) ∷ items_from 0 (placed || is_place (head_of placed c cs).item) (drop (head_of placed c cs).more cs)
items_step placed c cs other = rw other (ap (λ ts. ((head_of placed c cs).item, (head_of placed c cs).text) ∷ ts) (items_past (head_of placed c cs).more (placed || is_place (head_of placed c cs).item) cs))

pub after_step : (placed : Bool) (c : ℕ) (cs : List ℕ) → (c == 59) ≡ false
    → after_from 0 placed (c ∷ cs) ≡ after_from 0 (placed || is_place (head_of placed c cs).item) (drop (head_of placed c cs).more cs)
after_step placed c cs other = rw other (after_past (head_of placed c cs).more (placed || is_place (head_of placed c cs).item) cs)

-- what isn't there isn't in what follows
pub none_left : (p : ℕ → Bool) (n : ℕ) (cs : List ℕ) → list_any p cs ≡ false → list_any p (drop n cs) ≡ false
none_left p zero cs none = none
none_left p (suc n) [] none = none
none_left p (suc n) (c ∷ cs) none = none_left p n cs (grind (arith, nat_tests))

not_ended : (c : ℕ) → (c ≡ 59 → ⊥) → (c == 59) ≡ false
not_ended c other = grind (arith, nat_tests)

-- a step of the walk
pub step_is : (placed next : Bool) (c : ℕ) (code cs : List ℕ) (cut : Cut) → code ≡ c ∷ cs → (c ≡ 59 → ⊥) → IsCut (head_of placed c cs) cs cut → next ≡ (placed || is_place cut.item)
    → (items_left (record { placed = placed; characters = code }) ≡ (cut.item, chars cut.text.now) ∷ items_left (record { placed = next; characters = chars cut.rest.now }))
    × (after_left (record { placed = placed; characters = code }) ≡ after_left (record { placed = next; characters = chars cut.rest.now }))
step_is placed next c code cs cut e other is f =
    let more = (head_of placed c cs).more in
    let had : (placed || is_place (head_of placed c cs).item) ≡ next = ap (λ i. placed || is_place i) (sym is.item) ∙ sym f in (
      ap (items_from 0 placed) e ∙ items_step placed c cs (not_ended c other) ∙ ap₂ ◌∷◌ (ap₂ (λ i t. (i, t)) (sym is.item) (sym is.text)) (ap₂ (items_from 0) had (sym is.rest)),
      ap (after_from 0 placed) e ∙ after_step placed c cs (not_ended c other) ∙ ap₂ (after_from 0) had (sym is.rest),
    )

-- an item less is left
pub one_less : (before after : Left) (token : Token) → items_left before ≡ token ∷ items_left after → length (items_left after) < length (items_left before)
one_less before after token e = let l = ap length e in omega arith
