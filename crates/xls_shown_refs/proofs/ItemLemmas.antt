-- What tokens cite, one after another.
use Rattle.std.proofs.Common.{zero, suc, ◌≡◌, ℕ, ◌+◌, ◌<◌, List, [], ◌∷◌, ◌++◌, length, drop, Option, Some, None, Result, Ok, Err, refl, sym, ◌∙◌, ap, arith, append_assoc}
use Rattle.xls_shown_ptg.specs.Reading.{gives}
use Rattle.xls_shown_ptg.specs.ShownTokens.{shown_at}
use Rattle.xls_shown_ptg.specs.declared.fault.Fault.{Fault}
use Rattle.xls_shown_ptg.specs.declared.tokens.ShownPtg.{ShownPtg}
use Rattle.xls_shown_refs.specs.Items.{Item, before, items, or_none, token_item}
use Rattle.xls_shown_refs.specs.Origins.{Origin}

pub before-append : {X : Type 0} (x : Option X) (xs : List X) → before x xs ≡ before x [] ++ xs
before-append (Some x) xs = refl
before-append None xs = refl

-- one more, before those that are left
pub push_step : (old new : List Item) (i : Option Item) (left next all : List Item) → new ≡ old ++ before i [] → left ≡ before i next
    → old ++ left ≡ all → new ++ next ≡ all
push_step old new i left next all e f g =
    ap (λ (x : List Item). x ++ next) e
    ∙ (append_assoc old (before i []) next
    ∙ (ap (λ (x : List Item). old ++ x) (sym (before-append i next))
    ∙ (ap (λ (x : List Item). old ++ x) (sym f) ∙ g)))

module _ (o : Origin) where
  -- the bytes that belong to the last token are skipped
  items_skip : (bytes : List ℕ) (more : ℕ) → items o bytes more ≡ items o (drop more bytes) 0
  items_skip [] zero = refl
  items_skip [] (suc more) = refl
  items_skip (b ∷ bytes) zero = refl
  items_skip (b ∷ bytes) (suc more) = items_skip bytes more

  pub items_one : (bytes : List ℕ) (t : ShownPtg (List ℕ)) (more : ℕ) → 0 < length bytes → shown_at o.biff bytes ≡ Ok (t, more)
      → items o bytes 0 ≡ before (token_item o t) (items o (drop (1 + more) bytes) 0)
  items_one [] t more lt e = absurd (omega arith)
  items_one (b ∷ bytes) t more lt e =
      let n : suc more ≡ 1 + more = omega arith in
      ap (λ (r : Result (ShownPtg (List ℕ) × ℕ) Fault). or_none (gives (λ x. before (token_item o x.0) (items o bytes x.1)) r)) e
      ∙ (ap (λ (xs : List Item). before (token_item o t) xs) (items_skip bytes more)
      ∙ ap (λ k. before (token_item o t) (items o (drop k (b ∷ bytes)) 0)) n)

  pub items_unread : (bytes : List ℕ) (e : Fault) → 0 < length bytes → shown_at o.biff bytes ≡ Err e → items o bytes 0 ≡ []
  items_unread [] e lt h = absurd (omega arith)
  items_unread (b ∷ bytes) e lt h =
      ap (λ (r : Result (ShownPtg (List ℕ) × ℕ) Fault). or_none (gives (λ x. before (token_item o x.0) (items o bytes x.1)) r)) h
