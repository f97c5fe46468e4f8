-- What a call gives, as arrays: items and damaged records, which cite the texts by offset and length.
use Rattle.std.specs.Prelude.{ℕ, List, [], ◌∷◌, ◌++◌, length}
use Rattle.xls_arrays.specs.declared.items.Span.{Span}
use Rattle.xls_beside_arrays.specs.declared.items.Counts.{Counts}
use Rattle.xls_beside_arrays.specs.declared.items.DamageItem.{DamageItem}

pub record Arrays (X : Type 0) : Type 0 where
  pub items : List X
  pub damages : List DamageItem
  pub texts : List ℕ

abbrev pub nothing : {X : Type 0} → Arrays X
nothing = record { items = []; damages = []; texts = [] }

abbrev pub counts_of : {X : Type 0} → Arrays X → Counts
counts_of a = record { items = length a.items; damages = length a.damages; text_bytes = length a.texts }

-- ---- one thing more

abbrev pub with_text : {X : Type 0} → Arrays X → List ℕ → Arrays X
with_text a text = record a { texts = a.texts ++ text }

abbrev pub with_item : {X : Type 0} → Arrays X → X → Arrays X
with_item a item = record a { items = a.items ++ item ∷ [] }

abbrev pub with_damage_item : {X : Type 0} → Arrays X → DamageItem → Arrays X
with_damage_item a item = record a { damages = a.damages ++ item ∷ [] }

-- where a text is that is laid next
abbrev pub next_span : {X : Type 0} → Arrays X → List ℕ → Span
next_span a text = record { offset = length a.texts; length = length text }

-- ---- texts, and what is made of where they are

abbrev pub after_text : {X : Type 0} → (Span → Arrays X → Arrays X) → List ℕ → Arrays X → Arrays X
after_text step text a = step (next_span a text) (with_text a text)

abbrev pub with_two : {X : Type 0} → (Span → Span → X) → List ℕ → List ℕ → Arrays X → Arrays X
with_two item one two = after_text (λ first. after_text (λ second a. with_item a (item first second)) two) one

abbrev pub with_three : {X : Type 0} → (Span → Span → Span → X) → List ℕ → List ℕ → List ℕ → Arrays X → Arrays X
with_three item one two three = after_text (λ first. with_two (item first) two three) one

abbrev pub with_four : {X : Type 0} → (Span → Span → Span → Span → X) → List ℕ → List ℕ → List ℕ → List ℕ → Arrays X → Arrays X
with_four item one two three four = after_text (λ first. with_three (item first) two three four) one
