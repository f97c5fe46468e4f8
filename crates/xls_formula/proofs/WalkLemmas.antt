-- The tokens one after another, whatever their effects change.
use Rattle.std.proofs.Common.{suc, zero, ◌≡◌, ℕ, ◌+◌, ◌<◌, List, [], ◌∷◌, length, drop, Result, Ok, Err, refl, sym, ◌∙◌, ap, subst, arith}
use Rattle.xls_record.specs.Reading.{◌>>=◌, gives, Fails, Gives}
use Rattle.xls_record.specs.declared.error.XlsError.{XlsError}
use Rattle.xls_record.specs.declared.error.XlsError.TheVariants as errors
use Rattle.xls_formula.specs.Context.{Context}
use Rattle.xls_formula.specs.Effects.{Effect, effect_at}
use Rattle.xls_formula.specs.Fold.{walk_tokens}

pub fails_same : {Y : Type 0} (e : XlsError) (r : Result Y XlsError) → r ≡ Err e → Fails e r
fails_same errors.Memory r h = tt
fails_same e r h = h

-- a refusal of a part is one of the whole
pub fails_then : {X Y : Type 0} (e : XlsError) (r : Result X XlsError) (f : X → Result Y XlsError) → Fails e r → Fails e (◌>>=◌ r f)
fails_then errors.Memory r f h = tt
fails_then e r f h = ap (λ x. ◌>>=◌ x f) h

pub fails_over : {Y : Type 0} (e : XlsError) (q r : Result Y XlsError) → q ≡ r → Fails e r → Fails e q
fails_over e q r h f = subst (λ x. Fails e x) (sym h) f

pub gives_over : {X Y : Type 0} (view : X → Y) (r : Result X XlsError) (p q : Result Y XlsError) → q ≡ p → Gives view r p → Gives view r q
gives_over view r p q e g = subst (λ x. Gives view r x) (sym e) g

-- ---- one token

abbrev pub Read : Type 0
Read = Result (Effect × ℕ) XlsError

module _ {X : Type 0} (context : Context) (change : Effect → X → Result X XlsError) where
  -- the bytes that belong to the last token are skipped
  walk_skips : (bytes : List ℕ) (more : ℕ) (x : X) → walk_tokens context change bytes more x ≡ walk_tokens context change (drop more bytes) 0 x
  walk_skips [] zero x = refl
  walk_skips [] (suc more) x = refl
  walk_skips (b ∷ bytes) zero x = refl
  walk_skips (b ∷ bytes) (suc more) x = walk_skips bytes more x

  skips_after : (bytes : List ℕ) (more : ℕ) (r : Result X XlsError) → r >>= (λ y. walk_tokens context change bytes more y) ≡ r >>= (λ y. walk_tokens context change (drop more bytes) 0 y)
  skips_after bytes more (Ok y) = walk_skips bytes more y
  skips_after bytes more (Err e) = refl

  -- what stands after the first token
  abbrev walk_next : List ℕ → X → Read → Result X XlsError
  walk_next bytes x read = read >>= (λ e. change e.0 x >>= (λ y. walk_tokens context change (drop (suc e.1) bytes) 0 y))

  next_here : (b : ℕ) (bytes : List ℕ) (x : X) (r : Read) → r >>= (λ e. change e.0 x >>= (λ y. walk_tokens context change bytes e.1 y)) ≡ walk_next (b ∷ bytes) x r
  next_here b bytes x (Err e) = refl
  next_here b bytes x (Ok e) = skips_after bytes e.1 (change e.0 x)

  walk_first : (bytes : List ℕ) (x : X) → 0 < length bytes → walk_tokens context change bytes 0 x ≡ walk_next bytes x (effect_at context bytes)
  walk_first [] x lt = absurd (omega arith)
  walk_first (b ∷ bytes) x lt = next_here b bytes x (effect_at context (b ∷ bytes))

  first_is : (bytes : List ℕ) (x : X) (r : Read) → 0 < length bytes → effect_at context bytes ≡ r → walk_tokens context change bytes 0 x ≡ walk_next bytes x r
  first_is bytes x r lt read = walk_first bytes x lt ∙ ap (walk_next bytes x) read

  pub walk_one : (bytes : List ℕ) (x y : X) (e : Effect) (more : ℕ) → 0 < length bytes → effect_at context bytes ≡ Ok (e, more) → change e x ≡ Ok y
      → walk_tokens context change bytes 0 x ≡ walk_tokens context change (drop (1 + more) bytes) 0 y
  walk_one bytes x y e more lt read done =
      let n : suc more ≡ 1 + more = omega arith in
      first_is bytes x (Ok (e, more)) lt read
      ∙ (ap (λ (r : Result X XlsError). r >>= (λ z. walk_tokens context change (drop (suc more) bytes) 0 z)) done
      ∙ ap (λ k. walk_tokens context change (drop k bytes) 0 y) n)

  pub walk_refused_by_bytes : (bytes : List ℕ) (x : X) (e : XlsError) → 0 < length bytes → effect_at context bytes ≡ Err e → Fails e (walk_tokens context change bytes 0 x)
  walk_refused_by_bytes bytes x e lt read =
      fails_same e (walk_tokens context change bytes 0 x) (first_is bytes x (Err e) lt read)

  pub walk_refused : (bytes : List ℕ) (x : X) (d : Effect) (more : ℕ) (e : XlsError) → 0 < length bytes → effect_at context bytes ≡ Ok (d, more) → Fails e (change d x)
      → Fails e (walk_tokens context change bytes 0 x)
  walk_refused bytes x d more e lt read f =
      fails_over e (walk_tokens context change bytes 0 x) (change d x >>= (λ y. walk_tokens context change (drop (suc more) bytes) 0 y)) (first_is bytes x (Ok (d, more)) lt read)
      (fails_then e (change d x) (λ y. walk_tokens context change (drop (suc more) bytes) 0 y) f)

-- ---- one walk seen as another

module _ {X Y : Type 0} (context : Context) (view : X → Y) (f : Effect → X → Result X XlsError) (g : Effect → Y → Result Y XlsError)
    (same : (e : Effect) (x : X) → gives view (f e x) ≡ g e (view x)) where
  after_one : (bytes : List ℕ) (more : ℕ) (r : Result X XlsError) (s : Result Y XlsError) → gives view r ≡ s
      → ((x : X) → gives view (walk_tokens context f bytes more x) ≡ walk_tokens context g bytes more (view x))
      → gives view (r >>= (λ x. walk_tokens context f bytes more x)) ≡ s >>= (λ y. walk_tokens context g bytes more y)
  after_one bytes more (Ok x) s h rest = rest x ∙ ap (λ (q : Result Y XlsError). q >>= (λ y. walk_tokens context g bytes more y)) h
  after_one bytes more (Err e) s h rest = ap (λ (q : Result Y XlsError). q >>= (λ y. walk_tokens context g bytes more y)) h

  after_reading : (bytes : List ℕ) (x : X) (r : Read)
      → ((more : ℕ) (z : X) → gives view (walk_tokens context f bytes more z) ≡ walk_tokens context g bytes more (view z))
      → gives view (r >>= (λ e. f e.0 x >>= (λ z. walk_tokens context f bytes e.1 z))) ≡ r >>= (λ e. g e.0 (view x) >>= (λ y. walk_tokens context g bytes e.1 y))
  after_reading bytes x (Err e) rest = refl
  after_reading bytes x (Ok e) rest = after_one bytes e.1 (f e.0 x) (g e.0 (view x)) (same e.0 x) (λ z. rest e.1 z)

  pub walk_over : (bytes : List ℕ) (more : ℕ) (x : X) → gives view (walk_tokens context f bytes more x) ≡ walk_tokens context g bytes more (view x)
  walk_over [] zero x = refl
  walk_over [] (suc more) x = refl
  walk_over (b ∷ bytes) (suc more) x = walk_over bytes more x
  walk_over (b ∷ bytes) zero x = after_reading bytes x (effect_at context (b ∷ bytes)) (λ more z. walk_over bytes more z)
