-- The texts of a formula in both readings.
use Rattle.std.proofs.Common.{◌≡◌, ℕ, zero, suc, List, [], ◌∷◌, refl, sym, ap, ◌∙◌, Result, Ok, Err}
use Rattle.std.specs.Prelude.{ℤ}
use Rattle.xls_record.specs.Reading as exactly
use Rattle.xls_record.specs.declared.error.XlsError.{XlsError}
use Rattle.xls_record.specs.declared.version.Biff.{Biff}
use Rattle.xls_text.specs.declared.encoding.XlsEncoding.{XlsEncoding}
use Rattle.xls_ptg.specs.Readings.{Reading}
use Rattle.xls_ptg.specs.Tokens.{ptg_at}
use Rattle.xls_formula.specs.Context.{Context}
use Rattle.xls_formula.specs.Effects as exact
use Rattle.xls_formula.specs.Fold.{fold_tokens, formula_text, grow, one_tree, rendered, tokens_at, walk_tokens}
use Rattle.xls_formula.specs.Functions.{Function}
use Rattle.xls_formula.specs.Tree.{Tree, render}
use Rattle.xls_formula.specs.declared.numbers.NumberStyle.{NumberStyle}
use Rattle.xls_formula.specs.declared.numbers.NumberStyle.TheVariants as styles
use Rattle.xls_shown_ptg.specs.Reading.{◌>>=◌, Shown, lifted}
use Rattle.xls_shown_ptg.specs.ShownTokens.{shown_at}
use Rattle.xls_shown_ptg.specs.declared.fault.Fault.{Fault}
use Rattle.xls_formula_shown.specs.Scope.{Scope}
use Rattle.xls_formula_shown.specs.ShownEffects as shows
use Rattle.xls_formula_shown.specs.ShownFold.{change, shown_text, walk, whole}
use Rattle.xls_formula_shown.specs.State.{State, start}
use Rattle.xls_formula_laws.specs.Alike.{AlikeFrom, AreAlike, AreAlikeTokens}
use Rattle.xls_formula_laws.specs.Laws.{TextsAgree}
use Rattle.xls_formula_laws.proofs.EffectLemmas.{Same, context_of, tokens_same}
use Rattle.xls_formula_laws.proofs.StepLemmas.{state_of, whole_is}

-- ---- all tokens

module _ (sheets : List (List ℕ)) (names : List (List ℕ × List ℕ)) (refs : List ℤ) (scope : Scope) where
  abbrev context : Context
  context = context_of sheets names refs scope

  abbrev sized : ℕ → Result exact.Effect XlsError → Result (exact.Effect × ℕ) XlsError
  sized more r = exactly.◌>>=◌ {Y = exact.Effect × ℕ} r (λ e. Ok (e, more))

  -- what is left of the operands, after a token and those behind it
  abbrev grown : List ℕ → List Tree → Result (exact.Effect × ℕ) XlsError → Result (List Tree) XlsError
  grown bytes ts read = exactly.◌>>=◌ read (λ e. exactly.◌>>=◌ (grow e.0 ts) (λ us. walk_tokens context grow bytes e.1 us))

  -- the rest of the tokens is walked alike
  abbrev Agrees : List ℕ → ℕ → Type 0
  Agrees bytes more = (extra : List ℕ) (ts : List Tree)
      → walk scope bytes more extra (state_of ts) ≡ lifted state_of (walk_tokens context grow bytes more ts)

  after_change : (bytes : List ℕ) (more : ℕ) (extra : List ℕ) (r : Result (List Tree) XlsError) (s : Result State Fault)
      → s ≡ lifted state_of r → Agrees bytes more
      → s >>= (λ t. walk scope bytes more extra t)
      ≡ lifted state_of (exactly.◌>>=◌ r (λ ts. walk_tokens context grow bytes more ts))
  after_change bytes more extra (Ok ts) s e rest =
      ap (λ (x : Result State Fault). x >>= (λ t. walk scope bytes more extra t)) e ∙ rest extra ts
  after_change bytes more extra (Err x) s e rest = ap (λ (x : Result State Fault). x >>= (λ t. walk scope bytes more extra t)) e

  after_effect : (bytes : List ℕ) (more : ℕ) (ts : List Tree) (r : Result exact.Effect XlsError) (s : Result (shows.Effect × List ℕ) Fault)
      → Same r s → Agrees bytes more
      → s >>= (λ f. change f.0 (state_of ts) >>= (λ t. walk scope bytes more f.1 t))
      ≡ lifted state_of (grown bytes ts (sized more r))
  after_effect bytes more ts (Ok e) (Ok f) h rest = after_change bytes more f.1 (grow e ts) (change f.0 (state_of ts)) (h ts) rest
  after_effect bytes more ts (Err e) (Err f) h rest = ap (λ x. Err x) h
  after_effect bytes more ts r s h rest = absurd h

  after_token : (bytes extra : List ℕ) (ts : List Tree) (r : Reading) (s : Shown) → AlikeFrom scope (λ n. AreAlikeTokens scope bytes n) r s
      → ((n : ℕ) → AreAlikeTokens scope bytes n → Agrees bytes n)
      → s >>= (λ y. shows.effect scope extra y.0 >>= (λ f. change f.0 (state_of ts) >>= (λ t. walk scope bytes y.1 f.1 t)))
      ≡ lifted state_of (grown bytes ts (exactly.◌>>=◌ r (λ x. sized x.1 (exact.effect context x.0))))
  after_token bytes extra ts (Ok x) (Ok y) h rest =
      ap (λ n. shows.effect scope extra y.0 >>= (λ f. change f.0 (state_of ts) >>= (λ t. walk scope bytes n f.1 t))) h.0
      ∙ after_effect bytes x.1 ts (exact.effect context x.0) (shows.effect scope extra y.0)
      (tokens_same sheets names refs scope extra x.0 y.0 h.1) (rest x.1 h.2)
  after_token bytes extra ts (Err e) (Err f) h rest = ap (λ x. Err x) h
  after_token bytes extra ts r s h rest = absurd h

  walks : (bytes : List ℕ) (more : ℕ) → AreAlikeTokens scope bytes more → Agrees bytes more
  walks [] more h extra ts = refl
  walks (b ∷ bytes) (suc more) h extra ts = walks bytes more h extra ts
  walks (b ∷ bytes) zero h extra ts =
      after_token bytes extra ts (ptg_at scope.biff (b ∷ bytes)) (shown_at scope.biff (b ∷ bytes)) h (λ n alike. walks bytes n alike)

  -- ---- the text

  after_walk : (r : Result (List Tree) XlsError) (s : Result State Fault) → s ≡ lifted state_of r
      → s >>= (λ t. whole t.front t.operands) ≡ lifted (λ text. text) (rendered (exactly.◌>>=◌ r one_tree))
  after_walk (Ok ts) s e = ap (λ (x : Result State Fault). x >>= (λ t. whole t.front t.operands)) e ∙ (whole_is ts ∙ as_text (one_tree ts))
    where
      as_text : (t : Result Tree XlsError) → lifted render t ≡ lifted (λ text. text) (rendered t)
      as_text (Ok t) = refl
      as_text (Err x) = refl
  after_walk (Err x) s e = ap (λ (x : Result State Fault). x >>= (λ t. whole t.front t.operands)) e

  texts : (tokens extra : List ℕ) → AreAlikeTokens scope tokens 0
      → shown_text scope tokens extra ≡ lifted (λ text. text) (rendered (exactly.◌>>=◌ (fold_tokens context tokens) one_tree))
  texts tokens extra h = after_walk (fold_tokens context tokens) (walk scope tokens zero extra start) (walks tokens zero h extra [])

  behind_count : (rgce tokens extra : List ℕ) → tokens_at rgce ≡ Ok tokens → AreAlikeTokens scope tokens 0
      → shown_text scope tokens extra ≡ lifted (λ text. text) (formula_text context rgce)
  behind_count rgce tokens extra are h =
      texts tokens extra h
      ∙ ap (λ (r : Result (List ℕ) XlsError). lifted (λ text. text) (rendered (exactly.◌>>=◌ r rest))) (sym are)
    where
      rest : List ℕ → Result Tree XlsError
      rest ts = exactly.◌>>=◌ (fold_tokens context ts) one_tree

-- ---- what both are read by

abbrev by_fields : (sheets : List (List ℕ)) (names : List (List ℕ × List ℕ)) (refs : List ℤ)
    → XlsEncoding → Biff → List Function → NumberStyle → Context
by_fields sheets names refs page biff functions numbers =
    record { sheets = sheets; names = names; refs = refs; page = page; biff = biff; functions = functions; numbers = numbers }

same_context : (context : Context) (scope : Scope) → AreAlike context scope
    → context_of context.sheets context.names context.refs scope ≡ context
same_context context scope h =
    let rest = by_fields context.sheets context.names context.refs in
    ap (λ x. rest x scope.biff scope.functions styles.Decimal) (sym h.page)
    ∙ (ap (λ x. rest context.page x scope.functions styles.Decimal) (sym h.biff)
    ∙ (ap (λ x. rest context.page context.biff x styles.Decimal) (sym h.functions)
    ∙ ap (λ x. rest context.page context.biff context.functions x) (sym h.numbers)))

pub texts_agree : TextsAgree
texts_agree context scope rgce tokens extra alike are h =
    behind_count context.sheets context.names context.refs scope rgce tokens extra are h
    ∙ ap (λ c. lifted (λ text. text) (formula_text c rgce)) (same_context context scope alike)
