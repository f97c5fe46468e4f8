-- The laws.
use Rattle.std.specs.Prelude.{◌≡◌, List, ℕ, true, Ok}
use Rattle.xls_record.specs.declared.version.Biff.{Biff}
use Rattle.xls_ptg.specs.Tokens.{ptg_at}
use Rattle.xls_formula.specs.Context.{Context}
use Rattle.xls_formula.specs.Fold.{formula_text, tokens_at}
use Rattle.xls_shown_ptg.specs.Reading.{lifted}
use Rattle.xls_shown_ptg.specs.ShownTokens.{shown_at}
use Rattle.xls_shown_ptg.specs.declared.tokens.ShownPtg.TheVariants as shown
use Rattle.xls_formula_shown.specs.Scope.{Scope}
use Rattle.xls_formula_shown.specs.ShownFold.{shown_text}
use Rattle.xls_formula_laws.specs.Alike.{AreAlike, AreAlikeTokens}
use Rattle.xls_formula_laws.specs.Shared.{are_shared, is_shared}

-- a token that is shared is one token in both readings, of one size, or refused by one fault
abbrev pub TokensAgree : Type 0
TokensAgree = (biff : Biff) (bytes : List ℕ) → is_shared biff bytes ≡ true
    → shown_at biff bytes ≡ lifted (λ x. (shown.Known x.0, x.1)) (ptg_at biff bytes)

-- tokens that are shared, and alike by the exact reading, are alike in both
abbrev pub SharedAreAlike : Type 0
SharedAreAlike = (scope : Scope) (tokens : List ℕ) → are_shared scope tokens 0 ≡ true → AreAlikeTokens scope tokens 0

-- a formula each of whose tokens is alike has one text in both readings, or one first fault, whatever stands behind its tokens
abbrev pub TextsAgree : Type 0
TextsAgree = (context : Context) (scope : Scope) (rgce tokens extra : List ℕ) → AreAlike context scope → tokens_at rgce ≡ Ok tokens
    → AreAlikeTokens scope tokens 0 → shown_text scope tokens extra ≡ lifted (λ text. text) (formula_text context rgce)
