-- A law over formulas that can be spelled.
use Rattle.std.specs.Prelude.{◌≡◌, ℕ, List, is_ok}
use Rattle.xls_formula_shown.specs.Scope.{Scope}
use Rattle.xls_formula_shown.specs.ShownFold.{shown_text}
use Rattle.xls_shown_refs.specs.Spelled.{functions, is_spelled}

-- where a formula stands, in which page its strings are, and what it names decide nothing
abbrev pub SpelledAnywhere : Type 0
SpelledAnywhere =
    (scope : Scope) (tokens extra : List ℕ) → scope.functions ≡ functions → is_ok (shown_text scope tokens extra) ≡ is_spelled scope.biff tokens extra
