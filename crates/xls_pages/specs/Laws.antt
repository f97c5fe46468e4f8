-- What holds of texts in pages.
use Rattle.std.specs.Prelude.{◌≡◌, ℕ, ◌<◌, List, ◌∷◌}
use Rattle.xls_pages.specs.Double.{double_text, one_character, pair}
use Rattle.xls_pages.specs.declared.double.DoublePage.{DoublePage}

-- a byte below 80 behind one with which it is no pair stands for itself: no quote, comma or newline is lost
abbrev pub NoAsciiIsLost : Type 0
NoAsciiIsLost = (page : DoublePage) (b c : ℕ) (bytes : List ℕ) → c < 0x80 → pair page b c ≡ 0
    → double_text page (b ∷ c ∷ bytes) ≡ one_character page b ∷ c ∷ double_text page bytes
