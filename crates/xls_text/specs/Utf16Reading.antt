-- How 16-bit units read as UTF-16 (the Unicode Standard, 3.9), where a surrogate that is in no pair
-- is U+FFFD.
use Rattle.std.specs.Prelude.{◌≡◌, ℕ, ◌+◌, ◌-◌, ◌*◌, ◌<◌, ◌≤◌, ◌⊎◌, List, [], ◌∷◌}
use Rattle.std.specs.Char.Utf16.{utf16_lossy_chars}

-- the first unit of a pair, and the second
abbrev pub IsHigh : ℕ → Type 0
IsHigh unit = (0xD800 ≤ unit) × (unit < 0xDC00)

abbrev pub IsLow : ℕ → Type 0
IsLow unit = (0xDC00 ≤ unit) × (unit < 0xE000)

-- the units begin with the second unit of a pair
abbrev pub StartsLow : List ℕ → Type 0
StartsLow [] = ⊥
StartsLow (unit ∷ units) = IsLow unit

-- a unit that is no surrogate is its own character
pub record TakesPlain (unit : ℕ) (units : List ℕ) (c : ℕ) (rest : List ℕ) : Type 0 where
  pub plain : (unit < 0xD800) ⊎ (0xE000 ≤ unit)
  pub char : c ≡ unit
  pub following : rest ≡ units

-- two units of a pair are one character
pub record TakesPair (high : ℕ) (units : List ℕ) (c : ℕ) (rest : List ℕ) : Type 0 where
  pub is_high : IsHigh high
  pub low : ℕ
  pub is_low : IsLow low
  pub char : c ≡ 0x10000 + (high - 0xD800) * 0x400 + (low - 0xDC00)
  pub following : units ≡ low ∷ rest

-- every other surrogate is U+FFFD
pub record TakesLone (unit : ℕ) (units : List ℕ) (c : ℕ) (rest : List ℕ) : Type 0 where
  pub surrogate : (0xD800 ≤ unit) × (unit < 0xE000)
  pub alone : IsHigh unit → ¬ (StartsLow units)
  pub char : c ≡ 0xFFFD
  pub following : rest ≡ units

-- the first character, and the units after it
abbrev pub TakesCodePoint : List ℕ → ℕ → List ℕ → Type 0
TakesCodePoint [] c rest = ⊥
TakesCodePoint (unit ∷ units) c rest =
    TakesPlain unit units c rest ⊎ (TakesPair unit units c rest ⊎ TakesLone unit units c rest)

-- the units read as these characters
abbrev pub ReadsUtf16 : List ℕ → List ℕ → Type 0
ReadsUtf16 units [] = units ≡ []
ReadsUtf16 units (c ∷ cs) = (rest : List ℕ) × TakesCodePoint units c rest × ReadsUtf16 rest cs

-- units read so, and as nothing else, as std's lossy UTF-16
abbrev pub HasOneUtf16Reading : List ℕ → Type 0
HasOneUtf16Reading units = ReadsUtf16 units (utf16_lossy_chars units)
    × ((cs : List ℕ) → ReadsUtf16 units cs → cs ≡ utf16_lossy_chars units)
