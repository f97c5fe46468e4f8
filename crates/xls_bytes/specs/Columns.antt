-- Columns by letters: A to Z, then AA, AB, .. ZZ, AAA.
use Rattle.std.specs.Prelude.{◌≡◌, ℕ, zero, suc, ◌+◌, ◌-◌, ◌*◌, ◌/◌, ◌%◌, ◌^◌, ◌<◌, ◌≤◌, ◌⊎◌, List, [], ◌∷◌, ◌++◌, length}

-- one of A to Z
abbrev pub IsLetter : ℕ → Type 0
IsLetter code = (65 ≤ code) × (code ≤ 90)

-- a word of letters
abbrev pub IsWord : List ℕ → Type 0
IsWord [] = Unit {0}
IsWord (letter ∷ word) = IsLetter letter × IsWord word

-- its value in base 26, where A counts 1 and Z 26
abbrev pub word_value : List ℕ → ℕ
word_value [] = 0
word_value (letter ∷ word) = (letter - 64) * 26 ^ length word + word_value word

-- the name of a column, counted from 0: the word whose value is one more
pub record IsColumnName (column : ℕ) (word : List ℕ) : Type 0 where
  pub letters : IsWord word
  pub value : word_value word ≡ column + 1

-- the word of this value, from its last letter on; the first number bounds the letters
unfoldable pub word_of : ℕ → ℕ → List ℕ
word_of zero value = []
word_of (suc more) zero = []
word_of (suc more) (suc rest) = word_of more (rest / 26) ++ (65 + rest % 26) ∷ []

-- the name of a column
unfoldable pub column_name : ℕ → List ℕ
column_name column = word_of (column + 1) (column + 1)

-- of two words of one length, the first has the smaller letter where they first differ
abbrev pub IsEarlier : List ℕ → List ℕ → Type 0
IsEarlier (a ∷ v) (b ∷ w) = (a < b) ⊎ ((a ≡ b) × IsEarlier v w)
IsEarlier v w = ⊥

-- a column has exactly one name
abbrev pub HasOneName : ℕ → Type 0
HasOneName column = IsColumnName column (column_name column)
    × ((word : List ℕ) → IsColumnName column word → word ≡ column_name column)

-- different columns have different names
abbrev pub ColumnNamesDiffer : Type 0
ColumnNamesDiffer = (c d : ℕ) → column_name c ≡ column_name d → c ≡ d

-- a smaller column's name is shorter, or as long and earlier by its letters
abbrev pub NamesInOrder : Type 0
NamesInOrder = (c d : ℕ) → c < d → (length (column_name c) < length (column_name d))
    ⊎ ((length (column_name c) ≡ length (column_name d))
    × IsEarlier (column_name c) (column_name d))

-- a 32-bit column's name has at most seven letters
abbrev pub SevenLettersDo : Type 0
SevenLettersDo = (c : ℕ) → c < 2 ^ 32 → length (column_name c) ≤ 7
