-- What the words of the command line ask for.
use Rattle.std.specs.Prelude.{◌≡◌, ◌⊎◌, ℕ, ◌≤◌, List, [], ◌∷◌, codes, map}
use Rattle.std.specs.Fmt.{decimal}
use Rattle.std.specs.Global.{Global}
use Rattle.std.specs.String.{string_bytes}
use Rattle.std.specs.declared.string.String.{String}
use Rattle.xls_command.specs.declared.command.Command.{Command}
use Rattle.xls_command.specs.declared.command.Command.TheVariants.{Dump, Sheets, Props, Check, Refs, Remake, Csv, Generate}

-- how many rows may be made
abbrev pub max_rows : ℕ
max_rows = 65536

-- a number of rows in decimal, without leading zeros
pub record IsRows (text : List ℕ) (n : ℕ) : Type 0 where
  pub least : 1 ≤ n
  pub most : n ≤ max_rows
  pub text_is : text ≡ decimal n

-- a digit other than 0 stands first
abbrev pub BeginsWell : List ℕ → Type 0
BeginsWell [] = ⊥
BeginsWell (b ∷ bs) = (49 ≤ b) × (b ≤ 57)

-- a word and the number after it
pub record IsGenerate (words : List (List ℕ)) (n : ℕ) : Type 0 where
  pub text : List ℕ
  pub rows : IsRows text n
  pub words_are : words ≡ codes "generate" ∷ text ∷ []

-- no word, or the command's
abbrev pub IsCommand : List (List ℕ) → Command → Type 0
IsCommand words Dump = (words ≡ []) ⊎ (words ≡ codes "dump" ∷ [])
IsCommand words Sheets = words ≡ codes "sheets" ∷ []
IsCommand words Props = words ≡ codes "props" ∷ []
IsCommand words Check = words ≡ codes "check" ∷ []
IsCommand words Refs = words ≡ codes "refs" ∷ []
IsCommand words Remake = words ≡ codes "remake" ∷ []
IsCommand words (Csv name) = words ≡ codes "csv" ∷ name.now ∷ []
IsCommand words (Generate n) = IsGenerate words n

-- the words are those of a command of which this holds
abbrev pub OfCommand : List (String Global) → (Command → Type 0) → Type 0
OfCommand words Holds = (c : Command) × IsCommand (map string_bytes words) c × Holds c

-- a number of rows is one that may be asked for
abbrev pub IsPossible : Command → Type 0
IsPossible (Generate n) = (1 ≤ n) × (n ≤ max_rows)
IsPossible c = Unit {0}
