-- What the words of the command line ask for.
use Rattle.std.specs.Prelude.{◌≡◌, ◌⊎◌, ◌==◌, nat_lt, ℕ, Bool, true, false, None, List, [], ◌∷◌, length, map, codes, not, ◌&&◌, ◌||◌}
use Rattle.xls_hidden_cells.specs.declared.sight.Sight.TheVariants.{All}
use Rattle.xls_readable.specs.Choices.{IsNumbered}
use Rattle.xls_readable.specs.declared.choices.FieldStyle.TheVariants.{Values}
use Rattle.xls_readable.specs.declared.choices.Origin.TheVariants.{Box}
use Rattle.xls_readable.specs.declared.choices.Listing.TheVariants as listing
use Rattle.xls_readable.specs.declared.choices.SheetChoice.TheVariants.{First}
use Rattle.xls_readable.specs.declared.forms.Form.{Form}
use Rattle.xls_readable.specs.declared.forms.Form.TheVariants.{Text, Json, Exact}
use Rattle.xls_words.specs.Words.{ending_text, file_count, word_text}
use Rattle.xls_words.specs.declared.word.FileCount.{FileCount}
use Rattle.xls_words.specs.declared.word.FileCount.TheVariants.{Many, One, OneAndPath}
use Rattle.std.specs.List.{ends_with}
use Rattle.std.specs.Str.{bytes_eq}
use Rattle.xls_words.specs.declared.request.Files.{Files}
use Rattle.xls_words.specs.declared.request.Files.TheVariants as files
use Rattle.xls_words.specs.declared.request.Folder.{Folder}
use Rattle.xls_words.specs.declared.request.Passwords.{Passwords}
use Rattle.xls_words.specs.declared.request.Request.{Request}
use Rattle.xls_words.specs.declared.word.Word.{Word}
use Rattle.xls_words.specs.declared.word.Word.TheVariants as words
use Rattle.xls_words.specs.declared.request.Command.{Command}
use Rattle.xls_words.specs.declared.request.Command.TheVariants as commands

-- the name of a command
abbrev pub word_of : Command → Word
word_of (commands.Lines lines form) = words.Lines lines
word_of (commands.Shown form) = words.Lines listing.Dump
word_of commands.Check = words.Check
word_of (commands.Beside topic form) = words.Beside topic
word_of commands.Props = words.Props
word_of commands.Vba = words.Vba
word_of (commands.Macros form) = words.Macros
word_of (commands.Csv choice t sight) = words.Csv
word_of commands.Remake = words.Remake
word_of (commands.Stream p) = words.Stream
word_of commands.Streams = words.Streams

-- whether numbers are written as the workbook has them
abbrev pub is_exact_form : Form → Bool
is_exact_form Text = false
is_exact_form Json = false
is_exact_form Exact = true

abbrev pub is_exact : Command → Bool
is_exact (commands.Lines lines form) = is_exact_form form
is_exact (commands.Shown form) = false
is_exact (commands.Csv choice t sight) = t.is_exact
is_exact commands.Check = false
is_exact (commands.Beside topic form) = false
is_exact commands.Props = false
is_exact commands.Vba = false
is_exact (commands.Macros form) = false
is_exact commands.Remake = false
is_exact (commands.Stream path) = false
is_exact commands.Streams = false

-- the ending of the name of a text's file: that of its command, but for objects of JSON
abbrev pub ending_in : Form → List ℕ → List ℕ
ending_in Json ending = codes "json"
ending_in Text ending = ending
ending_in Exact ending = ending

abbrev pub ending_of : Command → List ℕ
ending_of (commands.Lines lines form) = ending_in form (ending_text (words.Lines lines))
ending_of (commands.Shown form) = ending_in form (ending_text (words.Lines listing.Dump))
ending_of (commands.Beside topic form) = ending_in form (ending_text (words.Beside topic))
ending_of (commands.Macros form) = ending_in form (ending_text words.Macros)
ending_of command = ending_text (word_of command)

-- the words that ask for help or the version in the place of a command
abbrev pub IsAsking : List ℕ → Type 0
IsAsking first = (first ≡ codes "help") ⊎ (first ≡ codes "version")

-- the first word names the command, or it names none and the command is dump
abbrev pub IsAsked : List (List ℕ) → Word → Type 0
IsAsked [] word = ⊥
IsAsked (first ∷ others) word =
    (word_text word ≡ first) ⊎ (((other : Word) → word_text other ≡ first → ⊥) × (word ≡ words.Lines listing.Dump))

-- a sheet that is asked for by its number has one
abbrev pub CommandHasNumber : Command → Type 0
CommandHasNumber (commands.Csv choice t sight) = IsNumbered choice
CommandHasNumber (commands.Lines lines form) = Unit {0}
CommandHasNumber (commands.Shown form) = Unit {0}
CommandHasNumber commands.Check = Unit {0}
CommandHasNumber (commands.Beside topic form) = Unit {0}
CommandHasNumber commands.Props = Unit {0}
CommandHasNumber commands.Vba = Unit {0}
CommandHasNumber (commands.Macros form) = Unit {0}
CommandHasNumber commands.Remake = Unit {0}
CommandHasNumber (commands.Stream p) = Unit {0}
CommandHasNumber commands.Streams = Unit {0}

-- the pages that are read
abbrev pub IsPage : ℕ → Type 0
IsPage n = (n ≡ 1200) ⊎ ((n ≡ 1252) ⊎ ((n ≡ 28_591) ⊎ (n ≡ 65_001)))

-- ---- words without options

-- the words that a command is asked by: those after its name, or all, where the first is no name, asks for no help, and
-- the command is dump
abbrev pub AreWordsOf : Word → List (List ℕ) → List (List ℕ) → Type 0
AreWordsOf word others [] = ⊥
AreWordsOf word others (first ∷ rest) =
    ((word_text word ≡ first) × (others ≡ rest))
    ⊎ (((other : Word) → word_text other ≡ first → ⊥) × (IsAsking first → ⊥)
    × (word ≡ words.Lines listing.Dump) × (others ≡ first ∷ rest))

-- a `-` with something after it; `-` alone is standard input
abbrev pub is_option : List ℕ → Bool
is_option (c ∷ d ∷ cs) = c == 0x2D
is_option _ = false

abbrev pub has_no_option : List (List ℕ) → Bool
has_no_option [] = true
has_no_option (word ∷ others) = not (is_option word) && has_no_option others

-- whether so many files are as many as a command reads; behind one a path may stand
abbrev pub are_counted : FileCount → ℕ → Bool
are_counted Many n = nat_lt 0 n
are_counted One n = n == 1
are_counted OneAndPath n = false

abbrev pub takes : Word → ℕ → Bool
takes word n = are_counted (file_count word) n

-- files alone, and as many as the command takes
abbrev pub are_plain : Word → List (List ℕ) → Bool
are_plain word paths = has_no_option paths && takes word (length paths)

-- the command that has no options
abbrev pub plain_command : Word → Command
plain_command (words.Lines lines) = commands.Lines lines Text
plain_command words.Check = commands.Check
plain_command (words.Beside topic) = commands.Beside topic Text
plain_command words.Props = commands.Props
plain_command words.Vba = commands.Vba
plain_command words.Macros = commands.Macros Text
plain_command words.Csv =
    commands.Csv First (record { delimiter = 0x2C; begins_with_mark = false; is_exact = false; style = Values; origin = Box }) All
plain_command words.Remake = commands.Remake
plain_command words.Stream = commands.Stream None
plain_command words.Streams = commands.Streams

-- these files, by name and in order
abbrev pub AreNamed : List (List ℕ) → Files → Type 0
AreNamed paths (files.Named names) = map (λ name. name.now) names.items ≡ paths
AreNamed paths (files.Listed list by_nul) = ⊥

-- ---- where options' values come from

abbrev pub is_among : List ℕ → List (List ℕ) → Bool
is_among text [] = false
is_among text (word ∷ words) = bytes_eq word text || is_among text words

-- a word ends so: it is the text, or an option with it
abbrev pub ends_one : List ℕ → List (List ℕ) → Bool
ends_one text [] = false
ends_one text (word ∷ words) = ends_with ◌==◌ word text || ends_one text words

-- the folder for texts was named, and files that exist are written over only where that was said
abbrev pub IsNamedFolder : List (List ℕ) → Folder → Type 0
IsNamedFolder words folder =
    (ends_one folder.path.now words ≡ true) × (folder.writes_over ≡ true → is_among (codes "--force") words ≡ true)

-- ---- requests

abbrev pub no_passwords : Passwords
no_passwords = record { given = None; list = None }

-- a command without options over these files, and nothing else
pub record IsPlainRequest (word : Word) (paths : List (List ℕ)) (request : Request) : Type 0 where
  pub command : request.command ≡ plain_command word
  pub files : AreNamed paths request.files
  pub json : request.tells_json ≡ false
  pub quiet : request.is_quiet ≡ false
  pub page : request.page ≡ None
  pub out : request.out ≡ None
  pub passwords : request.passwords ≡ no_passwords
