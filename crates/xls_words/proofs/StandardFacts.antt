-- The commands of `xls`, as docs/xls.md has them, so that a wrong row in the definitions does not check.
use Rattle.std.proofs.Common.{◌≡◌, ℕ, Bool, true, false, List, [], ◌∷◌, None, map, refl, codes}
use Rattle.xls_beside.specs.declared.topics.Topic.TheVariants.{Hidden, Books, Comments, Links, Styles}
use Rattle.xls_hidden_cells.specs.declared.sight.Sight.{Sight}
use Rattle.xls_hidden_cells.specs.declared.sight.Sight.TheVariants.{All}
use Rattle.xls_readable.specs.declared.choices.FieldStyle.{FieldStyle}
use Rattle.xls_readable.specs.declared.choices.FieldStyle.TheVariants.{Values}
use Rattle.xls_readable.specs.declared.choices.Origin.{Origin}
use Rattle.xls_readable.specs.declared.choices.Origin.TheVariants.{Box}
use Rattle.xls_readable.specs.declared.choices.Listing.TheVariants.{Dump, Sheets, Formulas, Refs}
use Rattle.xls_readable.specs.declared.choices.SheetChoice.{SheetChoice}
use Rattle.xls_readable.specs.declared.choices.SheetChoice.TheVariants.{First}
use Rattle.xls_readable.specs.declared.choices.Table.{Table}
use Rattle.xls_readable.specs.declared.forms.Form.TheVariants.{Text, Json, Exact}
use Rattle.xls_words.specs.Requests.{ending_of, is_exact, is_option, plain_command, takes, word_of}
use Rattle.xls_words.specs.Words.{takes_many, word_text}
use Rattle.xls_words.specs.declared.request.Command.TheVariants as commands
use Rattle.xls_words.specs.declared.word.Word.{Word}
use Rattle.xls_words.specs.declared.word.Word.TheVariants as words

-- in the order of help
abbrev every_word : List Word
every_word = words.Lines Dump ∷ words.Lines Sheets ∷ words.Check ∷ words.Lines Formulas ∷ words.Lines Refs ∷ words.Beside Hidden
    ∷ words.Beside Books ∷ words.Beside Comments ∷ words.Beside Links ∷ words.Beside Styles
    ∷ words.Props ∷ words.Vba ∷ words.Macros ∷ words.Csv ∷ words.Remake ∷ words.Stream ∷ words.Streams ∷ []

pub known_words : map word_text every_word
    ≡ codes "dump" ∷ codes "sheets" ∷ codes "check" ∷ codes "formulas" ∷ codes "refs" ∷ codes "hidden" ∷ codes "books" ∷ codes "comments"
    ∷ codes "links" ∷ codes "styles" ∷ codes "props" ∷ codes "vba" ∷ codes "macros" ∷ codes "csv"
    ∷ codes "remake" ∷ codes "stream" ∷ codes "streams" ∷ []
known_words = refl

-- ---- how many files: none, one, two

pub known_many : map takes_many every_word
    ≡ true ∷ true ∷ true ∷ true ∷ true ∷ true ∷ true ∷ true ∷ true ∷ true ∷ true ∷ true ∷ true ∷ true ∷ false ∷ false ∷ false ∷ []
known_many = refl

pub known_none : map (λ w. takes w 0) every_word
    ≡ false ∷ false ∷ false ∷ false ∷ false ∷ false ∷ false ∷ false ∷ false ∷ false ∷ false ∷ false ∷ false ∷ false ∷ false ∷ false ∷ false ∷ []
known_none = refl

pub known_one : map (λ w. takes w 1) every_word
    ≡ true ∷ true ∷ true ∷ true ∷ true ∷ true ∷ true ∷ true ∷ true ∷ true ∷ true ∷ true ∷ true ∷ true ∷ true ∷ false ∷ true ∷ []
known_one = refl

pub known_two : map (λ w. takes w 2) every_word
    ≡ true ∷ true ∷ true ∷ true ∷ true ∷ true ∷ true ∷ true ∷ true ∷ true ∷ true ∷ true ∷ true ∷ true ∷ false ∷ false ∷ false ∷ []
known_two = refl

-- ---- without options

pub known_plain : map plain_command every_word
    ≡ commands.Lines Dump Text ∷ commands.Lines Sheets Text ∷ commands.Check ∷ commands.Lines Formulas Text ∷ commands.Lines Refs Text
    ∷ commands.Beside Hidden Text ∷ commands.Beside Books Text ∷ commands.Beside Comments Text ∷ commands.Beside Links Text
    ∷ commands.Beside Styles Text
    ∷ commands.Props ∷ commands.Vba ∷ commands.Macros Text
    ∷ commands.Csv First (record { delimiter = 0x2C; begins_with_mark = false; is_exact = false; style = Values; origin = Box }) All
    ∷ commands.Remake ∷ commands.Stream None ∷ commands.Streams ∷ []
known_plain = refl

-- only `-` makes an option of a word, and only with something after it
pub known_options : map is_option ([] ∷ codes "-" ∷ codes "--" ∷ codes "-0" ∷ codes "--json" ∷ codes "a-b" ∷ codes "+1" ∷ codes "/-" ∷ [])
    ≡ false ∷ false ∷ true ∷ true ∷ true ∷ false ∷ false ∷ false ∷ []
known_options = refl

-- ---- forms

pub known_exact : (s : SheetChoice) (d : ℕ) (m : Bool) (f : FieldStyle) (o : Origin) (sight : Sight) → map is_exact
    (commands.Lines Dump Exact ∷ commands.Lines Sheets Exact ∷ commands.Lines Formulas Exact ∷ commands.Lines Refs Exact
    ∷ commands.Csv s (record { delimiter = d; begins_with_mark = m; is_exact = true; style = f; origin = o }) sight ∷ [])
    ≡ true ∷ true ∷ true ∷ true ∷ true ∷ []
known_exact s d m f o sight = refl

pub known_readable : (s : SheetChoice) (d : ℕ) (m : Bool) (f : FieldStyle) (o : Origin) (sight : Sight) (path : _) → map is_exact
    (commands.Lines Dump Json ∷ commands.Lines Sheets Text ∷ commands.Lines Formulas Json ∷ commands.Lines Refs Text
    ∷ commands.Csv s (record { delimiter = d; begins_with_mark = m; is_exact = false; style = f; origin = o }) sight
    ∷ commands.Shown Text ∷ commands.Shown Json
    ∷ commands.Check ∷ commands.Beside Hidden Text ∷ commands.Beside Hidden Json ∷ commands.Props ∷ commands.Vba ∷ commands.Remake
    ∷ commands.Stream path ∷ commands.Streams ∷ commands.Macros Text ∷ commands.Macros Json ∷ [])
    ≡ false ∷ false ∷ false ∷ false ∷ false ∷ false ∷ false ∷ false ∷ false ∷ false ∷ false ∷ false ∷ false ∷ false ∷ false ∷ false ∷ false ∷ []
known_readable s d m f o sight path = refl

-- ---- endings of files

pub known_endings : (s : SheetChoice) (t : Table) (sight : Sight) (path : _) → map ending_of
    (commands.Lines Dump Text ∷ commands.Lines Sheets Exact ∷ commands.Lines Formulas Json ∷ commands.Lines Refs Json
    ∷ commands.Beside Hidden Text ∷ commands.Beside Hidden Json ∷ commands.Check ∷ commands.Props ∷ commands.Vba ∷ commands.Csv s t sight ∷ commands.Remake ∷ commands.Stream path ∷ commands.Streams
    ∷ commands.Shown Text ∷ commands.Shown Json ∷ commands.Macros Text ∷ commands.Macros Json ∷ [])
    ≡ codes "txt" ∷ codes "txt" ∷ codes "json" ∷ codes "json" ∷ codes "txt" ∷ codes "json"
    ∷ codes "txt" ∷ codes "txt" ∷ codes "txt" ∷ codes "csv"
    ∷ codes "txt" ∷ codes "txt" ∷ codes "txt" ∷ codes "txt" ∷ codes "json" ∷ codes "txt" ∷ codes "json" ∷ []
known_endings s t sight path = refl

-- a dump with what Excel shows is a dump, and has no sheet's number
pub known_shown : map word_of (commands.Shown Text ∷ commands.Shown Json ∷ []) ≡ words.Lines Dump ∷ words.Lines Dump ∷ []
known_shown = refl
