-- The names of output files, which no slash stands in.
use Rattle.std.proofs.Common.{◌≡◌, ◌≢◌, ◌≤◌, ℕ, ◌==◌, ◌||◌, Bool, true, false, List, [], ◌∷◌, length, refl, rules, subst}
use Rattle.std.proofs.lemmas.List.Elements.{All-cons, All-nil, All-weaker}
use Rattle.xls_files.specs.Paths.{HasNoSlash}
use Rattle.xls_beside.specs.declared.topics.Topic.TheVariants.{Hidden, Books, Comments, Links, Styles}
use Rattle.xls_readable.specs.declared.choices.Listing.TheVariants.{Dump, Sheets, Formulas, Refs}
use Rattle.xls_readable.specs.declared.forms.Form.TheVariants.{Text, Json, Exact}
use Rattle.xls_tables.specs.FileNames.{IsSafeByte, IsSafeName}
use Rattle.xls_words.specs.Requests.{ending_of}
use Rattle.xls_words.specs.Words.{word_text}
use Rattle.xls_words.specs.declared.request.Command.{Command}
use Rattle.xls_words.specs.declared.request.Command.TheVariants as commands
use Rattle.xls_words.specs.declared.word.Word.{Word}
use Rattle.xls_words.specs.declared.word.Word.TheVariants as words

abbrev has_slash : List ℕ → Bool
has_slash [] = false
has_slash (b ∷ bs) = (b == 0x2F) || has_slash bs

other : (b : ℕ) (t : Bool) → (b == 0x2F) ≡ false → b ≢ 0x2F
other b t h e = let same : (0x2F == 0x2F) ≡ false = subst (λ x. (x == 0x2F) ≡ false) e h in absurd (cc same)

with_first : (b : ℕ) (bs : List ℕ) (t : Bool) → (b == 0x2F) ≡ t → (has_slash bs ≡ false → HasNoSlash bs) → (t || has_slash bs) ≡ false → HasNoSlash (b ∷ bs)
with_first b bs true is others h = absurd (cc h)
with_first b bs false is others h = All-cons (λ c. c ≢ 0x2F) b bs (other b false is) (others h)

no_slash : (name : List ℕ) → has_slash name ≡ false → HasNoSlash name
no_slash [] h = All-nil (λ b. b ≢ 0x2F)
no_slash (b ∷ bs) h = with_first b bs (b == 0x2F) refl (no_slash bs) h

pub word-has-no-slash : (word : Word) → HasNoSlash (word_text word)
word-has-no-slash (words.Lines Dump) = no_slash (word_text (words.Lines Dump)) refl
word-has-no-slash (words.Lines Sheets) = no_slash (word_text (words.Lines Sheets)) refl
word-has-no-slash (words.Lines Formulas) = no_slash (word_text (words.Lines Formulas)) refl
word-has-no-slash (words.Lines Refs) = no_slash (word_text (words.Lines Refs)) refl
word-has-no-slash words.Check = no_slash (word_text words.Check) refl
word-has-no-slash (words.Beside Hidden) = no_slash (word_text (words.Beside Hidden)) refl
word-has-no-slash (words.Beside Books) = no_slash (word_text (words.Beside Books)) refl
word-has-no-slash (words.Beside Comments) = no_slash (word_text (words.Beside Comments)) refl
word-has-no-slash (words.Beside Links) = no_slash (word_text (words.Beside Links)) refl
word-has-no-slash (words.Beside Styles) = no_slash (word_text (words.Beside Styles)) refl
word-has-no-slash words.Props = no_slash (word_text words.Props) refl
word-has-no-slash words.Vba = no_slash (word_text words.Vba) refl
word-has-no-slash words.Macros = no_slash (word_text words.Macros) refl
word-has-no-slash words.Csv = no_slash (word_text words.Csv) refl
word-has-no-slash words.Remake = no_slash (word_text words.Remake) refl
word-has-no-slash words.Stream = no_slash (word_text words.Stream) refl
word-has-no-slash words.Streams = no_slash (word_text words.Streams) refl

-- an ending has three letters or more
abbrev IsGood : List ℕ → Type 0
IsGood ending = HasNoSlash ending × (2 ≤ length ending)

good : (word : List ℕ) → has_slash word ≡ false → 2 ≤ length word → IsGood word
good word free long = (no_slash word free, long)

pub ending-is-good : (command : Command) → HasNoSlash (ending_of command) × (2 ≤ length (ending_of command))
ending-is-good (commands.Lines Dump Text) = good (ending_of (commands.Lines Dump Text)) refl (search rules)
ending-is-good (commands.Lines Sheets Text) = good (ending_of (commands.Lines Sheets Text)) refl (search rules)
ending-is-good (commands.Lines Formulas Text) = good (ending_of (commands.Lines Formulas Text)) refl (search rules)
ending-is-good (commands.Lines Refs Text) = good (ending_of (commands.Lines Refs Text)) refl (search rules)
ending-is-good (commands.Lines Dump Exact) = good (ending_of (commands.Lines Dump Exact)) refl (search rules)
ending-is-good (commands.Lines Sheets Exact) = good (ending_of (commands.Lines Sheets Exact)) refl (search rules)
ending-is-good (commands.Lines Formulas Exact) = good (ending_of (commands.Lines Formulas Exact)) refl (search rules)
ending-is-good (commands.Lines Refs Exact) = good (ending_of (commands.Lines Refs Exact)) refl (search rules)
ending-is-good (commands.Lines lines Json) = good (ending_of (commands.Lines lines Json)) refl (search rules)
ending-is-good (commands.Shown Text) = good (ending_of (commands.Shown Text)) refl (search rules)
ending-is-good (commands.Shown Json) = good (ending_of (commands.Shown Json)) refl (search rules)
ending-is-good (commands.Shown Exact) = good (ending_of (commands.Shown Exact)) refl (search rules)
ending-is-good commands.Check = good (ending_of commands.Check) refl (search rules)
ending-is-good (commands.Beside Hidden Text) = good (ending_of (commands.Beside Hidden Text)) refl (search rules)
ending-is-good (commands.Beside Books Text) = good (ending_of (commands.Beside Books Text)) refl (search rules)
ending-is-good (commands.Beside Comments Text) = good (ending_of (commands.Beside Comments Text)) refl (search rules)
ending-is-good (commands.Beside Links Text) = good (ending_of (commands.Beside Links Text)) refl (search rules)
ending-is-good (commands.Beside Styles Text) = good (ending_of (commands.Beside Styles Text)) refl (search rules)
ending-is-good (commands.Beside Hidden Json) = good (ending_of (commands.Beside Hidden Json)) refl (search rules)
ending-is-good (commands.Beside Books Json) = good (ending_of (commands.Beside Books Json)) refl (search rules)
ending-is-good (commands.Beside Comments Json) = good (ending_of (commands.Beside Comments Json)) refl (search rules)
ending-is-good (commands.Beside Links Json) = good (ending_of (commands.Beside Links Json)) refl (search rules)
ending-is-good (commands.Beside Styles Json) = good (ending_of (commands.Beside Styles Json)) refl (search rules)
ending-is-good (commands.Beside Hidden Exact) = good (ending_of (commands.Beside Hidden Exact)) refl (search rules)
ending-is-good (commands.Beside Books Exact) = good (ending_of (commands.Beside Books Exact)) refl (search rules)
ending-is-good (commands.Beside Comments Exact) = good (ending_of (commands.Beside Comments Exact)) refl (search rules)
ending-is-good (commands.Beside Links Exact) = good (ending_of (commands.Beside Links Exact)) refl (search rules)
ending-is-good (commands.Beside Styles Exact) = good (ending_of (commands.Beside Styles Exact)) refl (search rules)
ending-is-good commands.Props = good (ending_of commands.Props) refl (search rules)
ending-is-good commands.Vba = good (ending_of commands.Vba) refl (search rules)
ending-is-good (commands.Macros Text) = good (ending_of (commands.Macros Text)) refl (search rules)
ending-is-good (commands.Macros Json) = good (ending_of (commands.Macros Json)) refl (search rules)
ending-is-good (commands.Macros Exact) = good (ending_of (commands.Macros Exact)) refl (search rules)
ending-is-good (commands.Csv choice table sight) = good (ending_of (commands.Csv choice table sight)) refl (search rules)
ending-is-good commands.Remake = good (ending_of commands.Remake) refl (search rules)
ending-is-good (commands.Stream path) = good (ending_of (commands.Stream path)) refl (search rules)
ending-is-good commands.Streams = good (ending_of commands.Streams) refl (search rules)

-- a safe name has none
or_true : (s : Bool) → (s || true) ≡ false → ⊥
or_true true h = cc h
or_true false h = cc h

safe-byte : (b : ℕ) (s t : Bool) → (b == 0x2F) ≡ t → (s || t) ≡ false → b ≢ 0x2F
safe-byte b s true is h = absurd (or_true s h)
safe-byte b s false is h = other b false is

pub safe-has-no-slash : (name : List ℕ) → IsSafeName name → HasNoSlash name
safe-has-no-slash name safe = All-weaker IsSafeByte (λ b. b ≢ 0x2F) (λ b is. safe-byte b (b == 0) (b == 0x2F) refl is) name safe
