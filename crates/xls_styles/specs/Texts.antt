-- Words, separated by one blank; the names of records, and the sentence for what is wrong with one. All are ASCII.
use Rattle.std.specs.Prelude.{ℕ, List, [], ◌∷◌, ◌++◌, Bool, if◌then◌else◌, codes, Option, Some, None}
use Rattle.std.specs.Fmt.{decimal}
use Rattle.xls_styles.specs.declared.damage.DamagedRecord.{DamagedRecord}
use Rattle.xls_styles.specs.declared.damage.DamagedRecord.TheVariants as names
use Rattle.xls_styles.specs.declared.damage.Flaw.{Flaw}
use Rattle.xls_styles.specs.declared.damage.Flaw.TheVariants.{Short}

-- a text with a word more
abbrev pub with_word : List ℕ → List ℕ → List ℕ
with_word [] word = word
with_word (c ∷ cs) word = (c ∷ cs) ++ 0x20 ∷ word

abbrev pub with_word_if : List ℕ → Option (List ℕ) → List ℕ
with_word_if text None = text
with_word_if text (Some word) = with_word text word

-- a text with those of some words that are there
abbrev pub with_words : List ℕ → List (Option (List ℕ)) → List ℕ
with_words text [] = text
with_words text (word ∷ words) = with_words (with_word_if text word) words

-- those of some words that are there
abbrev pub words : List (Option (List ℕ)) → List ℕ
words ws = with_words [] ws

abbrev pub word_if : Bool → List ℕ → Option (List ℕ)
word_if is word = if is then Some word else None

-- ---- damage

abbrev pub record_text : DamagedRecord → List ℕ
record_text names.Font = codes "Font"
record_text names.Xf = codes "XF"

abbrev pub flaw_text : Flaw → List ℕ
flaw_text (Short least found) = codes "shorter than " ++ (decimal least ++ (codes " bytes: " ++ decimal found))
