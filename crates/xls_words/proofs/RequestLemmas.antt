-- The folder that some of the words name, and the command that the first one names.
use Rattle.std.proofs.Common.{rules, ◌≡◌, ℕ, true, List, [], ◌∷◌, Ok, Err, Some, None, Option, Result, IfOk, IfSome, MatchResult, inl, inr, refl, sym, ◌∙◌, ap, subst, if◌then◌else◌}
use Rattle.std.specs.Str.{bytes_eq}
use Rattle.xls_beside.specs.declared.topics.Topic.TheVariants.{Hidden, Books, Comments, Links, Styles}
use Rattle.xls_readable.specs.declared.choices.Listing.TheVariants.{Dump, Sheets, Formulas, Refs}
use Rattle.xls_words.specs.Requests.{AreWordsOf, IsNamedFolder, IsPlainRequest, are_plain}
use Rattle.xls_words.specs.Words.{word_text}
use Rattle.xls_words.specs.declared.displayed.Displayed.{Displayed}
use Rattle.xls_words.specs.declared.displayed.Displayed.TheVariants as displayed
use Rattle.xls_words.specs.declared.request.Folder.{Folder}
use Rattle.xls_words.specs.declared.request.Request.{Request}
use Rattle.xls_words.specs.declared.word.Word.{Word}
use Rattle.xls_words.specs.declared.word.Word.TheVariants as words

folder_behind : (word : List ℕ) (words : List (List ℕ)) (folder : Folder) → IsNamedFolder words folder → IsNamedFolder (word ∷ words) folder
folder_behind word words folder p = search rules

some_behind : (word : List ℕ) (words : List (List ℕ)) (folder : Option Folder) → IfSome folder (IsNamedFolder words) → IfSome folder (IsNamedFolder (word ∷ words))
some_behind word words None p = p
some_behind word words (Some folder) p = folder_behind word words folder p

-- a word more names it still
pub named_behind : (word : List ℕ) (words : List (List ℕ)) (request : Result Request Displayed)
    → IfOk request (λ r. IfSome r.out (IsNamedFolder words)) → IfOk request (λ r. IfSome r.out (IsNamedFolder (word ∷ words)))
named_behind word words (Err e) p = p
named_behind word words (Ok r) p = some_behind word words r.out p

-- ---- commands

abbrev every : List Word
every = words.Lines Dump ∷ words.Lines Sheets ∷ words.Check ∷ words.Lines Formulas ∷ words.Lines Refs ∷ words.Beside Hidden
    ∷ words.Beside Books ∷ words.Beside Comments ∷ words.Beside Links ∷ words.Beside Styles
    ∷ words.Props ∷ words.Vba ∷ words.Macros ∷ words.Csv ∷ words.Remake ∷ words.Stream ∷ words.Streams ∷ []

-- the first of a name
abbrev first_named : List Word → List ℕ → Option Word
first_named [] name = None
first_named (w ∷ ws) name = if bytes_eq (word_text w) name then Some w else first_named ws name

named : (w : Word) → first_named every (word_text w) ≡ Some w
named (words.Lines Dump) = refl
named (words.Lines Sheets) = refl
named (words.Lines Formulas) = refl
named (words.Lines Refs) = refl
named words.Check = refl
named (words.Beside Hidden) = refl
named (words.Beside Books) = refl
named (words.Beside Comments) = refl
named (words.Beside Links) = refl
named (words.Beside Styles) = refl
named words.Props = refl
named words.Vba = refl
named words.Macros = refl
named words.Csv = refl
named words.Remake = refl
named words.Stream = refl
named words.Streams = refl

some_same : (v w : Word) → Some v ≡ Some w → v ≡ w
some_same v w e = search rules

-- commands of one name are one
same_command : (v w : Word) → word_text v ≡ word_text w → v ≡ w
same_command v w e = some_same v w (sym (named v) ∙ ap (first_named every) e ∙ named w)

-- what is said of the words behind a command's name holds of the words that any command is asked by
pub plain_behind : (found : Word) (first : List ℕ) (rest : List (List ℕ)) (request : Result Request Displayed) → word_text found ≡ first
    → (are_plain found rest ≡ true → MatchResult request (IsPlainRequest found rest) (λ s. s ≡ displayed.Memory))
    → (word : Word) (paths : List (List ℕ)) → AreWordsOf word paths (first ∷ rest)
    → are_plain word paths ≡ true → MatchResult request (IsPlainRequest word paths) (λ s. s ≡ displayed.Memory)
plain_behind found first rest request is plain word paths (inl (name, same)) ok =
    let e : found ≡ word = same_command found word (is ∙ sym name) in
    let p : are_plain found rest ≡ true =
    subst (λ ps. are_plain found ps ≡ true) same (subst (λ w. are_plain w paths ≡ true) (sym e) ok) in
    subst (λ ps. MatchResult request (IsPlainRequest word ps) (λ s. s ≡ displayed.Memory)) (sym same)
    (subst (λ w. MatchResult request (IsPlainRequest w rest) (λ s. s ≡ displayed.Memory)) e (plain p))
plain_behind found first rest request is plain word paths (inr (none, asks, dumps, all)) ok = absurd (none found is)
