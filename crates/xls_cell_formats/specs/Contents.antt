-- What Excel shows of a cell's content under the code of its format.
use Rattle.std.specs.Prelude.{◌≡◌, ℕ, Bool, if◌then◌else◌, List, [], codes}
use Rattle.std.specs.Str.{chars}
use Rattle.xls_dates.specs.declared.numbers.Number.TheVariants.{Whole}
use Rattle.xls_data.specs.Content.{Content, int, float, text, truth, date, iso_date, iso_duration, failure, nothing}
use Rattle.xls_data.specs.Errors.{error_text}
use Rattle.xls_shown.specs.Shown.{text_shown}
use Rattle.xls_cell_formats.specs.Numbers.{IsNumberShown}

-- the word of a truth value
abbrev pub truth_word : Bool → List ℕ
truth_word b = if b then codes "TRUE" else codes "FALSE"

-- numbers, dates and durations by their numbers; texts, and truth values by their words, by the section for texts;
-- an error by its name, whatever the code; and nothing of a blank
abbrev pub IsContentShown : List ℕ → Bool → Content → List ℕ → Type 0
IsContentShown code is_1904 (int n) shown = IsNumberShown code is_1904 (Whole n) shown
IsContentShown code is_1904 (float n) shown = IsNumberShown code is_1904 n shown
IsContentShown code is_1904 (date d) shown = IsNumberShown code is_1904 d.number shown
IsContentShown code is_1904 (text t) shown = shown ≡ text_shown code t
IsContentShown code is_1904 (iso_date t) shown = shown ≡ text_shown code t
IsContentShown code is_1904 (iso_duration t) shown = shown ≡ text_shown code t
IsContentShown code is_1904 (truth b) shown = shown ≡ text_shown code (truth_word b)
IsContentShown code is_1904 (failure e) shown = shown ≡ chars (error_text e)
IsContentShown code is_1904 nothing shown = shown ≡ []
