-- A text in decimal that a text has gained.
use Rattle.std.proofs.Common.{◌≡◌, ℕ, List, ◌++◌, IsUtf8, Result, Ok, Err, OnOk, refl, ap, ◌∙◌, codes}
use Rattle.std.specs.Prelude.{if◌then◌else◌}
use Rattle.std.specs.Result.{is_ok}
use Rattle.std.specs.Str.{chars}
use Rattle.std.proofs.lemmas.Str.{chars-append}
use Rattle.xls_dates.specs.declared.numbers.Number.{Number}
use Rattle.xls_output.specs.Added.{AddsText}
use Rattle.xls_decimals.specs.Decimals.{IsDecimal}
use Rattle.xls_shown.specs.Shown.{Gains}
use Rattle.xls_cell_formats.specs.Numbers.{IsInDecimal}

pub gains_decimal : {T E : Type 0} (n : Number) (r : Result T E) (old new : List ℕ) → IsUtf8 old
    → OnOk r (AddsText (IsDecimal n) old new) → OnOk r (Gains (IsInDecimal n) (chars old) (chars new))
gains_decimal n (Ok x) old new utf8 h = (chars h.0, (h.0, h.1, refl), ap chars h.2 ∙ chars-append old h.0 utf8)
gains_decimal n (Err e) old new utf8 h = tt

-- a text that `push_str` has appended, which is this one
pub gains_pushed : {T E : Type 0} (r : Result T E) (old new pushed added : List ℕ) → IsUtf8 old → pushed ≡ added
    → new ≡ (if is_ok r then old ++ pushed else old) → OnOk r (Gains (λ s. s ≡ chars added) (chars old) (chars new))
gains_pushed (Ok x) old new pushed added utf8 is h =
    (chars added, refl, ap chars h ∙ chars-append old pushed utf8 ∙ ap (λ p. chars old ++ chars p) is)
gains_pushed (Err e) old new pushed added utf8 is h = tt

-- words of ASCII are their own characters
pub word_true : chars (codes "TRUE") ≡ codes "TRUE"
unfolding chars
word_true = refl

pub word_false : chars (codes "FALSE") ≡ codes "FALSE"
unfolding chars
word_false = refl
