-- Texts that grow.
use Rattle.std.proofs.Common.{◌≡◌, List, ℕ, [], ◌++◌, ap, ◌∙◌, Result, Ok, Err, String, Global, if◌then◌else◌}
use Rattle.std.specs.Prelude.{OnOk}
use Rattle.std.specs.Result.{is_ok}
use Rattle.std.specs.Str.{chars, IsUtf8}
use Rattle.std.specs.String.{string_bytes}
use Rattle.std.proofs.lemmas.Str.{chars-append, chars-nil}
use Rattle.xls_strings.specs.Texts.{text_of}

-- what `push_str` leaves where there was memory
pub appended : {T E : Type 0} (r : Result T E) (old more new : List ℕ) → IsUtf8 old → new ≡ (if is_ok r then old ++ more else old)
    → OnOk r (chars new ≡ chars old ++ chars more)
appended (Ok x) old more new text e = ap chars e ∙ chars-append old more text
appended (Err x) old more new text e = tt

pub empty_text : (s : String Global) → string_bytes s ≡ [] → text_of s ≡ []
empty_text s e = ap chars e ∙ chars-nil
