-- The fields of texts, and of what is shown.
use Rattle.std.proofs.Common.{◌≡◌, ℕ, List, [], ◌++◌, IsUtf8, encode_utf8_all, Result, Ok, Err, OnOk, Bool, ap, refl, subst, sym, ◌∙◌}
use Rattle.std.specs.Str.{chars}
use Rattle.std.proofs.lemmas.Str.{chars-nil, encodes-chars}
use Rattle.xls_data.specs.Content as content
use Rattle.xls_data.specs.Content.{Content}
use Rattle.xls_output.specs.Added.{AddsText}
use Rattle.xls_shown.specs.Shown.{Gains}
use Rattle.xls_cell_formats.specs.Contents.{IsContentShown}
use Rattle.xls_readable.specs.Csv.{csv_field}
use Rattle.xls_tables.specs.Rows.{IsContentField, IsShownField}

-- the field of a text was appended
pub text_added : {X E : Type 0} (d : ℕ) (cs bytes old new : List ℕ) (r : Result X E) → bytes ≡ encode_utf8_all cs
    → OnOk r (new ≡ old ++ csv_field d bytes) → OnOk r (AddsText (IsContentField d (content.text cs)) old new)
text_added d cs bytes old new (Ok x) e p = (csv_field d bytes, (bytes, e, refl), p)
text_added d cs bytes old new (Err x) e p = tt

-- what is shown of a content was put into a text that was empty
pub shown_put : {X E : Type 0} (code : List ℕ) (is_1904 : Bool) (seen content : Content) (empty room : List ℕ) (r : Result X E)
    → seen ≡ content → empty ≡ [] → OnOk r (Gains (IsContentShown code is_1904 seen) (chars empty) (chars room))
    → OnOk r (Gains (IsContentShown code is_1904 content) [] (chars room))
shown_put code is_1904 seen content empty room (Ok x) same none (shown, is, e) =
    let nothing_before : chars empty ≡ [] = ap chars none ∙ chars-nil in
    (shown, subst (λ (c : Content). IsContentShown code is_1904 c shown) same is, e ∙ ap (λ (t : List ℕ). t ++ shown) nothing_before)
shown_put code is_1904 seen content empty room (Err x) same none p = tt

-- the field of what is shown was appended
pub shown_added : {X E : Type 0} (d : ℕ) (IsShown : List ℕ → Type 0) (room old new : List ℕ) (r : Result X E)
    → IsUtf8 room → Gains IsShown [] (chars room) → OnOk r (new ≡ old ++ csv_field d room)
    → OnOk r (AddsText (IsShownField d IsShown) old new)
shown_added d IsShown room old new (Ok x) utf8 (shown, is, e) p =
    (csv_field d room, (shown, is, ap (csv_field d) (sym (encodes-chars room utf8) ∙ ap encode_utf8_all e)), p)
shown_added d IsShown room old new (Err x) utf8 gains p = tt
