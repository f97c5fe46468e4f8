-- Texts by their characters and their bytes.
use Rattle.std.proofs.Common.{◌≡◌, ℕ, List, [], sym, ap, ◌∙◌}
use Rattle.std.specs.Prelude.{encode_utf8_all}
use Rattle.std.specs.Str.{chars, IsUtf8}
use Rattle.std.proofs.lemmas.Str.{encodes-chars}
use Rattle.xls_data.specs.declared.numeric.Numeric.TheVariants as numbers
use Rattle.xls_view.specs.Values.{lent_content, value_text as characters_in}
use Rattle.xls_view.specs.declared.value.CellValue.{CellValue}
use Rattle.xls_view.specs.declared.value.CellValue.TheVariants as values
use Rattle.xls_arrays.specs.Values.{content_text}

-- the bytes of the characters of a text
pub encodes : (text : List ℕ) → IsUtf8 text → encode_utf8_all (chars text) ≡ text
encodes text u = encodes-chars text u

-- likewise of a text that was lent
pub encoded-as : (text bytes : List ℕ) → IsUtf8 text → text ≡ bytes → text ≡ encode_utf8_all (chars bytes)
encoded-as text bytes u is = sym (encodes text u) ∙ ap (λ bs. encode_utf8_all (chars bs)) is

none-laid : (bytes : List ℕ) → IsUtf8 bytes → chars bytes ≡ [] → bytes ≡ []
none-laid bytes u e = sym (encodes bytes u) ∙ ap encode_utf8_all e

-- the text of a cell's value
pub text-laid : (bytes : List ℕ) → IsUtf8 bytes → (v : CellValue) → chars bytes ≡ characters_in (lent_content v)
    → bytes ≡ content_text (lent_content v)
text-laid bytes u (values.Number (numbers.Int n)) e = none-laid bytes u e
text-laid bytes u (values.Number (numbers.Float n)) e = none-laid bytes u e
text-laid bytes u (values.Number (numbers.DateTime n epoch)) e = none-laid bytes u e
text-laid bytes u (values.Number (numbers.TimeDelta n epoch)) e = none-laid bytes u e
text-laid bytes u (values.Bool b) e = none-laid bytes u e
text-laid bytes u (values.Error x) e = none-laid bytes u e
text-laid bytes u (values.Shared s) e = sym (encodes bytes u) ∙ ap encode_utf8_all e
text-laid bytes u (values.Encoded s) e = sym (encodes bytes u) ∙ ap encode_utf8_all e
text-laid bytes u values.Empty e = none-laid bytes u e
