-- Texts of a project, in UTF-8, each of their lines ended by LF.
use Rattle.std.specs.Prelude.{◌≡◌, ℕ, List, encode_utf8_all}
use Rattle.std.specs.Str.{chars}
use Rattle.xls_text.specs.declared.encoding.XlsEncoding.{XlsEncoding}
use Rattle.xls_text.specs.Pages.{decoded}
use Rattle.xls_vba.specs.Source.{IsSource}
use Rattle.xls_macros.specs.Newlines.{with_newlines}

-- a text with its lines ended so
abbrev pub lined : List ℕ → List ℕ
lined text = encode_utf8_all (with_newlines (chars text))

-- the source in the bytes of a module's stream
abbrev pub IsLinedSource : List ℕ → ℕ → XlsEncoding → List ℕ → Type 0
IsLinedSource stream offset page text = (source : List ℕ) × IsSource stream offset page source × (text ≡ lined source)

-- the text of the stream `PROJECT`, in the page of the project
abbrev pub listing_text : XlsEncoding → List ℕ → List ℕ
listing_text page bytes = lined (encode_utf8_all (decoded page bytes))
