-- CodePage ([MS-XLS] 2.4.52): the number of a code page in bytes 0 and 1.
use Rattle.std.specs.Prelude.{ℕ, List, take, Result}
use Rattle.std.specs.Result.{result_map_both}
use Rattle.xls_bytes.specs.Numbers.{le}
use Rattle.xls_text.specs.Pages.{page_of}
use Rattle.xls_text.specs.declared.encoding.XlsEncoding.{XlsEncoding}
use Rattle.xls_stream.specs.declared.part.Part.TheVariants as parts
use Rattle.xls_record.specs.declared.error.XlsError.{XlsError}
use Rattle.xls_record.specs.declared.error.XlsError.TheVariants.{Cfb}
use Rattle.xls_record.specs.Reading.{◌>>◌, at_least}

-- a page that is kept
abbrev pub code_page_at : List ℕ → Result XlsEncoding XlsError
code_page_at body = do
  at_least 2 parts.CodePage body
  result_map_both (λ page. page) (λ e. Cfb e) (page_of (le (take 2 body)))
