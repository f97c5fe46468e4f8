-- The source of a module ([MS-OVBA] 2.3.4.3 ModuleStream): a compressed container from the text
-- offset to the end of the module's stream, in the project's code page.
use Rattle.std.specs.Prelude.{◌≡◌, ◌≤◌, ◌<◌, ℕ, List, length, drop, encode_utf8_all}
use Rattle.xls_text.specs.declared.encoding.XlsEncoding.{XlsEncoding}
use Rattle.xls_text.specs.Pages.{decoded}
use Rattle.xls_vba.specs.declared.compression_error.OvbaError.{OvbaError}
use Rattle.xls_vba.specs.declared.compression_error.OvbaError.TheVariants as errors
use Rattle.xls_vba.specs.Container.{Decompresses, IsContainerFault}

-- the text is the source that begins at this offset
pub record IsSource (stream : List ℕ) (offset : ℕ) (page : XlsEncoding) (text : List ℕ) : Type 0 where
  pub within : offset ≤ length stream
  pub bytes : List ℕ
  pub decompresses : Decompresses (drop offset stream) bytes
  pub decoded_so : text ≡ encode_utf8_all (decoded page bytes)

-- why there is none
pub data IsSourceFault (stream : List ℕ) (offset : ℕ) (e : OvbaError) : Type 0 where
  past_end : length stream < offset → e ≡ errors.OffsetPastEnd offset (length stream)
      → IsSourceFault stream offset e
  in_container : offset ≤ length stream → IsContainerFault (drop offset stream) e
      → IsSourceFault stream offset e
