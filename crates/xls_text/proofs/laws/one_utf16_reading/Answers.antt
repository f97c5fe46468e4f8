use Rattle.std.specs.Char.Utf16.{utf16_lossy_chars}
use Rattle.xls_text.proofs.Utf16Lemmas.{ReadsUtf16-lossy, ReadsUtf16-same}
use Rattle.xls_text.proofs.laws.one_utf16_reading.Goals as goal

pub returns : goal.returns
returns c units = (
  ReadsUtf16-lossy units,
  λ cs h. ReadsUtf16-same units cs (utf16_lossy_chars units) h (ReadsUtf16-lossy units),
)
