use Rattle.bstr.specs.Utf8.{lossy_chars}
use Rattle.xls_text.proofs.Utf8Lemmas.{ReadsUtf8-lossy_chars, ReadsUtf8-same}
use Rattle.xls_text.proofs.laws.one_utf8_reading.Goals as goal

pub returns : goal.returns
returns c bytes = (
  ReadsUtf8-lossy_chars bytes,
  λ cs h. ReadsUtf8-same bytes cs (lossy_chars bytes) h (ReadsUtf8-lossy_chars bytes),
)
