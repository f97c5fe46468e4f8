use Rattle.xls_text.specs.declared.encoding.XlsEncoding.TheVariants.{Utf16}
use Rattle.xls_record.specs.declared.version.Biff.TheVariants.{Biff8}
use Rattle.xls_open.proofs.LineLemmas.{same_page, same_version}
use Rattle.xls_open.proofs.laws.pages_hang_on_nothing.Goals as goal

pub returns : goal.returns
returns c = λ forced page version e.
    (same_page forced page Utf16 version Biff8 e, same_version forced page Utf16 version Biff8 e)
