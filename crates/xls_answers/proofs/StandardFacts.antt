-- What users are told, as docs/xls.md has it, so that a wrong text in the definitions does not check.
use Rattle.std.proofs.Common.{◌≡◌, [], ◌∷◌, map, refl, codes}
use Rattle.std.specs.Fmt.{digits}
use Rattle.xls_text.specs.declared.error.CfbError.TheVariants.{CodePageNotFound}
use Rattle.xls_record.specs.declared.error.XlsError.{XlsError}
use Rattle.xls_record.specs.declared.error.XlsError.TheVariants.{Cfb, Password, StackLen}
use Rattle.xls_container.specs.declared.fault.FileFault.TheVariants as faults
use Rattle.xls_container.specs.declared.kind.FileKind.{FileKind}
use Rattle.xls_lay.specs.declared.error.LayError.{LayError}
use Rattle.xls_output.specs.declared.stop.Stop.TheVariants.{Read, Write, Memory}
use Rattle.xls_answers.specs.Failures.{status_of}
use Rattle.xls_answers.specs.Texts.{failure_text, page_name}
use Rattle.xls_answers.specs.declared.failure.Failure.TheVariants.{File, Obfuscated, Stream, Missing, Canonical, Stopped}
use Rattle.xls_answers.specs.declared.failure.Missing.TheVariants.{Number, Worksheet}

-- the pages that have names; 1252 and 1200 are read
pub known_pages : map page_name (437 ∷ 850 ∷ 874 ∷ 932 ∷ 936 ∷ 949 ∷ 950 ∷ 1250 ∷ 1251 ∷ 1253 ∷ 1254 ∷ 1255 ∷ 1256 ∷ 1257 ∷ 1258 ∷ 10_000 ∷ 32_768 ∷ 32_769 ∷ 1200 ∷ 1252 ∷ 0 ∷ [])
    ≡ codes " (MS-DOS, United States)" ∷ codes " (MS-DOS, Western Europe)" ∷ codes " (Thai)" ∷ codes " (Japanese)" ∷ codes " (Chinese, simplified)" ∷ codes " (Korean)" ∷ codes " (Chinese, traditional)"
    ∷ codes " (Central Europe)" ∷ codes " (Cyrillic)" ∷ codes " (Greek)" ∷ codes " (Turkish)" ∷ codes " (Hebrew)" ∷ codes " (Arabic)" ∷ codes " (Baltic)" ∷ codes " (Vietnamese)"
    ∷ codes " (Macintosh)" ∷ codes " (Macintosh)" ∷ codes " (1252)" ∷ [] ∷ [] ∷ [] ∷ []
unfolding page_name
known_pages = refl

pub known_failures : map failure_text (Obfuscated ∷ Stream Password ∷ Stream StackLen ∷ Stream (Cfb (CodePageNotFound 1251)) ∷ Missing (Number 3) ∷ Missing Worksheet ∷ Stopped Read ∷ Stopped Write ∷ Stopped Memory ∷ [])
    ≡ codes "its records are obfuscated with a password (XOR): save it without one" ∷ codes "Workbook is password protected" ∷ codes "Invalid stack length"
    ∷ codes "code page 1251 (Cyrillic) isn't read: --codepage N reads its texts by another one" ∷ codes "it has no sheet 3" ∷ codes "it has no worksheet"
    ∷ codes "it can't be read" ∷ codes "the output can't be written" ∷ codes "out of memory" ∷ []
unfolding digits page_name
known_failures = refl

-- ---- exit statuses, as docs/xls.md has them

pub known_statuses : (k : FileKind) (c : _) (e : XlsError) (l : LayError) → map status_of
    (File faults.NoWorkbook ∷ File faults.Memory ∷ File (faults.Kind k) ∷ File (faults.Compound c) ∷ Obfuscated ∷ Stream e
    ∷ Missing (Number 3) ∷ Missing Worksheet ∷ Canonical l ∷ Stopped Read ∷ Stopped Write ∷ Stopped Memory ∷ [])
    ≡ 12 ∷ 5 ∷ 11 ∷ 11 ∷ 17 ∷ 1 ∷ 1 ∷ 1 ∷ 1 ∷ 10 ∷ 4 ∷ 5 ∷ []
known_statuses k c e l = refl
