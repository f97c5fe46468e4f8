-- Known texts, so that a wrong rule of the lines does not check.
use Rattle.std.proofs.Common.{◌≡◌, refl, codes}
use Rattle.std.specs.Fmt.{digits}
use Rattle.xls_record.specs.declared.error.XlsError.TheVariants.{Password, TooLarge}
use Rattle.xls_lay.specs.declared.error.LayError.TheVariants.{TooLong}
use Rattle.xls_report.specs.Faults.{fault_line, sound_line, unwritten_line}

-- an encrypted workbook, and a stream past its limit
pub known_fault : fault_line Password ≡ codes "error\tWorkbook is password protected\n"
known_fault = refl

pub known_limit : fault_line (TooLarge 64) ≡ codes "error\tStream larger than 64 bytes\n"
unfolding digits
known_limit = refl

-- what `check` writes of a stream without a fault
pub known_sound : sound_line ≡ codes "ok\n"
known_sound = refl

-- a canonical stream that has no offsets of 32 bits
pub known_unwritten : unwritten_line (TooLong 0x1_0000_0000) ≡ codes "error\tWorkbook of 4294967296 bytes is too long\n"
unfolding digits
known_unwritten = refl
