-- The printed texts of refusals.
use Rattle.std.specs.Prelude.{ℕ, List, ◌++◌, codes}
use Rattle.std.specs.String.{string_bytes}
use Rattle.xls_text.specs.Errors.{upper_hex, error_text}
use Rattle.xls_vba.specs.declared.error.VbaPart.{VbaPart}
use Rattle.xls_vba.specs.declared.error.VbaPart.TheVariants.{ReferenceControl, CheckId, ModuleKind, RecordId}
use Rattle.xls_vba.specs.declared.error.VbaError.{VbaError}
use Rattle.xls_vba.specs.declared.error.VbaError.TheVariants.{Truncated, Unknown, InvalidRecordId, LibId, Cfb, ModuleNotFound, Memory}

-- the words of a part
abbrev pub part_text : VbaPart → List ℕ
part_text ReferenceControl = codes "token in reference control"
part_text CheckId = codes "check id"
part_text ModuleKind = codes "module typ"
part_text RecordId = codes "record id"

-- what a refusal prints, its numbers in upper hexadecimal
abbrev pub vba_error_text : VbaError → List ℕ
vba_error_text Truncated = codes "Unexpected end of directory"
vba_error_text (Unknown typ val) =
    codes "Unknown " ++ (part_text typ ++ (codes " '" ++ (upper_hex val ++ codes "'")))
vba_error_text (InvalidRecordId expected found) =
    codes "Invalid record id: expecting "
    ++ (upper_hex expected ++ (codes " found " ++ upper_hex found))
vba_error_text LibId = codes "Unexpected libid format"
vba_error_text (Cfb error) = codes "Cfb error: " ++ error_text error
vba_error_text (ModuleNotFound name) =
    codes "Cannot find module '" ++ (string_bytes name ++ codes "'")
vba_error_text Memory = codes "Out of memory"
