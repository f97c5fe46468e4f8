-- The printed text of a refusal.
use Rattle.std.specs.Prelude.{ℕ, List, ◌++◌, codes}
use Rattle.std.specs.Fmt.{decimal}
use Rattle.std.specs.String.{string_bytes}
use Rattle.xls_stream.specs.PartText.{part_text}
use Rattle.xls_text.specs.Errors.{upper_hex, error_text as page_text}
use Rattle.xls_record.specs.declared.error.XlsError.{XlsError}
use Rattle.xls_record.specs.declared.error.XlsError.TheVariants as errors

-- what a refusal prints
abbrev pub error_text : XlsError → List ℕ
error_text errors.Io = codes "I/O error"
error_text errors.Memory = codes "Out of memory"
error_text (errors.TooLarge limit) =
    codes "Stream larger than " ++ (decimal limit ++ codes " bytes")
error_text (errors.TooManyCells limit) =
    codes "Sheet with more than " ++ (decimal limit ++ codes " cells")
error_text (errors.Cfb error) = codes "Cfb error: " ++ page_text error
error_text errors.Password = codes "Workbook is password protected"
error_text (errors.Len expected found typ) =
    codes "Invalid " ++ (part_text typ ++ (codes " length, expected at least "
    ++ (decimal expected ++ (codes ", found " ++ decimal found))))
error_text (errors.Unrecognized typ val) =
    codes "Unrecognized " ++ (part_text typ ++ (codes ": 0x" ++ upper_hex val))
error_text (errors.EoStream part) = codes "End of stream '" ++ (part_text part ++ codes "'")
error_text errors.ContinueRecordTooShort =
    codes "Continued record too short while reading extended string"
error_text errors.StackLen = codes "Invalid stack length"
error_text (errors.InvalidFormula stack_size) =
    codes "Invalid formula (stack size: " ++ (decimal stack_size ++ codes ")")
error_text (errors.IfTab index) = codes "Invalid iftab " ++ upper_hex index
error_text (errors.Etpg number) = codes "Invalid etpg " ++ upper_hex number
error_text (errors.InvalidFormat ifmt) = codes "Invalid ifmt value: '" ++ (decimal ifmt ++ codes "'")
error_text (errors.WorksheetNotFound name) =
    codes "Worksheet '" ++ (string_bytes name ++ codes "' not found")
