-- A known text, so that a wrong rule of the summary does not check.
use Rattle.std.proofs.Common.{◌≡◌, refl, codes}
use Rattle.std.specs.Fmt.{digits}
use Rattle.xls_command.specs.Summary.{summary_text}

-- four rows, with the numbers 0 to 3
pub known_summary : summary_text 4 ≡ codes "rows\t4\ncells\t8\nsum\t6\n"
unfolding digits
known_summary = refl
