-- Values from outside, so that a wrong rule in the definitions does not check.
use Rattle.std.proofs.Common.{◌≡◌, [], ◌∷◌, map, refl, codes}
use Rattle.std.specs.Fmt.{digits}
use Rattle.xls_stream.specs.declared.part.Part.TheVariants as parts
use Rattle.xls_record.specs.declared.error.XlsError.TheVariants as errors
use Rattle.xls_record.specs.ErrorText.{error_text}

-- printed texts
pub known_texts : map error_text (errors.Len 14 3 parts.Number ∷ errors.Unrecognized parts.HsState 63 ∷ errors.IfTab 72 ∷ errors.InvalidFormat 4 ∷ [])
    ≡ codes "Invalid number length, expected at least 14, found 3" ∷ codes "Unrecognized BoundSheet8:hsState: 0x3F" ∷ codes "Invalid iftab 48" ∷ codes "Invalid ifmt value: '4'" ∷ []
unfolding digits
known_texts = refl
