-- For the proofs: what a section needs of its items.
use Rattle.std.specs.Prelude.{◌≡◌, ℕ, List, [], ◌∷◌, Option, Some, None}
use Rattle.xls_number_formats.specs.declared.items.Item.TheVariants as item
use Rattle.xls_number_formats.specs.declared.sections.Kind.TheVariants as kind
use Rattle.xls_number_formats.specs.Grammar.{Token, items}
use Rattle.xls_number_formats.specs.Sections.{kinds, kind_of}
use Rattle.xls_number_formats.specs.Texts.{texts_code}
use Rattle.xls_shown_dates.specs.Fields.{fields, clock_of}
use Rattle.xls_shown_numbers.specs.Plain.{plain_of}
use Rattle.xls_shown_numbers.specs.Exponent as exponent
use Rattle.xls_shown_fractions.specs.Needs as fraction
use Rattle.xls_shown.specs.declared.sections.Shape.{Shape}
use Rattle.xls_shown.specs.declared.sections.Shape.TheVariants as shape

-- the word `General` is the only item
abbrev pub IsGeneralAlone : List Token → Type 0
IsGeneralAlone ts = (own : List ℕ) × (ts ≡ (item.General, own) ∷ [])

abbrev pub IsShapeOf : Shape → List Token → Type 0
IsShapeOf (shape.Date clock) ts = (kind_of (kinds ts) ≡ kind.Date) × (clock ≡ clock_of (fields ts))
IsShapeOf shape.GeneralAlone ts = (kind_of (kinds ts) ≡ kind.General) × IsGeneralAlone ts
IsShapeOf shape.General ts = kind_of (kinds ts) ≡ kind.General
IsShapeOf (shape.Fraction f) ts = (kind_of (kinds ts) ≡ kind.Fraction) × (f ≡ fraction.needs_of ts)
IsShapeOf (shape.Exponent e) ts = (kind_of (kinds ts) ≡ kind.Exponent) × (e ≡ exponent.needs_of ts)
IsShapeOf (shape.Plain p) ts = (kind_of (kinds ts) ≡ kind.Plain) × (p ≡ plain_of (kinds ts))

-- the items of a code's section for texts, if it has one
abbrev pub IsTextsSection : List ℕ → Option (List Token) → Type 0
IsTextsSection cs None = texts_code cs ≡ None
IsTextsSection cs (Some ts) = (code : List ℕ) × (texts_code cs ≡ Some code) × (ts ≡ items code)
