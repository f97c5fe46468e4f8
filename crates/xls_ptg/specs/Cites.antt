-- The size of a token, and the cells that it cites.
use Rattle.std.specs.Prelude.{ℕ, ◌+◌, List, Option, Some, None, Result}
use Rattle.xls_record.specs.Reading.{gives}
use Rattle.xls_record.specs.declared.error.XlsError.{XlsError}
use Rattle.xls_ptg.specs.declared.corner.Corner.{Corner}
use Rattle.xls_ptg.specs.declared.cite.RawCite.{RawCite}
use Rattle.xls_ptg.specs.declared.cite.Token.{Token}
use Rattle.xls_ptg.specs.declared.tokens.Ptg.{Ptg}
use Rattle.xls_ptg.specs.declared.tokens.Ptg.TheVariants as ptg
use Rattle.xls_ptg.specs.Readings.{Reading}

-- row and column
abbrev pub position_of : Corner → ℕ × ℕ
position_of c = (c.row, c.column)

abbrev pub raw_cite : Option ℕ → Corner → Corner → RawCite
raw_cite sheet first last =
    record { sheet = sheet; first = position_of first; last = position_of last }

-- a cell, or an area's first and last cell
abbrev pub cite_of : Ptg (List ℕ) → Option RawCite
cite_of (ptg.Ref corner) = Some (raw_cite None corner corner)
cite_of (ptg.Area first last) = Some (raw_cite None first last)
cite_of (ptg.Ref3d ixti corner) = Some (raw_cite (Some ixti) corner corner)
cite_of (ptg.Area3d ixti first last) = Some (raw_cite (Some ixti) first last)
cite_of token = None

-- the size counts the token's first byte
abbrev pub measured : Reading → Result Token XlsError
measured read = gives (λ x. record { size = 1 + x.1; cite = cite_of x.0 }) read
