-- What a walk finds of positions, and what is read at a place, for the proofs.
use Rattle.std.specs.Prelude.{◌≡◌, ℕ, ◌<◌, ◌+◌, ◌*◌, ◌^◌, List, [], ◌++◌, ◌∷◌, Option, Some, None}
use Rattle.xls_range.specs.Positions.{Position, IsAscending}
use Rattle.xls_view.specs.declared.ascent.Ascent.{Ascent}
use Rattle.xls_stream.specs.Listing.{Kept, kept_group}
use Rattle.xls_data.specs.Content.{Content, nothing}
use Rattle.xls_record.specs.declared.record.Record.{Record}
use Rattle.xls_biff.specs.Walking.{group_of}
use Rattle.xls_view.specs.Values.{lent_content}
use Rattle.xls_view.specs.declared.value.CellValue.{CellValue}

-- ---- positions in order

-- a position as one number: 32 bits of the row, and then those of the column
abbrev pub number_of : Position → ℕ
number_of p = p.0 * 2 ^ 32 + p.1

-- the last of them has this number
pub record EndsIn (last : ℕ) (ps : List Position) : Type 0 where
  pub prefix : List Position
  pub position : Position
  pub whole : ps ≡ prefix ++ position ∷ []
  pub number : last ≡ number_of position
  pub column : position.1 < 2 ^ 32

-- what was found of these positions
pub record IsAscent (a : Ascent) (ps : List Position) : Type 0 where
  pub none : a.count ≡ 0 → ps ≡ []
  pub some : 0 < a.count → EndsIn a.last ps
  pub order : a.falls ≡ 0 → IsAscending ps

-- ---- what is read at a place

abbrev pub found_kept : Option Record → Kept
found_kept None = record { typ = 0; body = [] }
found_kept (Some r) = kept_group (group_of r)

-- a value, or the blank where there is none
abbrev pub value_or_blank : Option CellValue → Content
value_or_blank None = nothing
value_or_blank (Some v) = lent_content v
