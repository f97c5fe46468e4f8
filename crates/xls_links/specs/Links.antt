-- The links of a sheet. HLink ([MS-XLS]): the cells, rwFirst at 0, rwLast at 2, colFirst at 4 and colLast at 6;
-- then a Hyperlink Object ([MS-OSHARED]), of which the flags stand at 28 of the record, and its parts from 32 on.
-- HLinkTooltip ([MS-XLS]): the text (wzTooltip) at 10.
use Rattle.std.specs.Prelude.{ℕ, ◌+◌, ◌/◌, ◌%◌, List, [], ◌∷◌, take, drop, length, Bool, ◌&&◌, nat_lt, ◌==◌, if◌then◌else◌, Option, Some, None, Result, Ok, Err}
use Rattle.xls_bytes.specs.Numbers.{le}
use Rattle.xls_record.specs.declared.version.Biff.{Biff}
use Rattle.xls_record.specs.Version.{is_biff8}
use Rattle.xls_text.specs.declared.encoding.XlsEncoding.{XlsEncoding}
use Rattle.xls_parts.specs.PartRecords.{Placed}
use Rattle.xls_links.specs.declared.damage.DamagedRecord.TheVariants.{HLink}
use Rattle.xls_links.specs.declared.damage.Flaw.{Flaw}
use Rattle.xls_links.specs.declared.damage.Flaw.TheVariants.{EndsIn}
use Rattle.xls_links.specs.declared.damage.Part.TheVariants as parts
use Rattle.xls_links.specs.declared.items.LinkKind.TheVariants.{Place}
use Rattle.xls_links.specs.declared.types.TheConstants.{H_LINK, H_LINK_TOOLTIP}
use Rattle.xls_links.specs.Splitting.{◌>>=◌, split_units}
use Rattle.xls_links.specs.Strings.{units_text}
use Rattle.xls_links.specs.Monikers.{Target, ends, path_of, moniker_at}
use Rattle.xls_links.specs.Items.{Item, link, damaged}

-- the 16-bit number at a place
abbrev pub u16_at : ℕ → List ℕ → ℕ
u16_at place body = le (take 2 (drop place body))

-- whether the bit of this mask, a power of two, is set
abbrev pub has_bit : ℕ → ℕ → Bool
has_bit mask bits = bits / mask % 2 == 1

-- ---- the parts, by the flags

-- hlstmfHasDisplayName, 10; hlstmfHasFrameName, 80; hlstmfHasLocationStr, 8: a string that is there or not
abbrev pub string_if : Bool → Flaw → List ℕ → Result (List ℕ × List ℕ) Flaw
string_if is_there flaw bytes = if is_there then (split_units flaw bytes >>= λ x. Ok (units_text x.0, x.1)) else Ok ([], bytes)

-- a target that is told by a string
abbrev pub string_target : List ℕ → Result (Target × List ℕ) Flaw
string_target bytes = split_units ends bytes >>= λ x. Ok (path_of (units_text x.0), x.1)

-- hlstmfHasMoniker, 1; hlstmfMonikerSavedAsStr, 100
abbrev pub target_at : XlsEncoding → ℕ → List ℕ → Result (Target × List ℕ) Flaw
target_at page flags bytes =
    if has_bit 0x01 flags
    then (if has_bit 0x100 flags then string_target bytes else moniker_at page bytes)
    else Ok (record { kind = Place; text = [] }, bytes)

-- what an HLink says besides its cells
pub record Parts : Type 0 where
  pub shown : List ℕ
  pub target : Target
  pub place : List ℕ

-- all parts, in this order, of which the first that passes the bytes is told
abbrev pub parts_at : XlsEncoding → ℕ → List ℕ → Result Parts Flaw
parts_at page flags bytes =
    string_if (has_bit 0x10 flags) (EndsIn parts.Shown) bytes >>= λ shown.
    string_if (has_bit 0x80 flags) (EndsIn parts.Frame) shown.1 >>= λ frame.
    target_at page flags frame.1 >>= λ target.
    string_if (has_bit 0x08 flags) (EndsIn parts.Place) target.1 >>= λ place.
    Ok (record { shown = shown.0; target = target.0; place = place.0 })

-- the 32 bits of the flags
abbrev pub flags_of : List ℕ → ℕ
flags_of body = le (take 4 (drop 28 body))

-- those of a record, whose first 32 bytes are its head
abbrev pub parts_of : XlsEncoding → List ℕ → Result Parts Flaw
parts_of page body =
    if nat_lt (length body) 32 then Err (EndsIn parts.Head)
    else parts_at page (flags_of body) (drop 32 body)

-- ---- records

-- the place directly behind a record
abbrev pub end_of : Placed → ℕ
end_of r = r.offset + (4 + length r.body)

-- the bytes of the text that is shown when the link is pointed at, where its record stands at this place
abbrev pub tip_bytes : ℕ → List Placed → List ℕ
tip_bytes place [] = []
tip_bytes place (r ∷ rs) = if r.typ == H_LINK_TOOLTIP && r.offset == place then drop 10 r.body else []

-- a number of the first cell, where the eight bytes of the cells are there
abbrev pub cell_number : ℕ → List ℕ → Option ℕ
cell_number place body = if nat_lt (length body) 8 then None else Some (u16_at place body)

-- the link of a record with these parts, and records behind it
abbrev pub link_of : Placed → List Placed → Result Parts Flaw → Item
link_of r rs (Ok parts) = link (record {
  first_row = u16_at 0 r.body;
  last_row = u16_at 2 r.body;
  first_column = u16_at 4 r.body;
  last_column = u16_at 6 r.body;
  kind = parts.target.kind;
  target = parts.target.text;
  place = parts.place;
  shown = parts.shown;
  tip = units_text (tip_bytes (end_of r) rs);
})
link_of r rs (Err flaw) = damaged (record {
  record_name = HLink;
  offset = r.offset;
  row = cell_number 0 r.body;
  column = cell_number 4 r.body;
  flaw = flaw;
})

-- those of some records
abbrev pub links_in : XlsEncoding → List Placed → List Item
links_in page [] = []
links_in page (r ∷ rs) = if r.typ == H_LINK then link_of r rs (parts_of page r.body) ∷ links_in page rs else links_in page rs

-- in the order of the stream; of BIFF8 alone
abbrev pub link_items : Biff → XlsEncoding → List Placed → List Item
link_items version page records = if is_biff8 version then links_in page records else []
