-- The links of a sheet, as items.
use Rattle.std.specs.Prelude.{ℕ, List, drop, encode_utf8_all}
use Rattle.xls_data.specs.declared.regions.Dimensions.{Dimensions}
use Rattle.xls_links.specs.Items.{Item, LinkContent}
use Rattle.xls_links.specs.Items as items
use Rattle.xls_links.specs.Links.{link_items}
use Rattle.xls_links.specs.Texts.{flaw_text}
use Rattle.xls_links.specs.declared.damage.Damage.{Damage}
use Rattle.xls_links.specs.declared.damage.DamagedRecord.{DamagedRecord}
use Rattle.xls_links.specs.declared.damage.DamagedRecord.TheVariants as names
use Rattle.xls_links.specs.declared.items.Link.{Link}
use Rattle.xls_links.specs.declared.items.LinkKind.{LinkKind}
use Rattle.xls_links.specs.declared.items.LinkKind.TheVariants as kinds
use Rattle.xls_links.specs.declared.types.TheConstants as types
use Rattle.xls_open.specs.Globals.{State}
use Rattle.xls_parts.specs.PartRecords.{own_records}
use Rattle.xls_beside.specs.declared.parts.SheetPart.{SheetPart}
use Rattle.xls_arrays.specs.declared.faults.Fault.{Fault}
use Rattle.xls_arrays.specs.declared.items.Span.{Span}
use Rattle.xls_arrays.specs.declared.options.Options.{Options}
use Rattle.xls_beside_arrays.specs.Answers.{Fills}
use Rattle.xls_beside_arrays.specs.Arrays.{Arrays, with_four}
use Rattle.xls_beside_arrays.specs.Damages.{with_damage}
use Rattle.xls_beside_arrays.specs.Opened.{IsOfSheet, RefusesSheet}
use Rattle.xls_beside_arrays.specs.declared.damage.Damaged.{Damaged}
use Rattle.xls_beside_arrays.specs.declared.items.Counts.{Counts}
use Rattle.xls_beside_arrays.specs.declared.items.LinkItem.{LinkItem}

abbrev pub kind_number : LinkKind → ℕ
kind_number kinds.Url = 0
kind_number kinds.File = 1
kind_number kinds.Unc = 2
kind_number kinds.Place = 3

-- from the first cell to the last
abbrev pub link_item : Dimensions → LinkKind → Span → Span → Span → Span → LinkItem
link_item cells kind target place shown tip =
    record {
      first_row = cells.start.0;
      first_column = cells.start.1;
      last_row = cells.end.0;
      last_column = cells.end.1;
      target = target;
      place = place;
      shown = shown;
      tip = tip;
      kind = kind_number kind;
      reserved = 0;
    }

abbrev pub record_number : DamagedRecord → ℕ
record_number names.HLink = types.H_LINK

abbrev pub damaged_of : Damage → Damaged
damaged_of d = record { record_type = record_number d.record_name; offset = d.offset; row = d.row; column = d.column }

abbrev pub cells_in : LinkContent → Dimensions
cells_in l = record { start = (l.first_row, l.first_column); end = (l.last_row, l.last_column) }

-- the texts of a link and its item, or an HLink that is damaged
abbrev pub with_link : Arrays LinkItem → Item → Arrays LinkItem
with_link a (items.link l) =
    with_four (link_item (cells_in l) l.kind) (encode_utf8_all l.target) (encode_utf8_all l.place) (encode_utf8_all l.shown)
    (encode_utf8_all l.tip) a
with_link a (items.damaged d) = with_damage a (damaged_of d) (flaw_text d.flaw)

-- those in a part of the stream
abbrev pub links_in : State → List ℕ → SheetPart → List Item
links_in globals stream part = link_items globals.version globals.page (own_records part.offset (drop part.offset stream))

abbrev pub AreLinks : Options → List ℕ → Arrays LinkItem → Type 0
AreLinks = IsOfSheet with_link links_in

abbrev pub FillsLinks : Options → List ℕ → Arrays LinkItem → Counts → Fault → ℕ → Type 0
FillsLinks options stream = Fills (AreLinks options stream) (RefusesSheet options stream)

-- ---- for the contracts

-- the cells of a link as the code has it
abbrev pub cells_of : Link → Dimensions
cells_of l = record { start = (l.first_row, l.first_column); end = (l.last_row, l.last_column) }
