use Rattle.std.proofs.Common.{rules, ◌≡◌, Ok, length}
use Rattle.std.specs.Int.{div_ceil}
use Rattle.std.proofs.lemmas.Result.{err_from_is_err_and}
use Rattle.xls_bytes.specs.Numbers.{u32s_of}
use Rattle.xls_sectors.specs.Header.{header_of, header_entries}
use Rattle.xls_sectors.specs.Reading.{Fails}
use Rattle.xls_sectors.specs.Tables.{area_of, Difat, fat_up_to}
use Rattle.xls_sectors.proofs.TableLemmas.{opens_ok, opens_difat_fails, opens_fat_fails}
use Rattle.xls_sectors.proofs.sectors.Sectors.open.Goals as goal

pub returns-in_err-listed : goal.returns-in_err-listed
returns-in_err-listed c =
    let p = err_from_is_err_and c.from_residual-in_err-listed.result c.from_residual-in_err-listed.ensures.1 in
    let file = c.args.file.now in
    let header = c.in_ok-header.header in
    let area = c.area_of-area.result.now in
    let entries = u32s_of c.difat_block.result.now in
    let read : header_of file ≡ Ok header = search rules in
    let after : area ≡ area_of header file = search rules in
    let block : entries ≡ header_entries file = search rules in
    let cause : Fails c.in_err-listed.field-0.0 (Difat header.sector_size area entries header.first_difat) = c.in_err-listed.ensures in
    rw (p.1, p.2) (opens_difat_fails file area entries header read after block c.in_err-listed.field-0.0 cause)

pub returns-in_err-fat : goal.returns-in_err-fat
returns-in_err-fat c =
    let p = err_from_is_err_and c.from_residual-in_err-fat.result c.from_residual-in_err-fat.ensures.1 in
    let file = c.args.file.now in
    let header = c.in_ok-header.header in
    let area = c.area_of-area.result.now in
    let entries = u32s_of c.difat_block.result.now in
    let read : header_of file ≡ Ok header = search rules in
    let after : area ≡ area_of header file = search rules in
    let block : entries ≡ header_entries file = search rules in
    let most : c.div_ceil-sectors.result ≡ div_ceil (length area) header.sector_size = search rules in
    let listed : c.deref.result.now ≡ c.in_ok-listed.listed.items = search rules in
    let cause : Fails c.in_err-fat.field-0.0 (λ r. r ≡ fat_up_to (div_ceil (length area) header.sector_size) header.sector_size area c.in_ok-listed.listed.items) =
    rw (most, listed) at c.in_err-fat.ensures in
    rw (p.1, p.2) (opens_fat_fails file area entries header read after block c.in_ok-listed.listed.items c.in_err-fat.field-0.0 c.in_ok-listed.ensures cause)

pub returns : goal.returns
returns c =
    let file = c.args.file.now in
    let header = c.in_ok-header.header in
    let area = c.area_of-area.result.now in
    let entries = u32s_of c.difat_block.result.now in
    let read : header_of file ≡ Ok header = search rules in
    let after : area ≡ area_of header file = search rules in
    let block : entries ≡ header_entries file = search rules in
    let most : c.div_ceil-sectors.result ≡ div_ceil (length area) header.sector_size = search rules in
    let listed : c.deref.result.now ≡ c.in_ok-listed.listed.items = search rules in
    let fat : Ok c.in_ok-fat.fat.items ≡ fat_up_to (div_ceil (length area) header.sector_size) header.sector_size area c.in_ok-listed.listed.items =
    rw (most, listed) at c.in_ok-fat.ensures in
    opens_ok file area entries header read after block c.in_ok-listed.listed.items c.in_ok-fat.fat.items c.in_ok-listed.ensures fat
