use Rattle.std.proofs.Common.{◌≡◌, ◌∙◌, sym, Ok, Err, arith}
use Rattle.xls_macros.proofs.PageLemmas.{numbered, read_long, read_page, same_page}
use Rattle.xls_macros.proofs.page.page_of.Goals as goal

pub number_place-place-requires : goal.number_place-place-requires
number_place-place-requires c = (numbered c.args.directory.now c.requires.0 c.requires.1).head

pub split_at-requires : goal.split_at-requires
split_at-requires c = let fits = (numbered c.args.directory.now c.requires.0 c.requires.1).fits in omega (arith, fits, c.number_place-place.ensures)

pub read_u16-requires : goal.read_u16-requires
read_u16-requires c =
    read_long c.args.directory.now c.split_at.result.1.now c.number_place-place.result c.requires.0
    (numbered c.args.directory.now c.requires.0 c.requires.1) c.split_at.ensures.back c.number_place-place.ensures

pub unreachable-requires : goal.unreachable-requires
unreachable-requires c =
    let read = read_page c.args.directory.now c.split_at.result.1.now c.number_place-place.result c.read_u16.result c.requires.0 c.from_codepage.result
    (numbered c.args.directory.now c.requires.0 c.requires.1) c.split_at.ensures.back c.number_place-place.ensures c.read_u16.ensures c.from_codepage.ensures in
    let none : Err c.in-Err.field-0 ≡ Ok c.requires.0 = sym c.in-Err.is ∙ read in
    cc none

pub returns : goal.returns
returns c =
    let read = read_page c.args.directory.now c.split_at.result.1.now c.number_place-place.result c.read_u16.result c.requires.0 c.from_codepage.result
    (numbered c.args.directory.now c.requires.0 c.requires.1) c.split_at.ensures.back c.number_place-place.ensures c.read_u16.ensures c.from_codepage.ensures in
    same_page c.args.directory.now c.in-Ok.page c.requires.0 c.from_codepage.result c.in-Ok.is read c.requires.1
