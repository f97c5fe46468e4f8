use Rattle.std.proofs.Common.{◌≡◌, List, [], map, subst}
use Rattle.xls_parts.specs.PartRecords.{Placed, own_records}
use Rattle.xls_hidden.specs.Said.{said_of}
use Rattle.xls_hidden.specs.Reading.{IsRead}
use Rattle.xls_hidden.specs.Hidden.{said_in}
use Rattle.xls_hidden.proofs.HiddenLemmas.{is_hidden}
use Rattle.xls_hidden.proofs.sheet.read_hidden.Goals as goal

pub returns : goal.returns
returns c =
    let version = c.args.version in
    let reading = c.in_ok-reading.reading in
    let records : c.new.result ≡ own_records c.args.offset c.args.part.now = c.new.ensures in
    let read = subst (λ (rs : List Placed). IsRead version (map (said_of version) rs) [] reading) records c.in_ok-reading.ensures in
    rw (c.area_if.ensures, c.frozen.ensures, c.hides_zeros.ensures) (is_hidden version c.args.area (said_in version c.args.offset c.args.part.now) reading read)
