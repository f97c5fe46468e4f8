use Rattle.std.proofs.Common.{◌≡◌, List, map, sym, subst}
use Rattle.xls_parts.specs.PartRecords.{Placed}
use Rattle.xls_hidden.specs.Said.{said_of}
use Rattle.xls_hidden.specs.Reading.{IsRead}
use Rattle.xls_hidden.proofs.reading.read_records.Goals as goal

pub records-init : goal.records-init
records-init c =
    let all = map (said_of c.args.version) c.args.records in
    let same : c.into_iter-r-iterator.result ≡ c.args.records = c.into_iter-r-iterator.ensures.into_iter_gives in (
      tt,
      tt,
      subst (λ (left : List Placed). IsRead c.args.version all (map (said_of c.args.version) left) c.in_ok-reading.reading) (sym same) (c.in_ok-reading.ensures all),
    )
