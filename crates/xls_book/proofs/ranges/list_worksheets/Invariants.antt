use Rattle.std.proofs.Common.{map}
use Rattle.xls_data.specs.Data.{is_nothing}
use Rattle.xls_data.specs.Sheets.{sheet_content}
use Rattle.xls_data.specs.contracts.values.DataPartialEq.TheImpl as data_impl
use Rattle.xls_meaning.specs.Reading.{last_named, paired}
use Rattle.xls_book.proofs.WorksheetLemmas.{Listing}
use Rattle.xls_book.proofs.ranges.list_worksheets.Given as goal

abbrev pub invariant-loop-name : goal.invariant-loop-name
invariant-loop-name l =
    (goal.iterator-loop-name).can_next l.name-iterator ×
    (goal.iterator-loop-name).is_finite l.name-iterator ×
    Listing data_impl.ghosts.eq is_nothing (last_named (paired (map sheet_content l.sheets) l.contents)) l.index.entries l.list.items l.name-iterator
