use Rattle.std.proofs.Common.{◌≡◌, ◌++◌, [], map, length, if◌then◌else◌}
use Rattle.xls_other_books.specs.Names.{name_view, names_behind, from_sup_book}
use Rattle.xls_other_books.proofs.names.read_names.Given as goal

-- the names so far and those that are left are all
abbrev pub invariant-records : goal.invariant-records
invariant-records l = record {
  names : map name_view l.found.items ++ (if l.is_wanted then names_behind l.encoding l.records else []) ≡ (if l.is_wanted then names_behind l.encoding l.fn.records else []);
  left : from_sup_book l.records ≡ from_sup_book l.fn.records;
}

abbrev pub decreases-records : goal.decreases-records
decreases-records l = length l.records
