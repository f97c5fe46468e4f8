use Rattle.xls_rows.specs.HeaderTexts.{owned_texts}
use Rattle.xls_rows.proofs.RangeLemmas.{rows_from_count}
use Rattle.xls_rows.proofs.range_rows.RangeDeserializerIterator.size_hint.Goals as goal

pub returns-clause-lower : goal.returns-clause-lower
returns-clause-lower g c =
    rw (← c.self.view_is, rows_from_count (owned_texts c.self.inside.headers) c.self.inside.column_indexes.items c.self.inside.row c.self.inside.left c.self.inside.rows) c.size_hint.ensures.lower

pub returns-clause-upper : goal.returns-clause-upper
returns-clause-upper g c =
    rw (← c.self.view_is, rows_from_count (owned_texts c.self.inside.headers) c.self.inside.column_indexes.items c.self.inside.row c.self.inside.left c.self.inside.rows) c.size_hint.ensures.upper

pub returns-clause-value : goal.returns-clause-value
returns-clause-value g c =
    rw (← c.self.view_is, rows_from_count (owned_texts c.self.inside.headers) c.self.inside.column_indexes.items c.self.inside.row c.self.inside.left c.self.inside.rows) c.size_hint.ensures.value
