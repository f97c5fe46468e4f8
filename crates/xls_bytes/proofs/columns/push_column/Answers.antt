use Rattle.std.proofs.Common.{rules, ◌<◌, ◌-◌, ◌+◌, ◌%◌, refl, length-set, arith, append-nil, ◌∙◌}
use Rattle.xls_bytes.proofs.ColumnLemmas.{column_name-word_of, room_first, some_room, room_next, letters_step, letters_at_end, IsAscii-column_name}
use Rattle.xls_bytes.proofs.columns.push_column.Goals as goal

pub letters-init : goal.letters-init
letters-init c =
    let below : c.args.col < 4294967296 = search rules in
    record {
      whole = append-nil _ ∙ column_name-word_of c.args.col;
      room = room_first c.args.col below;
      within = omega arith;
      long = refl;
    }

pub overflow_sub-start : goal.overflow_sub-start
overflow_sub-start c = some_room c.letters.left c.letters.start c.letters-test.true c.letters.invariant.room

pub letters-preserved : goal.letters-preserved
letters-preserved c =
    let long = c.letters.invariant.long in
    let some = some_room c.letters.left c.letters.start c.letters-test.true c.letters.invariant.room in
    record {
      whole = letters_step c.letters.left c.letters.start c.args.col c.letters.letters c.letters-test.true some (omega arith) c.letters.invariant.whole;
      room = room_next c.letters.left c.letters.start c.letters-test.true some c.letters.invariant.room;
      within = omega arith;
      long = length-set c.letters.letters (c.letters.start - 1) (65 + (c.letters.left - 1) % 26) ∙ long;
    }

pub push_ascii-requires : goal.push_ascii-requires
push_ascii-requires c =
    let name = letters_at_end c.letters.left c.letters.start c.args.col c.letters.letters c.letters-test.false c.letters.invariant.long c.letters.invariant.whole in
    IsAscii-column_name c.args.col _ name

pub returns-clause-ok : goal.returns-clause-ok
returns-clause-ok c =
    let name = letters_at_end c.letters.left c.letters.start c.args.col c.letters.letters c.letters-test.false c.letters.invariant.long c.letters.invariant.whole in
    rw name at c.push_ascii.ensures.ok
