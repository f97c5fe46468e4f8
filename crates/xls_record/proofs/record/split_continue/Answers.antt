use Rattle.std.proofs.Common.{arith}
use Rattle.std.proofs.lemmas.List.{take_rest, length-drop}
use Rattle.xls_stream.proofs.Pieces.{taken, room_taken, size_taken, rest_continues, bodies_taken}
use Rattle.xls_record.proofs.record.split_continue.Goals as goal

pub slice_bounds-read_u16-count : goal.slice_bounds-read_u16-count
slice_bounds-read_u16-count c = let bs = c.args.bytes.now in omega (arith, room_taken bs (taken bs c.requires.whole c.requires.some))

pub slice_bounds-read_u16-start : goal.slice_bounds-read_u16-start
slice_bounds-read_u16-start c = let bs = c.args.bytes.now in omega (arith, room_taken bs (taken bs c.requires.whole c.requires.some))

pub read_u16-size-requires : goal.read_u16-size-requires
read_u16-size-requires c =
    let bs = c.args.bytes.now in
    rw take_rest (omega (arith, length-drop 2 bs, room_taken bs (taken bs c.requires.whole c.requires.some)))

pub split_at-requires : goal.split_at-requires
split_at-requires c =
    let bs = c.args.bytes.now in
    let t = taken bs c.requires.whole c.requires.some in
    omega (arith, room_taken bs t, size_taken bs t c.read_u16-size.result c.read_u16-size.ensures)

pub returns-clause-bodies : goal.returns-clause-bodies
returns-clause-bodies c =
    let bs = c.args.bytes.now in
    let t = taken bs c.requires.whole c.requires.some in
    bodies_taken bs c.split_at.result.0.now c.split_at.result.1.now t c.read_u16-size.result (size_taken bs t c.read_u16-size.result c.read_u16-size.ensures) c.split_at.ensures.front c.split_at.ensures.back

pub returns-clause-rest : goal.returns-clause-rest
returns-clause-rest c =
    let bs = c.args.bytes.now in
    let t = taken bs c.requires.whole c.requires.some in
    rest_continues bs c.split_at.result.1.now t c.read_u16-size.result (size_taken bs t c.read_u16-size.result c.read_u16-size.ensures) c.split_at.ensures.back
