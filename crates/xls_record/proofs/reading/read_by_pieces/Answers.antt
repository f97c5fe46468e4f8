use Rattle.std.proofs.Common.{◌≡◌, ◌++◌, ◌+◌, ◌≤◌, ◌<◌, ℕ, List, Option, Some, None, IfSome, take, drop, arith, length, length-append, subst, ap, ◌∙◌, refl}
use Rattle.std.proofs.lemmas.List.{append-nil, length-take}
use Rattle.std.specs.Io.KnownBytes.{Consumes}
use Rattle.std.proofs.KnownBytes.{Consumes-trans}
use Rattle.xls_record.proofs.reading.read_by_pieces.Goals as goal

-- memory ran out after a read: what it gave is taken
pub returns-in_err-extend_from_slice-clause-prefix :
    goal.returns-in_err-extend_from_slice-clause-prefix
returns-in_err-extend_from_slice-clause-prefix g c =
    let had = c.loop-bytes.bytes.items in
    let input = take c.in_ok-count.count c.read.new.into in
    let filled = c.read.auto.into in
    let within : length (had ++ input) ≤ c.args.limit + 1 =
    omega (
      arith,
      length-append had input,
      length-take c.in_ok-count.count c.read.new.into,
      filled,
      length-take (c.min.result + 1) c.loop-bytes.piece,
      c.min.ensures,
      c.len.ensures,
    ) in (
      had ++ input,
      within,
      Consumes-trans _ _ _ had input c.loop-bytes.invariant.taken c.in_ok-count.ensures.bytes.0,
    )

-- the end: nothing more was given
pub returns-then-is_end-clause-prefix : goal.returns-then-is_end-clause-prefix
returns-then-is_end-clause-prefix g c =
    let had = c.loop-bytes.bytes.items in
    let input = take c.in_ok-count.count c.read.new.into in
    let within : length (had ++ input) ≤ c.args.limit + 1 =
    omega (
      arith,
      length-append had input,
      length-take c.in_ok-count.count c.read.new.into,
      c.if-is_end.true,
      c.loop-bytes.invariant.within,
    ) in (
      had ++ input,
      within,
      Consumes-trans _ _ _ had input c.loop-bytes.invariant.taken c.in_ok-count.ensures.bytes.0,
    )

pub returns-then-is_end-clause-within : goal.returns-then-is_end-clause-within
returns-then-is_end-clause-within g c = omega (arith, c.loop-bytes.invariant.within)

-- a read that gave nothing took nothing
none_more : (left now : Option (List ℕ)) (had input : List ℕ) (count : ℕ)
    → count ≡ 0
    → Consumes left now (had ++ take count input)
    → Consumes left now had
none_more left now had input count none taken =
    subst
    (λ bytes. Consumes left now bytes)
    (ap (λ n. had ++ take n input) none ∙ append-nil had)
    taken

pub returns-then-is_end-clause-all : goal.returns-then-is_end-clause-all
returns-then-is_end-clause-all g c =
    let had = c.loop-bytes.bytes.items in
    let input = take c.in_ok-count.count c.read.new.into in
    none_more
    _
    _
    had
    c.read.new.into
    c.in_ok-count.count
    c.if-is_end.true
    (Consumes-trans _ _ _ had input c.loop-bytes.invariant.taken c.in_ok-count.ensures.bytes.0)

pub returns-then-is_end-clause-end : goal.returns-then-is_end-clause-end
returns-then-is_end-clause-end g c =
    let filled = c.read.auto.into in
    let some : 0 < length c.read.new.into =
    omega (arith, filled, length-take (c.min.result + 1) c.loop-bytes.piece, c.min.ensures, c.len.ensures) in
    c.in_ok-count.ensures.bytes.1 c.if-is_end.true some

pub returns-then-is_end-clause-ended : goal.returns-then-is_end-clause-ended
returns-then-is_end-clause-ended g c =
    let filled = c.read.auto.into in
    let some : 0 < length c.read.new.into =
    omega (arith, filled, length-take (c.min.result + 1) c.loop-bytes.piece, c.min.ensures, c.len.ensures) in
    c.in_ok-count.ensures.end c.if-is_end.true some

pub returns-then-len-limit-clause-all : goal.returns-then-len-limit-clause-all
returns-then-len-limit-clause-all g c = tt

pub returns-then-len-limit-clause-end : goal.returns-then-len-limit-clause-end
returns-then-len-limit-clause-end g c = tt

pub returns-then-len-limit-clause-ended : goal.returns-then-len-limit-clause-ended
returns-then-len-limit-clause-ended g c = tt

-- what was taken past the limit was left
past_limit : (left now : Option (List ℕ)) (taken : List ℕ) (limit : ℕ)
    → Consumes left now taken
    → limit < length taken
    → IfSome left (λ all. limit < length all)
past_limit None now taken limit input past = tt
past_limit (Some all) None taken limit input past = absurd input
past_limit (Some all) (Some rest) taken limit input past =
    omega (arith, ap length input, length-append taken rest, past)

pub returns-then-len-limit-clause-cause : goal.returns-then-len-limit-clause-cause
returns-then-len-limit-clause-cause g c =
    let had = c.loop-bytes.bytes.items in
    let input = take c.in_ok-count.count c.read.new.into in
    let piece = c.read.new.into ++ drop (c.min.result + 1) c.loop-bytes.piece in
    let past : c.args.limit < length (had ++ input) =
    omega (
      arith,
      c.if-len-limit.true,
      c.len-in-loop-bytes.ensures,
      ap length c.in_ok-extend_from_slice.ensures.items,
      length-append had (take c.in_ok-count.count piece),
      length-take c.in_ok-count.count piece,
      length-append c.read.new.into (drop (c.min.result + 1) c.loop-bytes.piece),
      length-append had input,
      length-take c.in_ok-count.count c.read.new.into,
      c.in_ok-count.ensures.bound.0,
    ) in (
      refl,
      past_limit
          _
          _
          (had ++ input)
          c.args.limit
          (Consumes-trans _ _ _ had input c.loop-bytes.invariant.taken c.in_ok-count.ensures.bytes.0)
          past,
    )

pub returns-then-len-limit-clause-prefix : goal.returns-then-len-limit-clause-prefix
returns-then-len-limit-clause-prefix g c =
    let had = c.loop-bytes.bytes.items in
    let input = take c.in_ok-count.count c.read.new.into in
    let filled = c.read.auto.into in
    let within : length (had ++ input) ≤ c.args.limit + 1 =
    omega (
      arith,
      length-append had input,
      length-take c.in_ok-count.count c.read.new.into,
      filled,
      length-take (c.min.result + 1) c.loop-bytes.piece,
      c.min.ensures,
      c.len.ensures,
    ) in (
      had ++ input,
      within,
      Consumes-trans _ _ _ had input c.loop-bytes.invariant.taken c.in_ok-count.ensures.bytes.0,
    )
