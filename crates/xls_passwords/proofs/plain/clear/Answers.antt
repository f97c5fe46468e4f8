use Rattle.std.proofs.Common.{◌≡◌, ◌+◌, ◌-◌, length, take, drop, replicate, ◌∙◌, ap, arith}
use Rattle.xls_passwords.proofs.PlainLemmas.{joined}
use Rattle.xls_passwords.proofs.plain.clear.Goals as goal

pub returns : goal.returns
returns c =
    let o = c.args.place.offset in
    let end = c.args.place.end in
    let stream = c.args.stream.now in
    let before = c.split_at_mut-before.result.0.now in
    let record_is : c.split_at_mut-record.result.1.now ≡ drop o before = c.split_at_mut-record.ensures.back in
    let body_len : length c.split_at_mut-head.result.1.now + 4 ≡ length c.split_at_mut-record.result.1.now = c.split_at_mut-head.ensures.back_len in
    let len : length c.split_at_mut-head.result.1.now ≡ end - (o + 4) =
    omega (arith, body_len, c.split_at_mut-record.ensures.back_len, c.split_at_mut-before.ensures.front_len) in
    joined o end stream c.split_at_mut-record.result.0.now c.split_at_mut-head.result.0.now c.fill.new.self c.split_at_mut-before.result.1.now c.requires.room c.requires.within
    (c.split_at_mut-record.ensures.front ∙ ap (take o) c.split_at_mut-before.ensures.front)
    (c.split_at_mut-head.ensures.front ∙ ap (take 4) (record_is ∙ ap (drop o) c.split_at_mut-before.ensures.front))
    (c.fill.ensures.after (λ y h. h) ∙ ap (λ n. replicate n 0) len)
    c.split_at_mut-before.ensures.back
