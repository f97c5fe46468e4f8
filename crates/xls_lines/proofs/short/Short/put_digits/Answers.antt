use Rattle.std.proofs.Common.{rules, drop, ap, arith, length}
use Rattle.std.specs.Fmt.{decimal}
use Rattle.std.proofs.lemmas.List.{length-append, length-drop}
use Rattle.xls_lines.proofs.ShortLemmas.{length-digits}
use Rattle.xls_lines.proofs.short.Short.put_digits.Goals as goal

pub write_digits-self-inside-requires : goal.write_digits-self-inside-requires
write_digits-self-inside-requires c =
    let s = c.self.inside in
    let n = length-digits c.args.n c.ranges.n.fits in
    let len = length-drop s.start s.bytes in
    let view = ap length c.self.view_is in
    (omega (arith, n, len, view, c.requires, c.self.invariant), search rules)

pub returns-clause-room : goal.returns-clause-room
returns-clause-room c =
    let s = c.self.inside in
    let written = ap length c.write_digits-self-inside.ensures.written in
    omega (arith, length-digits c.args.n c.ranges.n.fits, written, length-append (decimal c.args.n) (drop s.start s.bytes), ap length c.self.view_is)
