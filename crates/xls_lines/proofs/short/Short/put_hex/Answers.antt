use Rattle.std.proofs.Common.{◌≡◌, ◌*◌, ◌+◌, ◌-◌, ◌/◌, ap, sym, ◌∙◌, arith, length}
use Rattle.xls_lines.proofs.HexLemmas.{low, low-byte, low-none, low-sixteen}
use Rattle.xls_lines.proofs.short.Short.put_hex.Goals as goal

pub loop-i-preserved : goal.loop-i-preserved
loop-i-preserved c =
    let l = c.loop-i in (
      ap (low (16 - 2 * (l.i + 1)) (l.left / 256)) c.put_hex_byte.ensures ∙ sym (low-byte l.i l.left l.self c.loop-i-test.true) ∙ l.invariant.0,
      omega (arith, ap length c.put_hex_byte.ensures, l.invariant.1),
    )

pub returns-clause-puts : goal.returns-clause-puts
returns-clause-puts c =
    let l = c.loop-i in
    let end : 16 - 2 * l.i ≡ 0 = omega (arith, c.loop-i-test.false) in
    sym (ap (λ k. low k l.left l.self) end ∙ low-none l.left l.self) ∙ l.invariant.0 ∙ low-sixteen c.args.n c.args.self.now c.ranges.n.fits
