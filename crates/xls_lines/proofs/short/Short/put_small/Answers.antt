use Rattle.std.proofs.Common.{◌≤◌, ◌∙◌, ap, arith, length, length-drop}
use Rattle.xls_lines.proofs.ShortLemmas.{put_before}
use Rattle.xls_lines.proofs.short.Short.put_small.Goals as goal

pub returns : goal.returns
returns c =
    let s = c.self.inside in
    let t = c.text.inside in
    let room : 16 ≤ s.start = omega (arith, length-drop s.start s.bytes, ap length c.self.view_is, c.requires.room, c.self.invariant) in
    let small : 80 ≤ t.start = omega (arith, length-drop t.start t.bytes, ap length c.text.view_is, c.requires.small, c.text.invariant) in
    put_before s.start t.start s.bytes t.bytes c.copy_from_slice.new.self c.args.text.now c.args.self.now room c.self.invariant small c.text.invariant c.self.told c.text.told (c.copy_from_slice.ensures.after ∙ c.split_at.ensures.back) c.text.view_is c.self.view_is
