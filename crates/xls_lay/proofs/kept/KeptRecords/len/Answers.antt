use Rattle.std.proofs.Common.{rules, ◌≡◌, ◌∙◌, sym, ap, length}
use Rattle.xls_lay.proofs.InsideLemmas.{length-records}
use Rattle.xls_lay.proofs.kept.KeptRecords.len.Goals as goal

pub returns : goal.returns
returns c =
    let e = length-records c.self.inside.heads.items c.self.inside.bytes.items in
    let v = ap length c.self.view_is in
    let n : c.len.result ≡ length c.self.inside.heads.items = search rules in
    n ∙ sym e ∙ v
