use Rattle.std.proofs.Common.{rules, ◌≡◌, ◌∙◌, suc, ◌-◌, sym, length, get_or}
use Rattle.xls_lay.proofs.PushLemmas.{count_is}
use Rattle.xls_lay.proofs.logical.Logical.last_len.Goals as goal

pub returns-in-Some : goal.returns-in-Some
returns-in-Some c =
    let es = c.self.inside.entries.items in
    let i = length es - 1 in
    let some : length es ≡ suc i = search rules in
    let here : c.in-Some.entry.now ≡ get_or es i c.in-Some.entry.now = search rules in
    c.count.ensures ∙ sym (count_is es i some c.in-Some.entry.now here c.args.self.now c.self.view_is)
