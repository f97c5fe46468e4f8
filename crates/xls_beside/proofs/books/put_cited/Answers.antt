use Rattle.std.proofs.Common.{ℕ, List, ◌∷◌, [], ap, ◌∙◌, codes}
use Rattle.xls_output.proofs.EachLemmas.{puts-as}
use Rattle.xls_readable.specs.Items.{NamedItem, count}
use Rattle.xls_beside.specs.Lines.{IsLineText, line}
use Rattle.xls_beside.proofs.LineLemmas.{each_same, none_same}
use Rattle.xls_beside.proofs.books.put_cited.Goals as goal

pub returns : goal.returns
returns g c =
    let row = c.count_member.ensures ∙ ap (λ (n : ℕ). (codes "row", count n)) c.from.ensures in
    let column = c.count_member-2.ensures ∙ ap (λ (n : ℕ). (codes "column", count n)) c.from-2.ensures in
    let texts = each_same c.lent_member.ensures (each_same c.text_member.ensures (each_same c.lent_member-2.ensures none_same)) in
    let members = each_same row (each_same column texts) in
    puts-as (IsLineText c.args.form) _ _ c.put_line.result
    (ap (λ (ms : List NamedItem). line (codes "outside") ms ∷ []) members) c.put_line.ensures
