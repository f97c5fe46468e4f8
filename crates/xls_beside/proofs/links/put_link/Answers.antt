use Rattle.std.proofs.Common.{ℕ, List, ◌∷◌, [], ap, ◌∙◌, codes}
use Rattle.xls_output.proofs.EachLemmas.{puts-as}
use Rattle.xls_readable.specs.Items.{NamedItem, count, word}
use Rattle.xls_beside.specs.Lines.{IsLineText, line}
use Rattle.xls_beside.proofs.LineLemmas.{each_same, none_same}
use Rattle.xls_beside.proofs.links.put_link.Goals as goal

pub returns : goal.returns
returns g c =
    let first_row = c.count_member.ensures ∙ ap (λ (n : ℕ). (codes "first_row", count n)) c.from.ensures in
    let first_column = c.count_member-2.ensures ∙ ap (λ (n : ℕ). (codes "first_column", count n)) c.from-2.ensures in
    let last_row = c.count_member-3.ensures ∙ ap (λ (n : ℕ). (codes "last_row", count n)) c.from-3.ensures in
    let last_column = c.count_member-4.ensures ∙ ap (λ (n : ℕ). (codes "last_column", count n)) c.from-4.ensures in
    let kind = c.word_member.ensures ∙ ap (λ (t : List ℕ). (codes "kind", word t)) c.kind_word.ensures in
    let texts = each_same c.text_member.ensures (each_same c.text_member-2.ensures (each_same c.text_member-3.ensures
    (each_same c.text_member-4.ensures none_same))) in
    let members = each_same first_row (each_same first_column (each_same last_row (each_same last_column (each_same kind texts)))) in
    puts-as (IsLineText c.args.form) _ _ c.put_line.result (ap (λ (ms : List NamedItem). line (codes "link") ms ∷ []) members) c.put_line.ensures
