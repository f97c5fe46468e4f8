use Rattle.std.proofs.Common.{ℕ, List, ◌∷◌, [], ap, ◌∙◌, codes}
use Rattle.xls_output.proofs.EachLemmas.{puts-as}
use Rattle.xls_readable.specs.Items.{NamedItem, count, word}
use Rattle.xls_beside.specs.Lines.{IsLineText, line}
use Rattle.xls_beside.proofs.LineLemmas.{each_same, none_same}
use Rattle.xls_beside.proofs.styles.put_font.Goals as goal

pub returns : goal.returns
returns g c =
    let row = c.count_member.ensures ∙ ap (λ (n : ℕ). (codes "row", count n)) c.from.ensures in
    let column = c.count_member-2.ensures ∙ ap (λ (n : ℕ). (codes "column", count n)) c.from-2.ensures in
    let unit = c.count_member-3.ensures ∙ ap (λ (n : ℕ). (codes "from", count n)) c.from-3.ensures in
    let marks = c.word_member.ensures ∙ ap (λ (t : List ℕ). (codes "marks", word t)) (c.as_str.ensures.value ∙ c.requires.marks) in
    let colour = c.word_member-2.ensures ∙ ap (λ (t : List ℕ). (codes "colour", word t)) (c.as_str-2.ensures.value ∙ c.requires.color) in
    let font = each_same c.lent_member.ensures (each_same c.size_member.ensures (each_same colour none_same)) in
    let members = each_same row (each_same column (each_same unit (each_same marks font))) in
    puts-as (IsLineText c.args.form) _ _ c.put_line.result (ap (λ (ms : List NamedItem). line (codes "run") ms ∷ []) members) c.put_line.ensures
