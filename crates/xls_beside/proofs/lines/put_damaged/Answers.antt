use Rattle.std.proofs.Common.{List, ◌∷◌, [], ap, codes, refl}
use Rattle.xls_output.proofs.EachLemmas.{puts-as}
use Rattle.xls_readable.specs.Items.{NamedItem}
use Rattle.xls_beside.specs.Lines.{IsLineText, line}
use Rattle.xls_beside.proofs.LineLemmas.{each_same}
use Rattle.xls_beside.proofs.lines.put_damaged.Goals as goal

pub returns : goal.returns
returns g c =
    let members = each_same c.word_member.ensures (each_same c.count_member.ensures (each_same c.known_member.ensures
    (each_same c.known_member-2.ensures (each_same c.word_member-2.ensures refl)))) in
    puts-as (IsLineText c.args.form) _ _ c.put_line.result (ap (λ (ms : List NamedItem). line (codes "damaged") ms ∷ []) members) c.put_line.ensures
