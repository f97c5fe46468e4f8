use Rattle.std.proofs.Common.{rules, sym, ap, ◌∙◌, ℕ}
use Rattle.std.specs.BTreeMap.{get}
use Rattle.std.specs.Ordering.{nat_cmp}
use Rattle.xls_comments.specs.Biff8.{notes_8}
use Rattle.xls_comments.specs.Objects.{Found}
use Rattle.xls_comments.specs.Walking.{found_at, text_at}
use Rattle.xls_comments.proofs.LastLemmas.{no_records}
use Rattle.xls_comments.proofs.NoteLemmas.{one_item_fewer}
use Rattle.xls_comments.proofs.biff8.NotesIterator.next.Goals as goal

pub returns-in-Err-clause-steps : goal.returns-in-Err-clause-steps
returns-in-Err-clause-steps c =
    let s = c.self.inside in
    let found : ℕ → Found = λ id. found_at (text_at s.offset s.part.now) (get nat_cmp s.places id) in
    (_, _, sym c.self.view_is ∙ c.in-Some.ensures found, ap (notes_8 found) (c.new-self-inside.ensures ∙ no_records))

pub returns-in-Err-clause-goes : goal.returns-in-Err-clause-goes
returns-in-Err-clause-goes c =
    let steps = returns-in-Err-clause-steps c in
    let none = steps.3 in
    let fewer = one_item_fewer _ _ _ steps.2 in
    search rules
