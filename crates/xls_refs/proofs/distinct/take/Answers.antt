use Rattle.std.proofs.Common.{◌≡◌, ◌++◌, ◌∷◌, [], sym, subst, ◌∙◌, ap, map}
use Rattle.std.proofs.lemmas.List.{append-nil}
use Rattle.xls_refs.specs.Citations.{Citation, citation_of}
use Rattle.xls_refs.specs.Steps.{Key, key_cite, IsDistinctSoFar}
use Rattle.xls_refs.proofs.DistinctLemmas.{if_new, distinct_more, key_is, put_new}
use Rattle.xls_refs.proofs.distinct.take.Goals as goal

pub returns-in_ok-push : goal.returns-in_ok-push
returns-in_ok-push c = λ before so.
    let k : Key = (c.sheet_of-sheet.result, c.args.cells.1, c.args.cells.2) in
    let is : key_cite k ≡ key_cite c.args.cells = key_is k c.args.cells c.sheet_of-sheet.ensures.is in
    let took : map citation_of c.push.new.self.items ≡ map citation_of c.args.items.now.items ++ if_new c.in_ok-insert.field-0 (key_cite k) =
    put_new citation_of c.args.items.now.items c.push.new.self.items c.in_ok-owned.field-0 k c.in_ok-push.ensures.items (c.in_ok-owned.ensures ∙ sym is)
    ∙ ap (λ t. map citation_of c.args.items.now.items ++ if_new t (key_cite k)) (sym c.if-branch.true) in
    subst (λ (x : Citation). IsDistinctSoFar c.insert.new.self (map citation_of c.push.new.self.items) (before ++ x ∷ [])) is
    (distinct_more c.args.seen.now c.insert.new.self before k c.in_ok-insert.field-0 (map citation_of c.args.items.now.items) (map citation_of c.push.new.self.items) so c.sheet_of-sheet.ensures.text c.in_ok-insert.ensures.updates.0 c.in_ok-insert.ensures.added took)

pub returns-else-branch : goal.returns-else-branch
returns-else-branch c = λ before so.
    let k : Key = (c.sheet_of-sheet.result, c.args.cells.1, c.args.cells.2) in
    let is : key_cite k ≡ key_cite c.args.cells = key_is k c.args.cells c.sheet_of-sheet.ensures.is in
    let took : map citation_of c.args.items.now.items ≡ map citation_of c.args.items.now.items ++ if_new c.in_ok-insert.field-0 (key_cite k) =
    sym (append-nil (map citation_of c.args.items.now.items)) ∙ ap (λ t. map citation_of c.args.items.now.items ++ if_new t (key_cite k)) (sym c.if-branch.false) in
    subst (λ (x : Citation). IsDistinctSoFar c.insert.new.self (map citation_of c.args.items.now.items) (before ++ x ∷ [])) is
    (distinct_more c.args.seen.now c.insert.new.self before k c.in_ok-insert.field-0 (map citation_of c.args.items.now.items) (map citation_of c.args.items.now.items) so c.sheet_of-sheet.ensures.text c.in_ok-insert.ensures.updates.0 c.in_ok-insert.ensures.added took)
