use Rattle.std.proofs.Common.{[], ◌∷◌, ◌∙◌, ap}
use Rattle.std.proofs.lemmas.List.{map-append}
use Rattle.xls_shown_refs.specs.Views.{citation_view, citations_view}
use Rattle.xls_shown_refs.proofs.KeyLemmas.{left_out, taken}
use Rattle.xls_shown_refs.proofs.WalkLemmas.{when_false}
use Rattle.xls_shown_refs.proofs.walk.take.Goals as goal

pub returns-in_ok-push : goal.returns-in_ok-push
returns-in_ok-push c =
    let more = ap citations_view c.in_ok-push.ensures.items ∙ map-append citation_view c.args.found.now.items (c.args.citation ∷ []) in
    λ seen. taken c.args.cells.now c.insert.new.self (citations_view c.args.found.now.items) c.key_of.result (citation_view c.args.citation)
    c.key_of.ensures.is c.key_of.ensures.texts c.in_ok-insert.field-0 c.in_ok-insert.ensures.added c.if-branch.true c.in_ok-insert.ensures.updates
    (citations_view c.push.new.self.items) more seen

pub returns-else-branch : goal.returns-else-branch
returns-else-branch c =
    λ seen. left_out c.args.cells.now c.insert.new.self (citations_view c.args.found.now.items) c.key_of.result (citation_view c.args.citation)
    c.key_of.ensures.is c.key_of.ensures.texts c.in_ok-insert.field-0 c.in_ok-insert.ensures.added c.if-branch.false
    (when_false c.in_ok-insert.field-0 c.in_ok-insert.ensures.unchanged c.if-branch.false) seen
