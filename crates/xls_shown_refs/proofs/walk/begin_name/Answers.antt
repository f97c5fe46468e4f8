use Rattle.std.proofs.Common.{◌∙◌, ap, not}
use Rattle.xls_shown_refs.proofs.WalkLemmas.{begins, begins_none, some_of, when_false}
use Rattle.xls_shown_refs.proofs.walk.begin_name.Goals as goal

pub returns-then-is_none : goal.returns-then-is_none
returns-then-is_none c =
    begins_none c.args.followed.now c.args.number c.args.names.now
    (some_of _ c.numbered.result _ c.numbered.ensures ∙ (c.is_none.ensures ∙ ap not c.if-is_none.true))

pub returns : goal.returns
returns c =
    begins c.args.followed.now c.insert.new.self c.args.number c.args.names.now c.in_ok-is_new.is_new
    (some_of _ c.numbered.result _ c.numbered.ensures ∙ (c.is_none.ensures ∙ ap not c.if-is_none.false)) c.in_ok-is_new.ensures.added
    c.in_ok-is_new.ensures.updates (λ e. when_false c.in_ok-is_new.is_new c.in_ok-is_new.ensures.unchanged e)
