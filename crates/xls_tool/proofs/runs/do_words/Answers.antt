use Rattle.std.proofs.Common.{◌≡◌, [], ◌∷◌, refl, subst, sym}
use Rattle.xls_tool.proofs.CauseLemmas.{of-memory, of-words}
use Rattle.xls_tool.proofs.runs.do_words.Goals as goal
use Rattle.xls_tool.specs.Problems.{status_of_work}

pub returns-in-Ok-clause-cause : goal.returns-in-Ok-clause-cause
returns-in-Ok-clause-cause g c word path asks plain other =
    of-words (g.H.Host.reads c.args.host.now) _ _ word path c.in-Ok.request c.do_request.result
    (c.in-Ok.ensures.plain word (path ∷ []) asks plain) other
    (c.do_request.ensures.cause ((c.in-Ok.ensures.plain word (path ∷ []) asks plain).passwords))

pub returns-in-Err-clause-cause : goal.returns-in-Err-clause-cause
returns-in-Err-clause-cause g c word path asks plain other =
    of-memory (g.H.Host.reads c.args.host.now path) _ _ _ _ c.do_displayed.result
    (subst (λ r. status_of_work r ≡ 5) (sym (c.do_displayed.ensures.memory (c.in-Err.ensures.plain word (path ∷ []) asks plain))) refl)
