use Rattle.std.proofs.Common.{◌≡◌, ◌∙◌, ℕ, List, [], ◌∷◌, map, Bor, subst, sym}
use Rattle.xls_tool.proofs.CauseLemmas.{of-request, read-so}
use Rattle.xls_tool.proofs.runs.do_job.Goals as goal
use Rattle.xls_words.specs.Requests.{AreNamed}

pub returns-in-Named-clause-cause : goal.returns-in-Named-clause-cause
returns-in-Named-clause-cause g c none =
    let job = c.in_ok-job in
    of-request (g.H.Host.reads c.args.host.now) _ _ job.job.request c.args.request job.job.reading c.as_slice.result.now c.do_paths.result
    job.ensures.request (read-so job.job.reading _ [] job.ensures.options (job.ensures.passwords ∙ none))
    (λ path named.
    subst (λ paths. map (λ (it : Bor (List ℕ)). it.now) paths ≡ path ∷ []) (sym c.as_slice.ensures.value)
    (subst (AreNamed (path ∷ [])) c.in-Named.is named))
    c.do_paths.ensures.cause
