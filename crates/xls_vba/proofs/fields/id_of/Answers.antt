use Rattle.xls_vba.proofs.RefusalLemmas.{id_differs}
use Rattle.xls_vba.proofs.fields.id_of.Goals as goal

pub returns-then-found-expected-clause-exact : goal.returns-then-found-expected-clause-exact
returns-then-found-expected-clause-exact c =
    id_differs c.args.expected c.in_ok-found.found c.args.bytes.now c.in_ok-found.rest.now c.in_ok-found.ensures.exact c.if-found-expected.true
