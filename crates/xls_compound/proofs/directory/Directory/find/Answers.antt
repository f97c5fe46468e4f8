use Rattle.std.proofs.Common.{sym, ◌∙◌}
use Rattle.xls_compound.proofs.FindLemmas.{step_none, step_some}
use Rattle.xls_compound.proofs.directory.Directory.find.Goals as goal

-- no child has the name
pub returns-in_err-child_named-clause-exact : goal.returns-in_err-child_named-clause-exact
returns-in_err-child_named-clause-exact c =
    c.from_residual.ensures
    ∙ sym (step_none c.args.self.now.items c.names.parent c.args.path.now c.names.name-index _ c.names-test.true (sym c.child_named.ensures.exact ∙ c.in_err-child_named.was))
    ∙ c.names.invariant.leads

-- one has
pub names-preserved : goal.names-preserved
names-preserved c = record {
  leads = sym (step_some c.args.self.now.items c.names.parent c.args.path.now c.names.name-index _ c.in_ok-child_named.field-0 c.names-test.true
      (sym c.child_named.ensures.exact ∙ c.in_ok-child_named.was))
      ∙ c.names.invariant.leads;
  within = c.in_ok-child_named.ensures.within;
}
