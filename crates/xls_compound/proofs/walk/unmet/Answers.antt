use Rattle.std.proofs.Common.{sym, ◌∙◌, arith}
use Rattle.std.proofs.lemmas.Option.{slice_get_within}
use Rattle.xls_compound.proofs.MetLemmas.{missing}
use Rattle.xls_compound.proofs.walk.unmet.Goals as goal

pub returns-in_default-clause-exact : goal.returns-in_default-clause-exact
returns-in_default-clause-exact c numbers marks =
    missing c.args.entries.now c.args.met.now numbers c.args.number marks c.requires (sym c.get.ensures ∙ c.in_default.is)

pub bounds-met-number : goal.bounds-met-number
bounds-met-number c = omega (arith, slice_get_within c.args.entries.now c.args.number c.in-Some.entry (sym c.get.ensures ∙ c.in-Some.is))

pub returns-clause-is_there : goal.returns-clause-is_there
returns-clause-is_there c = omega (arith, slice_get_within c.args.entries.now c.args.number c.in-Some.entry (sym c.get.ensures ∙ c.in-Some.is))
