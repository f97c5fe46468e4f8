use Rattle.std.proofs.Common.{refl}
use Rattle.xls_formula_leaves.proofs.LeafLemmas.{pushed}
use Rattle.xls_formula_leaves.proofs.appends.append_text.Goals as goal

pub returns-clause-ok : goal.returns-clause-ok
returns-clause-ok c = pushed c.push_str.result c.args.out.now c.push_str.new.self c.args.text.now _ c.push_str.ensures.bytes refl
