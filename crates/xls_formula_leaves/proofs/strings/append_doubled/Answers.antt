use Rattle.std.proofs.Common.{ap, rules}
use Rattle.std.specs.Str.{chars}
use Rattle.std.specs.String.{string_bytes}
use Rattle.xls_bytes.proofs.GrownLemmas.{IsGrown-trans}
use Rattle.xls_formula_leaves.specs.Constants.{doubled, doubled_one}
use Rattle.xls_formula_leaves.proofs.LeafLemmas.{left_more}
use Rattle.xls_formula_leaves.proofs.strings.append_doubled.Goals as goal

pub returns-in_err-append_doubled_char-clause-grown : goal.returns-in_err-append_doubled_char-clause-grown
returns-in_err-append_doubled_char-clause-grown c = IsGrown-trans _ _ _ c.characters.invariant.grown c.append_doubled_char.ensures.grown

pub characters-preserved : goal.characters-preserved
characters-preserved c = record {
  text = search rules;
  so_far = left_more (chars (string_bytes c.characters.out)) _ _ (doubled_one c.in-Some.c) (doubled (chars c.in-Some.rest.now))
      (doubled (chars c.characters.left.now))
      (ap doubled c.in-Some.ensures.exact) c.in_ok-append_doubled_char.ensures.ok c.characters.invariant.so_far;
  grown = IsGrown-trans _ _ _ c.characters.invariant.grown c.append_doubled_char.ensures.grown;
}
