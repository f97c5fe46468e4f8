use Rattle.std.proofs.Common.{ap, rules}
use Rattle.std.specs.List.{flat_map}
use Rattle.std.specs.Str.{chars}
use Rattle.std.specs.String.{string_bytes}
use Rattle.xls_formula_names.specs.Paths.{spelled_one}
use Rattle.xls_formula_names.proofs.AppendLemmas.{left_more}
use Rattle.xls_formula_names.proofs.paths.append_folders.Goals as goal

pub characters-preserved : goal.characters-preserved
characters-preserved c = record {
  text = search rules;
  so_far = left_more (chars (string_bytes c.characters.out)) _ _ (spelled_one c.in-Some.c) (flat_map spelled_one (chars c.in-Some.rest.now)) (flat_map spelled_one (chars c.characters.left.now))
      (ap (flat_map spelled_one) c.in-Some.ensures.exact) c.in_ok-append_spelled_char.ensures c.characters.invariant.so_far;
}
