use Rattle.std.proofs.Common.{◌≡◌, ◌++◌, drop}
use Rattle.std.specs.Str.{chars}
use Rattle.std.specs.String.{string_bytes}
use Rattle.xls_bytes.specs.Growth.{IsGrown}
use Rattle.xls_formula_names.specs.Parts.{joined}
use Rattle.xls_formula_names.specs.Prefixes.{doubled}
use Rattle.xls_formula_names.proofs.appends.append_all_doubled.Given as goal

-- the text so far and the parts that are left make all
abbrev pub invariant-parts : goal.invariant-parts
invariant-parts l = record {
  so_far : chars (string_bytes l.out) ++ doubled (joined (drop l.part-index l.parts)) ≡ chars (string_bytes l.fn.out) ++ doubled (joined l.parts);
  grown : IsGrown (string_bytes l.fn.out) (string_bytes l.out);
}
