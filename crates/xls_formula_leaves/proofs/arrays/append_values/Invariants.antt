use Rattle.std.proofs.Common.{◌≡◌, ◌-◌}
use Rattle.std.specs.Str.{chars}
use Rattle.std.specs.String.{string_bytes}
use Rattle.xls_bytes.specs.Growth.{IsGrown}
use Rattle.xls_formula_leaves.specs.Answers.{behind}
use Rattle.xls_formula_leaves.proofs.ArrayLemmas.{values_at}
use Rattle.xls_formula_leaves.proofs.arrays.append_values.Given as goal

-- the text so far and the values that are left make all
abbrev pub invariant-values : goal.invariant-values
invariant-values l = record {
  so_far : behind (chars (string_bytes l.out)) (values_at l.page l.biff l.columns l.i (l.count - l.i) l.left)
      ≡ behind (chars (string_bytes l.fn.out)) (values_at l.page l.biff l.columns 0 l.count l.bytes);
  grown : IsGrown (string_bytes l.fn.out) (string_bytes l.out);
}
