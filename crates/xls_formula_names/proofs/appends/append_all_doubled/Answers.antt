use Rattle.std.proofs.Common.{◌+◌, ℕ, List, [], Bor, drop, get_or}
use Rattle.std.specs.Str.{chars}
use Rattle.std.specs.String.{string_bytes}
use Rattle.xls_bytes.proofs.GrownLemmas.{IsGrown-trans}
use Rattle.xls_formula_names.specs.Parts.{joined}
use Rattle.xls_formula_names.specs.Prefixes.{doubled}
use Rattle.xls_formula_names.proofs.AppendLemmas.{doubled_left, left_more}
use Rattle.xls_formula_names.proofs.appends.append_all_doubled.Goals as goal

pub returns-in_err-append_doubled-clause-grown : goal.returns-in_err-append_doubled-clause-grown
returns-in_err-append_doubled-clause-grown c = IsGrown-trans _ _ _ c.parts.invariant.grown c.append_doubled.ensures.grown

pub parts-preserved : goal.parts-preserved
parts-preserved c =
    let parts = c.args.parts.now in
    let none : Bor (List ℕ) = record { ref_ptr = (0, 0); now = [] } in
    record {
      so_far = left_more (chars (string_bytes c.parts.out)) _ _ (doubled (chars (get_or parts c.parts.part-index none).now)) (doubled (joined (drop (c.parts.part-index + 1) parts))) (doubled (joined (drop c.parts.part-index parts)))
          (doubled_left parts c.parts.part-index none c.parts-test.true) c.in_ok-append_doubled.ensures.ok c.parts.invariant.so_far;
      grown = IsGrown-trans _ _ _ c.parts.invariant.grown c.append_doubled.ensures.grown;
    }
