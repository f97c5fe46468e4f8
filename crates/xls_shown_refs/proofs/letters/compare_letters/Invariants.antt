use Rattle.std.proofs.Common.{◌≡◌, ◌≤◌, length}
use Rattle.std.specs.Cmp.Lexicographic.{slice_cmp}
use Rattle.std.specs.Ordering.{nat_cmp}
use Rattle.xls_shown_refs.specs.Keys.{left_of}
use Rattle.xls_shown_refs.proofs.letters.compare_letters.Given as goal

-- equal bytes were passed
abbrev pub invariant-letters : goal.invariant-letters
invariant-letters l = record {
  order : slice_cmp nat_cmp (left_of l.a) (left_of l.b) ≡ slice_cmp nat_cmp (left_of l.fn.a) (left_of l.fn.b);
  first : l.a.begun ≤ 7;
  second : l.b.begun ≤ 7;
}

abbrev pub decreases-letters : goal.decreases-letters
decreases-letters l = length (left_of l.a)
