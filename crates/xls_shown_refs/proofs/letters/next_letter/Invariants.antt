use Rattle.std.proofs.Common.{◌≡◌, ◌≤◌, ◌-◌}
use Rattle.xls_shown_refs.specs.Keys.{left_of}
use Rattle.xls_shown_refs.proofs.letters.next_letter.Given as goal

-- what is left is the same, behind parts that are empty
abbrev pub invariant-parts : goal.invariant-parts
invariant-parts l = record {
  left : left_of l.letters ≡ left_of l.initial.letters;
  within : l.letters.begun ≤ 7;
}

abbrev pub decreases-parts : goal.decreases-parts
decreases-parts l = 7 - l.letters.begun
