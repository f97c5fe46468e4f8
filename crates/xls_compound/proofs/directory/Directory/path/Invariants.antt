use Rattle.std.proofs.Common.{◌≡◌, ℕ, ◌<◌, List, length, map, ◌++◌, Some}
use Rattle.xls_compound.specs.Items.{Climbs}
use Rattle.xls_compound.specs.Held.{steps_up}
use Rattle.xls_compound.proofs.directory.Directory.path.Given as goal

-- the names so far lead from the place to the next one
abbrev pub invariant-up : goal.invariant-up
invariant-up l = record {
  within : (at : ℕ) → l.next ≡ Some at → at < length l.self.items;
  climbs : (names : List (List ℕ)) → Climbs l.self.items l.next names
      → Climbs l.self.items (Some l.place) (map (λ x. x.now) l.names.items ++ names);
}

abbrev pub decreases-up : goal.decreases-up
decreases-up l = steps_up l.next
