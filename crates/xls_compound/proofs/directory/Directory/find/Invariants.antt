use Rattle.std.proofs.Common.{◌≡◌, ◌<◌, map, drop, length, None, IfSome}
use Rattle.xls_compound.specs.Items.{find_from}
use Rattle.xls_compound.proofs.directory.Directory.find.Given as goal

-- from here on the rest of the names leads to the answer
abbrev pub invariant-names : goal.invariant-names
invariant-names l = record {
  leads : find_from l.self.items l.parent (map (λ x. x.now) (drop l.name-index l.path)) ≡ find_from l.self.items None (map (λ x. x.now) l.path);
  within : IfSome l.parent (λ place. place < length l.self.items);
}
