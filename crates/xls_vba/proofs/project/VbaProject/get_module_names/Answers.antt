use Rattle.std.proofs.Common.{◌≡◌, rules, sym, subst, List, ℕ}
use Rattle.std.proofs.lemmas.List.Filters.{dedup_is}
use Rattle.std.specs.List.{Contains}
use Rattle.xls_vba.specs.Project.{module_names}
use Rattle.xls_vba.proofs.NameLemmas.{bytes_of, names_ordered, names_found, names_only}
use Rattle.xls_vba.proofs.project.VbaProject.get_module_names.Goals as goal

pub returns : goal.returns
returns c =
    let names : bytes_of c.in_ok-names.names.items ≡ module_names c.args.self.now.modules = search rules in
    let left = dedup_is _ _ _ c.dedup.ensures.filtered in
    let moved = c.sort_unstable.ensures.permutation in
    record {
      ordered = rw left (names_ordered _ _ moved c.sort_unstable.ensures.sorted);
      found = λ q h. rw left (names_found _ _ moved q (subst (λ (ns : List (List ℕ)). Contains ns q) (sym names) h));
      only = λ q h. subst (λ (ns : List (List ℕ)). Contains ns q) names (names_only _ _ moved q (rw left at h));
    }
