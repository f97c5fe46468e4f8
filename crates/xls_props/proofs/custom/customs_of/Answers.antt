use Rattle.std.proofs.Common.{rules, ◌<◌, ◌≤◌, ◌-◌, length, get_or, drop, subst, sym, refl, List, ℕ, arith}
use Rattle.xls_props.specs.Values.{Value}
use Rattle.xls_props.specs.Custom.{customs_of}
use Rattle.xls_props.specs.Walked.{IsWalked}
use Rattle.xls_props.proofs.CustomLemmas.{customs_step}
use Rattle.xls_props.proofs.custom.customs_of.Goals as goal

pub entries-preserved : goal.entries-preserved
entries-preserved c =
    let some : 0 < c.entries.left = search rules in
    let within : c.entries.left ≤ length c.args.entries.now = c.entries.invariant.within in
    record {
      within = omega arith;
      walked = λ ns names.
          let more = customs_step ns c.args.page c.args.s.now c.args.entries.now c.entries.left (get_or c.args.entries.now (c.entries.left - 1) (0, 0)) (0, 0) some within refl in
          subst (λ (ps : List (List ℕ × Value)). IsWalked ns ps c.put_entry.new.self.found c.put_entry.new.self.names) (sym more)
          (c.in_ok-put_entry.ensures ns (customs_of ns c.args.page c.args.s.now (drop c.entries.left c.args.entries.now)) (c.entries.invariant.walked ns names));
    }
