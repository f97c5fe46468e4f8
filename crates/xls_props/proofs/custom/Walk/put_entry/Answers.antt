use Rattle.std.proofs.Common.{rules, ◌≡◌, ℕ, Some, None, List, ◌++◌, sym, ap, subst, false, true, cond, arith, string_bytes}
use Rattle.std.proofs.lemmas.Grind.{common_steps}
use Rattle.std.specs.Prelude.{◌==◌, is_some, nat_lt}
use Rattle.std.specs.Option.{option_map}
use Rattle.std.specs.Ordering.{nat_cmp}
use Rattle.std.specs.BTreeMap.{get, get_by_text}
use Rattle.xls_props.specs.Values.{Value, value_at}
use Rattle.xls_props.specs.Stored.{stored_value}
use Rattle.xls_props.specs.Walked.{IsWalked}
use Rattle.xls_props.proofs.CustomLemmas.{walked_from, walked_new, walked_unnamed, custom_named, custom_one, is_said, is_not_said}
use Rattle.xls_props.proofs.custom.Walk.put_entry.Goals as goal

-- the number has no name, or its name has a value already
pub returns-in_default-remove : goal.returns-in_default-remove
returns-in_default-remove c = λ ns ps walked.
    let gone : get nat_cmp c.args.self.now.names c.args.entry.0 ≡ None = search rules in
    let removed : (j : ℕ) → get nat_cmp c.remove.new.self j ≡ cond (c.args.entry.0 == j) None (get nat_cmp c.args.self.now.names j) = λ j. grind (arith, common_steps) in
    let other : nat_lt c.args.entry.0 2 ≡ false = search rules in
    let one = custom_named ns c.args.page c.args.s.now c.args.entry other in
    subst (λ (qs : List (List ℕ × Value)). IsWalked ns (qs ++ ps) c.args.self.now.found c.remove.new.self) (sym one)
    (walked_unnamed ns ps c.args.self.now.found c.args.self.now.names c.remove.new.self c.args.entry.0 removed walked (value_at c.args.page c.args.s.now c.args.entry.1) gone)

-- another number gave the name a value
pub returns-then-contains_key : goal.returns-then-contains_key
returns-then-contains_key c = λ ns ps walked.
    let got : get nat_cmp c.args.self.now.names c.args.entry.0 ≡ Some c.in-Some-remove.name = search rules in
    let removed : (j : ℕ) → get nat_cmp c.remove.new.self j ≡ cond (c.args.entry.0 == j) None (get nat_cmp c.args.self.now.names j) = λ j. grind (arith, common_steps) in
    let other : nat_lt c.args.entry.0 2 ≡ false = search rules in
    let there : is_some (get_by_text c.args.self.now.found (string_bytes c.in-Some-remove.name)) ≡ true = search rules in
    let value : Some (stored_value c.in-Some.value) ≡ value_at c.args.page c.args.s.now c.args.entry.1 = c.in-Some.ensures.shows in
    let is = walked.only c.args.entry.0 (string_bytes c.in-Some-remove.name) (ap (option_map string_bytes) got) in
    let input = is_said _ _ (walked.has (string_bytes c.in-Some-remove.name)) there in
    let one = custom_one ns c.args.page c.args.s.now c.args.entry _ _ other is value in
    subst (λ (qs : List (List ℕ × Value)). IsWalked ns (qs ++ ps) c.args.self.now.found c.remove.new.self) (sym one)
    (walked_from ns ps c.args.self.now.found c.args.self.now.names c.remove.new.self c.args.entry.0 removed walked _ _ input.0 is input.1)

-- the name has no value yet
pub returns : goal.returns
returns c = λ ns ps walked.
    let got : get nat_cmp c.args.self.now.names c.args.entry.0 ≡ Some c.in-Some-remove.name = search rules in
    let removed : (j : ℕ) → get nat_cmp c.remove.new.self j ≡ cond (c.args.entry.0 == j) None (get nat_cmp c.args.self.now.names j) = λ j. grind (arith, common_steps) in
    let other : nat_lt c.args.entry.0 2 ≡ false = search rules in
    let new : is_some (get_by_text c.args.self.now.found (string_bytes c.in-Some-remove.name)) ≡ false = search rules in
    let value : Some (stored_value c.in-Some.value) ≡ value_at c.args.page c.args.s.now c.args.entry.1 = c.in-Some.ensures.shows in
    let is = walked.only c.args.entry.0 (string_bytes c.in-Some-remove.name) (ap (option_map string_bytes) got) in
    let first = is_not_said _ _ (walked.has (string_bytes c.in-Some-remove.name)) new in
    let one = custom_one ns c.args.page c.args.s.now c.args.entry _ _ other is value in
    subst (λ (qs : List (List ℕ × Value)). IsWalked ns (qs ++ ps) c.put.new.map c.remove.new.self) (sym one)
    (walked_new ns ps c.args.self.now.found c.args.self.now.names c.remove.new.self c.args.entry.0 removed walked c.put.new.map c.in_ok-text.text _ _ is first c.in_ok-text.ensures c.in_ok-put.ensures)
