use Rattle.std.proofs.Common.{◌++◌, ◌||◌, ap, ◌∙◌, to_z, of_z}
use Rattle.std.specs.Int.{w128}
use Rattle.std.specs.Str.{chars}
use Rattle.std.specs.String.{string_bytes}
use Rattle.xls_bytes.proofs.GrownLemmas.{IsGrown-trans}
use Rattle.xls_shown_numbers.specs.Exponent.{behind_from}
use Rattle.xls_shown_numbers.proofs.ExponentLemmas.{place_left, one_less, behind_more}
use Rattle.xls_shown_numbers.proofs.exponent.append_all_behind.Goals as goal

pub left_after-left-requires : goal.left_after-left-requires
left_after-left-requires c = place_left c.items.left (c.in-Some.item, chars c.in-Some.own.now) _ _ c.in-Some.ensures.steps c.items.invariant.left

pub items-preserved : goal.items-preserved
items-preserved c =
    let less = one_less c.items.left c.left_after-left.result (c.in-Some.item, chars c.in-Some.own.now) c.next.new.self c.items.items
    c.in-Some.ensures.steps c.items.invariant.left c.left_after-left.ensures in
    let e = to_z w128 (of_z w128 c.args.exponent) in
    record {
      shown = ap (λ b. chars (string_bytes c.append_behind.new.text) ++ behind_from c.args.plus e (c.items.placed || b) c.next.new.self) c.is_place-placed.ensures
          ∙ behind_more c.args.plus e c.items.placed c.left_after-left.result (chars (string_bytes c.items.text)) (chars (string_bytes c.append_behind.new.text)) _
          (c.in-Some.item, chars c.in-Some.own.now) c.next.new.self c.items.items c.in-Some.ensures.steps less c.in_ok-append_behind.ensures.ok c.items.invariant.shown;
      left = less;
      grown = IsGrown-trans _ _ _ c.items.invariant.grown c.append_behind.ensures.grown;
    }

pub returns-in_err-append_behind-clause-grown : goal.returns-in_err-append_behind-clause-grown
returns-in_err-append_behind-clause-grown c = IsGrown-trans _ _ _ c.items.invariant.grown c.append_behind.ensures.grown
