use Rattle.std.proofs.Common.{◌++◌, ap}
use Rattle.std.specs.Str.{chars}
use Rattle.std.specs.List.{flat_map}
use Rattle.std.specs.String.{string_bytes}
use Rattle.xls_bytes.proofs.GrownLemmas.{IsGrown-refl, IsGrown-trans}
use Rattle.xls_rounding.specs.Rounding.{decimal_of}
use Rattle.xls_shown.specs.Shown.{general_token}
use Rattle.xls_shown.proofs.TextLemmas.{general_more}
use Rattle.xls_shown.proofs.numbers.append_general_items.Goals as goal

pub items-init : goal.items-init
items-init c = record {
  shown = ap (λ ts. chars (string_bytes c.args.text.now) ++ flat_map (general_token (decimal_of c.args.bits)) ts) c.iter-items.ensures.items;
  grown = IsGrown-refl (string_bytes c.args.text.now);
}

pub items-preserved : goal.items-preserved
items-preserved c = record {
  shown = general_more (decimal_of c.args.bits) (chars (string_bytes c.items.text)) (chars (string_bytes c.append_general_item.new.text)) _
      (c.in-Some.item, chars c.in-Some.own.now) c.next.new.self c.items.items c.in-Some.ensures.steps c.in_ok-append_general_item.ensures.ok c.items.invariant.shown;
  grown = IsGrown-trans _ _ _ c.items.invariant.grown c.append_general_item.ensures.grown;
}

pub returns-in_err-append_general_item-clause-grown : goal.returns-in_err-append_general_item-clause-grown
returns-in_err-append_general_item-clause-grown c = IsGrown-trans _ _ _ c.items.invariant.grown c.append_general_item.ensures.grown
