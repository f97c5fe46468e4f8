use Rattle.std.proofs.Common.{length, ◌++◌, ap, sym, subst, ◌∙◌}
use Rattle.std.specs.Str.{chars}
use Rattle.std.specs.String.{string_bytes}
use Rattle.xls_bytes.proofs.GrownLemmas.{IsGrown-trans}
use Rattle.xls_shown_numbers.specs.Numbers.{value}
use Rattle.xls_shown_numbers.specs.Parts.{tokens_left, filled}
use Rattle.xls_shown_numbers.specs.Plain.{item_text, text_from}
use Rattle.xls_shown_numbers.proofs.PlainLemmas.{IsWithin, within_more, within_small}
use Rattle.xls_shown_numbers.proofs.ExponentLemmas.{filled_more}
use Rattle.xls_shown_numbers.proofs.shown.append_items.Goals as goal

pub items-preserved : goal.items-preserved
items-preserved c =
    let plain = c.args.plain.now in
    let n = value c.args.n in
    let left = tokens_left c.next.new.self in
    let pushed = c.in_ok-push_item.ensures.ok ∙ ap (λ i. chars (string_bytes c.items.text) ++ item_text plain n c.items.seen i (chars c.in-Some.own.now)) c.filled.ensures in
    record {
      shown = ap (λ s. chars (string_bytes c.push_item.new.text) ++ text_from plain n s (filled c.args.fills s left)) c.seen_after-seen.ensures
          ∙ filled_more c.args.fills plain n c.items.seen (chars (string_bytes c.items.text)) (chars (string_bytes c.push_item.new.text)) _ (c.in-Some.item, chars c.in-Some.own.now)
          left (tokens_left c.items.items) c.in-Some.ensures.steps pushed c.items.invariant.shown;
      grown = IsGrown-trans _ _ _ c.items.invariant.grown c.push_item.ensures.grown;
      within = subst (λ s. IsWithin s (length left) (length (tokens_left c.args.items))) (sym c.seen_after-seen.ensures)
          (within_more c.items.seen c.in-Some.item (c.in-Some.item, chars c.in-Some.own.now) left (tokens_left c.items.items) _ c.in-Some.ensures.steps c.items.invariant.within);
    }

pub returns-in_err-push_item-clause-grown : goal.returns-in_err-push_item-clause-grown
returns-in_err-push_item-clause-grown c = IsGrown-trans _ _ _ c.items.invariant.grown c.push_item.ensures.grown

pub push_item-requires-clause-whole : goal.push_item-requires-clause-whole
push_item-requires-clause-whole c = (within_small c.items.seen _ _ _ _ c.in-Some.ensures.steps c.items.invariant.within c.requires.few).0

pub push_item-requires-clause-decimals : goal.push_item-requires-clause-decimals
push_item-requires-clause-decimals c = (within_small c.items.seen _ _ _ _ c.in-Some.ensures.steps c.items.invariant.within c.requires.few).1

pub seen_after-seen-requires-clause-whole : goal.seen_after-seen-requires-clause-whole
seen_after-seen-requires-clause-whole c = (within_small c.items.seen _ _ _ _ c.in-Some.ensures.steps c.items.invariant.within c.requires.few).0

pub seen_after-seen-requires-clause-decimals : goal.seen_after-seen-requires-clause-decimals
seen_after-seen-requires-clause-decimals c = (within_small c.items.seen _ _ _ _ c.in-Some.ensures.steps c.items.invariant.within c.requires.few).1

pub seen_after-seen-requires-clause-percents : goal.seen_after-seen-requires-clause-percents
seen_after-seen-requires-clause-percents c = (within_small c.items.seen _ _ _ _ c.in-Some.ensures.steps c.items.invariant.within c.requires.few).2
