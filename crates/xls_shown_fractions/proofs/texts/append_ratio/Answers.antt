use Rattle.std.proofs.Common.{length, ◌++◌, ap, sym, subst}
use Rattle.std.specs.Str.{chars}
use Rattle.std.specs.String.{string_bytes}
use Rattle.xls_bytes.proofs.GrownLemmas.{IsGrown-refl, IsGrown-trans}
use Rattle.xls_number_formats.specs.Grammar.{Token}
use Rattle.xls_shown_fractions.specs.Roles.{at_start}
use Rattle.xls_shown_fractions.specs.Shown.{mixed}
use Rattle.xls_shown_fractions.specs.Texts.{text_from}
use Rattle.xls_shown_fractions.proofs.RoleLemmas.{IsWithin, within_none, within_more, within_small}
use Rattle.xls_shown_fractions.proofs.TextLemmas.{text_more}
use Rattle.xls_shown_fractions.proofs.texts.append_ratio.Goals as goal

pub items-init : goal.items-init
items-init c =
    let all = c.args.section.now in
    record {
      shown = ap (λ ts. chars (string_bytes c.args.text.now) ++ text_from c.args.fraction.now (mixed c.args.ratio) c.args.look at_start ts) c.iter-items.ensures.items;
      grown = IsGrown-refl (string_bytes c.args.text.now);
      within = subst (λ ts. IsWithin at_start (length ts) (length all)) (sym c.iter-items.ensures.items) (within_none (length all));
    }

pub items-preserved : goal.items-preserved
items-preserved c =
    let t : Token = (c.in-Some.item, chars c.in-Some.own.now) in
    let left = c.next.new.self in
    record {
      shown = text_more c.args.fraction.now (mixed c.args.ratio) c.args.look c.items.spot c.spot_after-spot.result (chars (string_bytes c.items.text)) (chars (string_bytes c.append_token.new.text)) _ t
          left c.items.items c.in-Some.ensures.steps c.in_ok-append_token.ensures.ok c.spot_after-spot.ensures c.items.invariant.shown;
      grown = IsGrown-trans _ _ _ c.items.invariant.grown c.append_token.ensures.grown;
      within = subst (λ s. IsWithin s (length left) (length c.args.section.now)) (sym c.spot_after-spot.ensures)
          (within_more c.items.spot t left _ _ c.in-Some.ensures.steps c.items.invariant.within);
    }

pub returns-in_err-append_token-clause-grown : goal.returns-in_err-append_token-clause-grown
returns-in_err-append_token-clause-grown c = IsGrown-trans _ _ _ c.items.invariant.grown c.append_token.ensures.grown

pub spot_after-spot-requires-clause-placed : goal.spot_after-spot-requires-clause-placed
spot_after-spot-requires-clause-placed c =
    (within_small c.items.spot _ _ _ _ c.in-Some.ensures.steps c.items.invariant.within c.iter-items.ensures.few).0

pub spot_after-spot-requires-clause-run : goal.spot_after-spot-requires-clause-run
spot_after-spot-requires-clause-run c =
    (within_small c.items.spot _ _ _ _ c.in-Some.ensures.steps c.items.invariant.within c.iter-items.ensures.few).1
