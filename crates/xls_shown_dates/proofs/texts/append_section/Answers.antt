use Rattle.std.proofs.Common.{◌++◌, ap, sym, ◌∙◌, drop, None}
use Rattle.std.specs.Str.{chars}
use Rattle.std.specs.List.{flat_map}
use Rattle.std.specs.String.{string_bytes}
use Rattle.xls_bytes.proofs.GrownLemmas.{IsGrown-refl, IsGrown-trans}
use Rattle.xls_number_formats.specs.Grammar.{Token}
use Rattle.xls_shown_dates.specs.Fields.{letters, first, fields_from}
use Rattle.xls_shown_dates.specs.Texts.{field_text}
use Rattle.xls_shown_dates.proofs.ScanLemmas.{behind_step}
use Rattle.xls_shown_dates.proofs.TextLemmas.{shown_step}
use Rattle.xls_shown_dates.proofs.texts.append_section.Goals as goal

pub items-init : goal.items-init
items-init c =
    let same = c.iter-ahead.ensures.items ∙ sym c.iter-items.ensures.items in
    record {
      shown = ap (λ ts. chars (string_bytes c.args.text.now) ++ flat_map (λ f. field_text c.args.clock c.args.moment.now f.0 f.1) (fields_from None None ts)) c.iter-items.ensures.items;
      grown = IsGrown-refl (string_bytes c.args.text.now);
      behind = c.next_letter-behind.ensures.letter ∙ ap (λ ts. first (letters ts)) same;
      ahead = c.next_letter-behind.ensures.rest ∙ ap (λ ts. drop 1 (letters ts)) same;
    }

pub items-preserved : goal.items-preserved
items-preserved c =
    let l = c.items in
    let token : Token = (c.in-Some.item, chars c.in-Some.own.now) in
    let left = l.items in
    let next = c.next.new.self in
    let behind = behind_step token next left l.behind c.look_ahead-behind.result (letters l.ahead) (letters c.look_ahead-behind.new.ahead)
    c.in-Some.ensures.steps c.look_ahead-behind.ensures l.invariant.behind l.invariant.ahead in
    let pushed = c.in_ok-append_shown.ensures.ok ∙ ap (λ xs. chars (string_bytes l.text) ++ xs) c.field_shown.ensures in
    record {
      shown = shown_step (λ f. field_text c.args.clock c.args.moment.now f.0 f.1) token next left l.before c.letter_after-before.result l.zeros c.zeros_after-zeros.result c.look_ahead-behind.result
          c.field_of-field.result (chars (string_bytes l.text)) _ _
          c.in-Some.ensures.steps behind.0 c.field_of-field.ensures pushed c.letter_after-before.ensures c.zeros_after-zeros.ensures l.invariant.shown;
      grown = IsGrown-trans _ _ _ l.invariant.grown c.in_ok-append_shown.ensures.grown;
      behind = behind.0;
      ahead = behind.1;
    }

pub returns-in_err-append_shown-clause-grown : goal.returns-in_err-append_shown-clause-grown
returns-in_err-append_shown-clause-grown c = IsGrown-trans _ _ _ c.items.invariant.grown c.append_shown.ensures.grown
