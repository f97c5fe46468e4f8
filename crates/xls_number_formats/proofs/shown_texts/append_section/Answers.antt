use Rattle.std.proofs.Common.{◌++◌, ap}
use Rattle.std.specs.Str.{chars}
use Rattle.std.specs.List.{flat_map}
use Rattle.std.specs.String.{string_bytes}
use Rattle.std.proofs.lemmas.Str.{IsUtf8-string_bytes}
use Rattle.xls_bytes.proofs.GrownLemmas.{IsGrown-refl, IsGrown-append}
use Rattle.xls_number_formats.specs.Texts.{shown_by, shown_token}
use Rattle.xls_number_formats.proofs.ShownLemmas.{chars_more, shown_more}
use Rattle.xls_number_formats.proofs.shown_texts.append_section.Goals as goal

pub items-init : goal.items-init
items-init c = record {
  shown = ap (λ ts. chars (string_bytes c.args.buf.now) ++ flat_map (shown_token (chars c.args.text.now)) ts) c.iter-items.ensures.items;
  grown = IsGrown-refl (string_bytes c.args.buf.now);
}

pub items-preserved : goal.items-preserved
items-preserved c =
    let text = chars c.args.text.now in
    let own = chars c.in-Some.own.now in
    let pushed = chars_more (string_bytes c.items.buf) c.shown_by.result.now (string_bytes c.push_str.new.self) (shown_by c.in-Some.item own text)
    (IsUtf8-string_bytes c.items.buf) c.in_ok-push_str.ensures.bytes c.shown_by.ensures in
    record {
      shown = shown_more text (chars (string_bytes c.items.buf)) (chars (string_bytes c.push_str.new.self)) _ (c.in-Some.item, own) c.next.new.self c.items.items
          c.in-Some.ensures.steps pushed c.items.invariant.shown;
      grown = IsGrown-append _ _ _ _ c.items.invariant.grown c.shown_by.utf8 c.in_ok-push_str.ensures.bytes;
    }
