use Rattle.std.proofs.Common.{◌∙◌, ◌++◌, List, ℕ, ap, sym}
use Rattle.std.specs.Str.Iter.{chars_rest}
use Rattle.std.specs.String.{string_bytes}
use Rattle.std.proofs.lemmas.Str.{IsUtf8-past_char}
use Rattle.xls_macros.proofs.NewlineLemmas.{lines_all, lines_more}
use Rattle.xls_macros.proofs.newlines.with_newlines.Goals as goal

pub chars-preserved : goal.chars-preserved
chars-preserved c =
    let rest = chars_rest c.chars.c-iterator in
    let others = chars_rest c.next.new.self in
    record {
      text = IsUtf8-past_char rest others c.in-Some.c c.chars.invariant.text c.in-Some.ensures.steps.0;
      whole = rw c.place_after-place.ensures (lines_more rest others (string_bytes c.chars.text) _ _ c.in-Some.c c.chars.place c.chars.invariant.text
          c.in-Some.ensures.steps.0 c.in_ok-push_kept.ensures c.chars.invariant.whole);
    }

pub returns : goal.returns
returns c =
    let none = lines_all (chars_rest c.chars.c-iterator) c.chars.place c.in-None.ensures.steps.0.0 in
    c.in_ok-push_last.ensures ∙ ap (λ (l : List ℕ). string_bytes c.chars.text ++ l) (sym none) ∙ c.chars.invariant.whole
