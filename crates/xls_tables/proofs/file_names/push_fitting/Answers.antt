use Rattle.std.proofs.Common.{◌≡◌, ◌≤◌, arith, sym, ◌∙◌}
use Rattle.std.specs.Str.Iter.{chars_rest}
use Rattle.std.specs.String.{string_bytes}
use Rattle.std.proofs.lemmas.Str.{IsUtf8-past_char}
use Rattle.xls_tables.proofs.NameLemmas.{ended, fitted_all, fitted_more, fitted_none}
use Rattle.xls_tables.proofs.file_names.push_fitting.Goals as goal

pub returns-then-len_utf8-room : goal.returns-then-len_utf8-room
returns-then-len_utf8-room c =
    let rest = chars_rest c.chars.c-iterator in
    let others = chars_rest c.next.new.self in
    let none = fitted_none rest others c.in-Some.c c.kept_char-kept.result c.len_utf8.result c.chars.room c.chars.invariant.text
    c.in-Some.ensures.steps.0 c.kept_char-kept.ensures c.len_utf8.ensures.value c.if-len_utf8-room.true in
    ended (string_bytes c.chars.text) _ _ none c.chars.invariant.whole

pub chars-preserved : goal.chars-preserved
chars-preserved c =
    let rest = chars_rest c.chars.c-iterator in
    let others = chars_rest c.next.new.self in
    let same : c.len_utf8-room.result ≡ c.len_utf8.result = c.len_utf8-room.ensures.value ∙ sym c.len_utf8.ensures.value in
    let fits : c.len_utf8-room.result ≤ c.chars.room = omega (arith, c.if-len_utf8-room.false, same) in
    record {
      text = IsUtf8-past_char rest others c.in-Some.c c.chars.invariant.text c.in-Some.ensures.steps.0;
      whole = fitted_more rest others (string_bytes c.chars.text) (string_bytes c.push.new.self) _ c.in-Some.c
          c.kept_char-kept.result c.len_utf8-room.result c.chars.room c.chars.invariant.text c.in-Some.ensures.steps.0
          c.kept_char-kept.ensures c.len_utf8-room.ensures.value fits c.in_ok-push.ensures.bytes c.chars.invariant.whole;
    }

pub returns : goal.returns
returns c =
    let none = fitted_all (chars_rest c.chars.c-iterator) c.chars.room c.in-None.ensures.steps.0.0 in
    ended (string_bytes c.chars.text) _ _ none c.chars.invariant.whole
