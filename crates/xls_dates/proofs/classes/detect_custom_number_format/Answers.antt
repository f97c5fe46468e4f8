use Rattle.std.proofs.Common.{rules, ◌≡◌, ℕ, ◌≤◌, ◌+◌, List, ◌∷◌, ◌++◌, map, length, sym, ◌∙◌, arith}
use Rattle.std.specs.Char.{encode_utf8, to_ascii_lowercase}
use Rattle.std.specs.Str.{chars}
use Rattle.std.specs.Str.Iter.{chars_rest}
use Rattle.std.proofs.lemmas.Str.{IsUtf8-past_char}
use Rattle.xls_dates.specs.Walk.{class_left}
use Rattle.xls_dates.proofs.WalkLemmas.{class_left-first, class_left-end, shorter}
use Rattle.xls_dates.proofs.classes.detect_custom_number_format.Goals as goal

pub chars-preserved : goal.chars-preserved
chars-preserved c =
    let prefix : chars_rest c.chars.c-iterator ≡ encode_utf8 c.in-Some.c ++ chars_rest c.next.new.self = search rules in
    let first = class_left-first _ _ c.in-Some.c c.chars.invariant.text prefix c.chars.walk in
    let step : (cs : List ℕ) → class_left c.chars.walk (to_ascii_lowercase c.in-Some.c ∷ cs) ≡ class_left c.in-Next.next cs = search rules in
    let deep : c.in-Next.next.depth ≤ c.chars.walk.depth + 1 = c.in-Next.ensures.1 in
    let less = shorter _ _ _ prefix in
    let bound = c.chars.invariant.depth in
    record {
      text = IsUtf8-past_char _ _ c.in-Some.c c.chars.invariant.text prefix;
      depth = omega arith;
      class = sym (step (map to_ascii_lowercase (chars (chars_rest c.next.new.self)))) ∙ sym first ∙ c.chars.invariant.class;
    }

pub returns-in-Done : goal.returns-in-Done
returns-in-Done c =
    let prefix : chars_rest c.chars.c-iterator ≡ encode_utf8 c.in-Some.c ++ chars_rest c.next.new.self = search rules in
    let first = class_left-first _ _ c.in-Some.c c.chars.invariant.text prefix c.chars.walk in
    let step : (cs : List ℕ) → class_left c.chars.walk (to_ascii_lowercase c.in-Some.c ∷ cs) ≡ c.in-Done.class = search rules in
    sym (step (map to_ascii_lowercase (chars (chars_rest c.next.new.self)))) ∙ sym first ∙ c.chars.invariant.class

pub returns : goal.returns
returns c =
    let none : length (chars_rest c.chars.c-iterator) ≡ 0 = search rules in
    class_left-end _ none _ _ c.chars.invariant.class
