use Rattle.std.proofs.Common.{◌≡◌, ◌&&◌, Bool, ◌∙◌, sym, ap}
use Rattle.std.proofs.lemmas.Bool.{ne_eqb, eq-eqb}
use Rattle.std.proofs.lemmas.Str.{IsUtf8-past_char}
use Rattle.std.specs.Str.Iter.{chars_rest}
use Rattle.ucd_case.specs.CaseFolding.{simple_fold}
use Rattle.xls_compound.specs.Names.{is_same_name}
use Rattle.xls_compound.proofs.NameLemmas.{both_more, one_more, one_ended, answers_none}
use Rattle.xls_compound.proofs.names.is_same_name.Goals as goal

-- the other name is at its end
pub returns-in_default : goal.returns-in_default
returns-in_default c =
    sym (one_more (chars_rest c.chars.c-iterator) (chars_rest c.chars.others) (chars_rest c.next.new.self) c.in-Some.c c.chars.invariant.one
    c.in-Some.ensures.steps.0 c.in_default.ensures.steps.0.0) ∙ c.chars.invariant.same

-- two characters differ
pub returns-then-simple_fold : goal.returns-then-simple_fold
returns-then-simple_fold c =
    let differ : simple_fold c.in-Some.c ≡ simple_fold c.in-Some-next.d → ⊥ =
    λ h. c.if-simple_fold.true (c.simple_fold.ensures ∙ h ∙ sym c.simple_fold-in-chars.ensures) in
    sym (ap (λ (b : Bool). b && is_same_name (chars_rest c.next.new.self) (chars_rest c.next-in-chars.new.self)) (ne_eqb (simple_fold c.in-Some.c) (simple_fold c.in-Some-next.d) differ))
    ∙ sym (both_more (chars_rest c.chars.c-iterator) (chars_rest c.chars.others) (chars_rest c.next.new.self) (chars_rest c.next-in-chars.new.self)
    c.in-Some.c c.in-Some-next.d c.chars.invariant.one c.chars.invariant.other c.in-Some.ensures.steps.0 c.in-Some-next.ensures.steps.0)
    ∙ c.chars.invariant.same

pub chars-preserved : goal.chars-preserved
chars-preserved c = record {
  one = IsUtf8-past_char (chars_rest c.chars.c-iterator) (chars_rest c.next.new.self) c.in-Some.c c.chars.invariant.one c.in-Some.ensures.steps.0;
  other = IsUtf8-past_char (chars_rest c.chars.others) (chars_rest c.next-in-chars.new.self) c.in-Some-next.d c.chars.invariant.other c.in-Some-next.ensures.steps.0;
  same =
      let alike : simple_fold c.in-Some.c ≡ simple_fold c.in-Some-next.d =
      sym c.simple_fold.ensures ∙ c.if-simple_fold.false ∙ c.simple_fold-in-chars.ensures in
      sym (ap (λ (b : Bool). b && is_same_name (chars_rest c.next.new.self) (chars_rest c.next-in-chars.new.self)) (eq-eqb (simple_fold c.in-Some.c) (simple_fold c.in-Some-next.d) alike))
      ∙ sym (both_more (chars_rest c.chars.c-iterator) (chars_rest c.chars.others) (chars_rest c.next.new.self) (chars_rest c.next-in-chars.new.self)
      c.in-Some.c c.in-Some-next.d c.chars.invariant.one c.chars.invariant.other c.in-Some.ensures.steps.0 c.in-Some-next.ensures.steps.0)
      ∙ c.chars.invariant.same;
}

-- the first name is at its end
pub returns : goal.returns
returns c = answers_none c.next-2.result c.is_none.result c.is_none.ensures ∙ one_ended (chars_rest c.chars.c-iterator) c.chars.others c.next-2.new.self c.next-2.result c.in-None.ensures.steps.0.0
    c.chars.invariant.other c.next-2.ensures.steps ∙ c.chars.invariant.same
