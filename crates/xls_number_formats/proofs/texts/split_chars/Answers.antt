use Rattle.std.proofs.Common.{◌≡◌, ◌++◌, take, drop, ap, sym, ◌∙◌, subst, arith}
use Rattle.std.specs.Str.{chars}
use Rattle.std.proofs.lemmas.List.{drop-drop, take-append-drop}
use Rattle.xls_bytes.proofs.CharacterLemmas.{seam, ends-trans, front_chars}
use Rattle.xls_number_formats.proofs.texts.split_chars.Goals as goal

pub count-preserved : goal.count-preserved
count-preserved c = record {
  text = c.skip_char-left.utf8;
  front = ends-trans _ _ _ c.count.invariant.front c.skip_char-left.ensures.whole;
  left = sym (drop-drop 1 c.count.counter (chars c.args.text.now)) ∙ ap (drop 1) c.count.invariant.left ∙ sym c.skip_char-left.ensures.rest;
}

pub split_at-requires : goal.split_at-requires
split_at-requires c = seam _ _ c.count.invariant.front c.count.invariant.text

pub returns-clause-front : goal.returns-clause-front
returns-clause-front c =
    let all : c.count.counter ≡ c.args.count = omega arith in
    let left = subst (λ k. drop k (chars c.args.text.now) ≡ chars c.count.left.now) all c.count.invariant.left in
    let cs = chars c.args.text.now in
    let whole = ap (λ ys. take c.args.count cs ++ ys) (sym left) ∙ take-append-drop c.args.count cs in
    ap chars c.split_at.ensures.front ∙ front_chars _ _ (take c.args.count cs) c.count.invariant.front c.utf8.text c.count.invariant.text whole
