use Rattle.std.proofs.Common.{◌≡◌, ◌≤◌, List, ℕ, Ok, sym, ◌∙◌, ap, subst, arith, replicate, take}
use Rattle.std.specs.Prelude.{Bool}
use Rattle.std.specs.Str.{IsAscii, chars}
use Rattle.std.proofs.lemmas.List.{take-replicate}
use Rattle.std.proofs.lemmas.Str.{chars-IsAscii}
use Rattle.xls_operands.specs.Pieces.{with_prefix}
use Rattle.xls_formula.specs.Words.{space_mark}
use Rattle.xls_formula.proofs.TextLemmas.{marks_ascii}
use Rattle.xls_formula.proofs.put.put_space.Goals as goal

marks_of : (is_return : Bool) (n mark : ℕ) (marks : List ℕ) → n ≤ 255 → mark ≡ space_mark is_return → marks ≡ take n (replicate 255 mark) → marks ≡ replicate n (space_mark is_return)
marks_of is_return n mark marks le m e =
    e ∙ (take-replicate n 255 mark le ∙ ap (replicate n) m)

pub ascii-requires : goal.ascii-requires
ascii-requires c =
    let marks : c.split_at.result.0.now ≡ replicate c.args.count (space_mark c.args.is_return) =
    marks_of c.args.is_return c.args.count c.space_mark-all.result c.split_at.result.0.now (omega arith) c.space_mark-all.ensures (c.split_at.ensures.front ∙ ap (λ k. take k (replicate 255 c.space_mark-all.result)) c.from.ensures) in
    subst IsAscii (sym marks) (marks_ascii c.args.is_return c.args.count)

pub returns : goal.returns
returns c =
    let marks : c.split_at.result.0.now ≡ replicate c.args.count (space_mark c.args.is_return) =
    marks_of c.args.is_return c.args.count c.space_mark-all.result c.split_at.result.0.now (omega arith) c.space_mark-all.ensures (c.split_at.ensures.front ∙ ap (λ k. take k (replicate 255 c.space_mark-all.result)) c.from.ensures) in
    let text : chars c.ascii.result.now ≡ replicate c.args.count (space_mark c.args.is_return) =
    ap chars (c.ascii.ensures ∙ marks) ∙ chars-IsAscii (replicate c.args.count (space_mark c.args.is_return)) (marks_ascii c.args.is_return c.args.count) in
    ap (λ (x : List ℕ). Ok (with_prefix x c.args.texts.now)) (sym text) ∙ ap Ok (sym c.in_ok-put_before.ensures)
