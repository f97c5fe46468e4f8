use Rattle.std.proofs.Common.{◌≡◌, ◌≢◌, ℕ, List, sym, ◌∙◌, ap, subst, length, arith, Ok, Err}
use Rattle.std.specs.Prelude.{IsUtf8}
use Rattle.std.specs.List.{concat}
use Rattle.std.specs.Str.{chars}
use Rattle.std.specs.String.{string_bytes}
use Rattle.xls_record.specs.declared.error.XlsError.TheVariants.{InvalidFormula}
use Rattle.xls_operands.specs.declared.buffer.Leaf.{Leaf}
use Rattle.xls_operands.specs.Leaves.{leaf_texts}
use Rattle.xls_operands.specs.Pieces.{one_text}
use Rattle.xls_operands.proofs.OperandLemmas.{length-texts_of, alone_texts, alone_utf8, not_one}
use Rattle.xls_operands.proofs.buffer.Operands.write_text.Goals as goal

pub returns-then-len-ne1-clause-text : goal.returns-then-len-ne1-clause-text
returns-then-len-ne1-clause-text c =
    let n : length c.args.self.now ≡ length c.self.inside.starts.items = sym (ap length c.self.view_is) ∙ length-texts_of c.self.inside.prefixes (string_bytes c.self.inside.text) c.self.inside.leaves.items c.self.inside.starts.items in
    let ne : length c.args.self.now ≢ 1 = omega (arith, c.if-len-ne1.true, c.len.ensures, c.self.inside.starts.ok.0) in
    let m : length c.args.self.now ≡ c.len-then-len-ne1.result = omega (arith, c.len-then-len-ne1.ensures, c.self.inside.starts.ok.0) in
    not_one c.args.self.now ne ∙ ap (λ (k : ℕ). Err (InvalidFormula k)) m

pub returns-clause-text : goal.returns-clause-text
returns-clause-text c =
    let one : length c.self.inside.starts.items ≡ 1 = omega (arith, c.if-len-ne1.false, c.len.ensures, c.self.inside.starts.ok.0) in
    let out : c.join_leaves.new.out.items ≡ concat (leaf_texts c.self.inside.prefixes (string_bytes c.self.inside.text) c.self.inside.leaves.items) =
    c.in_ok-join_leaves.ensures ∙ (ap (λ (x : List ℕ). concat (leaf_texts c.self.inside.prefixes x c.deref.result.now)) c.as_bytes.ensures.value ∙ ap (λ (x : List Leaf). concat (leaf_texts c.self.inside.prefixes (string_bytes c.self.inside.text) x)) c.deref.ensures.value) in
    ap one_text (sym c.self.view_is ∙ alone_texts c.self.inside.prefixes (string_bytes c.self.inside.text) c.self.inside.leaves.items c.self.inside.starts.items one c.self.invariant)
    ∙ ap (λ (x : List ℕ). Ok (chars x)) (sym out)

pub returns-clause-utf8 : goal.returns-clause-utf8
returns-clause-utf8 c =
    let one : length c.self.inside.starts.items ≡ 1 = omega (arith, c.if-len-ne1.false, c.len.ensures, c.self.inside.starts.ok.0) in
    let out : c.join_leaves.new.out.items ≡ concat (leaf_texts c.self.inside.prefixes (string_bytes c.self.inside.text) c.self.inside.leaves.items) =
    c.in_ok-join_leaves.ensures ∙ (ap (λ (x : List ℕ). concat (leaf_texts c.self.inside.prefixes x c.deref.result.now)) c.as_bytes.ensures.value ∙ ap (λ (x : List Leaf). concat (leaf_texts c.self.inside.prefixes (string_bytes c.self.inside.text) x)) c.deref.ensures.value) in
    subst IsUtf8 (sym out) (alone_utf8 c.self.inside.prefixes (string_bytes c.self.inside.text) c.self.inside.leaves.items c.self.inside.starts.items one c.self.invariant)
