use Rattle.std.proofs.Common.{◌≡◌, ◌++◌, ◌∷◌, [], ℕ, List, sym, ◌∙◌, ap, subst, length, arith, refl, None}
use Rattle.std.specs.String.{string_bytes}
use Rattle.xls_operands.specs.declared.buffer.Leaf.{Leaf}
use Rattle.xls_operands.specs.Leaves.{texts_of, AreOperands}
use Rattle.xls_operands.proofs.OperandLemmas.{pushed_operands, pushed_texts}
use Rattle.xls_operands.proofs.buffer.Operands.push_empty.Goals as goal

-- the lists that the code left
operands_left : (prefixes : List (List ℕ)) (text : List ℕ) (leaves after : List Leaf) (starts pushed : List ℕ) (leaf : Leaf) (n : ℕ) → after ≡ leaves ++ leaf ∷ [] → pushed ≡ starts ++ n ∷ [] → AreOperands prefixes text (leaves ++ leaf ∷ []) (starts ++ n ∷ []) → AreOperands prefixes text after pushed
operands_left prefixes text leaves after starts pushed leaf n e f a =
    subst (λ (x : List Leaf). AreOperands prefixes text x pushed) (sym e) (subst (AreOperands prefixes text (leaves ++ leaf ∷ [])) (sym f) a)

texts_left : (prefixes : List (List ℕ)) (text : List ℕ) (leaves after : List Leaf) (starts pushed : List ℕ) (leaf : Leaf) (n : ℕ) → after ≡ leaves ++ leaf ∷ [] → pushed ≡ starts ++ n ∷ [] → texts_of prefixes text after pushed ≡ texts_of prefixes text (leaves ++ leaf ∷ []) (starts ++ n ∷ [])
texts_left prefixes text leaves after starts pushed leaf n e f =
    ap (λ (x : List Leaf). texts_of prefixes text x pushed) e ∙ ap (texts_of prefixes text (leaves ++ leaf ∷ [])) f

pub invariant_of-self-in-Ok : goal.invariant_of-self-in-Ok
invariant_of-self-in-Ok c =
    let leaf : Leaf = record { prefix = None; len = 0 } in
    let n : c.len.result ≡ length c.self.inside.leaves.items = omega (arith, c.len.ensures, c.self.inside.leaves.ok.0) in
    operands_left c.self.inside.prefixes (string_bytes c.self.inside.text) c.self.inside.leaves.items c.push-2.new.self.items c.self.inside.starts.items c.push.new.self.items leaf c.len.result c.in-Ok.ensures.items c.in_ok-push.ensures.items
    (pushed_operands c.self.inside.prefixes (string_bytes c.self.inside.text) c.self.inside.leaves.items c.self.inside.starts.items leaf c.len.result refl refl n c.self.invariant)

pub returns-in-Ok : goal.returns-in-Ok
returns-in-Ok c =
    let leaf : Leaf = record { prefix = None; len = 0 } in
    let n : c.len.result ≡ length c.self.inside.leaves.items = omega (arith, c.len.ensures, c.self.inside.leaves.ok.0) in
    texts_left c.self.inside.prefixes (string_bytes c.self.inside.text) c.self.inside.leaves.items c.push-2.new.self.items c.self.inside.starts.items c.push.new.self.items leaf c.len.result c.in-Ok.ensures.items c.in_ok-push.ensures.items
    ∙ (pushed_texts c.self.inside.prefixes (string_bytes c.self.inside.text) c.self.inside.leaves.items c.self.inside.starts.items leaf c.len.result refl refl n
    ∙ ap (λ (x : List (List ℕ)). [] ∷ x) c.self.view_is)
