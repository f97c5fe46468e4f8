use Rattle.std.proofs.Common.{◌≡◌, ◌<◌, ◌+◌, ◌-◌, ◌≤◌, ℕ, List, sym, ◌∙◌, ap, subst, length, arith, refl}
use Rattle.std.proofs.Math.ListN.{set}
use Rattle.std.specs.String.{string_bytes, string_len}
use Rattle.xls_operands.specs.declared.buffer.Leaf.{Leaf}
use Rattle.xls_operands.specs.Leaves.{texts_of, AreOperands}
use Rattle.xls_operands.specs.Pieces.{with_suffix}
use Rattle.xls_operands.proofs.LeafLemmas.{IsLonger, leaf_within}
use Rattle.xls_operands.proofs.OperandLemmas.{length-texts_of, leaf_there, suffixed_operands, suffixed_texts}
use Rattle.xls_operands.proofs.AddedLemmas.{IsAdded, added_text, longer_text}
use Rattle.xls_operands.proofs.buffer.Operands.put_after.Goals as goal

pub overflow_sub-last : goal.overflow_sub-last
overflow_sub-last g c =
    let n : length c.args.self.now ≡ length c.self.inside.starts.items = sym (ap length c.self.view_is) ∙ length-texts_of c.self.inside.prefixes (string_bytes c.self.inside.text) c.self.inside.leaves.items c.self.inside.starts.items in
    let some : 0 < length c.self.inside.starts.items = omega (arith, c.requires) in
    let there : 0 < length c.self.inside.leaves.items = leaf_there c.self.inside.prefixes (string_bytes c.self.inside.text) c.self.inside.leaves.items c.self.inside.starts.items some c.self.invariant in
    omega (arith, c.len-last.ensures, c.self.inside.leaves.ok.0)

pub overflow_sub-len : goal.overflow_sub-len
overflow_sub-len g c =
    let added : IsAdded (string_bytes c.self.inside.text) (string_bytes c.append.new.out) (g.W.Appended.text c.args.word.now) = added_text c.self.inside.text c.append.new.out (g.W.Appended.text c.args.word.now) c.in-Ok.ensures in
    let long : string_len c.append.new.out ≡ string_len c.self.inside.text + length added.bytes = longer_text c.self.inside.text c.append.new.out added.bytes added.is in
    omega (arith, c.len.ensures, c.len-before.ensures)

pub index_mut-requires : goal.index_mut-requires
index_mut-requires g c =
    let n : length c.args.self.now ≡ length c.self.inside.starts.items = sym (ap length c.self.view_is) ∙ length-texts_of c.self.inside.prefixes (string_bytes c.self.inside.text) c.self.inside.leaves.items c.self.inside.starts.items in
    let some : 0 < length c.self.inside.starts.items = omega (arith, c.requires) in
    let there : 0 < length c.self.inside.leaves.items = leaf_there c.self.inside.prefixes (string_bytes c.self.inside.text) c.self.inside.leaves.items c.self.inside.starts.items some c.self.invariant in
    omega (arith, c.len-last.ensures, c.self.inside.leaves.ok.0)

pub overflow_add-index_mut : goal.overflow_add-index_mut
overflow_add-index_mut g c =
    let n : length c.args.self.now ≡ length c.self.inside.starts.items = sym (ap length c.self.view_is) ∙ length-texts_of c.self.inside.prefixes (string_bytes c.self.inside.text) c.self.inside.leaves.items c.self.inside.starts.items in
    let some : 0 < length c.self.inside.starts.items = omega (arith, c.requires) in
    let there : 0 < length c.self.inside.leaves.items = leaf_there c.self.inside.prefixes (string_bytes c.self.inside.text) c.self.inside.leaves.items c.self.inside.starts.items some c.self.invariant in
    let added : IsAdded (string_bytes c.self.inside.text) (string_bytes c.append.new.out) (g.W.Appended.text c.args.word.now) = added_text c.self.inside.text c.append.new.out (g.W.Appended.text c.args.word.now) c.in-Ok.ensures in
    let long : string_len c.append.new.out ≡ string_len c.self.inside.text + length added.bytes = longer_text c.self.inside.text c.append.new.out added.bytes added.is in
    let within : c.index_mut.result.now.len ≤ length (string_bytes c.self.inside.text) = leaf_within (string_bytes c.self.inside.text) c.self.inside.leaves.items (c.len-last.result - 1) c.index_mut.result.now (omega (arith, c.len-last.ensures, c.self.inside.leaves.ok.0)) c.index_mut.ensures.value c.self.invariant.whole in
    omega (arith, within, long, c.len.ensures, c.len-before.ensures, c.self.inside.text.bytes.ok.0, c.append.new.out.bytes.ok.0, c.append.new.out.bytes.ok.1, c.append.new.out.bytes.small)

pub invariant_of-self : goal.invariant_of-self
invariant_of-self g c =
    let n : length c.args.self.now ≡ length c.self.inside.starts.items = sym (ap length c.self.view_is) ∙ length-texts_of c.self.inside.prefixes (string_bytes c.self.inside.text) c.self.inside.leaves.items c.self.inside.starts.items in
    let some : 0 < length c.self.inside.starts.items = omega (arith, c.requires) in
    let there : 0 < length c.self.inside.leaves.items = leaf_there c.self.inside.prefixes (string_bytes c.self.inside.text) c.self.inside.leaves.items c.self.inside.starts.items some c.self.invariant in
    let added : IsAdded (string_bytes c.self.inside.text) (string_bytes c.append.new.out) (g.W.Appended.text c.args.word.now) = added_text c.self.inside.text c.append.new.out (g.W.Appended.text c.args.word.now) c.in-Ok.ensures in
    let long : string_len c.append.new.out ≡ string_len c.self.inside.text + length added.bytes = longer_text c.self.inside.text c.append.new.out added.bytes added.is in
    let last : ℕ = c.len-last.result - 1 in
    let leaf : Leaf = record { prefix = c.index_mut.result.now.prefix; len = c.index_mut.result.now.len + (c.len.result - c.len-before.result) } in
    let longer : IsLonger c.index_mut.result.now leaf added.bytes = record { len = omega (arith, long, c.len.ensures, c.len-before.ensures); prefix = refl } in
    subst (λ (x : List ℕ). AreOperands c.self.inside.prefixes x (set c.self.inside.leaves.items last leaf) c.self.inside.starts.items) (sym added.is)
    (suffixed_operands c.self.inside.prefixes (string_bytes c.self.inside.text) added.bytes c.self.inside.leaves.items last c.index_mut.result.now leaf c.self.inside.starts.items (omega (arith, c.len-last.ensures, c.self.inside.leaves.ok.0)) c.index_mut.ensures.value longer some c.self.invariant added.utf8)

pub returns-in-Ok : goal.returns-in-Ok
returns-in-Ok g c =
    let n : length c.args.self.now ≡ length c.self.inside.starts.items = sym (ap length c.self.view_is) ∙ length-texts_of c.self.inside.prefixes (string_bytes c.self.inside.text) c.self.inside.leaves.items c.self.inside.starts.items in
    let some : 0 < length c.self.inside.starts.items = omega (arith, c.requires) in
    let there : 0 < length c.self.inside.leaves.items = leaf_there c.self.inside.prefixes (string_bytes c.self.inside.text) c.self.inside.leaves.items c.self.inside.starts.items some c.self.invariant in
    let added : IsAdded (string_bytes c.self.inside.text) (string_bytes c.append.new.out) (g.W.Appended.text c.args.word.now) = added_text c.self.inside.text c.append.new.out (g.W.Appended.text c.args.word.now) c.in-Ok.ensures in
    let long : string_len c.append.new.out ≡ string_len c.self.inside.text + length added.bytes = longer_text c.self.inside.text c.append.new.out added.bytes added.is in
    let last : ℕ = c.len-last.result - 1 in
    let leaf : Leaf = record { prefix = c.index_mut.result.now.prefix; len = c.index_mut.result.now.len + (c.len.result - c.len-before.result) } in
    let longer : IsLonger c.index_mut.result.now leaf added.bytes = record { len = omega (arith, long, c.len.ensures, c.len-before.ensures); prefix = refl } in
    ap (λ (x : List ℕ). texts_of c.self.inside.prefixes x (set c.self.inside.leaves.items last leaf) c.self.inside.starts.items) added.is
    ∙ (suffixed_texts c.self.inside.prefixes (string_bytes c.self.inside.text) added.bytes c.self.inside.leaves.items last c.index_mut.result.now leaf c.self.inside.starts.items (omega (arith, c.len-last.ensures, c.self.inside.leaves.ok.0)) c.index_mut.ensures.value longer some c.self.invariant
    ∙ (ap (λ (x : List ℕ). with_suffix x (texts_of c.self.inside.prefixes (string_bytes c.self.inside.text) c.self.inside.leaves.items c.self.inside.starts.items)) added.spells
    ∙ ap (with_suffix (g.W.Appended.text c.args.word.now)) c.self.view_is))
