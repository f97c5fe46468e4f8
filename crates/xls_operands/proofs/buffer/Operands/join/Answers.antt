use Rattle.std.proofs.Common.{◌≡◌, ◌<◌, ◌+◌, ◌++◌, ◌∷◌, [], ℕ, List, sym, ◌∙◌, ap, length, arith, reverse}
use Rattle.std.specs.Str.{chars}
use Rattle.std.proofs.lemmas.List.{length_push}
use Rattle.std.proofs.lemmas.Result.{on_ok_weaker}
use Rattle.std.specs.String.{string_bytes}
use Rattle.xls_operands.specs.Prefixes.{IsChain}
use Rattle.xls_operands.specs.Leaves.{texts_of}
use Rattle.xls_operands.specs.Pieces.{with_join}
use Rattle.xls_operands.proofs.LeafLemmas.{chain_of}
use Rattle.xls_operands.proofs.GroupLemmas.{pushed_is_top}
use Rattle.xls_operands.proofs.OperandLemmas.{length-texts_of, start_within, put_of, joined_operands, joined_texts}
use Rattle.xls_operands.proofs.buffer.Operands.join.Goals as goal

-- an operand is left
some_left : (texts : List (List ℕ)) (starts rest : List ℕ) (start : ℕ) → length texts ≡ length starts → 1 < length texts → starts ≡ rest ++ start ∷ [] → 0 < length rest
some_left texts starts rest start n lt e =
    let m : length starts ≡ length rest + 1 = ap length e ∙ length_push rest start in
    omega arith

pub index_mut-requires : goal.index_mut-requires
index_mut-requires c =
    let lt : c.in-Some.start < length c.self.inside.leaves.items = start_within c.self.inside.prefixes (string_bytes c.self.inside.text) c.self.inside.leaves.items c.self.inside.starts.items (reverse c.pop.new.self.items) c.in-Some.start (pushed_is_top c.self.inside.starts.items c.pop.new.self.items c.in-Some.start c.in-Some.ensures.items) c.self.invariant in
    omega (arith, c.self.inside.leaves.ok.0)

pub put_at-requires : goal.put_at-requires
put_at-requires c =
    let lt : c.in-Some.start < length c.self.inside.leaves.items = start_within c.self.inside.prefixes (string_bytes c.self.inside.text) c.self.inside.leaves.items c.self.inside.starts.items (reverse c.pop.new.self.items) c.in-Some.start (pushed_is_top c.self.inside.starts.items c.pop.new.self.items c.in-Some.start c.in-Some.ensures.items) c.self.invariant in
    chain_of (length c.self.inside.prefixes) c.self.inside.leaves.items c.in-Some.start c.index_mut.result.now lt c.index_mut.ensures.value c.self.invariant.chained

pub invariant_of-self : goal.invariant_of-self
invariant_of-self c =
    let lt : c.in-Some.start < length c.self.inside.leaves.items = start_within c.self.inside.prefixes (string_bytes c.self.inside.text) c.self.inside.leaves.items c.self.inside.starts.items (reverse c.pop.new.self.items) c.in-Some.start (pushed_is_top c.self.inside.starts.items c.pop.new.self.items c.in-Some.start c.in-Some.ensures.items) c.self.invariant in
    let n : length c.args.self.now ≡ length c.self.inside.starts.items = sym (ap length c.self.view_is) ∙ length-texts_of c.self.inside.prefixes (string_bytes c.self.inside.text) c.self.inside.leaves.items c.self.inside.starts.items in
    let some : 0 < length c.pop.new.self.items = some_left c.args.self.now c.self.inside.starts.items c.pop.new.self.items c.in-Some.start n c.requires c.in-Some.ensures.items in
    let chain : IsChain (length c.self.inside.prefixes) c.index_mut.result.now.prefix = chain_of (length c.self.inside.prefixes) c.self.inside.leaves.items c.in-Some.start c.index_mut.result.now lt c.index_mut.ensures.value c.self.invariant.chained in
    let put = put_of c.put_at.result c.self.inside.prefixes c.put_at.new.prefixes c.index_mut.result.now c.put_at.new.leaf c.args.mark.now c.put_at.ensures.ok c.put_at.ensures.err chain c.utf8.mark in
    joined_operands c.self.inside.prefixes c.put_at.new.prefixes (string_bytes c.self.inside.text) c.self.inside.leaves.items c.in-Some.start c.index_mut.result.now c.put_at.new.leaf put.m lt c.index_mut.ensures.value put.is c.self.inside.starts.items c.pop.new.self.items put.utf8 c.in-Some.ensures.items some c.self.invariant

pub returns-in-Some : goal.returns-in-Some
returns-in-Some c =
    let lt : c.in-Some.start < length c.self.inside.leaves.items = start_within c.self.inside.prefixes (string_bytes c.self.inside.text) c.self.inside.leaves.items c.self.inside.starts.items (reverse c.pop.new.self.items) c.in-Some.start (pushed_is_top c.self.inside.starts.items c.pop.new.self.items c.in-Some.start c.in-Some.ensures.items) c.self.invariant in
    let n : length c.args.self.now ≡ length c.self.inside.starts.items = sym (ap length c.self.view_is) ∙ length-texts_of c.self.inside.prefixes (string_bytes c.self.inside.text) c.self.inside.leaves.items c.self.inside.starts.items in
    let some : 0 < length c.pop.new.self.items = some_left c.args.self.now c.self.inside.starts.items c.pop.new.self.items c.in-Some.start n c.requires c.in-Some.ensures.items in
    let chain : IsChain (length c.self.inside.prefixes) c.index_mut.result.now.prefix = chain_of (length c.self.inside.prefixes) c.self.inside.leaves.items c.in-Some.start c.index_mut.result.now lt c.index_mut.ensures.value c.self.invariant.chained in
    let put = put_of c.put_at.result c.self.inside.prefixes c.put_at.new.prefixes c.index_mut.result.now c.put_at.new.leaf c.args.mark.now c.put_at.ensures.ok c.put_at.ensures.err chain c.utf8.mark in
    let before : List (List ℕ) = texts_of c.self.inside.prefixes (string_bytes c.self.inside.text) c.self.inside.leaves.items c.self.inside.starts.items in
    on_ok_weaker c.put_at.result
    (λ e. joined_texts c.self.inside.prefixes c.put_at.new.prefixes (string_bytes c.self.inside.text) c.self.inside.leaves.items c.in-Some.start c.index_mut.result.now c.put_at.new.leaf put.m lt c.index_mut.ensures.value put.is c.self.inside.starts.items c.pop.new.self.items put.utf8 c.in-Some.ensures.items some c.self.invariant
    ∙ (ap (λ (m : List ℕ). with_join (chars m) before) e ∙ ap (with_join (chars c.args.mark.now)) c.self.view_is))
    put.done
