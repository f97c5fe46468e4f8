use Rattle.std.proofs.Common.{◌<◌, ◌-◌, ℕ, List, sym, ◌∙◌, ap, length, arith}
use Rattle.std.specs.List.{slice_get}
use Rattle.std.specs.Str.{chars}
use Rattle.std.proofs.lemmas.Result.{on_ok_weaker}
use Rattle.std.specs.String.{string_bytes}
use Rattle.xls_operands.specs.Prefixes.{IsChain}
use Rattle.xls_operands.specs.Leaves.{texts_of}
use Rattle.xls_operands.specs.Pieces.{with_prefix}
use Rattle.xls_operands.proofs.LeafLemmas.{chain_of}
use Rattle.xls_operands.proofs.GroupLemmas.{last_is_top}
use Rattle.xls_operands.proofs.OperandLemmas.{start_within, put_of, prefixed_operands, prefixed_texts}
use Rattle.xls_operands.proofs.buffer.Operands.put_mark.Goals as goal

pub index_mut-requires : goal.index_mut-requires
index_mut-requires c =
    let top = last_is_top c.self.inside.starts.items c.in-Some.start.now (sym (c.in-Some.ensures.value ∙ ap (λ (x : List ℕ). slice_get x (length x - 1)) c.deref.ensures.value)) in
    let lt : c.in-Some.start.now < length c.self.inside.leaves.items = start_within c.self.inside.prefixes (string_bytes c.self.inside.text) c.self.inside.leaves.items c.self.inside.starts.items top.below c.in-Some.start.now top.is c.self.invariant in
    omega (arith, c.self.inside.leaves.ok.0)

pub put_at-requires : goal.put_at-requires
put_at-requires c =
    let top = last_is_top c.self.inside.starts.items c.in-Some.start.now (sym (c.in-Some.ensures.value ∙ ap (λ (x : List ℕ). slice_get x (length x - 1)) c.deref.ensures.value)) in
    let lt : c.in-Some.start.now < length c.self.inside.leaves.items = start_within c.self.inside.prefixes (string_bytes c.self.inside.text) c.self.inside.leaves.items c.self.inside.starts.items top.below c.in-Some.start.now top.is c.self.invariant in
    chain_of (length c.self.inside.prefixes) c.self.inside.leaves.items c.in-Some.start.now c.index_mut.result.now lt c.index_mut.ensures.value c.self.invariant.chained

pub invariant_of-self : goal.invariant_of-self
invariant_of-self c =
    let top = last_is_top c.self.inside.starts.items c.in-Some.start.now (sym (c.in-Some.ensures.value ∙ ap (λ (x : List ℕ). slice_get x (length x - 1)) c.deref.ensures.value)) in
    let lt : c.in-Some.start.now < length c.self.inside.leaves.items = start_within c.self.inside.prefixes (string_bytes c.self.inside.text) c.self.inside.leaves.items c.self.inside.starts.items top.below c.in-Some.start.now top.is c.self.invariant in
    let chain : IsChain (length c.self.inside.prefixes) c.index_mut.result.now.prefix = chain_of (length c.self.inside.prefixes) c.self.inside.leaves.items c.in-Some.start.now c.index_mut.result.now lt c.index_mut.ensures.value c.self.invariant.chained in
    let put = put_of c.put_at.result c.self.inside.prefixes c.put_at.new.prefixes c.index_mut.result.now c.put_at.new.leaf c.args.mark.now c.put_at.ensures.ok c.put_at.ensures.err chain c.utf8.mark in
    prefixed_operands c.self.inside.prefixes c.put_at.new.prefixes (string_bytes c.self.inside.text) c.self.inside.leaves.items c.in-Some.start.now c.index_mut.result.now c.put_at.new.leaf put.m lt c.index_mut.ensures.value put.is c.self.inside.starts.items put.utf8 top c.self.invariant

pub returns-in-Some : goal.returns-in-Some
returns-in-Some c =
    let top = last_is_top c.self.inside.starts.items c.in-Some.start.now (sym (c.in-Some.ensures.value ∙ ap (λ (x : List ℕ). slice_get x (length x - 1)) c.deref.ensures.value)) in
    let lt : c.in-Some.start.now < length c.self.inside.leaves.items = start_within c.self.inside.prefixes (string_bytes c.self.inside.text) c.self.inside.leaves.items c.self.inside.starts.items top.below c.in-Some.start.now top.is c.self.invariant in
    let chain : IsChain (length c.self.inside.prefixes) c.index_mut.result.now.prefix = chain_of (length c.self.inside.prefixes) c.self.inside.leaves.items c.in-Some.start.now c.index_mut.result.now lt c.index_mut.ensures.value c.self.invariant.chained in
    let put = put_of c.put_at.result c.self.inside.prefixes c.put_at.new.prefixes c.index_mut.result.now c.put_at.new.leaf c.args.mark.now c.put_at.ensures.ok c.put_at.ensures.err chain c.utf8.mark in
    let before : List (List ℕ) = texts_of c.self.inside.prefixes (string_bytes c.self.inside.text) c.self.inside.leaves.items c.self.inside.starts.items in
    on_ok_weaker c.put_at.result
    (λ e. prefixed_texts c.self.inside.prefixes c.put_at.new.prefixes (string_bytes c.self.inside.text) c.self.inside.leaves.items c.in-Some.start.now c.index_mut.result.now c.put_at.new.leaf put.m lt c.index_mut.ensures.value put.is c.self.inside.starts.items put.utf8 top c.self.invariant
    ∙ (ap (λ (m : List ℕ). with_prefix (chars m) before) e ∙ ap (with_prefix (chars c.args.mark.now)) c.self.view_is))
    put.done
