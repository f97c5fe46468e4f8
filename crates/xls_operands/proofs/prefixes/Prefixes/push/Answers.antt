use Rattle.std.proofs.Common.{◌≡◌, ℕ, ◌++◌, ◌∷◌, [], List, length, sym, ◌∙◌, ap, subst, arith, Result, Ok, Err, OnErr}
use Rattle.xls_operands.specs.declared.prefixes.Piece.{Piece}
use Rattle.xls_operands.specs.Prefixes.{IsChain, prefix_at, prefixes_of, ArePieces}
use Rattle.xls_operands.proofs.PrefixLemmas.{length-prefixes_of, pushed_pieces, pushed_prefixes, prefixes_kept, pieces_stay}
use Rattle.xls_operands.proofs.prefixes.Prefixes.push.Goals as goal

-- the lists that the code left
are_left : (bytes bytes' : List ℕ) (ps ps' : List Piece) → bytes ≡ bytes' → ps ≡ ps' → ArePieces 0 bytes ps → ArePieces 0 bytes' ps'
are_left bytes bytes' ps ps' b p h = subst (λ (x : List ℕ). ArePieces 0 x ps') b (subst (ArePieces 0 bytes) p h)

prefixes_left : (bytes bytes' : List ℕ) (ps ps' : List Piece) → bytes ≡ bytes' → ps ≡ ps' → prefixes_of bytes ps ≡ prefixes_of bytes' ps'
prefixes_left bytes bytes' ps ps' b p = ap (λ (x : List ℕ). prefixes_of x ps) b ∙ ap (prefixes_of bytes') p

on_err_of : {T E P : Type 0} (r : Result T E) → P → OnErr r P
on_err_of (Ok x) p = tt
on_err_of (Err e) p = p

pub invariant_of-self-in_err-push : goal.invariant_of-self-in_err-push
invariant_of-self-in_err-push c =
    are_left (c.self.inside.bytes.items ++ c.args.mark.now) c.extend_from_slice.new.self.items c.self.inside.pieces.items c.push.new.self.items
    (sym c.in_ok-extend_from_slice.ensures.items) (sym c.in_err-push.ensures.items)
    (pieces_stay c.self.inside.bytes.items c.args.mark.now c.self.inside.pieces.items c.self.invariant)

pub returns-in_err-push-clause-err : goal.returns-in_err-push-clause-err
returns-in_err-push-clause-err c =
    let same : prefixes_of c.extend_from_slice.new.self.items c.push.new.self.items ≡ c.args.self.now =
    sym (prefixes_left (c.self.inside.bytes.items ++ c.args.mark.now) c.extend_from_slice.new.self.items c.self.inside.pieces.items c.push.new.self.items
    (sym c.in_ok-extend_from_slice.ensures.items) (sym c.in_err-push.ensures.items))
    ∙ (prefixes_kept c.self.inside.bytes.items c.args.mark.now c.self.inside.pieces.items c.self.invariant
    ∙ c.self.view_is) in
    on_err_of c.from_residual-in_err-push.result same

pub invariant_of-self-2 : goal.invariant_of-self-2
invariant_of-self-2 c =
    let p : Piece = record { start = c.len-start.result; end = c.len-end.result; older = c.args.older } in
    let chain : IsChain (length c.self.inside.pieces.items) c.args.older =
    subst (λ k. IsChain k c.args.older) (sym (ap length c.self.view_is) ∙ length-prefixes_of c.self.inside.bytes.items c.self.inside.pieces.items) c.requires in
    let start : c.len-start.result ≡ length c.self.inside.bytes.items = omega (arith, c.len-start.ensures, c.self.inside.bytes.ok.0) in
    let end : c.len-end.result ≡ length (c.self.inside.bytes.items ++ c.args.mark.now) =
    omega (arith, c.len-end.ensures, c.extend_from_slice.new.self.ok.0) ∙ ap length c.in_ok-extend_from_slice.ensures.items in
    are_left (c.self.inside.bytes.items ++ c.args.mark.now) c.extend_from_slice.new.self.items (c.self.inside.pieces.items ++ p ∷ []) c.push.new.self.items
    (sym c.in_ok-extend_from_slice.ensures.items) (sym c.in_ok-push.ensures.items)
    (pushed_pieces c.self.inside.bytes.items c.args.mark.now c.self.inside.pieces.items p start end c.self.invariant chain)

pub returns-clause-ok : goal.returns-clause-ok
returns-clause-ok c =
    let p : Piece = record { start = c.len-start.result; end = c.len-end.result; older = c.args.older } in
    let start : c.len-start.result ≡ length c.self.inside.bytes.items = omega (arith, c.len-start.ensures, c.self.inside.bytes.ok.0) in
    let end : c.len-end.result ≡ length (c.self.inside.bytes.items ++ c.args.mark.now) =
    omega (arith, c.len-end.ensures, c.extend_from_slice.new.self.ok.0) ∙ ap length c.in_ok-extend_from_slice.ensures.items in
    let number : c.len-i.result ≡ length c.args.self.now =
    omega (arith, c.len-i.ensures, c.self.inside.pieces.ok.0)
    ∙ (sym (length-prefixes_of c.self.inside.bytes.items c.self.inside.pieces.items) ∙ ap length c.self.view_is) in (
      number,
      sym (prefixes_left (c.self.inside.bytes.items ++ c.args.mark.now) c.extend_from_slice.new.self.items (c.self.inside.pieces.items ++ p ∷ []) c.push.new.self.items
          (sym c.in_ok-extend_from_slice.ensures.items) (sym c.in_ok-push.ensures.items))
          ∙ (pushed_prefixes c.self.inside.bytes.items c.args.mark.now c.self.inside.pieces.items p start end c.self.invariant
          ∙ ap (λ (x : List (List ℕ)). x ++ (c.args.mark.now ++ prefix_at x c.args.older) ∷ []) c.self.view_is),
    )
