use Rattle.std.proofs.Common.{◌≡◌, ◌<◌, ℕ, List, length, sym, ◌∙◌, ap, arith, ◌++◌, Some}
use Rattle.std.specs.List.{slice_range}
use Rattle.xls_operands.specs.declared.prefixes.Piece.{Piece}
use Rattle.xls_operands.specs.Prefixes.{prefix_at, prefixes_of}
use Rattle.xls_operands.proofs.PrefixLemmas.{IsPiece, length-prefixes_of, piece_at, prefix_of_piece}
use Rattle.xls_operands.proofs.prefixes.Prefixes.piece.Goals as goal

-- the number is that of a piece
within : (bytes : List ℕ) (ps : List Piece) (prefixes : List (List ℕ)) (i : ℕ) → prefixes_of bytes ps ≡ prefixes → i < length prefixes → i < length ps
within bytes ps prefixes i e lt =
    let n : length prefixes ≡ length ps = sym (ap length e) ∙ length-prefixes_of bytes ps in
    omega arith

pub index-piece-requires : goal.index-piece-requires
index-piece-requires c =
    let lt : c.args.i < length c.self.inside.pieces.items = within c.self.inside.bytes.items c.self.inside.pieces.items c.args.self.now c.args.i c.self.view_is c.requires in
    omega (arith, c.self.inside.pieces.ok.0)

pub slice_bounds-result-count : goal.slice_bounds-result-count
slice_bounds-result-count c =
    let lt : c.args.i < length c.self.inside.pieces.items = within c.self.inside.bytes.items c.self.inside.pieces.items c.args.self.now c.args.i c.self.view_is c.requires in
    let at : IsPiece c.self.inside.bytes.items c.args.i c.index-piece.result.now = piece_at c.self.inside.bytes.items c.self.inside.pieces.items c.args.i c.index-piece.result.now lt c.index-piece.ensures c.self.invariant in
    at.ordered

pub slice_bounds-result-start : goal.slice_bounds-result-start
slice_bounds-result-start c =
    let lt : c.args.i < length c.self.inside.pieces.items = within c.self.inside.bytes.items c.self.inside.pieces.items c.args.self.now c.args.i c.self.view_is c.requires in
    let at : IsPiece c.self.inside.bytes.items c.args.i c.index-piece.result.now = piece_at c.self.inside.bytes.items c.self.inside.pieces.items c.args.i c.index-piece.result.now lt c.index-piece.ensures c.self.invariant in
    omega (arith, at.ordered)

pub slice_bounds-result-end : goal.slice_bounds-result-end
slice_bounds-result-end c =
    let lt : c.args.i < length c.self.inside.pieces.items = within c.self.inside.bytes.items c.self.inside.pieces.items c.args.self.now c.args.i c.self.view_is c.requires in
    let at : IsPiece c.self.inside.bytes.items c.args.i c.index-piece.result.now = piece_at c.self.inside.bytes.items c.self.inside.pieces.items c.args.i c.index-piece.result.now lt c.index-piece.ensures c.self.invariant in
    let n : length c.deref.result.now ≡ length c.self.inside.bytes.items = ap length c.deref.ensures.value in
    omega (arith, at.ordered, at.within)

pub returns-clause-text : goal.returns-clause-text
returns-clause-text c =
    let lt : c.args.i < length c.self.inside.pieces.items = within c.self.inside.bytes.items c.self.inside.pieces.items c.args.self.now c.args.i c.self.view_is c.requires in
    let p : Piece = c.index-piece.result.now in
    ap (λ (x : List (List ℕ)). prefix_at x (Some c.args.i)) (sym c.self.view_is)
    ∙ (prefix_of_piece c.self.inside.bytes.items c.self.inside.pieces.items c.args.i p lt c.index-piece.ensures c.self.invariant
    ∙ (ap (λ (x : List ℕ). slice_range x p.start p.end ++ prefix_at (prefixes_of c.self.inside.bytes.items c.self.inside.pieces.items) p.older) (sym c.deref.ensures.value)
    ∙ ap (λ (x : List (List ℕ)). slice_range c.deref.result.now p.start p.end ++ prefix_at x p.older) c.self.view_is))

pub returns-clause-older : goal.returns-clause-older
returns-clause-older c =
    let lt : c.args.i < length c.self.inside.pieces.items = within c.self.inside.bytes.items c.self.inside.pieces.items c.args.self.now c.args.i c.self.view_is c.requires in
    (piece_at c.self.inside.bytes.items c.self.inside.pieces.items c.args.i c.index-piece.result.now lt c.index-piece.ensures c.self.invariant).older
