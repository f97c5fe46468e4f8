-- Chains of pieces, and their texts.
use Rattle.std.proofs.Common.{suc, zero, ◌≡◌, ℕ, ◌+◌, ◌-◌, ◌<◌, ◌≤◌, List, [], ◌∷◌, ◌++◌, length, take, drop, get_or, refl, sym, ◌∙◌, ap, subst, arith, length-append, length-drop, Option, Some, None}
use Rattle.std.specs.List.{slice_range}
use Rattle.std.proofs.lemmas.List.{length_push, get_or_push, get_or_append_left, take-append-le, drop-append-le, drop_at, take_all}
use Rattle.xls_operands.specs.declared.prefixes.Piece.{Piece}
use Rattle.xls_operands.specs.Prefixes.{prefix_at, IsChain, texts_after, prefixes_of, ArePieces}

-- ---- chains of earlier pieces stay

pub prefix_kept : (texts : List (List ℕ)) (x : List ℕ) (newest : Option ℕ) → IsChain (length texts) newest → prefix_at (texts ++ x ∷ []) newest ≡ prefix_at texts newest
prefix_kept texts x None h = refl
prefix_kept texts x (Some i) h = get_or_append_left texts (x ∷ []) [] i h

pub chain_kept : (n : ℕ) (newest : Option ℕ) → IsChain n newest → IsChain (suc n) newest
chain_kept n None h = tt
chain_kept n (Some i) h = omega (arith, h)

-- ---- the number of texts

length-texts_after : (earlier : List (List ℕ)) (bytes : List ℕ) (ps : List Piece) → length (texts_after earlier bytes ps) ≡ length earlier + length ps
length-texts_after earlier bytes [] = omega arith
length-texts_after earlier bytes (p ∷ ps) =
    let more : List (List ℕ) = earlier ++ (slice_range bytes p.start p.end ++ prefix_at earlier p.older) ∷ [] in
    let n : length more ≡ length earlier + 1 = length_push earlier (slice_range bytes p.start p.end ++ prefix_at earlier p.older) in
    let m : length (texts_after more bytes ps) ≡ length more + length ps = length-texts_after more bytes ps in
    omega arith

pub length-prefixes_of : (bytes : List ℕ) (ps : List Piece) → length (prefixes_of bytes ps) ≡ length ps
length-prefixes_of bytes ps = let n : length (texts_after [] bytes ps) ≡ 0 + length ps = length-texts_after [] bytes ps in omega arith

-- ---- one piece more

texts_push : (earlier : List (List ℕ)) (bytes : List ℕ) (ps : List Piece) (p : Piece) →
    texts_after earlier bytes (ps ++ p ∷ []) ≡ texts_after earlier bytes ps ++ (slice_range bytes p.start p.end ++ prefix_at (texts_after earlier bytes ps) p.older) ∷ []
texts_push earlier bytes [] p = refl
texts_push earlier bytes (q ∷ ps) p = texts_push (earlier ++ (slice_range bytes q.start q.end ++ prefix_at earlier q.older) ∷ []) bytes ps p

range_kept : (bytes more : List ℕ) (start end : ℕ) → start ≤ end → end ≤ length bytes → slice_range (bytes ++ more) start end ≡ slice_range bytes start end
range_kept bytes more start end le fits =
    let n : length (drop start bytes) ≡ length bytes - start = length-drop start bytes in
    ap (take (end - start)) (drop-append-le start bytes more (omega arith)) ∙ take-append-le (end - start) (drop start bytes) more (omega arith)

-- with more bytes behind
texts_kept : (earlier : List (List ℕ)) (bytes more : List ℕ) (n : ℕ) (ps : List Piece) → ArePieces n bytes ps → texts_after earlier (bytes ++ more) ps ≡ texts_after earlier bytes ps
texts_kept earlier bytes more n [] h = refl
texts_kept earlier bytes more n (p ∷ ps) h =
    ap (λ (x : List ℕ). texts_after (earlier ++ (x ++ prefix_at earlier p.older) ∷ []) (bytes ++ more) ps) (range_kept bytes more p.start p.end h.0 h.1)
    ∙ texts_kept (earlier ++ (slice_range bytes p.start p.end ++ prefix_at earlier p.older) ∷ []) bytes more (suc n) ps h.3

pieces_kept : (bytes more : List ℕ) (n : ℕ) (ps : List Piece) → ArePieces n bytes ps → ArePieces n (bytes ++ more) ps
pieces_kept bytes more n [] h = tt
pieces_kept bytes more n (p ∷ ps) h = (h.0, omega (arith, h.1, length-append bytes more), h.2, pieces_kept bytes more (suc n) ps h.3)

pieces_push : (bytes : List ℕ) (n : ℕ) (ps : List Piece) (p : Piece) → ArePieces n bytes ps → p.start ≤ p.end → p.end ≤ length bytes → IsChain (n + length ps) p.older → ArePieces n bytes (ps ++ p ∷ [])
pieces_push bytes n [] p h a b c = (a, b, subst (λ k. IsChain k p.older) (omega arith) c, tt)
pieces_push bytes n (q ∷ ps) p h a b c = (h.0, h.1, h.2, pieces_push bytes (suc n) ps p h.3 a b (subst (λ k. IsChain k p.older) (omega arith) c))

-- ---- the text of a piece

text_kept : (earlier : List (List ℕ)) (bytes : List ℕ) (ps : List Piece) (newest : Option ℕ) → IsChain (length earlier) newest → prefix_at (texts_after earlier bytes ps) newest ≡ prefix_at earlier newest
text_kept earlier bytes [] newest h = refl
text_kept earlier bytes (p ∷ ps) newest h =
    let x : List ℕ = slice_range bytes p.start p.end ++ prefix_at earlier p.older in
    let n : suc (length earlier) ≡ length (earlier ++ x ∷ []) = omega (arith, length_push earlier x) in
    text_kept (earlier ++ x ∷ []) bytes ps newest (subst (λ k. IsChain k newest) n (chain_kept (length earlier) newest h))
    ∙ prefix_kept earlier x newest h

own_text : (earlier : List (List ℕ)) (bytes : List ℕ) (ps : List Piece) (p : Piece) → IsChain (length earlier) p.older →
    prefix_at (texts_after earlier bytes (p ∷ ps)) (Some (length earlier)) ≡ slice_range bytes p.start p.end ++ prefix_at (texts_after earlier bytes (p ∷ ps)) p.older
own_text earlier bytes ps p h =
    let x : List ℕ = slice_range bytes p.start p.end ++ prefix_at earlier p.older in
    let n : length (earlier ++ x ∷ []) ≡ length earlier + 1 = length_push earlier x in
    text_kept (earlier ++ x ∷ []) bytes ps (Some (length earlier)) (omega arith)
    ∙ (get_or_push earlier x [] (length earlier) refl
    ∙ ap (λ (y : List ℕ). slice_range bytes p.start p.end ++ y) (sym (text_kept earlier bytes (p ∷ ps) p.older h)))

texts_at : (earlier : List (List ℕ)) (bytes : List ℕ) (ps : List Piece) (i : ℕ) (p : Piece) → i < length ps → p ≡ get_or ps i p → ArePieces (length earlier) bytes ps →
    prefix_at (texts_after earlier bytes ps) (Some (length earlier + i)) ≡ slice_range bytes p.start p.end ++ prefix_at (texts_after earlier bytes ps) p.older
texts_at earlier bytes [] i p lt is h = absurd (omega arith)
texts_at earlier bytes (q ∷ ps) zero p lt is h =
    ap (λ k. prefix_at (texts_after earlier bytes (q ∷ ps)) (Some k)) (omega arith)
    ∙ (own_text earlier bytes ps q h.2
    ∙ ap (λ (x : Piece). slice_range bytes x.start x.end ++ prefix_at (texts_after earlier bytes (q ∷ ps)) x.older) (sym is))
texts_at earlier bytes (q ∷ ps) (suc i) p lt is h =
    let x : List ℕ = slice_range bytes q.start q.end ++ prefix_at earlier q.older in
    let n : length (earlier ++ x ∷ []) ≡ suc (length earlier) = length_push earlier x ∙ omega arith in
    ap (λ k. prefix_at (texts_after earlier bytes (q ∷ ps)) (Some k)) (omega (arith, n))
    ∙ texts_at (earlier ++ x ∷ []) bytes ps i p (omega (arith, lt)) is (subst (λ k. ArePieces k bytes ps) (sym n) h.3)

-- the text of a piece: its bytes, and then the chain behind it
pub prefix_of_piece : (bytes : List ℕ) (ps : List Piece) (i : ℕ) (p : Piece) → i < length ps → p ≡ get_or ps i p → ArePieces 0 bytes ps →
    prefix_at (prefixes_of bytes ps) (Some i) ≡ slice_range bytes p.start p.end ++ prefix_at (prefixes_of bytes ps) p.older
prefix_of_piece bytes ps i p lt is h =
    ap (λ k. prefix_at (prefixes_of bytes ps) (Some k)) (omega arith) ∙ texts_at [] bytes ps i p lt is h

-- a piece is a range of the bytes, and its chain is older
pub record IsPiece (bytes : List ℕ) (i : ℕ) (p : Piece) : Type 0 where
  pub ordered : p.start ≤ p.end
  pub within : p.end ≤ length bytes
  pub older : IsChain i p.older

piece_after : (bytes : List ℕ) (n : ℕ) (ps : List Piece) (i : ℕ) (p : Piece) → i < length ps → p ≡ get_or ps i p → ArePieces n bytes ps → IsPiece bytes (n + i) p
piece_after bytes n [] i p lt is h = absurd (omega arith)
piece_after bytes n (q ∷ ps) zero p lt is h =
    subst (IsPiece bytes (n + 0)) (sym is) (record { ordered = h.0; within = h.1; older = subst (λ k. IsChain k q.older) (omega arith) h.2 })
piece_after bytes n (q ∷ ps) (suc i) p lt is h =
    subst (λ k. IsPiece bytes k p) (omega arith) (piece_after bytes (suc n) ps i p (omega (arith, lt)) is h.3)

pub piece_at : (bytes : List ℕ) (ps : List Piece) (i : ℕ) (p : Piece) → i < length ps → p ≡ get_or ps i p → ArePieces 0 bytes ps → IsPiece bytes i p
piece_at bytes ps i p lt is h = subst (λ k. IsPiece bytes k p) (omega arith) (piece_after bytes 0 ps i p lt is h)

-- ---- a piece of the bytes that were appended

range_new : (bytes more : List ℕ) (start end : ℕ) → start ≡ length bytes → end ≡ length (bytes ++ more) → slice_range (bytes ++ more) start end ≡ more
range_new bytes more start end s e =
    let n : length (bytes ++ more) ≡ length bytes + length more = length-append bytes more in
    ap (take (end - start)) (drop_at bytes more start (sym s)) ∙ take_all (end - start) more (omega arith)

module _ (bytes more : List ℕ) (ps : List Piece) (p : Piece) (s : p.start ≡ length bytes) (e : p.end ≡ length (bytes ++ more)) (h : ArePieces 0 bytes ps) where
  pub pushed_pieces : IsChain (length ps) p.older → ArePieces 0 (bytes ++ more) (ps ++ p ∷ [])
  pushed_pieces c =
      let n : length (bytes ++ more) ≡ length bytes + length more = length-append bytes more in
      pieces_push (bytes ++ more) 0 ps p (pieces_kept bytes more 0 ps h) (omega arith) (omega arith) (subst (λ k. IsChain k p.older) (omega arith) c)

  pub pushed_prefixes : prefixes_of (bytes ++ more) (ps ++ p ∷ []) ≡ prefixes_of bytes ps ++ (more ++ prefix_at (prefixes_of bytes ps) p.older) ∷ []
  pushed_prefixes =
      texts_push [] (bytes ++ more) ps p
      ∙ (ap (λ (x : List ℕ). prefixes_of (bytes ++ more) ps ++ (x ++ prefix_at (prefixes_of (bytes ++ more) ps) p.older) ∷ []) (range_new bytes more p.start p.end s e)
      ∙ ap (λ (x : List (List ℕ)). x ++ (more ++ prefix_at x p.older) ∷ []) (texts_kept [] bytes more 0 ps h))

-- bytes without a piece change nothing
pub prefixes_kept : (bytes more : List ℕ) (ps : List Piece) → ArePieces 0 bytes ps → prefixes_of (bytes ++ more) ps ≡ prefixes_of bytes ps
prefixes_kept bytes more ps h = texts_kept [] bytes more 0 ps h

pub pieces_stay : (bytes more : List ℕ) (ps : List Piece) → ArePieces 0 bytes ps → ArePieces 0 (bytes ++ more) ps
pieces_stay bytes more ps h = pieces_kept bytes more 0 ps h
