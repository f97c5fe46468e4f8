-- Leaves, and the operands that they make.
use Rattle.std.proofs.Common.{suc, zero, ◌≡◌, ℕ, ◌+◌, ◌-◌, ◌<◌, ◌≤◌, List, [], ◌∷◌, ◌++◌, length, take, drop, get_or, refl, sym, ◌∙◌, ap, subst, arith, append_assoc, length-append, length-drop, Option, Some, None}
use Rattle.std.proofs.Math.ListN.{set}
use Rattle.std.specs.List.{concat}
use Rattle.std.proofs.lemmas.List.{append-nil, length_push, get_or_push, take-append-le, drop-append-le, drop_more, take_all, drop_all}
use Rattle.xls_operands.specs.declared.buffer.Leaf.{Leaf}
use Rattle.xls_operands.specs.Prefixes.{prefix_at, IsChain}
use Rattle.xls_operands.specs.Leaves.{leaf_texts, AreWhole, AreChained, IsMarked}
use Rattle.xls_operands.proofs.PrefixLemmas.{prefix_kept, chain_kept}

pub concat-append : (xs ys : List (List ℕ)) → concat (xs ++ ys) ≡ concat xs ++ concat ys
concat-append [] ys = refl
concat-append (x ∷ xs) ys = ap (λ (z : List ℕ). x ++ z) (concat-append xs ys) ∙ sym (append_assoc x (concat xs) (concat ys))

-- ---- leaves as texts

pub length-leaf_texts : (prefixes : List (List ℕ)) (text : List ℕ) (ls : List Leaf) → length (leaf_texts prefixes text ls) ≡ length ls
length-leaf_texts prefixes text [] = refl
length-leaf_texts prefixes text (l ∷ ls) = ap (λ n. suc n) (length-leaf_texts prefixes (drop l.len text) ls)

pub texts_push : (prefixes : List (List ℕ)) (text : List ℕ) (ls : List Leaf) (leaf : Leaf) → leaf.len ≡ 0 → leaf.prefix ≡ None → leaf_texts prefixes text (ls ++ leaf ∷ []) ≡ leaf_texts prefixes text ls ++ [] ∷ []
texts_push prefixes text [] leaf z e =
    ap (λ (x : Option ℕ). (prefix_at prefixes x ++ take leaf.len text) ∷ []) e ∙ ap (λ n. take n text ∷ []) z
texts_push prefixes text (l ∷ ls) leaf z e =
    ap (λ (x : List (List ℕ)). (prefix_at prefixes l.prefix ++ take l.len text) ∷ x) (texts_push prefixes (drop l.len text) ls leaf z e)

pub whole_push : (text : List ℕ) (ls : List Leaf) (leaf : Leaf) → leaf.len ≡ 0 → AreWhole text ls → AreWhole text (ls ++ leaf ∷ [])
whole_push text [] leaf z w = (omega (arith, z), ap (λ n. drop n text) z ∙ w)
whole_push text (l ∷ ls) leaf z w = (w.0, whole_push (drop l.len text) ls leaf z w.1)

pub chained_push : (n : ℕ) (ls : List Leaf) (leaf : Leaf) → leaf.prefix ≡ None → AreChained n ls → AreChained n (ls ++ leaf ∷ [])
chained_push n [] leaf e h = (subst (IsChain n) (sym e) tt, tt)
chained_push n (l ∷ ls) leaf e h = (h.0, chained_push n ls leaf e h.1)

-- ---- a mark before a leaf

-- the leaf is that one with these bytes before it, and what was put before others is as it was
pub record IsBefore (prefixes new : List (List ℕ)) (old leaf : Leaf) (m : List ℕ) : Type 0 where
  pub len : leaf.len ≡ old.len
  pub chain : IsChain (length new) leaf.prefix
  pub prefix : prefix_at new leaf.prefix ≡ m ++ prefix_at prefixes old.prefix
  pub chains : (newest : Option ℕ) → IsChain (length prefixes) newest → IsChain (length new) newest
  pub others : (newest : Option ℕ) → IsChain (length prefixes) newest → prefix_at new newest ≡ prefix_at prefixes newest

before_by : (prefixes : List (List ℕ)) (old leaf : Leaf) (m : List ℕ) → leaf.len ≡ old.len → leaf.prefix ≡ Some (length prefixes) → IsBefore prefixes (prefixes ++ (m ++ prefix_at prefixes old.prefix) ∷ []) old leaf m
before_by prefixes old leaf m n f =
    let x : List ℕ = m ++ prefix_at prefixes old.prefix in
    let more : length (prefixes ++ x ∷ []) ≡ length prefixes + 1 = length_push prefixes x in
    let last : IsChain (length (prefixes ++ x ∷ [])) (Some (length prefixes)) = omega arith in
    record {
      len = n;
      chain = subst (IsChain (length (prefixes ++ x ∷ []))) (sym f) last;
      prefix = ap (prefix_at (prefixes ++ x ∷ [])) f ∙ get_or_push prefixes x [] (length prefixes) refl;
      chains = λ newest h. subst (λ k. IsChain k newest) (omega arith) (chain_kept (length prefixes) newest h);
      others = λ newest h. prefix_kept prefixes x newest h;
    }

pub before_marked : (prefixes new : List (List ℕ)) (old leaf : Leaf) (m : List ℕ) → IsMarked prefixes new old leaf m → IsBefore prefixes new old leaf m
before_marked prefixes new old leaf m e =
    subst (λ (x : List (List ℕ)). IsBefore prefixes x old leaf m) (sym e.pieces) (before_by prefixes old leaf m e.len e.prefix)

pub before_nothing : (prefixes new : List (List ℕ)) (old leaf : Leaf) → new ≡ prefixes → leaf ≡ old → IsChain (length prefixes) old.prefix → IsBefore prefixes new old leaf []
before_nothing prefixes new old leaf e f h =
    subst (λ (x : List (List ℕ)). IsBefore prefixes x old leaf []) (sym e)
    (subst (λ (x : Leaf). IsBefore prefixes prefixes old x []) (sym f) (record {
      len = refl;
      chain = h;
      prefix = refl;
      chains = λ newest g. g;
      others = λ newest g. refl;
    }))

texts_same : (prefixes new : List (List ℕ)) (text : List ℕ) (ls : List Leaf) (old leaf : Leaf) (m : List ℕ) → IsBefore prefixes new old leaf m → AreChained (length prefixes) ls → leaf_texts new text ls ≡ leaf_texts prefixes text ls
texts_same prefixes new text [] old leaf m e h = refl
texts_same prefixes new text (l ∷ ls) old leaf m e h =
    ap (λ (x : List ℕ). (x ++ take l.len text) ∷ leaf_texts new (drop l.len text) ls) (e.others l.prefix h.0)
    ∙ ap (λ (x : List (List ℕ)). (prefix_at prefixes l.prefix ++ take l.len text) ∷ x) (texts_same prefixes new (drop l.len text) ls old leaf m e h.1)

pub texts_set : (prefixes new : List (List ℕ)) (text : List ℕ) (ls : List Leaf) (i : ℕ) (old leaf : Leaf) (m : List ℕ) → i < length ls → old ≡ get_or ls i old → IsBefore prefixes new old leaf m → AreChained (length prefixes) ls →
    leaf_texts new text (set ls i leaf) ≡ set (leaf_texts prefixes text ls) i (m ++ get_or (leaf_texts prefixes text ls) i [])
texts_set prefixes new text [] i old leaf m lt is e h = absurd (omega arith)
texts_set prefixes new text (l ∷ ls) zero old leaf m lt is e h =
    let n : leaf.len ≡ l.len = e.len ∙ ap (λ (x : Leaf). x.len) is in
    let f : prefix_at new leaf.prefix ≡ m ++ prefix_at prefixes l.prefix = e.prefix ∙ ap (λ (x : Leaf). m ++ prefix_at prefixes x.prefix) is in
    ap (λ k. (prefix_at new leaf.prefix ++ take k text) ∷ leaf_texts new (drop k text) ls) n
    ∙ (ap (λ (x : List ℕ). (x ++ take l.len text) ∷ leaf_texts new (drop l.len text) ls) f
    ∙ (ap (λ (x : List ℕ). x ∷ leaf_texts new (drop l.len text) ls) (append_assoc m (prefix_at prefixes l.prefix) (take l.len text))
    ∙ ap (λ (x : List (List ℕ)). (m ++ (prefix_at prefixes l.prefix ++ take l.len text)) ∷ x) (texts_same prefixes new (drop l.len text) ls old leaf m e h.1)))
texts_set prefixes new text (l ∷ ls) (suc i) old leaf m lt is e h =
    ap (λ (x : List ℕ). (x ++ take l.len text) ∷ leaf_texts new (drop l.len text) (set ls i leaf)) (e.others l.prefix h.0)
    ∙ ap (λ (x : List (List ℕ)). (prefix_at prefixes l.prefix ++ take l.len text) ∷ x) (texts_set prefixes new (drop l.len text) ls i old leaf m (omega (arith, lt)) is e h.1)

pub whole_set : (text : List ℕ) (ls : List Leaf) (i : ℕ) (old leaf : Leaf) → i < length ls → old ≡ get_or ls i old → leaf.len ≡ old.len → AreWhole text ls → AreWhole text (set ls i leaf)
whole_set text [] i old leaf lt is e w = absurd (omega arith)
whole_set text (l ∷ ls) zero old leaf lt is e w =
    subst (λ k. (k ≤ length text) × AreWhole (drop k text) ls) (sym (e ∙ ap (λ (x : Leaf). x.len) is)) w
whole_set text (l ∷ ls) (suc i) old leaf lt is e w = (w.0, whole_set (drop l.len text) ls i old leaf (omega (arith, lt)) is e w.1)

chained_same : (prefixes new : List (List ℕ)) (ls : List Leaf) (old leaf : Leaf) (m : List ℕ) → IsBefore prefixes new old leaf m → AreChained (length prefixes) ls → AreChained (length new) ls
chained_same prefixes new [] old leaf m e h = tt
chained_same prefixes new (l ∷ ls) old leaf m e h = (e.chains l.prefix h.0, chained_same prefixes new ls old leaf m e h.1)

pub chained_set : (prefixes new : List (List ℕ)) (ls : List Leaf) (i : ℕ) (old leaf : Leaf) (m : List ℕ) → IsBefore prefixes new old leaf m → AreChained (length prefixes) ls → AreChained (length new) (set ls i leaf)
chained_set prefixes new [] i old leaf m e h = tt
chained_set prefixes new (l ∷ ls) zero old leaf m e h = (e.chain, chained_same prefixes new ls old leaf m e h.1)
chained_set prefixes new (l ∷ ls) (suc i) old leaf m e h = (e.chains l.prefix h.0, chained_set prefixes new ls i old leaf m e h.1)

-- the chain of a leaf
pub chain_of : (n : ℕ) (ls : List Leaf) (i : ℕ) (leaf : Leaf) → i < length ls → leaf ≡ get_or ls i leaf → AreChained n ls → IsChain n leaf.prefix
chain_of n [] i leaf lt is h = absurd (omega arith)
chain_of n (l ∷ ls) zero leaf lt is h = subst (λ (x : Leaf). IsChain n x.prefix) (sym is) h.0
chain_of n (l ∷ ls) (suc i) leaf lt is h = chain_of n ls i leaf (omega (arith, lt)) is h.1

-- a mark behind the last leaf
pub record IsLonger (old leaf : Leaf) (mark : List ℕ) : Type 0 where
  pub len : leaf.len ≡ old.len + length mark
  pub prefix : leaf.prefix ≡ old.prefix

whole_length : (text : List ℕ) (l : Leaf) → l.len ≤ length text → drop l.len text ≡ [] → length text ≡ l.len
whole_length text l le e =
    let n : length (drop l.len text) ≡ 0 = ap length e in
    let m : length (drop l.len text) ≡ length text - l.len = length-drop l.len text in
    omega arith

longer_one : (prefixes : List (List ℕ)) (text mark : List ℕ) (l leaf : Leaf) → leaf.len ≡ l.len + length mark → leaf.prefix ≡ l.prefix → l.len ≤ length text → drop l.len text ≡ [] → prefix_at prefixes leaf.prefix ++ take leaf.len (text ++ mark) ≡ (prefix_at prefixes l.prefix ++ take l.len text) ++ mark
longer_one prefixes text mark l leaf n f le e =
    let same : length text ≡ l.len = whole_length text l le e in
    let all : length (text ++ mark) ≡ length text + length mark = length-append text mark in
    ap (λ (x : Option ℕ). prefix_at prefixes x ++ take leaf.len (text ++ mark)) f
    ∙ (ap (λ (x : List ℕ). prefix_at prefixes l.prefix ++ x) (take_all leaf.len (text ++ mark) (omega arith))
    ∙ (sym (append_assoc (prefix_at prefixes l.prefix) text mark)
    ∙ ap (λ (x : List ℕ). (prefix_at prefixes l.prefix ++ x) ++ mark) (sym (take_all l.len text (omega arith)))))

pub texts_last : (prefixes : List (List ℕ)) (text mark : List ℕ) (ls : List Leaf) (last : ℕ) (old leaf : Leaf) → last + 1 ≡ length ls → old ≡ get_or ls last old → IsLonger old leaf mark → AreWhole text ls → leaf_texts prefixes (text ++ mark) (set ls last leaf) ≡ set (leaf_texts prefixes text ls) last (get_or (leaf_texts prefixes text ls) last [] ++ mark)
texts_last prefixes text mark [] last old leaf n is e w = absurd (omega arith)
texts_last prefixes text mark (l ∷ []) zero old leaf n is e w =
    ap (λ (x : List ℕ). x ∷ []) (longer_one prefixes text mark l leaf (e.len ∙ ap (λ (x : Leaf). x.len + length mark) is) (e.prefix ∙ ap (λ (x : Leaf). x.prefix) is) w.0 w.1)
texts_last prefixes text mark (l ∷ []) (suc last) old leaf n is e w = absurd (omega (arith, n))
texts_last prefixes text mark (l ∷ k ∷ ls) zero old leaf n is e w = absurd (omega (arith, n))
texts_last prefixes text mark (l ∷ k ∷ ls) (suc last) old leaf n is e w =
    ap (λ (x : List ℕ). (prefix_at prefixes l.prefix ++ x) ∷ leaf_texts prefixes (drop l.len (text ++ mark)) (set (k ∷ ls) last leaf)) (take-append-le l.len text mark w.0)
    ∙ (ap (λ (x : List ℕ). (prefix_at prefixes l.prefix ++ take l.len text) ∷ leaf_texts prefixes x (set (k ∷ ls) last leaf)) (drop-append-le l.len text mark w.0)
    ∙ ap (λ (x : List (List ℕ)). (prefix_at prefixes l.prefix ++ take l.len text) ∷ x) (texts_last prefixes (drop l.len text) mark (k ∷ ls) last old leaf (omega (arith, n)) is e w.1))

longer_whole : (text mark : List ℕ) (l leaf : Leaf) → leaf.len ≡ l.len + length mark → l.len ≤ length text → drop l.len text ≡ [] → (leaf.len ≤ length (text ++ mark)) × (drop leaf.len (text ++ mark) ≡ [])
longer_whole text mark l leaf n le e =
    let same : length text ≡ l.len = whole_length text l le e in
    let all : length (text ++ mark) ≡ length text + length mark = length-append text mark in
    (omega arith, drop_all leaf.len (text ++ mark) (omega arith))

pub whole_last : (text mark : List ℕ) (ls : List Leaf) (last : ℕ) (old leaf : Leaf) → last + 1 ≡ length ls → old ≡ get_or ls last old → IsLonger old leaf mark → AreWhole text ls → AreWhole (text ++ mark) (set ls last leaf)
whole_last text mark [] last old leaf n is e w = absurd (omega arith)
whole_last text mark (l ∷ []) zero old leaf n is e w = longer_whole text mark l leaf (e.len ∙ ap (λ (x : Leaf). x.len + length mark) is) w.0 w.1
whole_last text mark (l ∷ []) (suc last) old leaf n is e w = absurd (omega (arith, n))
whole_last text mark (l ∷ k ∷ ls) zero old leaf n is e w = absurd (omega (arith, n))
whole_last text mark (l ∷ k ∷ ls) (suc last) old leaf n is e w =
    let all : length (text ++ mark) ≡ length text + length mark = length-append text mark in
    (omega (arith, w.0), subst (λ (x : List ℕ). AreWhole x (set (k ∷ ls) last leaf)) (sym (drop-append-le l.len text mark w.0)) (whole_last (drop l.len text) mark (k ∷ ls) last old leaf (omega (arith, n)) is e w.1))

pub chained_last : (n : ℕ) (ls : List Leaf) (i : ℕ) (old leaf : Leaf) → i < length ls → old ≡ get_or ls i old → leaf.prefix ≡ old.prefix → AreChained n ls → AreChained n (set ls i leaf)
chained_last n [] i old leaf lt is e h = absurd (omega arith)
chained_last n (l ∷ ls) zero old leaf lt is e h = (subst (IsChain n) (sym (e ∙ ap (λ (x : Leaf). x.prefix) is)) h.0, h.1)
chained_last n (l ∷ ls) (suc i) old leaf lt is e h = (h.0, chained_last n ls i old leaf (omega (arith, lt)) is e h.1)

-- no leaf is longer than the text
pub leaf_within : (text : List ℕ) (ls : List Leaf) (i : ℕ) (old : Leaf) → i < length ls → old ≡ get_or ls i old → AreWhole text ls → old.len ≤ length text
leaf_within text [] i old lt is w = absurd (omega arith)
leaf_within text (l ∷ ls) zero old lt is w =
    let n : old.len ≡ l.len = ap (λ (x : Leaf). x.len) is in
    omega (arith, w.0)
leaf_within text (l ∷ ls) (suc i) old lt is w =
    let m : length (drop l.len text) ≡ length text - l.len = length-drop l.len text in
    let le : old.len ≤ length (drop l.len text) = leaf_within (drop l.len text) ls i old (omega (arith, lt)) is w.1 in
    omega arith

-- ---- the leaves one after another

-- so many leaves were written, and what is left is that of the others
pub record IsWritten (prefixes : List (List ℕ)) (text : List ℕ) (ls : List Leaf) (out rest : List ℕ) (i : ℕ) : Type 0 where
  pub whole : AreWhole rest (drop i ls)
  pub is : out ++ concat (leaf_texts prefixes rest (drop i ls)) ≡ concat (leaf_texts prefixes text ls)

pub written_more : (prefixes : List (List ℕ)) (text : List ℕ) (ls : List Leaf) (out prefix body new rest after : List ℕ) (i : ℕ) (leaf : Leaf) → i < length ls → leaf ≡ get_or ls i leaf → IsWritten prefixes text ls out rest i →
    prefix ≡ out ++ prefix_at prefixes leaf.prefix → body ≡ take leaf.len rest → new ≡ prefix ++ body → after ≡ drop leaf.len rest → IsWritten prefixes text ls new after (i + 1)
written_more prefixes text ls out prefix body new rest after i leaf lt there w f b e a =
    let others : List Leaf = drop (i + 1) ls in
    let d : drop i ls ≡ leaf ∷ others = drop_more ls i leaf lt ∙ ap (λ (x : Leaf). x ∷ others) (sym there) in
    let left : AreWhole rest (leaf ∷ others) = subst (AreWhole rest) d w.whole in
    let following : List ℕ = concat (leaf_texts prefixes (drop leaf.len rest) others) in
    record {
      whole = subst (λ (x : List ℕ). AreWhole x others) (sym a) left.1;
      is =
          ap (λ (x : List ℕ). x ++ concat (leaf_texts prefixes after others)) (e ∙ ap (λ (x : List ℕ). x ++ body) f ∙ ap (λ (x : List ℕ). (out ++ prefix_at prefixes leaf.prefix) ++ x) b)
          ∙ (ap (λ (x : List ℕ). ((out ++ prefix_at prefixes leaf.prefix) ++ take leaf.len rest) ++ concat (leaf_texts prefixes x others)) a
          ∙ (ap (λ (x : List ℕ). x ++ following) (append_assoc out (prefix_at prefixes leaf.prefix) (take leaf.len rest))
          ∙ (append_assoc out (prefix_at prefixes leaf.prefix ++ take leaf.len rest) following
          ∙ (ap (λ (x : List Leaf). out ++ concat (leaf_texts prefixes rest x)) (sym d)
          ∙ w.is))));
    }

-- the next leaf is within what is left
pub next_within : (prefixes : List (List ℕ)) (text : List ℕ) (ls : List Leaf) (out rest : List ℕ) (i : ℕ) (leaf : Leaf) → i < length ls → leaf ≡ get_or ls i leaf → IsWritten prefixes text ls out rest i → leaf.len ≤ length rest
next_within prefixes text ls out rest i leaf lt there w =
    let d : drop i ls ≡ leaf ∷ drop (i + 1) ls = drop_more ls i leaf lt ∙ ap (λ (x : Leaf). x ∷ drop (i + 1) ls) (sym there) in
    (subst (AreWhole rest) d w.whole).0

pub written_all : (prefixes : List (List ℕ)) (text : List ℕ) (ls : List Leaf) (out rest : List ℕ) (i : ℕ) → length ls ≤ i → IsWritten prefixes text ls out rest i → out ≡ concat (leaf_texts prefixes text ls)
written_all prefixes text ls out rest i le w =
    sym (append-nil out) ∙ (ap (λ (x : List Leaf). out ++ concat (leaf_texts prefixes rest x)) (sym (drop_all i ls le)) ∙ w.is)
