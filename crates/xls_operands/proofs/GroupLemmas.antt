-- Operands as groups of leaves, each leaf by its bytes.
use Rattle.std.proofs.Common.{suc, ◌≡◌, ℕ, ◌+◌, ◌-◌, ◌<◌, ◌≤◌, List, [], ◌∷◌, ◌++◌, length, take, drop, reverse, get_or, Some, refl, sym, ◌∙◌, ap, subst, arith, append_assoc}
use Rattle.std.proofs.Math.ListN.{set}
use Rattle.std.specs.List.{slice_get, concat}
use Rattle.std.proofs.lemmas.List.{append-nil, reverse-append, length-reverse, length-set, length_push, take-append-drop, take_at, drop_at, length-take-le, take-append-le, drop-append-le, drop_more, drop-set, take-set, take_more, take_all, set_at, get_or-reverse}
use Rattle.std.proofs.lemmas.Option.{slice_get_within, get_or_from_slice_get}
use Rattle.xls_operands.specs.Pieces.{with_prefix, with_suffix, with_join}
use Rattle.xls_operands.specs.Leaves.{operands_down, operands_of, IsGroupedDown, IsGrouped}
use Rattle.xls_operands.proofs.LeafLemmas.{concat-append}

length-operands_down : (leaves : List (List ℕ)) (down : List ℕ) → length (operands_down leaves down) ≡ length down
length-operands_down leaves [] = refl
length-operands_down leaves (s ∷ below) = ap (λ n. suc n) (length-operands_down (take s leaves) below)

pub length-operands_of : (leaves : List (List ℕ)) (starts : List ℕ) → length (operands_of leaves starts) ≡ length starts
length-operands_of leaves starts = length-operands_down leaves (reverse starts) ∙ length-reverse starts

-- ---- one leaf more

pub push_down : (leaves : List (List ℕ)) (word : List ℕ) (down : List ℕ) → operands_down (leaves ++ word ∷ []) (length leaves ∷ down) ≡ word ∷ operands_down leaves down
push_down leaves word down =
    ap (λ (x : List (List ℕ)). concat x ∷ operands_down (take (length leaves) (leaves ++ word ∷ [])) down) (drop_at leaves (word ∷ []) (length leaves) refl)
    ∙ (ap (λ (x : List (List ℕ)). (word ++ []) ∷ operands_down x down) (take_at leaves (word ∷ []) (length leaves) refl)
    ∙ ap (λ (x : List ℕ). x ∷ operands_down leaves down) (append-nil word))

pub grouped_push_down : (leaves : List (List ℕ)) (word : List ℕ) (down : List ℕ) → IsGroupedDown leaves down → IsGroupedDown (leaves ++ word ∷ []) (length leaves ∷ down)
grouped_push_down leaves word down g =
    (omega (arith, length_push leaves word), subst (λ (x : List (List ℕ)). IsGroupedDown x down) (sym (take_at leaves (word ∷ []) (length leaves) refl)) g)

reverse_push : (starts : List ℕ) (n : ℕ) → reverse (starts ++ n ∷ []) ≡ n ∷ reverse starts
reverse_push starts n = reverse-append starts (n ∷ [])

pub operands_push : (leaves : List (List ℕ)) (starts : List ℕ) (word : List ℕ) (n : ℕ) → n ≡ length leaves → operands_of (leaves ++ word ∷ []) (starts ++ n ∷ []) ≡ word ∷ operands_of leaves starts
operands_push leaves starts word n e =
    ap (operands_down (leaves ++ word ∷ [])) (reverse_push starts n ∙ ap (λ k. k ∷ reverse starts) e)
    ∙ push_down leaves word (reverse starts)

pub grouped_push : (leaves : List (List ℕ)) (starts : List ℕ) (word : List ℕ) (n : ℕ) → n ≡ length leaves → IsGrouped leaves starts → IsGrouped (leaves ++ word ∷ []) (starts ++ n ∷ [])
grouped_push leaves starts word n e g =
    subst (IsGroupedDown (leaves ++ word ∷ [])) (sym (reverse_push starts n ∙ ap (λ k. k ∷ reverse starts) e))
    (grouped_push_down leaves word (reverse starts) g)

-- ---- a mark before a leaf

before_down : (leaves : List (List ℕ)) (below : List ℕ) (start : ℕ) (mark : List ℕ) → start < length leaves → operands_down (set leaves start (mark ++ get_or leaves start [])) (start ∷ below) ≡ with_prefix mark (operands_down leaves (start ∷ below))
before_down leaves below start mark lt =
    let word : List ℕ = get_or leaves start [] in
    let rest : List (List ℕ) = drop (start + 1) leaves in
    ap (λ (x : List (List ℕ)). concat x ∷ operands_down (take start (set leaves start (mark ++ word))) below) (drop-set leaves start (mark ++ word) lt)
    ∙ (ap (λ (x : List (List ℕ)). ((mark ++ word) ++ concat rest) ∷ operands_down x below) (take-set leaves start (mark ++ word))
    ∙ (ap (λ (x : List ℕ). x ∷ operands_down (take start leaves) below) (append_assoc mark word (concat rest))
    ∙ ap (λ (x : List (List ℕ)). (mark ++ concat x) ∷ operands_down (take start leaves) below) (sym (drop_more leaves start [] lt))))

grouped_set_down : (leaves : List (List ℕ)) (below : List ℕ) (start : ℕ) (word : List ℕ) → IsGroupedDown leaves (start ∷ below) → IsGroupedDown (set leaves start word) (start ∷ below)
grouped_set_down leaves below start word g =
    (omega (arith, g.0, length-set leaves start word), subst (λ (x : List (List ℕ)). IsGroupedDown x below) (sym (take-set leaves start word)) g.1)

-- the text on top joins the one below it
merge_down : (leaves : List (List ℕ)) (t : ℕ) (below : List ℕ) (start : ℕ) → IsGroupedDown leaves (start ∷ t ∷ below) → operands_down leaves (t ∷ below) ≡ with_suffix (concat (drop start leaves)) (operands_down (take start leaves) (t ∷ below))
merge_down leaves t below start g =
    let whole : take start leaves ++ drop start leaves ≡ leaves = take-append-drop start leaves in
    let le : t ≤ length (take start leaves) = omega (arith, g.1.0) in
    ap (λ (x : List (List ℕ)). operands_down x (t ∷ below)) (sym whole)
    ∙ (ap (λ (x : List (List ℕ)). concat x ∷ operands_down (take t (take start leaves ++ drop start leaves)) below) (drop-append-le t (take start leaves) (drop start leaves) le)
    ∙ (ap (λ (x : List ℕ). x ∷ operands_down (take t (take start leaves ++ drop start leaves)) below) (concat-append (drop t (take start leaves)) (drop start leaves))
    ∙ ap (λ (x : List (List ℕ)). (concat (drop t (take start leaves)) ++ concat (drop start leaves)) ∷ operands_down x below) (take-append-le t (take start leaves) (drop start leaves) le)))

grouped_merge_down : (leaves : List (List ℕ)) (t : ℕ) (below : List ℕ) (start : ℕ) → IsGroupedDown leaves (start ∷ t ∷ below) → IsGroupedDown leaves (t ∷ below)
grouped_merge_down leaves t below start g =
    let lt : t < length (take start leaves) = g.1.0 in
    let n : length (take start leaves) ≡ start = length-take-le start leaves (omega (arith, g.0)) in
    let le : t ≤ length (take start leaves) = omega arith in
    let same : take t (take start leaves) ≡ take t leaves =
    sym (take-append-le t (take start leaves) (drop start leaves) le) ∙ ap (take t) (take-append-drop start leaves) in
    (omega (arith, g.0), subst (λ (x : List (List ℕ)). IsGroupedDown x below) same g.1.1)

-- the two texts on top as one
abbrev join_top : List (List ℕ) → List (List ℕ)
join_top [] = []
join_top (r ∷ ts) = with_suffix r ts

join_down : (leaves : List (List ℕ)) (t : ℕ) (below : List ℕ) (start : ℕ) (mark : List ℕ) → IsGroupedDown leaves (start ∷ t ∷ below) →
    operands_down (set leaves start (mark ++ get_or leaves start [])) (t ∷ below) ≡ with_join mark (operands_down leaves (start ∷ t ∷ below))
join_down leaves t below start mark g =
    let after : List (List ℕ) = set leaves start (mark ++ get_or leaves start []) in
    let e : operands_down after (start ∷ t ∷ below) ≡ with_prefix mark (operands_down leaves (start ∷ t ∷ below)) = before_down leaves (t ∷ below) start mark g.0 in
    merge_down after t below start (grouped_set_down leaves (t ∷ below) start (mark ++ get_or leaves start []) g)
    ∙ ap join_top e

-- ---- a mark behind the last leaf

after_parts : (init : List (List ℕ)) (word mark : List ℕ) (s : ℕ) (below : List ℕ) → s ≤ length init →
    operands_down (init ++ (word ++ mark) ∷ []) (s ∷ below) ≡ with_suffix mark (operands_down (init ++ word ∷ []) (s ∷ below))
after_parts init word mark s below le =
    let prefix : List (List ℕ) = drop s init in
    ap (λ (x : List (List ℕ)). concat x ∷ operands_down (take s (init ++ (word ++ mark) ∷ [])) below) (drop-append-le s init ((word ++ mark) ∷ []) le)
    ∙ (ap (λ (x : List (List ℕ)). concat (prefix ++ (word ++ mark) ∷ []) ∷ operands_down x below) (take-append-le s init ((word ++ mark) ∷ []) le ∙ sym (take-append-le s init (word ∷ []) le))
    ∙ (ap (λ (x : List ℕ). x ∷ operands_down (take s (init ++ word ∷ [])) below)
    (concat-append prefix ((word ++ mark) ∷ [])
    ∙ (ap (λ (x : List ℕ). concat prefix ++ x) (append-nil (word ++ mark))
    ∙ (sym (append_assoc (concat prefix) word mark)
    ∙ ap (λ (x : List ℕ). x ++ mark) (ap (λ (x : List ℕ). concat prefix ++ x) (sym (append-nil word)) ∙ sym (concat-append prefix (word ∷ []))))))
    ∙ ap (λ (x : List (List ℕ)). (concat x ++ mark) ∷ operands_down (take s (init ++ word ∷ [])) below) (sym (drop-append-le s init (word ∷ []) le))))

split_last : (leaves : List (List ℕ)) (last : ℕ) → last + 1 ≡ length leaves → leaves ≡ take last leaves ++ get_or leaves last [] ∷ []
split_last leaves last e = sym (take_all (last + 1) leaves (omega arith)) ∙ take_more leaves last [] (omega arith)

set_last : (leaves : List (List ℕ)) (last : ℕ) (y : List ℕ) → last + 1 ≡ length leaves → set leaves last y ≡ take last leaves ++ y ∷ []
set_last leaves last y e =
    ap (λ (x : List (List ℕ)). set x last y) (split_last leaves last e) ∙ set_at (take last leaves) (get_or leaves last []) [] y last (length-take-le last leaves (omega arith))

after_down : (leaves : List (List ℕ)) (last : ℕ) (mark : List ℕ) (down : List ℕ) → last + 1 ≡ length leaves → 0 < length down → IsGroupedDown leaves down →
    operands_down (set leaves last (get_or leaves last [] ++ mark)) down ≡ with_suffix mark (operands_down leaves down)
after_down leaves last mark [] e lt g = absurd (omega arith)
after_down leaves last mark (s ∷ below) e lt g =
    let n : length (take last leaves) ≡ last = length-take-le last leaves (omega arith) in
    ap (λ (x : List (List ℕ)). operands_down x (s ∷ below)) (set_last leaves last (get_or leaves last [] ++ mark) e)
    ∙ (after_parts (take last leaves) (get_or leaves last []) mark s below (omega (arith, g.0))
    ∙ ap (λ (x : List (List ℕ)). with_suffix mark (operands_down x (s ∷ below))) (sym (split_last leaves last e)))

-- ---- one text

one_down : (leaves : List (List ℕ)) (down : List ℕ) → IsGroupedDown leaves down → length down ≡ 1 → operands_down leaves down ≡ concat leaves ∷ []
one_down leaves [] g n = absurd (omega arith)
one_down leaves (s ∷ []) g n =
    ap (λ (x : List (List ℕ)). concat x ∷ []) (sym (ap (λ (x : List (List ℕ)). x ++ drop s leaves) g.1) ∙ take-append-drop s leaves)
one_down leaves (s ∷ t ∷ below) g n = absurd (omega arith)

pub one_alone : (leaves : List (List ℕ)) (starts : List ℕ) → IsGrouped leaves starts → length starts ≡ 1 → operands_of leaves starts ≡ concat leaves ∷ []
one_alone leaves starts g n = one_down leaves (reverse starts) g (length-reverse starts ∙ n)

-- ---- from the code's lists

-- where the text on top begins
pub record TopAt (starts : List ℕ) (start : ℕ) : Type 0 where
  pub below : List ℕ
  pub is : reverse starts ≡ start ∷ below

top_of_down : (starts down : List ℕ) (start : ℕ) → reverse starts ≡ down → 0 < length starts → get_or starts (length starts - 1) 0 ≡ start → TopAt starts start
top_of_down starts [] start e lt g = let z : length starts ≡ 0 = sym (length-reverse starts) ∙ ap length e in absurd (omega arith)
top_of_down starts (s ∷ below) start e lt g =
    let first : get_or (reverse starts) 0 0 ≡ get_or starts (length starts - 1 - 0) 0 = get_or-reverse starts 0 0 lt in
    let same : length starts - 1 - 0 ≡ length starts - 1 = omega arith in
    let there : s ≡ start = sym (ap (λ (x : List ℕ). get_or x 0 0) e) ∙ first ∙ ap (λ n. get_or starts n 0) same ∙ g in
    record { below = below; is = e ∙ ap (λ n. n ∷ below) there }

pub last_is_top : (starts : List ℕ) (start : ℕ) → slice_get starts (length starts - 1) ≡ Some start → TopAt starts start
last_is_top starts start e =
    let lt : length starts - 1 < length starts = slice_get_within starts (length starts - 1) start e in
    top_of_down starts (reverse starts) start refl (omega arith) (get_or_from_slice_get starts (length starts - 1) start 0 e)

pub pushed_is_top : (starts rest : List ℕ) (start : ℕ) → starts ≡ rest ++ start ∷ [] → reverse starts ≡ start ∷ reverse rest
pushed_is_top starts rest start e = ap reverse e ∙ reverse-append rest (start ∷ [])

top_lt : (leaves : List (List ℕ)) (below : List ℕ) (start : ℕ) → IsGroupedDown leaves (start ∷ below) → start < length leaves
top_lt leaves below start g = g.0

pub within_leaves : (leaves : List (List ℕ)) (starts below : List ℕ) (start : ℕ) → reverse starts ≡ start ∷ below → IsGrouped leaves starts → start < length leaves
within_leaves leaves starts below start e g = top_lt leaves below start (subst (IsGroupedDown leaves) e g)

pub operands_before : (leaves : List (List ℕ)) (starts : List ℕ) (start : ℕ) (mark : List ℕ) → TopAt starts start → IsGrouped leaves starts → operands_of (set leaves start (mark ++ get_or leaves start [])) starts ≡ with_prefix mark (operands_of leaves starts)
operands_before leaves starts start mark top g =
    ap (operands_down (set leaves start (mark ++ get_or leaves start []))) top.is
    ∙ (before_down leaves top.below start mark (within_leaves leaves starts top.below start top.is g)
    ∙ ap (λ (x : List ℕ). with_prefix mark (operands_down leaves x)) (sym top.is))

-- leaves of other texts, as many
grouped_length_down : (leaves after : List (List ℕ)) (down : List ℕ) → length after ≡ length leaves → IsGroupedDown leaves down → IsGroupedDown after down
grouped_length_down leaves [] [] e g = refl
grouped_length_down leaves (x ∷ after) [] e g = let z : length leaves ≡ 0 = ap length g in absurd (omega arith)
grouped_length_down leaves after (s ∷ below) e g =
    let lt : s < length leaves = g.0 in
    let a : length (take s after) ≡ s = length-take-le s after (omega arith) in
    let b : length (take s leaves) ≡ s = length-take-le s leaves (omega arith) in
    (omega arith, grouped_length_down (take s leaves) (take s after) below (a ∙ sym b) g.1)

pub grouped_after : (leaves after : List (List ℕ)) (starts : List ℕ) → length after ≡ length leaves → IsGrouped leaves starts → IsGrouped after starts
grouped_after leaves after starts e g = grouped_length_down leaves after (reverse starts) e g

some_below : (below : List ℕ) → 0 < length below → (t : ℕ) × (rest : List ℕ) × (below ≡ t ∷ rest)
some_below [] lt = absurd (omega arith)
some_below (t ∷ rest) lt = (t, rest, refl)

pub grouped_less : (leaves : List (List ℕ)) (starts rest : List ℕ) (start : ℕ) → starts ≡ rest ++ start ∷ [] → 0 < length rest → IsGrouped leaves starts → IsGrouped leaves rest
grouped_less leaves starts rest start e lt g =
    let n : length (reverse rest) ≡ length rest = length-reverse rest in
    let b = some_below (reverse rest) (omega arith) in
    subst (IsGroupedDown leaves) (sym b.2)
    (grouped_merge_down leaves b.0 b.1 start
    (subst (IsGroupedDown leaves) (pushed_is_top starts rest start e ∙ ap (λ (x : List ℕ). start ∷ x) b.2) g))

pub operands_join : (leaves : List (List ℕ)) (starts rest : List ℕ) (start : ℕ) (mark : List ℕ) → starts ≡ rest ++ start ∷ [] → 0 < length rest → IsGrouped leaves starts → operands_of (set leaves start (mark ++ get_or leaves start [])) rest ≡ with_join mark (operands_of leaves starts)
operands_join leaves starts rest start mark e lt g =
    let n : length (reverse rest) ≡ length rest = length-reverse rest in
    let b = some_below (reverse rest) (omega arith) in
    let top : reverse starts ≡ start ∷ b.0 ∷ b.1 = pushed_is_top starts rest start e ∙ ap (λ (x : List ℕ). start ∷ x) b.2 in
    ap (operands_down (set leaves start (mark ++ get_or leaves start []))) b.2
    ∙ (join_down leaves b.0 b.1 start mark (subst (IsGroupedDown leaves) top g)
    ∙ ap (λ (x : List ℕ). with_join mark (operands_down leaves x)) (sym top))

pub operands_after : (leaves : List (List ℕ)) (starts : List ℕ) (last : ℕ) (mark : List ℕ) → last + 1 ≡ length leaves → 0 < length starts → IsGrouped leaves starts → operands_of (set leaves last (get_or leaves last [] ++ mark)) starts ≡ with_suffix mark (operands_of leaves starts)
operands_after leaves starts last mark n lt g =
    let r : length (reverse starts) ≡ length starts = length-reverse starts in
    after_down leaves last mark (reverse starts) n (omega arith) g

-- some text has a leaf
some_leaf_down : (leaves : List (List ℕ)) (down : List ℕ) → 0 < length down → IsGroupedDown leaves down → 0 < length leaves
some_leaf_down leaves [] lt g = absurd (omega arith)
some_leaf_down leaves (s ∷ below) lt g = omega (arith, g.0)

pub some_leaf : (leaves : List (List ℕ)) (starts : List ℕ) → 0 < length starts → IsGrouped leaves starts → 0 < length leaves
some_leaf leaves starts lt g =
    let r : length (reverse starts) ≡ length starts = length-reverse starts in
    some_leaf_down leaves (reverse starts) (omega arith) g
