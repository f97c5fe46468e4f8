-- Steps over operands, by what contracts see of them.
use Rattle.std.proofs.Common.{◌≡◌, ◌≢◌, ℕ, ◌+◌, ◌<◌, List, [], ◌∷◌, ◌++◌, length, map, reverse, get_or, Result, Ok, Err, None, refl, sym, ◌∙◌, ap, subst, arith}
use Rattle.std.proofs.Math.ListN.{set}
use Rattle.std.specs.Prelude.{IsUtf8, OnOk, OnErr}
use Rattle.std.specs.List.{concat}
use Rattle.std.specs.Str.{chars}
use Rattle.std.proofs.lemmas.List.{length-map, length-set}
use Rattle.std.proofs.lemmas.Str.{chars-append, chars-nil, IsUtf8-append, IsUtf8-nil}
use Rattle.xls_record.specs.declared.error.XlsError.TheVariants as errors
use Rattle.xls_operands.specs.declared.buffer.Leaf.{Leaf}
use Rattle.xls_operands.specs.Prefixes.{IsChain}
use Rattle.xls_operands.specs.Pieces.{with_prefix, with_suffix, with_join, one_text}
use Rattle.xls_operands.specs.Leaves.{leaf_texts, operands_of, IsGrouped, texts_of, AreTexts, AreChained, IsMarked, AreOperands}
use Rattle.xls_operands.proofs.LeafLemmas.{IsBefore, IsLonger, length-leaf_texts, texts_push, whole_push, chained_push, before_marked, before_nothing, texts_set, whole_set, chained_set, texts_last, whole_last, chained_last}
use Rattle.xls_operands.proofs.GroupLemmas.{TopAt, length-operands_of, operands_push, grouped_push, one_alone, within_leaves, operands_before, grouped_after, grouped_less, operands_join, operands_after, some_leaf}

pub length-texts_of : (prefixes : List (List ℕ)) (text : List ℕ) (leaves : List Leaf) (starts : List ℕ) → length (texts_of prefixes text leaves starts) ≡ length starts
length-texts_of prefixes text leaves starts =
    length-map (operands_of (leaf_texts prefixes text leaves) starts) chars ∙ length-operands_of (leaf_texts prefixes text leaves) starts

-- ---- by characters

chars_prefix : (m : List ℕ) (ts : List (List ℕ)) → IsUtf8 m → map chars (with_prefix m ts) ≡ with_prefix (chars m) (map chars ts)
chars_prefix m [] u = refl
chars_prefix m (t ∷ ts) u = ap (λ (x : List ℕ). x ∷ map chars ts) (chars-append m t u)

chars_suffix : (m : List ℕ) (ts : List (List ℕ)) → AreTexts ts → map chars (with_suffix m ts) ≡ with_suffix (chars m) (map chars ts)
chars_suffix m [] a = refl
chars_suffix m (t ∷ ts) a = ap (λ (x : List ℕ). x ∷ map chars ts) (chars-append t m a.0)

chars_join : (m : List ℕ) (ts : List (List ℕ)) → IsUtf8 m → AreTexts ts → map chars (with_join m ts) ≡ with_join (chars m) (map chars ts)
chars_join m [] u a = refl
chars_join m (t ∷ []) u a = refl
chars_join m (r ∷ l ∷ ts) u a =
    ap (λ (x : List ℕ). x ∷ map chars ts) (chars-append l (m ++ r) a.1.0 ∙ ap (λ (x : List ℕ). chars l ++ x) (chars-append m r u))

texts_prefix : (m : List ℕ) (ts : List (List ℕ)) → IsUtf8 m → AreTexts ts → AreTexts (with_prefix m ts)
texts_prefix m [] u a = tt
texts_prefix m (t ∷ ts) u a = (IsUtf8-append m t u a.0, a.1)

texts_suffix : (m : List ℕ) (ts : List (List ℕ)) → IsUtf8 m → AreTexts ts → AreTexts (with_suffix m ts)
texts_suffix m [] u a = tt
texts_suffix m (t ∷ ts) u a = (IsUtf8-append t m a.0 u, a.1)

texts_join : (m : List ℕ) (ts : List (List ℕ)) → IsUtf8 m → AreTexts ts → AreTexts (with_join m ts)
texts_join m [] u a = tt
texts_join m (t ∷ []) u a = a
texts_join m (r ∷ l ∷ ts) u a = (IsUtf8-append l (m ++ r) a.1.0 (IsUtf8-append m r u a.0), a.1.1)

-- a mark without characters
pub with_prefix-none : (ts : List (List ℕ)) → with_prefix [] ts ≡ ts
with_prefix-none [] = refl
with_prefix-none (t ∷ ts) = refl

-- ---- an empty text on top

pub pushed_operands : (prefixes : List (List ℕ)) (text : List ℕ) (leaves : List Leaf) (starts : List ℕ) (leaf : Leaf) (n : ℕ) → leaf.len ≡ 0 → leaf.prefix ≡ None → n ≡ length leaves → AreOperands prefixes text leaves starts → AreOperands prefixes text (leaves ++ leaf ∷ []) (starts ++ n ∷ [])
pushed_operands prefixes text leaves starts leaf n z e count a =
    let raws : List (List ℕ) = leaf_texts prefixes text leaves in
    let t : leaf_texts prefixes text (leaves ++ leaf ∷ []) ≡ raws ++ [] ∷ [] = texts_push prefixes text leaves leaf z e in
    let m : n ≡ length raws = count ∙ sym (length-leaf_texts prefixes text leaves) in
    record {
      whole = whole_push text leaves leaf z a.whole;
      chained = chained_push (length prefixes) leaves leaf e a.chained;
      grouped = subst (λ (x : List (List ℕ)). IsGrouped x (starts ++ n ∷ [])) (sym t) (grouped_push raws starts [] n m a.grouped);
      texts =
          subst (λ (x : List (List ℕ)). AreTexts (operands_of x (starts ++ n ∷ []))) (sym t)
          (subst AreTexts (sym (operands_push raws starts [] n m)) (IsUtf8-nil, a.texts));
    }

pub pushed_texts : (prefixes : List (List ℕ)) (text : List ℕ) (leaves : List Leaf) (starts : List ℕ) (leaf : Leaf) (n : ℕ) → leaf.len ≡ 0 → leaf.prefix ≡ None → n ≡ length leaves → texts_of prefixes text (leaves ++ leaf ∷ []) (starts ++ n ∷ []) ≡ [] ∷ texts_of prefixes text leaves starts
pushed_texts prefixes text leaves starts leaf n z e count =
    let raws : List (List ℕ) = leaf_texts prefixes text leaves in
    let t : leaf_texts prefixes text (leaves ++ leaf ∷ []) ≡ raws ++ [] ∷ [] = texts_push prefixes text leaves leaf z e in
    let m : n ≡ length raws = count ∙ sym (length-leaf_texts prefixes text leaves) in
    ap (λ (x : List (List ℕ)). map chars (operands_of x (starts ++ n ∷ []))) t
    ∙ (ap (map chars) (operands_push raws starts [] n m)
    ∙ ap (λ (x : List ℕ). x ∷ texts_of prefixes text leaves starts) chars-nil)

-- ---- a mark before a leaf

-- what was put at a leaf: the mark, or nothing
pub record IsPut {T E : Type 0} (result : Result T E) (prefixes new : List (List ℕ)) (old leaf : Leaf) (mark : List ℕ) : Type 0 where
  pub m : List ℕ
  pub is : IsBefore prefixes new old leaf m
  pub utf8 : IsUtf8 m
  pub done : OnOk result (m ≡ mark)

pub put_of : {T E : Type 0} (result : Result T E) (prefixes new : List (List ℕ)) (old leaf : Leaf) (mark : List ℕ) → OnOk result (IsMarked prefixes new old leaf mark) → OnErr result ((new ≡ prefixes) × (leaf ≡ old))
    → IsChain (length prefixes) old.prefix → IsUtf8 mark → IsPut result prefixes new old leaf mark
put_of (Ok x) prefixes new old leaf mark ok err h u =
    record { m = mark; is = before_marked prefixes new old leaf mark ok; utf8 = u; done = refl }
put_of (Err x) prefixes new old leaf mark ok err h u =
    record { m = []; is = before_nothing prefixes new old leaf err.0 err.1 h; utf8 = IsUtf8-nil; done = tt }

module _ (prefixes new : List (List ℕ)) (text : List ℕ) (leaves : List Leaf) (i : ℕ) (old leaf : Leaf) (m : List ℕ) (lt : i < length leaves) (there : old ≡ get_or leaves i old) (e : IsBefore prefixes new old leaf m) where
  set_texts : AreChained (length prefixes) leaves → leaf_texts new text (set leaves i leaf) ≡ set (leaf_texts prefixes text leaves) i (m ++ get_or (leaf_texts prefixes text leaves) i [])
  set_texts h = texts_set prefixes new text leaves i old leaf m lt there e h

  as_long : length (leaf_texts new text (set leaves i leaf)) ≡ length (leaf_texts prefixes text leaves)
  as_long = length-leaf_texts new text (set leaves i leaf) ∙ (length-set leaves i leaf ∙ sym (length-leaf_texts prefixes text leaves))

  before_operands : (starts : List ℕ) → TopAt starts i → AreOperands prefixes text leaves starts → operands_of (leaf_texts new text (set leaves i leaf)) starts ≡ with_prefix m (operands_of (leaf_texts prefixes text leaves) starts)
  before_operands starts top a =
      ap (λ (x : List (List ℕ)). operands_of x starts) (set_texts a.chained) ∙ operands_before (leaf_texts prefixes text leaves) starts i m top a.grouped

  pub prefixed_operands : (starts : List ℕ) → IsUtf8 m → TopAt starts i → AreOperands prefixes text leaves starts → AreOperands new text (set leaves i leaf) starts
  prefixed_operands starts u top a = record {
    whole = whole_set text leaves i old leaf lt there e.len a.whole;
    chained = chained_set prefixes new leaves i old leaf m e a.chained;
    grouped = grouped_after (leaf_texts prefixes text leaves) (leaf_texts new text (set leaves i leaf)) starts as_long a.grouped;
    texts = subst AreTexts (sym (before_operands starts top a)) (texts_prefix m (operands_of (leaf_texts prefixes text leaves) starts) u a.texts);
  }

  pub prefixed_texts : (starts : List ℕ) → IsUtf8 m → TopAt starts i → AreOperands prefixes text leaves starts → texts_of new text (set leaves i leaf) starts ≡ with_prefix (chars m) (texts_of prefixes text leaves starts)
  prefixed_texts starts u top a =
      ap (map chars) (before_operands starts top a) ∙ chars_prefix m (operands_of (leaf_texts prefixes text leaves) starts) u

  join_operands : (starts rest : List ℕ) → starts ≡ rest ++ i ∷ [] → 0 < length rest → AreOperands prefixes text leaves starts → operands_of (leaf_texts new text (set leaves i leaf)) rest ≡ with_join m (operands_of (leaf_texts prefixes text leaves) starts)
  join_operands starts rest s some a =
      ap (λ (x : List (List ℕ)). operands_of x rest) (set_texts a.chained) ∙ operands_join (leaf_texts prefixes text leaves) starts rest i m s some a.grouped

  pub joined_operands : (starts rest : List ℕ) → IsUtf8 m → starts ≡ rest ++ i ∷ [] → 0 < length rest → AreOperands prefixes text leaves starts → AreOperands new text (set leaves i leaf) rest
  joined_operands starts rest u s some a = record {
    whole = whole_set text leaves i old leaf lt there e.len a.whole;
    chained = chained_set prefixes new leaves i old leaf m e a.chained;
    grouped = grouped_after (leaf_texts prefixes text leaves) (leaf_texts new text (set leaves i leaf)) rest as_long (grouped_less (leaf_texts prefixes text leaves) starts rest i s some a.grouped);
    texts = subst AreTexts (sym (join_operands starts rest s some a)) (texts_join m (operands_of (leaf_texts prefixes text leaves) starts) u a.texts);
  }

  pub joined_texts : (starts rest : List ℕ) → IsUtf8 m → starts ≡ rest ++ i ∷ [] → 0 < length rest → AreOperands prefixes text leaves starts → texts_of new text (set leaves i leaf) rest ≡ with_join (chars m) (texts_of prefixes text leaves starts)
  joined_texts starts rest u s some a =
      ap (map chars) (join_operands starts rest s some a) ∙ chars_join m (operands_of (leaf_texts prefixes text leaves) starts) u a.texts

-- ---- a mark behind the last leaf

module _ (prefixes : List (List ℕ)) (text mark : List ℕ) (leaves : List Leaf) (last : ℕ) (old leaf : Leaf) (starts : List ℕ) (n : last + 1 ≡ length leaves) (there : old ≡ get_or leaves last old) (e : IsLonger old leaf mark) (some : 0 < length starts) (a : AreOperands prefixes text leaves starts) where
  last_texts : leaf_texts prefixes (text ++ mark) (set leaves last leaf) ≡ set (leaf_texts prefixes text leaves) last (get_or (leaf_texts prefixes text leaves) last [] ++ mark)
  last_texts = texts_last prefixes text mark leaves last old leaf n there e a.whole

  after_operands : operands_of (leaf_texts prefixes (text ++ mark) (set leaves last leaf)) starts ≡ with_suffix mark (operands_of (leaf_texts prefixes text leaves) starts)
  after_operands =
      ap (λ (x : List (List ℕ)). operands_of x starts) last_texts ∙ operands_after (leaf_texts prefixes text leaves) starts last mark (n ∙ sym (length-leaf_texts prefixes text leaves)) some a.grouped

  pub suffixed_operands : IsUtf8 mark → AreOperands prefixes (text ++ mark) (set leaves last leaf) starts
  suffixed_operands u = record {
    whole = whole_last text mark leaves last old leaf n there e a.whole;
    chained = chained_last (length prefixes) leaves last old leaf (omega (arith, n)) there e.prefix a.chained;
    grouped =
        grouped_after (leaf_texts prefixes text leaves) (leaf_texts prefixes (text ++ mark) (set leaves last leaf)) starts
        (length-leaf_texts prefixes (text ++ mark) (set leaves last leaf) ∙ (length-set leaves last leaf ∙ sym (length-leaf_texts prefixes text leaves))) a.grouped;
    texts = subst AreTexts (sym after_operands) (texts_suffix mark (operands_of (leaf_texts prefixes text leaves) starts) u a.texts);
  }

  pub suffixed_texts : texts_of prefixes (text ++ mark) (set leaves last leaf) starts ≡ with_suffix (chars mark) (texts_of prefixes text leaves starts)
  suffixed_texts = ap (map chars) after_operands ∙ chars_suffix mark (operands_of (leaf_texts prefixes text leaves) starts) a.texts

-- ---- places

pub start_within : (prefixes : List (List ℕ)) (text : List ℕ) (leaves : List Leaf) (starts below : List ℕ) (start : ℕ) → reverse starts ≡ start ∷ below → AreOperands prefixes text leaves starts → start < length leaves
start_within prefixes text leaves starts below start e a =
    let lt : start < length (leaf_texts prefixes text leaves) = within_leaves (leaf_texts prefixes text leaves) starts below start e a.grouped in
    let n : length (leaf_texts prefixes text leaves) ≡ length leaves = length-leaf_texts prefixes text leaves in
    omega arith

pub leaf_there : (prefixes : List (List ℕ)) (text : List ℕ) (leaves : List Leaf) (starts : List ℕ) → 0 < length starts → AreOperands prefixes text leaves starts → 0 < length leaves
leaf_there prefixes text leaves starts some a =
    let lt : 0 < length (leaf_texts prefixes text leaves) = some_leaf (leaf_texts prefixes text leaves) starts some a.grouped in
    let n : length (leaf_texts prefixes text leaves) ≡ length leaves = length-leaf_texts prefixes text leaves in
    omega arith

-- ---- one text

pub alone_texts : (prefixes : List (List ℕ)) (text : List ℕ) (leaves : List Leaf) (starts : List ℕ) → length starts ≡ 1 → AreOperands prefixes text leaves starts → texts_of prefixes text leaves starts ≡ chars (concat (leaf_texts prefixes text leaves)) ∷ []
alone_texts prefixes text leaves starts n a = ap (map chars) (one_alone (leaf_texts prefixes text leaves) starts a.grouped n)

pub alone_utf8 : (prefixes : List (List ℕ)) (text : List ℕ) (leaves : List Leaf) (starts : List ℕ) → length starts ≡ 1 → AreOperands prefixes text leaves starts → IsUtf8 (concat (leaf_texts prefixes text leaves))
alone_utf8 prefixes text leaves starts n a = (subst AreTexts (one_alone (leaf_texts prefixes text leaves) starts a.grouped n) a.texts).0

pub not_one : (ts : List (List ℕ)) → length ts ≢ 1 → one_text ts ≡ Err (errors.InvalidFormula (length ts))
not_one [] ne = refl
not_one (t ∷ []) ne = absurd (ne refl)
not_one (t ∷ u ∷ us) ne = refl

-- ---- none

pub no_operands : AreOperands [] [] [] []
no_operands = record { whole = refl; chained = tt; grouped = refl; texts = tt }
