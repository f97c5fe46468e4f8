-- Two names, character by character.
use Rattle.std.proofs.Common.{◌≡◌, ℕ, List, [], ◌∷◌, ◌++◌, ◌&&◌, length, map, Bool, true, false, not, nat_eq, Option, Some, None, refl, ◌∙◌, ap, sym, arith}
use Rattle.std.specs.Option.{is_none, is_some}
use Rattle.std.specs.Str.{IsUtf8, bytes_eq}
use Rattle.std.specs.Char.{encode_utf8}
use Rattle.std.specs.Str.Iter.{chars_rest, chars_steps}
use Rattle.std.specs.declared.str.Chars.{Chars}
use Rattle.std.proofs.lemmas.Str.{chars-nil, chars_past_char}
use Rattle.ucd_case.specs.CaseFolding.{simple_fold}
use Rattle.xls_compound.specs.Names.{folded, is_same_name}

folded-nil : (bs : List ℕ) → length bs ≡ 0 → folded bs ≡ []
folded-nil [] h = ap (map simple_fold) chars-nil
folded-nil (b ∷ bs) h = absurd (omega arith)

folded-more : (bs rest : List ℕ) (c : ℕ) → IsUtf8 bs → bs ≡ encode_utf8 c ++ rest → folded bs ≡ simple_fold c ∷ folded rest
folded-more bs rest c u h = ap (map simple_fold) (chars_past_char bs rest c u h)

same-folded : (one other a b : List ℕ) → folded one ≡ a → folded other ≡ b → is_same_name one other ≡ bytes_eq a b
same-folded one other a b e f = ap (λ (xs : List ℕ). bytes_eq xs (folded other)) e ∙ ap (bytes_eq a) f

-- a character each
pub both_more : (one other rest others : List ℕ) (c d : ℕ) → IsUtf8 one → IsUtf8 other
    → one ≡ encode_utf8 c ++ rest → other ≡ encode_utf8 d ++ others
    → is_same_name one other ≡ (nat_eq (simple_fold c) (simple_fold d) && is_same_name rest others)
both_more one other rest others c d u v h k =
    same-folded one other _ _ (folded-more one rest c u h) (folded-more other others d v k)

-- a character of the first name alone
pub one_more : (one other rest : List ℕ) (c : ℕ) → IsUtf8 one → one ≡ encode_utf8 c ++ rest → length other ≡ 0
    → is_same_name one other ≡ false
one_more one other rest c u h k = same-folded one other _ _ (folded-more one rest c u h) (folded-nil other k)

-- the first name is at its end
pub one_ended : (one : List ℕ) (others after : Chars) (next : Option ℕ) → length one ≡ 0 → IsUtf8 (chars_rest others)
    → chars_steps others next after → is_none next ≡ is_same_name one (chars_rest others)
one_ended one others after None h u steps = sym (same-folded one (chars_rest others) _ _ (folded-nil one h) (folded-nil (chars_rest others) steps.0.0))
one_ended one others after (Some d) h u steps =
    sym (same-folded one (chars_rest others) _ _ (folded-nil one h) (folded-more (chars_rest others) (chars_rest after) d u steps.0))

-- what the test of a None answers
pub answers_none : (next : Option ℕ) (b : Bool) → is_some next ≡ not b → b ≡ is_none next
answers_none None true h = refl
answers_none None false h = absurd (cc)
answers_none (Some d) true h = absurd (cc)
answers_none (Some d) false h = refl
