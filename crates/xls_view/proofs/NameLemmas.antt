-- Names as bytes and as characters.
use Rattle.std.proofs.Common.{◌≡◌, ℕ, List, sym, ap, ◌∙◌}
use Rattle.std.specs.Prelude.{◌==◌, encode_utf8_all}
use Rattle.std.specs.Str.{chars, IsUtf8, bytes_eq}
use Rattle.std.specs.Cmp.Lexicographic.{pointwise}
use Rattle.std.specs.Bool.{one_answer}
use Rattle.std.proofs.lemmas.Str.{encodes-chars}
use Rattle.std.proofs.lemmas.Slice.Eq.{bytes_eq-Decides}

-- texts have the same bytes exactly where they have the same characters
pub same_text : (a b : List ℕ) → IsUtf8 a → IsUtf8 b
    → bytes_eq a b ≡ pointwise ◌==◌ (chars a) (chars b)
same_text a b u v = one_answer {P = a ≡ b} (bytes_eq a b) (pointwise ◌==◌ (chars a) (chars b)) (bytes_eq-Decides a b) (
  λ t. sym (encodes-chars a u) ∙ ap encode_utf8_all ((bytes_eq-Decides (chars a) (chars b)).0 t)
      ∙ encodes-chars b v,
  λ e. (bytes_eq-Decides (chars a) (chars b)).1 (ap chars e),
)
