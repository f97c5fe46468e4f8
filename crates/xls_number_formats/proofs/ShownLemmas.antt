-- What is appended to a text, by its characters.
use Rattle.std.proofs.Common.{◌≡◌, ℕ, List, ◌∷◌, ◌++◌, IsUtf8, Result, Ok, Err, is_ok, OnOk, if◌then◌else◌, ap, sym, ◌∙◌, append_assoc}
use Rattle.std.specs.Str.{chars}
use Rattle.std.specs.List.{flat_map}
use Rattle.std.proofs.lemmas.Str.{chars-append}
use Rattle.xls_number_formats.specs.Grammar.{Token}
use Rattle.xls_number_formats.specs.Texts.{shown_token}

-- a text more
pub chars_more : (old more new : List ℕ) (cs : List ℕ) → IsUtf8 old → new ≡ old ++ more → chars more ≡ cs → chars new ≡ chars old ++ cs
chars_more old more new cs text e f = ap chars e ∙ chars-append old more text ∙ ap (λ xs. chars old ++ xs) f

-- an item more of those left
pub shown_more : (text old now whole : List ℕ) (t : Token) (ts left : List Token) → left ≡ t ∷ ts → now ≡ old ++ shown_token text t
    → old ++ flat_map (shown_token text) left ≡ whole → now ++ flat_map (shown_token text) ts ≡ whole
shown_more text old now whole t ts left e f all =
    ap (λ xs. xs ++ flat_map (shown_token text) ts) f ∙ append_assoc old (shown_token text t) (flat_map (shown_token text) ts)
    ∙ sym (ap (λ xs. old ++ flat_map (shown_token text) xs) e) ∙ all

-- what `push_str` leaves where there was memory
pub pushed_ok : {T E : Type 0} (r : Result T E) (old more new : List ℕ) → new ≡ (if is_ok r then old ++ more else old) → OnOk r (new ≡ old ++ more)
pushed_ok (Ok x) old more new e = e
pushed_ok (Err x) old more new e = tt
