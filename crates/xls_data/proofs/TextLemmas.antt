-- Texts by their characters.
use Rattle.std.proofs.Common.{◌≡◌, ℕ, sym, ap, ◌∙◌, List, IsUtf8, Result, Ok, Err}
use Rattle.std.specs.Prelude.{encode_utf8_all}
use Rattle.std.specs.Option.{SomeIff}
use Rattle.std.specs.Result.{OkIff, result_ok}
use Rattle.std.specs.Str.{chars}
use Rattle.std.proofs.lemmas.Str.{encodes-chars}

-- texts with the same characters have the same bytes
pub chars_injective : (xs ys : List ℕ) → IsUtf8 xs → IsUtf8 ys → chars xs ≡ chars ys → xs ≡ ys
chars_injective xs ys u v e = sym (encodes-chars xs u) ∙ ap encode_utf8_all e ∙ encodes-chars ys v

-- a value exactly when a fact holds, without the error
pub SomeIff-result_ok : {A E : Type 0} (r : Result A E) (P : Type 0) (v : A) → OkIff r P v → SomeIff (result_ok r) P v
SomeIff-result_ok (Ok x) P v h = h
SomeIff-result_ok (Err e) P v h = h
