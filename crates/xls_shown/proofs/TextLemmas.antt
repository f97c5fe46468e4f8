-- What a text has gained, by its characters.
use Rattle.std.proofs.Common.{◌≡◌, ℕ, Bool, true, false, ◌&&◌, List, [], ◌∷◌, ◌++◌, IsUtf8, Result, Ok, Err, OnOk, OnErr, refl, ap, sym, subst, ◌∙◌, append_assoc}
use Rattle.std.specs.Str.{chars, IsAscii}
use Rattle.std.specs.List.{flat_map}
use Rattle.std.proofs.Math.Utf8.{encodes, scalar, scalars}
use Rattle.std.proofs.lemmas.Str.{encodes-chars, scalars-chars, encodes-append, chars-append, chars-IsAscii}
use Rattle.xls_bytes.specs.Growth.{IsGrown}
use Rattle.xls_bytes.proofs.GrownLemmas.{IsGrown-refl}
use Rattle.xls_rounding.specs.declared.decimals.Decimal.{Decimal}
use Rattle.xls_number_formats.specs.Grammar.{Token}
use Rattle.xls_shown.specs.Shown.{general_token}

second_true : (a b : Bool) → (a && b) ≡ true → b ≡ true
second_true true b e = e
second_true false true e = refl
second_true false false e = e

scalars_behind : (cs bs : List ℕ) → scalars (cs ++ bs) ≡ true → scalars bs ≡ true
scalars_behind [] bs e = e
scalars_behind (c ∷ cs) bs e = scalars_behind cs bs (second_true (scalar c) (scalars (cs ++ bs)) e)

pub grown_by_chars : (old new shown : List ℕ) → IsUtf8 old → IsUtf8 new → chars new ≡ chars old ++ shown → IsGrown old new
grown_by_chars old new shown o n e = (
  encodes shown,
  (shown, (scalars_behind (chars old) shown (ap scalars (sym e) ∙ scalars-chars new n), refl)),
  sym (encodes-chars new n) ∙ ap encodes e ∙ encodes-append (chars old) shown ∙ ap (λ t. t ++ encodes shown) (encodes-chars old o),
)

pub grown_of : {T E : Type 0} (r : Result T E) (old new shown : List ℕ) → IsUtf8 old → IsUtf8 new → OnOk r (chars new ≡ chars old ++ shown) → OnErr r (new ≡ old) → IsGrown old new
grown_of (Ok x) old new shown o n e f = grown_by_chars old new shown o n e
grown_of (Err x) old new shown o n e f = subst (λ t. IsGrown old t) (sym f) (IsGrown-refl old)

-- what `push_str` leaves where there was memory
pub ascii_more : (old new shown : List ℕ) → IsUtf8 old → IsAscii shown → new ≡ old ++ shown → chars new ≡ chars old ++ shown
ascii_more old new shown o a e = ap chars e ∙ chars-append old shown o ∙ ap (λ t. chars old ++ t) (chars-IsAscii shown a)

-- an item more of those left
pub general_more : (d : Decimal) (old now whole : List ℕ) (t : Token) (ts left : List Token) → left ≡ t ∷ ts → now ≡ old ++ general_token d t
    → old ++ flat_map (general_token d) left ≡ whole → now ++ flat_map (general_token d) ts ≡ whole
general_more d old now whole t ts left e f all =
    ap (λ xs. xs ++ flat_map (general_token d) ts) f ∙ append_assoc old (general_token d t) (flat_map (general_token d) ts)
    ∙ sym (ap (λ xs. old ++ flat_map (general_token d) xs) e) ∙ all
