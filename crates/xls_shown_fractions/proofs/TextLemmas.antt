-- Texts of items.
use Rattle.std.proofs.Common.{◌≡◌, ℕ, List, [], ◌∷◌, ◌++◌, IsUtf8, map, codes, refl, ap, sym, ◌∙◌, append_assoc}
use Rattle.std.specs.Str.{chars}
use Rattle.std.proofs.lemmas.Str.{chars-append}
use Rattle.std.proofs.lemmas.List.{append_cancel_left}
use Rattle.xls_number_formats.specs.Grammar.{Token}
use Rattle.xls_shown_fractions.specs.declared.roles.Spot.{Spot}
use Rattle.xls_shown_fractions.specs.declared.needs.Fraction.{Fraction}
use Rattle.xls_shown_fractions.specs.declared.texts.Look.{Look}
use Rattle.xls_shown_fractions.specs.Roles.{spot_after}
use Rattle.xls_shown_fractions.specs.Ratios.{Mixed}
use Rattle.xls_shown_fractions.specs.Texts.{token_text, text_from}

pub no_chars : chars [] ≡ []
unfolding chars
no_chars = refl

pub one_blank : chars (codes " ") ≡ codes " "
unfolding chars
one_blank = refl

-- an item more of those left
pub text_more : (f : Fraction) (m : Mixed) (look : Look) (s next : Spot) (old now whole : List ℕ) (t : Token) (ts left : List Token) → left ≡ t ∷ ts
    → now ≡ old ++ token_text f m look s t → next ≡ spot_after s t.0
    → old ++ text_from f m look s left ≡ whole → now ++ text_from f m look next ts ≡ whole
text_more f m look s next old now whole t ts left e g at all =
    ap (λ q. now ++ text_from f m look q ts) at
    ∙ ap (λ xs. xs ++ text_from f m look (spot_after s t.0) ts) g ∙ append_assoc old (token_text f m look s t) (text_from f m look (spot_after s t.0) ts)
    ∙ sym (ap (λ xs. old ++ text_from f m look s xs) e) ∙ all

-- the characters of what a text has gained
pub gained : (old added new shown : List ℕ) → IsUtf8 old → new ≡ old ++ added → chars new ≡ chars old ++ shown → chars added ≡ shown
gained old added new shown text e f =
    append_cancel_left (chars old) (chars added) shown (sym (chars-append old added text) ∙ ap chars (sym e) ∙ f)

-- a blank more
pub blanks_more : (c : ℕ) (old now whole cs left : List ℕ) → left ≡ c ∷ cs → now ≡ old ++ codes " " → old ++ map (λ x. 32) left ≡ whole → now ++ map (λ x. 32) cs ≡ whole
blanks_more c old now whole cs left e f all =
    ap (λ xs. xs ++ map (λ x. 32) cs) f ∙ append_assoc old (codes " ") (map (λ x. 32) cs) ∙ sym (ap (λ xs. old ++ map (λ x. 32) xs) e) ∙ all
