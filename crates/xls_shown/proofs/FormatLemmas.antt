-- Sections for texts, and sections of the word `General` alone.
use Rattle.std.proofs.Common.{◌≡◌, ℕ, List, [], ◌∷◌, Some, None, refl, ap, sym, ◌∙◌}
use Rattle.std.proofs.lemmas.List.{append-nil}
use Rattle.std.specs.List.{flat_map}
use Rattle.xls_rounding.specs.declared.decimals.Decimal.{Decimal}
use Rattle.xls_number_formats.specs.declared.items.Item.TheVariants as item
use Rattle.xls_number_formats.specs.Grammar.{Token, items}
use Rattle.xls_number_formats.specs.Texts.{texts_code, shown_token, shown_under}
use Rattle.xls_shown_numbers.specs.General.{general}
use Rattle.xls_shown.specs.Shown.{general_text, text_shown}

-- without a section for texts a text is shown as it is
pub as_it_is : (cs text : List ℕ) → texts_code cs ≡ None → text_shown cs text ≡ text
as_it_is cs [] none = refl
as_it_is cs (c ∷ text) none = ap (λ code. shown_under code (c ∷ text)) none

-- a text that isn't empty is shown by the section for texts
pub by_section : (cs code : List ℕ) (ts : List Token) (c : ℕ) (text : List ℕ) → texts_code cs ≡ Some code → ts ≡ items code
    → flat_map (shown_token (c ∷ text)) ts ≡ text_shown cs (c ∷ text)
by_section cs code ts c text some e = ap (flat_map (shown_token (c ∷ text))) e ∙ sym (ap (λ o. shown_under o (c ∷ text)) some)

-- the word alone is the number
pub alone_text : (ts : List Token) (own : List ℕ) (d : Decimal) → ts ≡ (item.General, own) ∷ [] → general_text ts d ≡ general d
alone_text ts own d e = ap (λ xs. general_text xs d) e ∙ append-nil (general d)
