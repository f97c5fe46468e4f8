-- Bytes below 80 in texts of pairs.
use Rattle.std.proofs.Common.{◌≡◌, ℕ, ◌<◌, ◌==◌, ◌&&◌, ◌||◌, not, Bool, true, false, List, [], ◌∷◌, ◌≤◌, nat_lt, refl, rules}
use Rattle.xls_pages.specs.Double.{are_one, double_text, is_lead, is_within, one_character, pair}
use Rattle.xls_pages.specs.Laws.{NoAsciiIsLost}
use Rattle.xls_pages.specs.declared.double.DoublePage.{DoublePage}
use Rattle.xls_pages.specs.declared.double.DoublePage.TheVariants.{P932, P936, P949, P950}

below : (c n : ℕ) → c < 0x80 → 0x80 ≤ n → nat_lt c n ≡ true
below c n small least = search rules

no-lead : (page : DoublePage) (c : ℕ) → c < 0x80 → is_lead page c ≡ false
no-lead P932 c small = rw (below c 0x81 small (search rules), below c 0xE0 small (search rules)) refl
no-lead P936 c small = rw (below c 0x81 small (search rules)) refl
no-lead P949 c small = rw (below c 0x81 small (search rules)) refl
no-lead P950 c small = rw (below c 0x81 small (search rules)) refl

and-false : (x : Bool) → (x && false) ≡ false
and-false true = refl
and-false false = refl

apart : (page : DoublePage) (b c : ℕ) → c < 0x80 → pair page b c ≡ 0 → are_one page b c ≡ false
apart page b c small none = rw (none, below c 0x80 small (search rules)) (and-false (is_lead page b))

-- it stands for itself, whatever comes
itself : (page : DoublePage) (c : ℕ) (bytes : List ℕ) → c < 0x80 → double_text page (c ∷ bytes) ≡ c ∷ double_text page bytes
itself page c [] small = rw (below c 0x80 small (search rules)) refl
itself page c (d ∷ bytes) small = rw (no-lead page c small, below c 0x80 small (search rules)) refl

pub none-is-lost : NoAsciiIsLost
none-is-lost page b c bytes small none = rw (apart page b c small none, itself page c bytes small) refl
