-- Steps over the tokens of a formula.
use Rattle.std.proofs.Common.{◌≡◌, ℕ, zero, suc, ◌-◌, ◌<◌, ◌≤◌, false, List, [], ◌∷◌, ◌++◌, take, drop, length, slice_index, Option, Some, ap, refl, sym, ◌∙◌, append_assoc, arith}
use Rattle.std.specs.Prelude.{nat_lt}
use Rattle.std.specs.Option.{option_to_list}
use Rattle.std.proofs.lemmas.Bool.Decides.{nat_tests}
use Rattle.xls_record.specs.declared.version.Biff.{Biff}
use Rattle.xls_other_books.specs.declared.cites.Cite.{Cite}
use Rattle.xls_other_books.specs.declared.entries.Entry.{Entry}
use Rattle.xls_other_books.specs.Entries.{entry_at, entries_in}
use Rattle.xls_other_books.specs.Cites.{cite_at, token_more, walked, cites_from, cites_in}

-- behind skipped bytes
skipped : (version : Biff) (n : ℕ) (bs : List ℕ) → cites_from version n bs ≡ cites_from version 0 (drop n bs)
skipped version zero bs = refl
skipped version (suc n) [] = refl
skipped version (suc n) (b ∷ bs) = skipped version n bs

-- a token more
pub token_step : (version : Biff) (left head rest others : List ℕ) (more : ℕ) → 0 < length left → head ≡ take 1 left → rest ≡ drop 1 left → others ≡ drop more rest
    → token_more version left ≡ Some more → cites_in version left ≡ option_to_list (cite_at version (slice_index head 0) rest) ++ cites_in version others
token_step version [] head rest others more some first behind past size = absurd (omega arith)
token_step version (b ∷ bs) head rest others more some first behind past size =
    rw (first, past, behind) (ap (λ (m : Option ℕ). walked (λ k. cites_from version k bs) (cite_at version b bs) m) size
    ∙ ap (λ (cs : List Cite). option_to_list (cite_at version b bs) ++ cs) (skipped version more bs))

pub cites_more : (version : Biff) (left head rest others : List ℕ) (more : ℕ) (found new total : List Cite) (cite : Option Cite) → 0 < length left → head ≡ take 1 left → rest ≡ drop 1 left → others ≡ drop more rest
    → token_more version left ≡ Some more → cite ≡ cite_at version (slice_index head 0) rest → new ≡ found ++ option_to_list cite → found ++ cites_in version left ≡ total → new ++ cites_in version others ≡ total
cites_more version left head rest others more found new total cite some first behind past size is items so_far =
    ap (λ (cs : List Cite). cs ++ cites_in version others) (items ∙ ap (λ (c : Option Cite). found ++ option_to_list c) is)
    ∙ (append_assoc found (option_to_list (cite_at version (slice_index head 0) rest)) (cites_in version others)
    ∙ (sym (ap (λ (cs : List Cite). found ++ cs) (token_step version left head rest others more some first behind past size)) ∙ so_far))

-- ---- entries

entry_step : (left : ℕ) (rest others : List ℕ) → 0 < left → 6 ≤ length rest → others ≡ drop 6 rest → entries_in left rest ≡ entry_at rest ∷ entries_in (left - 1) others
entry_step zero rest others some room past = absurd (omega arith)
entry_step (suc n) rest others some room past =
    let long : nat_lt (length rest) 6 ≡ false = grind (arith, nat_tests, room) in
    let fewer : suc n - 1 ≡ n = omega arith in
    rw (long, past, fewer) refl

pub entries_more : (left : ℕ) (rest others : List ℕ) (found new total : List Entry) (entry : Entry) → 0 < left → 6 ≤ length rest → others ≡ drop 6 rest
    → entry ≡ entry_at rest → new ≡ found ++ entry ∷ [] → found ++ entries_in left rest ≡ total → new ++ entries_in (left - 1) others ≡ total
entries_more left rest others found new total entry some room past is items so_far =
    ap (λ (es : List Entry). es ++ entries_in (left - 1) others) (items ∙ ap (λ (e : Entry). found ++ e ∷ []) is)
    ∙ (append_assoc found (entry_at rest ∷ []) (entries_in (left - 1) others)
    ∙ (sym (ap (λ (es : List Entry). found ++ es) (entry_step left rest others some room past)) ∙ so_far))
