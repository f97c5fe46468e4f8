-- Entries one after the other.
use Rattle.std.proofs.Common.{◌≡◌, ℕ, zero, suc, ◌+◌, ◌-◌, ◌<◌, List, [], ◌∷◌, ◌++◌, length, refl, sym, ap, ◌∙◌, append_assoc, append-nil, arith, lt-ltb}
use Rattle.xls_props.specs.Entries.{Entry, entries_from}

pub entries_none : (n : ℕ) (bytes : List ℕ) → length bytes < 8 → entries_from n bytes ≡ []
entries_none zero bytes short = refl
entries_none (suc n) bytes short = rw (lt-ltb (length bytes) 8 short)

pub entries_more : (prefix now total : List Entry) (count i : ℕ) (bytes after : List ℕ) (e : Entry) → i < count
    → ((n : ℕ) → entries_from (suc n) bytes ≡ e ∷ entries_from n after) → now ≡ prefix ++ e ∷ []
    → prefix ++ entries_from (count - i) bytes ≡ total → now ++ entries_from (count - (i + 1)) after ≡ total
entries_more prefix now total count i bytes after e below step grown before =
    let k : count - i ≡ suc (count - (i + 1)) = omega arith in
    let one : prefix ++ entries_from (count - i) bytes ≡ prefix ++ (e ∷ entries_from (count - (i + 1)) after) = rw (k, step (count - (i + 1))) in
    rw (grown, append_assoc) (sym one ∙ before)

pub entries_end : (prefix total : List Entry) (n : ℕ) (bytes : List ℕ) → ((n : ℕ) → entries_from n bytes ≡ []) → prefix ++ entries_from n bytes ≡ total → prefix ≡ total
entries_end prefix total n bytes none before = sym (append-nil prefix) ∙ ap (λ t. prefix ++ t) (sym (none n)) ∙ before
