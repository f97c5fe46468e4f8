-- Names of a dictionary one after the other.
use Rattle.std.proofs.Common.{◌≡◌, ℕ, zero, suc, ◌+◌, ◌-◌, ◌<◌, List, [], ◌∷◌, ◌++◌, Bool, true, false, cond, Option, Some, None, String, string_bytes, refl, sym, ap, ◌∙◌, arith, append_assoc, append-nil}
use Rattle.std.specs.Prelude.{◌==◌}
use Rattle.std.specs.Option.{option_or, option_map}
use Rattle.std.specs.Ordering.{nat_cmp}
use Rattle.std.specs.BTreeMap.{BTreeMap, get}
use Rattle.xls_text.specs.declared.encoding.XlsEncoding.{XlsEncoding}
use Rattle.xls_props.specs.Entries.{last_of}
use Rattle.xls_props.specs.Names.{Name, name_at, names_from, HasNames}

pub names_more : (prefix now total : List Name) (page : XlsEncoding) (count i : ℕ) (bytes after : List ℕ) (n : Name) → i < count
    → name_at page bytes ≡ Some (n, after) → now ≡ prefix ++ n ∷ []
    → prefix ++ names_from (count - i) page bytes ≡ total → now ++ names_from (count - (i + 1)) page after ≡ total
names_more prefix now total page count i bytes after n below step grown before =
    let k : count - i ≡ suc (count - (i + 1)) = omega arith in
    let one : prefix ++ names_from (count - i) page bytes ≡ prefix ++ (n ∷ names_from (count - (i + 1)) page after) = rw (k, step) in
    rw (grown, append_assoc) (sym one ∙ before)

pub names_end : (prefix total : List Name) (page : XlsEncoding) (n : ℕ) (bytes : List ℕ) → name_at page bytes ≡ None
    → prefix ++ names_from n page bytes ≡ total → prefix ≡ total
names_end prefix total page zero bytes none before = sym (append-nil prefix) ∙ before
names_end prefix total page (suc n) bytes none before = sym (append-nil prefix) ∙ rw none at before

pub option_or-assoc : {A : Type 0} (x y z : Option A) → option_or (option_or x y) z ≡ option_or x (option_or y z)
option_or-assoc (Some a) y z = refl
option_or-assoc None y z = refl

pub or_none : {A : Type 0} (o : Option A) → option_or o None ≡ o
or_none None = refl
or_none (Some a) = refl

-- the last of a number, where one more pair stands at the end
pub last_of-push : {A : Type 0} (q : ℕ) (ns : List (ℕ × A)) (n : ℕ × A)
    → last_of q (ns ++ n ∷ []) ≡ option_or (cond (n.0 == q) (Some n.1) None) (last_of q ns)
last_of-push q [] n = sym (or_none _)
last_of-push q (m ∷ ns) n =
    ap (λ o. option_or o (cond (m.0 == q) (Some m.1) None)) (last_of-push q ns n) ∙ option_or-assoc _ (last_of q ns) _

put_one : {Z : Type 0} (text : String Z) (b : Bool) (o : Option (String Z))
    → option_map string_bytes (cond b (Some text) o) ≡ option_or (cond b (Some (string_bytes text)) None) (option_map string_bytes o)
put_one text true o = refl
put_one text false None = refl
put_one text false (Some x) = refl

-- one more name in the map
pub names_put : {Z : Type 0} (m n : BTreeMap ℕ (String Z)) (k : ℕ) (text : String Z)
    → ((q : ℕ) → get nat_cmp n q ≡ cond (k == q) (Some text) (get nat_cmp m q))
    → (ns : List Name) → HasNames m ns → HasNames n (ns ++ (k, string_bytes text) ∷ [])
names_put m n k text sets ns has q =
    rw (sets q, last_of-push q ns (k, string_bytes text), sym (has q)) (put_one text (k == q) (get nat_cmp m q))
