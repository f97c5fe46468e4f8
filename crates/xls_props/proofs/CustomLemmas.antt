-- Custom properties from the last entry to the first.
use Rattle.std.proofs.Common.{◌≡◌, ℕ, ◌<◌, ◌≤◌, ◌-◌, ◌+◌, length, get_or, drop, List, [], ◌∷◌, ◌++◌, Bool, true, false, cond, Option, Some, None, String, string_bytes, refl, sym, ap, ◌∙◌, subst, arith}
use Rattle.std.proofs.lemmas.Grind.{common_steps}
use Rattle.std.proofs.lemmas.List.{at_drop_more}
use Rattle.std.proofs.lemmas.Slice.Eq.{bytes_eq-Decides}
use Rattle.std.specs.Option.{option_or, option_map}
use Rattle.std.specs.Str.{bytes_eq}
use Rattle.std.specs.Prelude.{◌==◌, is_some, nat_lt}
use Rattle.std.specs.Ordering.{nat_cmp}
use Rattle.std.specs.BTreeMap.{BTreeMap, get, get_by_text}
use Rattle.xls_text.specs.declared.encoding.XlsEncoding.{XlsEncoding}
use Rattle.xls_props.specs.Entries.{Entry, last_of}
use Rattle.xls_props.specs.Names.{Name, HasNames}
use Rattle.xls_props.specs.Values.{Value, Shows, ShowsValue, value_at}
use Rattle.xls_props.specs.Custom.{named, custom_of, customs_of, last_named}
use Rattle.xls_props.specs.Walked.{IsWalked}
use Rattle.xls_props.proofs.NameLemmas.{or_none}

some_same : {A : Type 0} (x y : A) → Some x ≡ Some y → x ≡ y
some_same x y e = cc

-- a later value of a name stays
later_stays : (q name : List ℕ) (v w : Value) (later : Option Value) → (bytes_eq name q ≡ true → later ≡ Some w)
    → (t : Bool) → t ≡ bytes_eq name q → option_or later (cond t (Some v) None) ≡ later
later_stays q name v w later some true is = rw (some (sym is))
later_stays q name v w later some false is = or_none later

-- nothing is given to a name where its value comes first
none_later : (v : Value) (later : Option Value) (t : Bool) → option_or later (cond t (Some v) None) ≡ None → (later ≡ None) × (t ≡ false)
none_later v None false none = (refl, refl)
none_later v None true none = cc
none_later v (Some w) t none = cc

module _ {X Y Z : Type 0} (ns : List Name) (ps : List (List ℕ × Value)) (map : BTreeMap (String X) (String Y)) (names left : BTreeMap ℕ (String Z)) (k : ℕ)
    (removed : (j : ℕ) → get nat_cmp left j ≡ cond (k == j) None (get nat_cmp names j)) (walked : IsWalked ns ps map names) where
  -- the names that are left are those of the dictionary
  only_left : (j : ℕ) (n : List ℕ) → option_map string_bytes (get nat_cmp left j) ≡ Some n → last_of j ns ≡ Some n
  only_left j n is = by_test (k == j) (rw (removed j) at is)
    where
      by_test : (t : Bool) → option_map string_bytes (cond t None (get nat_cmp names j)) ≡ Some n → last_of j ns ≡ Some n
      by_test true none = cc
      by_test false some = walked.only j n some

  -- and a name of another number is left
  other_left : (j : ℕ) (n : List ℕ) → (k == j) ≡ false → last_of j ns ≡ Some n → last_named n ps ≡ None → option_map string_bytes (get nat_cmp left j) ≡ Some n
  other_left j n other is none = rw (removed j, other) (walked.left j n is none)

  -- the entry's name has a value already
  pub walked_from : (name : List ℕ) (v w : Value) → last_of k ns ≡ Some name → last_named name ps ≡ Some w → IsWalked ns ((name, v) ∷ ps) map left
  walked_from name v w is input = record {
    has = λ q. subst (λ o. Shows o (get_by_text map q)) (sym (same q)) (walked.has q);
    only = only_left;
    left = λ j n listed none. by_test j n listed (sym (same n) ∙ none) (k == j) refl;
  }
    where
      same : (q : List ℕ) → last_named q ((name, v) ∷ ps) ≡ last_named q ps
      same q = later_stays q name v w (last_named q ps) (λ equal. ap (λ n. last_named n ps) (sym ((bytes_eq-Decides name q).0 equal)) ∙ input) (bytes_eq name q) refl

      by_test : (j : ℕ) (n : List ℕ) → last_of j ns ≡ Some n → last_named n ps ≡ None → (t : Bool) → t ≡ (k == j) → option_map string_bytes (get nat_cmp left j) ≡ Some n
      by_test j n listed none false other = other_left j n (sym other) listed none
      by_test j n listed none true equal = let here : k ≡ j = grind (arith, common_steps) in
          let one : name ≡ n = some_same name n (sym is ∙ ap (λ i. last_of i ns) here ∙ listed) in cc

  -- the entry gives its name the first value
  pub walked_new : (new : BTreeMap (String X) (String Y)) (text : String Y) (name : List ℕ) (v : Value) → last_of k ns ≡ Some name → last_named name ps ≡ None
      → ShowsValue v (string_bytes text) → ((q : List ℕ) → get_by_text new q ≡ cond (bytes_eq name q) (Some text) (get_by_text map q)) → IsWalked ns ((name, v) ∷ ps) new left
  walked_new new text name v is first shows sets = record {
    has = λ q. rw (sets q) (show q (bytes_eq name q) refl);
    only = only_left;
    left = λ j n listed none. by_test j n listed (none_later v (last_named n ps) (bytes_eq name n) none) (k == j) refl;
  }
    where
      show : (q : List ℕ) (t : Bool) → t ≡ bytes_eq name q → Shows (option_or (last_named q ps) (cond t (Some v) None)) (cond t (Some text) (get_by_text map q))
      show q true equal = let one : last_named q ps ≡ None = ap (λ n. last_named n ps) (sym ((bytes_eq-Decides name q).0 (sym equal))) ∙ first in rw one shows
      show q false other = rw (or_none (last_named q ps)) (walked.has q)

      by_test : (j : ℕ) (n : List ℕ) → last_of j ns ≡ Some n → (last_named n ps ≡ None) × (bytes_eq name n ≡ false) → (t : Bool) → t ≡ (k == j)
          → option_map string_bytes (get nat_cmp left j) ≡ Some n
      by_test j n listed none false other = other_left j n (sym other) listed none.0
      by_test j n listed none true equal = let here : k ≡ j = grind (arith, common_steps) in
          let one : name ≡ n = some_same name n (sym is ∙ ap (λ i. last_of i ns) here ∙ listed) in
          let equal_bytes : bytes_eq name n ≡ true = (bytes_eq-Decides name n).1 one in cc

  -- the entry's number has no name, or none that is left
  pub walked_unnamed : (v : Option Value) → get nat_cmp names k ≡ None → IsWalked ns (named (last_of k ns) v ++ ps) map left
  walked_unnamed v gone = by_name (last_of k ns) v refl
    where
      same : (j : ℕ) → get nat_cmp left j ≡ get nat_cmp names j
      same j = removed j ∙ by_test (k == j) refl
        where
          by_test : (t : Bool) → t ≡ (k == j) → cond t None (get nat_cmp names j) ≡ get nat_cmp names j
          by_test false other = refl
          by_test true equal = let here : k ≡ j = grind (arith, common_steps) in sym (ap (λ i. get nat_cmp names i) (sym here) ∙ gone)

      stays : IsWalked ns ps map left
      stays = record {
        has = walked.has;
        only = only_left;
        left = λ j n listed none. rw (same j) (walked.left j n listed none);
      }

      no_text : (o : Option (String Z)) (name : List ℕ) → o ≡ None → option_map string_bytes o ≡ Some name → ⊥
      no_text None name none there = cc
      no_text (Some t) name none there = cc

      by_value : (name : List ℕ) (v : Value) (input : Option Value) → last_of k ns ≡ Some name → last_named name ps ≡ input → IsWalked ns ((name, v) ∷ ps) map left
      by_value name v (Some w) is input = walked_from name v w is input
      by_value name v None is none = let there : option_map string_bytes (get nat_cmp names k) ≡ Some name = walked.left k name is none in
          absurd (no_text (get nat_cmp names k) name gone there)

      by_name : (o : Option (List ℕ)) (v : Option Value) → last_of k ns ≡ o → IsWalked ns (named o v ++ ps) map left
      by_name None v is = stays
      by_name (Some name) None is = stays
      by_name (Some name) (Some v) is = by_value name v (last_named name ps) is refl

-- the property of an entry that isn't 0 or 1
pub custom_named : (ns : List Name) (page : XlsEncoding) (s : List ℕ) (e : Entry) → nat_lt e.0 2 ≡ false → custom_of ns page s e ≡ named (last_of e.0 ns) (value_at page s e.1)
custom_named ns page s e other = rw other

pub custom_one : (ns : List Name) (page : XlsEncoding) (s : List ℕ) (e : Entry) (name : List ℕ) (v : Value) → nat_lt e.0 2 ≡ false → last_of e.0 ns ≡ Some name → Some v ≡ value_at page s e.1
    → custom_of ns page s e ≡ (name, v) ∷ []
custom_one ns page s e name v other is value = rw (other, is, sym value)

-- what is in the map has a value
pub is_said : {Z : Type 0} (input : Option Value) (text : Option (String Z)) → Shows input text → is_some text ≡ true → (w : Value) × (input ≡ Some w)
is_said (Some w) text shows there = (w, refl)
is_said None None shows there = cc
is_said None (Some text) shows there = absurd shows

-- and what isn't has none
pub is_not_said : {Z : Type 0} (input : Option Value) (text : Option (String Z)) → Shows input text → is_some text ≡ false → input ≡ None
is_not_said None text shows none = refl
is_not_said (Some w) None shows none = absurd shows
is_not_said (Some w) (Some text) shows none = cc

-- no entry is walked yet
pub walked_none : {X Y Z : Type 0} (ns : List Name) (map : BTreeMap (String X) (String Y)) (names : BTreeMap ℕ (String Z)) → ((q : List ℕ) → get_by_text map q ≡ None) → HasNames names ns
    → IsWalked ns [] map names
walked_none ns map names empty has = record {
  has = λ q. rw (empty q) tt;
  only = λ number name is. sym (has number) ∙ is;
  left = λ number name is none. has number ∙ is;
}

-- one entry more from the end
pub customs_step : (ns : List Name) (page : XlsEncoding) (s : List ℕ) (es : List Entry) (left : ℕ) (e d : Entry) → 0 < left → left ≤ length es → e ≡ get_or es (left - 1) d
    → customs_of ns page s (drop (left - 1) es) ≡ custom_of ns page s e ++ customs_of ns page s (drop left es)
customs_step ns page s es left e d some within is =
    let i : left - 1 + 1 ≡ left = omega arith in
    at_drop_more (λ rest. customs_of ns page s rest) es (left - 1) d (omega arith) ∙ rw (i, is) refl
