-- Tokens that both readings read alike.
use Rattle.std.proofs.Common.{◌≡◌, ◌<◌, ℕ, zero, suc, List, [], ◌∷◌, length, Bool, true, false, refl, sym, ap, ◌∙◌, subst, arith, Ok, Err}
use Rattle.std.proofs.Common.{if◌then◌else◌}
use Rattle.std.proofs.lemmas.Bool.{eqb-true}
use Rattle.std.proofs.lemmas.Bool.Decides.{nat_tests}
use Rattle.std.specs.Prelude.{◌%◌, drop, slice_index, not, ◌&&◌, ◌||◌, nat_lt, nat_le, ◌==◌}
use Rattle.xls_stream.specs.declared.part.Part.TheVariants as parts
use Rattle.xls_record.specs.Version.{is_biff8}
use Rattle.xls_record.specs.declared.error.XlsError.TheVariants as errors
use Rattle.xls_record.specs.declared.version.Biff.{Biff}
use Rattle.xls_record.specs.declared.version.Biff.TheVariants as versions
use Rattle.xls_ptg.specs.declared.corner.Corner.{Corner}
use Rattle.xls_ptg.specs.declared.tokens.Ptg.TheVariants as ptg
use Rattle.xls_ptg.specs.Fields.{word_at}
use Rattle.xls_ptg.specs.FunctionTokens as functions
use Rattle.xls_ptg.specs.Readings.{Reading}
use Rattle.xls_ptg.specs.References as references
use Rattle.xls_ptg.specs.Tokens.{ptg_at, ptg_by}
use Rattle.xls_ptg.specs.Attributes as attributes
use Rattle.xls_shown_ptg.specs.Reading.{Shown, lifted, shared, unknown}
use Rattle.xls_shown_ptg.specs.Rows as rows
use Rattle.xls_shown_ptg.specs.ShownTokens.{basic_by, by_link, classed_by, mem_by, shown_at}
use Rattle.xls_shown_ptg.specs.declared.fault.Fault.TheVariants as faults
use Rattle.xls_shown_ptg.specs.declared.tokens.ShownPtg.{ShownPtg}
use Rattle.xls_shown_ptg.specs.declared.tokens.ShownPtg.TheVariants as shown
use Rattle.xls_formula_shown.specs.Scope.{Scope}
use Rattle.xls_formula_laws.specs.Alike.{AlikeFrom, AreAlikeTokens, is_alike}
use Rattle.xls_formula_laws.specs.Laws.{SharedAreAlike, TokensAgree}
use Rattle.xls_formula_laws.specs.Shared.{are_shared, is_alike_reading, is_shared, is_own, is_plain_call, is_shared_attribute}
use Rattle.xls_formula_laws.specs.Shared.{is_shared_basic, is_shared_class}

-- a token of the exact reading as one that is shown
abbrev as_known : Reading → Shown
as_known read = lifted (λ x. (shown.Known x.0, x.1)) read

shared_is : (biff : Biff) (token : ℕ) (rest : List ℕ) → shared biff token rest ≡ as_known (ptg_by biff token rest)
unfolding shared
shared_is biff token rest = refl

-- ---- tests

-- a test that would prove what isn't so
never : (P : Type 0) → (P → ⊥) → (b : Bool) → (b ≡ true → P) → b ≡ false
never P refuted true f = absurd (refuted (f refl))
never P refuted false f = refl

is_not : (b : Bool) → not b ≡ true → b ≡ false
is_not true h = absurd cc
is_not false h = refl

differs : (f : ℕ → Bool) (low n : ℕ) → f n ≡ true → f low ≡ false → (low == n) ≡ false
differs f low n h l = never (low ≡ n) (λ e. ne (sym h ∙ (ap f (sym e) ∙ l))) (low == n) (eqb-true low n)
  where
    ne : true ≡ false → ⊥
    ne c = absurd cc

-- ---- below 20

module _ (biff : Biff) (rest : List ℕ) where
  -- the attribute is read by the table of both
  attr_by_same : (none space semi : Bool) → not (none || (space || semi)) ≡ true
      → (if none then rows.attr_nothing_at (drop 1 rest)
      else if space || semi then rows.attr_space_at (drop 1 rest)
      else shared biff 0x19 rest)
      ≡ as_known (ptg_by biff 0x19 rest)
  attr_by_same true space semi h = absurd cc
  attr_by_same false true semi h = absurd cc
  attr_by_same false false true h = absurd cc
  attr_by_same false false false h = shared_is biff 0x19 rest

  attr_sized : (short : Bool) (read : Shown) (other : Reading)
      → (short ≡ false → read ≡ as_known (if short then Err (errors.Len 1 (length rest) parts.Ptg) else other))
      → (if short then Err (faults.Xls (errors.Len 1 (length rest) parts.Ptg)) else read)
      ≡ as_known (if short then Err (errors.Len 1 (length rest) parts.Ptg) else other)
  attr_sized true read other h = refl
  attr_sized false read other h = h refl

  attr_same : is_shared_attribute (slice_index rest 0) ≡ true → basic_by biff 0x19 rest ≡ as_known (ptg_by biff 0x19 rest)
  unfolding basic_by
  attr_same h =
      attr_sized (nat_lt (length rest) 1) (rows.attr_by biff 0x19 (slice_index rest 0) rest)
      (attributes.attr_by (slice_index rest 0) (drop 1 rest))
      (λ e. attr_by_same (slice_index rest 0 == 0x00) (slice_index rest 0 == 0x40) (slice_index rest 0 == 0x41) h)

  abbrev basic_from : ℕ → Bool → Bool → Bool → Bool → Shown
  basic_from token exp tbl elf attr =
      if exp || tbl then Err (unknown token)
      else if elf then rows.elf_at rest
      else if attr then rows.attr_at biff token rest
      else shared biff token rest

  basic_by_tests : (token : ℕ) (exp tbl elf : Bool) → (token == 0x02) ≡ tbl → not (exp || elf) ≡ true
      → basic_from token exp tbl elf false ≡ as_known (ptg_by biff token rest)
  basic_by_tests token true tbl elf e h = absurd cc
  basic_by_tests token false true true e h = absurd cc
  basic_by_tests token false false true e h = absurd cc
  basic_by_tests token false true false e h =
      subst (λ t. Err (unknown t) ≡ as_known (ptg_by biff t rest)) (sym (eqb-true token 0x02 e)) refl
  basic_by_tests token false false false e h = shared_is biff token rest

  basic_same : (token : ℕ) (attr : Bool) → (token == 0x19) ≡ attr
      → (if attr then is_shared_attribute (slice_index rest 0) else not ((token == 0x01) || (token == 0x18))) ≡ true
      → basic_by biff token rest ≡ as_known (ptg_by biff token rest)
  unfolding basic_by
  basic_same token true e h =
      subst (λ t. basic_by biff t rest ≡ as_known (ptg_by biff t rest)) (sym (eqb-true token 0x19 e)) (attr_same h)
  basic_same token false e h =
      ap (λ attr. basic_from token (token == 0x01) (token == 0x02) (token == 0x18) attr) e
      ∙ basic_by_tests token (token == 0x01) (token == 0x02) (token == 0x18) refl h

  -- ---- from 20 to 7F

  call_by_bits : (count index : ℕ) (low plain user : Bool) → nat_lt count 0x80 ≡ low → nat_lt index 0x8000 ≡ plain → (index == 0xFF) ≡ user
      → low && (plain && not user) ≡ true → rows.func_var_by (count % 0x80) index ≡ shown.Known (ptg.FuncVar count index)
  call_by_bits count index false plain user el ep eu h = absurd cc
  call_by_bits count index true false user el ep eu h = absurd cc
  call_by_bits count index true true true el ep eu h = absurd cc
  call_by_bits count index true true false el ep eu h =
      let lt : count < 0x80 = grind (arith, nat_tests, el) in
      let small : count % 0x80 ≡ count = omega (arith, lt) in
      let known : nat_le 0x8000 index ≡ false = grind (arith, nat_tests, ep) in
      rw (known, eu, small) refl

  call_sized : (short : Bool)
      → rows.func_var_by (slice_index rest 0 % 0x80) (word_at 1 rest) ≡ shown.Known (ptg.FuncVar (slice_index rest 0) (word_at 1 rest))
      → (if short then Err (faults.Xls (errors.Len 3 (length rest) parts.Ptg))
      else Ok (rows.func_var_by (slice_index rest 0 % 0x80) (word_at 1 rest), 3))
      ≡ as_known (if short then Err (errors.Len 3 (length rest) parts.Ptg) else Ok (ptg.FuncVar (slice_index rest 0) (word_at 1 rest), 3))
  call_sized true h = refl
  call_sized false h = ap (λ (t : ShownPtg (List ℕ)). Ok (t, 3)) h

  call_same : is_plain_call rest ≡ true → rows.func_var_at rest ≡ as_known (functions.func_var_at rest)
  call_same h =
      call_sized (nat_lt (length rest) 3)
      (call_by_bits (slice_index rest 0) (word_at 1 rest) (nat_lt (slice_index rest 0) 0x80) (nat_lt (word_at 1 rest) 0x8000)
      (word_at 1 rest == 0xFF) refl refl refl h)

  area_sized : (short : Bool) (first last : Corner)
      → (if short then Err (faults.Xls (errors.Len 8 (length rest) parts.Ptg)) else Ok (shown.Known (ptg.Area first last), 8))
      ≡ as_known (if short then Err (errors.Len 8 (length rest) parts.Ptg) else Ok (ptg.Area first last, 8))
  area_sized true first last = refl
  area_sized false first last = refl

area_same : (biff : Biff) (rest : List ℕ) → is_biff8 biff ≡ true → rows.area_at biff rest ≡ as_known (references.area_at biff rest)
area_same versions.Biff8 rest h = area_sized versions.Biff8 rest (nat_lt (length rest) 8) _ _
area_same biff rest h = absurd cc

module _ (biff : Biff) (token : ℕ) (rest : List ℕ) where
  -- none of those that are shown otherwise
  class_shared : (token % 0x20 == 0x02) ≡ false → (token % 0x20 == 0x05) ≡ false → is_own (token % 0x20) ≡ false
      → classed_by biff token rest ≡ shared biff token rest
  unfolding classed_by by_link mem_by
  class_shared ec ea own =
      let l : ℕ = token % 0x20 in
      rw (
        ec,
        ea,
        differs is_own l 0x06 refl own,
        differs is_own l 0x07 refl own,
        differs is_own l 0x08 refl own,
        differs is_own l 0x09 refl own,
        differs is_own l 0x0C refl own,
        differs is_own l 0x0D refl own,
        differs is_own l 0x0E refl own,
        differs is_own l 0x0F refl own,
        differs is_own l 0x19 refl own,
        differs is_own l 0x1A refl own,
        differs is_own l 0x1B refl own,
        differs is_own l 0x1C refl own,
        differs is_own l 0x1D refl own,
      ) refl

  class_same : (call area : Bool) → nat_lt token 0x20 ≡ false → nat_lt token 0x80 ≡ true
      → (token % 0x20 == 0x02) ≡ call → (token % 0x20 == 0x05) ≡ area
      → (if call then is_plain_call rest else if area then is_biff8 biff else not (is_own (token % 0x20))) ≡ true
      → classed_by biff token rest ≡ as_known (ptg_by biff token rest)
  unfolding classed_by
  class_same true area large within ec ea h = rw (large, within, eqb-true (token % 0x20) 0x02 ec) (call_same biff rest h)
  class_same false true large within ec ea h = rw (large, within, eqb-true (token % 0x20) 0x05 ea) (area_same biff rest h)
  class_same false false large within ec ea h =
      class_shared ec ea (is_not (is_own (token % 0x20)) h) ∙ shared_is biff token rest

  -- ---- all tokens

  by_same : (small within : Bool) → nat_lt token 0x20 ≡ small → nat_lt token 0x80 ≡ within
      → (if small then is_shared_basic token rest else if within then is_shared_class biff (token % 0x20) rest else true) ≡ true
      → (if small then basic_by biff token rest else if within then classed_by biff token rest else Err (unknown token))
      ≡ as_known (ptg_by biff token rest)
  by_same true within es ew h = basic_same biff rest token (token == 0x19) refl h
  by_same false true es ew h = class_same (token % 0x20 == 0x02) (token % 0x20 == 0x05) es ew refl refl h
  by_same false false es ew h = rw (es, ew) refl

pub tokens_agree : TokensAgree
tokens_agree biff bytes h =
    let token : ℕ = slice_index bytes 0 in
    by_same biff token (drop 1 bytes) (nat_lt token 0x20) (nat_lt token 0x80) refl refl h

-- ---- a formula

both : (a b : Bool) → a && b ≡ true → (a ≡ true) × (b ≡ true)
both true b h = (refl, h)
both false b h = absurd cc

alike_from : (scope : Scope) (follows : ℕ → Bool) (Follows : ℕ → Type 0) → ((n : ℕ) → follows n ≡ true → Follows n)
    → (r : Reading) (s : Shown) → s ≡ as_known r → is_alike_reading scope follows r ≡ true → AlikeFrom scope Follows r s
alike_from scope follows Follows rest (Ok x) s e h =
    let parts : (is_alike scope x.0 ≡ true) × (follows x.1 ≡ true) = both (is_alike scope x.0) (follows x.1) h in
    subst (λ q. AlikeFrom scope Follows (Ok x) q) (sym e) (refl, (refl, parts.0), rest x.1 parts.1)
alike_from scope follows Follows rest (Err f) s e h = subst (λ q. AlikeFrom scope Follows (Err f) q) (sym e) refl

all_alike : (scope : Scope) (tokens : List ℕ) (more : ℕ) → are_shared scope tokens more ≡ true → AreAlikeTokens scope tokens more
all_alike scope [] more h = tt
all_alike scope (b ∷ bytes) (suc more) h = all_alike scope bytes more h
all_alike scope (b ∷ bytes) zero h =
    let read : Reading = ptg_at scope.biff (b ∷ bytes) in
    let follows : ℕ → Bool = λ n. are_shared scope bytes n in
    let parts : (is_shared scope.biff (b ∷ bytes) ≡ true) × (is_alike_reading scope follows read ≡ true) =
    both (is_shared scope.biff (b ∷ bytes)) (is_alike_reading scope follows read) h in
    alike_from scope follows (λ n. AreAlikeTokens scope bytes n) (λ n. all_alike scope bytes n) read (shown_at scope.biff (b ∷ bytes))
    (tokens_agree scope.biff (b ∷ bytes) parts.0) parts.1

pub shared_are_alike : SharedAreAlike
shared_are_alike scope tokens h = all_alike scope tokens 0 h
