-- Places by identifiers, and formats that are kept by them.
use Rattle.std.proofs.Common.{◌≡◌, ◌≢◌, ℕ, zero, suc, ◌+◌, ◌-◌, ◌<◌, ◌≤◌, List, [], ◌∷◌, ◌++◌, length, map, take, get_or, Bool, true, false, Option, Some, None, String, Result, Ok, Err, OnOk, refl, sym, ap, subst, ◌∙◌, arith}
use Rattle.std.specs.Prelude.{◌==◌, if◌then◌else◌, replicate}
use Rattle.std.specs.Global.{Global}
use Rattle.std.specs.List.{slice_get}
use Rattle.std.specs.Option.{option_map, option_or}
use Rattle.std.proofs.Math.ListN.{set}
use Rattle.std.proofs.lemmas.List.{get_or-set_same, get_or-set_other, map-append, take_all, take_more}
use Rattle.std.proofs.lemmas.Option.{slice_get-get_or, slice_get-map}
use Rattle.xls_open.specs.Workbook.{code_texts}
use Rattle.xls_view.specs.Codes.{last_code}
use Rattle.xls_cell_formats.specs.Kept.{place_at, PutsPlace, code_at, AreLast, AreKept}

-- ---- places

no_place : (k i : ℕ) → place_at (replicate k 0) i ≡ 0
no_place zero i = refl
no_place (suc k) zero = refl
no_place (suc k) (suc i) = no_place k i

extended : (places : List ℕ) (k i : ℕ) → place_at (places ++ replicate k 0) i ≡ place_at places i
extended [] k i = no_place k i
extended (p ∷ ps) k zero = refl
extended (p ∷ ps) k (suc i) = extended ps k i

-- more room, or as much as before
pub resized : (b : Bool) (old new : List ℕ) (n : ℕ) → length old ≤ n
    → new ≡ (if b then take n old ++ replicate (n - length old) 0 else old) → (i : ℕ) → place_at new i ≡ place_at old i
resized true old new n fits e i =
    ap (λ ps. place_at ps i) (e ∙ ap (λ ps. ps ++ replicate (n - length old) 0) (take_all n old fits))
    ∙ extended old (n - length old) i
resized false old new n fits e i = ap (λ ps. place_at ps i) e

pub puts : (old room : List ℕ) (ifmt place : ℕ) → ((i : ℕ) → place_at room i ≡ place_at old i) → ifmt < length room
    → PutsPlace old ifmt place (set room ifmt place)
puts old room ifmt place same near i = by_test (ifmt == i) refl
  where
    by_test : (b : Bool) → (ifmt == i) ≡ b → place_at (set room ifmt place) i ≡ (if b then place else place_at old i)
    by_test true e =
        let here : i ≡ ifmt = grind (arith, e) in
        ap (place_at (set room ifmt place)) here ∙ get_or-set_same room ifmt place 0 near
    by_test false e =
        let far : i ≢ ifmt = λ same. grind (arith, e, same) in
        get_or-set_other room ifmt i place 0 far ∙ same i

-- ---- the last format of an identifier

last_code-push : (fs : List (ℕ × List ℕ)) (f : ℕ × List ℕ) (q : ℕ) → last_code (fs ++ f ∷ []) q ≡ (if f.0 == q then Some f.1 else last_code fs q)
last_code-push [] f q = refl
last_code-push (g ∷ fs) f q =
    rw (last_code-push fs f q) (by_test (f.0 == q) (last_code fs q) (if g.0 == q then Some g.1 else None))
  where
    by_test : (b : Bool) (o p : Option (List ℕ)) → option_or (if b then Some f.1 else o) p ≡ (if b then Some f.1 else option_or o p)
    by_test true o p = refl
    by_test false o p = refl

module _ (fs : List (ℕ × String Global)) (k : ℕ) (f : ℕ × String Global) (near : k < length fs) (is : f ≡ get_or fs k f) where
  -- with one format more
  more : (q : ℕ) → last_code (map code_texts (take (k + 1) fs)) q ≡ (if f.0 == q then Some (code_texts f).1 else last_code (map code_texts (take k fs)) q)
  more q =
      ap (λ (x : List (ℕ × String Global)). last_code (map code_texts x) q) (take_more fs k f near)
      ∙ ap (λ (x : List (ℕ × List ℕ)). last_code x q) (map-append code_texts (take k fs) (get_or fs k f ∷ []))
      ∙ last_code-push (map code_texts (take k fs)) (code_texts (get_or fs k f)) q
      ∙ ap (λ (x : ℕ × String Global). if x.0 == q then Some (code_texts x).1 else last_code (map code_texts (take k fs)) q) (sym is)

  here : code_at (map code_texts fs) (suc k) ≡ Some (code_texts f).1
  here =
      ap (option_map (λ (x : ℕ × List ℕ). x.1))
      (slice_get-map code_texts fs k ∙ ap (option_map code_texts) (slice_get-get_or fs k f near ∙ ap (λ (x : ℕ × String Global). Some x) (sym is)))

  pub last_more : (old new : List ℕ) (place ifmt : ℕ) → place ≡ k + 1 → ifmt ≡ f.0 → PutsPlace old ifmt place new
      → AreLast (map code_texts fs) (map code_texts (take k fs)) old → AreLast (map code_texts fs) (map code_texts (take (k + 1) fs)) new
  last_more old new place ifmt counted same put last q =
      ap (code_at (map code_texts fs)) (put q ∙ ap (λ n. if n == q then place else place_at old q) same) ∙ by_test (f.0 == q) refl ∙ sym (more q)
    where
      by_test : (b : Bool) → (f.0 == q) ≡ b
          → code_at (map code_texts fs) (if b then place else place_at old q) ≡ (if b then Some (code_texts f).1 else last_code (map code_texts (take k fs)) q)
      by_test true e =
          let one : place ≡ suc k = omega (arith, counted) in
          ap (code_at (map code_texts fs)) one ∙ here
      by_test false e = last q

less_one : (p : ℕ) → suc p - 1 ≡ p
less_one p = omega arith

-- the code at the place of an identifier that has one
module _ (fs : List (ℕ × String Global)) (places : List ℕ) (i : ℕ) (last : AreLast (map code_texts fs) (map code_texts fs) places) where
  pub code_found : (place : ℕ) (f : ℕ × String Global) → place ≡ place_at places i → (place ≡ 0 → ⊥) → slice_get fs (place - 1) ≡ Some f
      → Some (code_texts f).1 ≡ last_code (map code_texts fs) i
  code_found zero f is some at = absurd (some refl)
  code_found (suc p) f is some at =
      let here = subst (λ n. slice_get fs n ≡ Some f) (less_one p) at in
      sym (ap (option_map (λ (x : ℕ × List ℕ). x.1)) (slice_get-map code_texts fs p ∙ ap (option_map code_texts) here))
      ∙ ap (code_at (map code_texts fs)) is ∙ last i

  pub code_missing : (place : ℕ) → place ≡ place_at places i → (place ≡ 0 → ⊥) → slice_get fs (place - 1) ≡ None
      → None ≡ last_code (map code_texts fs) i
  code_missing zero is some at = absurd (some refl)
  code_missing (suc p) is some at =
      let nothing = subst (λ n. slice_get fs n ≡ None) (less_one p) at in
      sym (ap (option_map (λ (x : ℕ × List ℕ). x.1)) (slice_get-map code_texts fs p ∙ ap (option_map code_texts) nothing))
      ∙ ap (code_at (map code_texts fs)) is ∙ last i

-- ---- formats

-- what stood at a place stands there with one more
pushed_before : {X : Type 0} (xs : List X) (x y : X) (p : ℕ) → slice_get xs p ≡ Some x → slice_get (xs ++ y ∷ []) p ≡ Some x
pushed_before [] x y p e = absurd (grind (arith, e))
pushed_before (z ∷ zs) x y zero e = e
pushed_before (z ∷ zs) x y (suc p) e = pushed_before zs x y p e

pushed_last : {X : Type 0} (xs : List X) (y : X) → slice_get (xs ++ y ∷ []) (length xs) ≡ Some y
pushed_last [] y = refl
pushed_last (z ∷ zs) y = pushed_last zs y

-- a format more, at a place of its own
pub kept_more : (code : ℕ → List ℕ) (places new : List ℕ) (formats after : List (List ℕ)) (i number : ℕ) (c : List ℕ)
    → number ≡ length formats + 1 → after ≡ formats ++ c ∷ [] → PutsPlace places i number new → code i ≡ c
    → AreKept code places formats → AreKept code new after
kept_more code places new formats after i number c counted pushed put is kept j p at =
    ap (λ fs. slice_get fs p) pushed ∙ by_test (i == j) refl (sym (put j) ∙ at)
  where
    by_test : (b : Bool) → (i == j) ≡ b → (if b then number else place_at places j) ≡ suc p
        → slice_get (formats ++ c ∷ []) p ≡ Some (code j)
    by_test true e here =
        let same : j ≡ i = grind (arith, e) in
        let last : p ≡ length formats = omega (arith, here, counted) in
        ap (λ n. slice_get (formats ++ c ∷ []) n) last ∙ pushed_last formats c
        ∙ ap (λ x. Some x) (sym is) ∙ ap (λ n. Some (code n)) (sym same)
    by_test false e there = pushed_before formats (code j) c p (kept j p there)

-- where its place could be put
pub kept_if : {T E : Type 0} (r : Result T E) (places new : List ℕ) (formats after : List (List ℕ)) (i number : ℕ) (c : List ℕ)
    → number ≡ length formats + 1 → after ≡ formats ++ c ∷ [] → OnOk r (PutsPlace places i number new)
    → OnOk r ((code : ℕ → List ℕ) → code i ≡ c → AreKept code places formats → AreKept code new after)
kept_if (Ok x) places new formats after i number c counted pushed put =
    λ code is kept. kept_more code places new formats after i number c counted pushed put is kept
kept_if (Err e) places new formats after i number c counted pushed put = tt

-- of codes that are these
pub kept_under : {T E : Type 0} (r : Result T E) (code : ℕ → List ℕ) (i : ℕ) (c : List ℕ) (places new : List ℕ) (formats after : List (List ℕ))
    → code i ≡ c → OnOk r ((code : ℕ → List ℕ) → code i ≡ c → AreKept code places formats → AreKept code new after)
    → OnOk r (AreKept code places formats → AreKept code new after)
kept_under (Ok x) code i c places new formats after is keeps = keeps code is
kept_under (Err e) code i c places new formats after is keeps = tt

-- the format at the place of an identifier
pub kept_at : (code : ℕ → List ℕ) (places : List ℕ) (formats : List (List ℕ)) (i place : ℕ) (format : List ℕ) → AreKept code places formats
    → place ≡ place_at places i → (place ≡ 0 → ⊥) → slice_get formats (place - 1) ≡ Some format → format ≡ code i
kept_at code places formats i zero format kept is some at = absurd (some refl)
kept_at code places formats i (suc p) format kept is some at =
    let there : Some format ≡ Some (code i) = sym (subst (λ n. slice_get formats n ≡ Some format) (less_one p) at) ∙ kept i p (sym is) in cc
