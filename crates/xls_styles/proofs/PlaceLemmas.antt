-- Places by identifiers.
use Rattle.std.proofs.Common.{◌≡◌, ◌≢◌, ℕ, zero, suc, ◌+◌, ◌-◌, ◌<◌, ◌≤◌, List, [], ◌∷◌, ◌++◌, length, map, take, get_or, Bool, true, false, Option, Some, None, String, refl, sym, ap, subst, ◌∙◌, arith}
use Rattle.std.specs.Prelude.{◌==◌, if◌then◌else◌, replicate, is_some, nat_lt, IfSome}
use Rattle.std.specs.Global.{Global}
use Rattle.std.specs.List.{slice_get}
use Rattle.std.specs.Option.{option_map, option_or, option_copied}
use Rattle.std.proofs.Math.ListN.{set}
use Rattle.std.proofs.lemmas.List.{get_or-set_same, get_or-set_other, map-append, take_all, take_more}
use Rattle.std.proofs.lemmas.Option.{slice_get-get_or, slice_get-map, slice_get_past, slice_get_read}
use Rattle.std.specs.Borrow.{Bor}
use Rattle.xls_styles.specs.Formats.{last_code, format_view, place_at, PutsPlace, code_in, AreLast}

-- ---- places

no_place : (k i : ℕ) → place_at (replicate k 0) i ≡ 0
no_place zero i = refl
no_place (suc k) zero = refl
no_place (suc k) (suc i) = no_place k i

extended : (places : List ℕ) (k i : ℕ) → place_at (places ++ replicate k 0) i ≡ place_at places i
extended [] k i = no_place k i
extended (p ∷ ps) k zero = refl
extended (p ∷ ps) k (suc i) = extended ps k i

-- more room, or as much as before
pub resized : (b : Bool) (old new : List ℕ) (n : ℕ) → length old ≤ n
    → new ≡ (if b then take n old ++ replicate (n - length old) 0 else old) → (i : ℕ) → place_at new i ≡ place_at old i
resized true old new n fits e i =
    ap (λ ps. place_at ps i) (e ∙ ap (λ ps. ps ++ replicate (n - length old) 0) (take_all n old fits))
    ∙ extended old (n - length old) i
resized false old new n fits e i = ap (λ ps. place_at ps i) e

pub puts : (old room : List ℕ) (ifmt place : ℕ) → ((i : ℕ) → place_at room i ≡ place_at old i) → ifmt < length room
    → PutsPlace old ifmt place (set room ifmt place)
puts old room ifmt place same near i = by_test (ifmt == i) refl
  where
    by_test : (b : Bool) → (ifmt == i) ≡ b → place_at (set room ifmt place) i ≡ (if b then place else place_at old i)
    by_test true e =
        let here : i ≡ ifmt = grind (arith, e) in
        ap (place_at (set room ifmt place)) here ∙ get_or-set_same room ifmt place 0 near
    by_test false e =
        let far : i ≢ ifmt = λ same. grind (arith, e, same) in
        get_or-set_other room ifmt i place 0 far ∙ same i

-- ---- the last format of an identifier

last_code-push : (fs : List (ℕ × List ℕ)) (f : ℕ × List ℕ) (q : ℕ) → last_code (fs ++ f ∷ []) q ≡ (if f.0 == q then Some f.1 else last_code fs q)
last_code-push [] f q = refl
last_code-push (g ∷ fs) f q =
    rw (last_code-push fs f q) (by_test (f.0 == q) (last_code fs q) (if g.0 == q then Some g.1 else None))
  where
    by_test : (b : Bool) (o p : Option (List ℕ)) → option_or (if b then Some f.1 else o) p ≡ (if b then Some f.1 else option_or o p)
    by_test true o p = refl
    by_test false o p = refl

module _ (fs : List (ℕ × String Global)) (k : ℕ) (f : ℕ × String Global) (near : k < length fs) (is : f ≡ get_or fs k f) where
  -- with one format more
  more : (q : ℕ) → last_code (map format_view (take (k + 1) fs)) q ≡ (if f.0 == q then Some (format_view f).1 else last_code (map format_view (take k fs)) q)
  more q =
      ap (λ (x : List (ℕ × String Global)). last_code (map format_view x) q) (take_more fs k f near)
      ∙ ap (λ (x : List (ℕ × List ℕ)). last_code x q) (map-append format_view (take k fs) (get_or fs k f ∷ []))
      ∙ last_code-push (map format_view (take k fs)) (format_view (get_or fs k f)) q
      ∙ ap (λ (x : ℕ × String Global). if x.0 == q then Some (format_view x).1 else last_code (map format_view (take k fs)) q) (sym is)

  here : code_in (map format_view fs) (suc k) ≡ Some (format_view f).1
  here =
      ap (option_map (λ (x : ℕ × List ℕ). x.1))
      (slice_get-map format_view fs k ∙ ap (option_map format_view) (slice_get-get_or fs k f near ∙ ap (λ (x : ℕ × String Global). Some x) (sym is)))

  pub last_more : (old new : List ℕ) (place ifmt : ℕ) → place ≡ k + 1 → ifmt ≡ f.0 → PutsPlace old ifmt place new
      → AreLast (map format_view fs) (map format_view (take k fs)) old → AreLast (map format_view fs) (map format_view (take (k + 1) fs)) new
  last_more old new place ifmt counted same put last q =
      ap (code_in (map format_view fs)) (put q ∙ ap (λ n. if n == q then place else place_at old q) same) ∙ by_test (f.0 == q) refl ∙ sym (more q)
    where
      by_test : (b : Bool) → (f.0 == q) ≡ b
          → code_in (map format_view fs) (if b then place else place_at old q) ≡ (if b then Some (format_view f).1 else last_code (map format_view (take k fs)) q)
      by_test true e =
          let one : place ≡ suc k = omega (arith, counted) in
          ap (code_in (map format_view fs)) one ∙ here
      by_test false e = last q

less_one : (p : ℕ) → suc p - 1 ≡ p
less_one p = omega arith

-- the code at the place of an identifier that has one
module _ (fs : List (ℕ × String Global)) (places : List ℕ) (i : ℕ) (last : AreLast (map format_view fs) (map format_view fs) places) where
  pub code_found : (place : ℕ) (f : ℕ × String Global) → place ≡ place_at places i → (place ≡ 0 → ⊥) → slice_get fs (place - 1) ≡ Some f
      → Some (format_view f).1 ≡ last_code (map format_view fs) i
  code_found zero f is some at = absurd (some refl)
  code_found (suc p) f is some at =
      let here = subst (λ n. slice_get fs n ≡ Some f) (less_one p) at in
      sym (ap (option_map (λ (x : ℕ × List ℕ). x.1)) (slice_get-map format_view fs p ∙ ap (option_map format_view) here))
      ∙ ap (code_in (map format_view fs)) is ∙ last i

  pub code_missing : (place : ℕ) → place ≡ place_at places i → (place ≡ 0 → ⊥) → slice_get fs (place - 1) ≡ None
      → None ≡ last_code (map format_view fs) i
  code_missing zero is some at = absurd (some refl)
  code_missing (suc p) is some at =
      let nothing = subst (λ n. slice_get fs n ≡ None) (less_one p) at in
      sym (ap (option_map (λ (x : ℕ × List ℕ). x.1)) (slice_get-map format_view fs p ∙ ap (option_map format_view) nothing))
      ∙ ap (code_in (map format_view fs)) is ∙ last i

-- an element that was looked up in a slice
pub looked : {X : Type 0} (xs : List X) (n : ℕ) (r : Option (Bor X)) → is_some r ≡ nat_lt n (length xs)
    → IfSome r (λ x. x.now ≡ get_or xs n x.now) → option_copied r ≡ slice_get xs n
looked {X} xs n None t h = sym (slice_get_past xs n (past t))
  where
    past : false ≡ nat_lt n (length xs) → length xs ≤ n
    past e = grind arith
looked {X} xs n (Some x) t h = sym (slice_get_read xs (length xs) n x.now refl (within t) h)
  where
    within : true ≡ nat_lt n (length xs) → n < length xs
    within e = grind arith
