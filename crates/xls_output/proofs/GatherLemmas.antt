-- Texts that are gathered, one after the other.
use Rattle.std.proofs.Common.{◌≡◌, ℕ, ◌+◌, ◌<◌, ◌≤◌, List, [], ◌∷◌, ◌++◌, length, get_or, take, drop, drop-cons, take-append-drop, Option, Result, Ok, Err, sym, ◌∙◌, ap, subst, add-one, append_assoc, append-nil, refl, arith, length-append}
use Rattle.std.specs.List.{flat_map}
use Rattle.std.proofs.lemmas.List.{take_more}
use Rattle.std.proofs.lemmas.Grind.{flat_map-append}
use Rattle.std.specs.Io.KnownBytes.{Appends}
use Rattle.std.specs.Result.{IsErrAnd}
use Rattle.std.proofs.KnownBytes.{Appends-trans, Appends-nil}
use Rattle.xls_output.specs.SinkState.{SinkState}
use Rattle.xls_output.specs.Written.{AppendsPrefix}
use Rattle.xls_output.specs.Gathering.{WriteCause, GrowsSink, GathersText, Stops, PutsInto, Wrote, Delivers}
use Rattle.xls_output.specs.declared.stop.Stop.{Stop}
use Rattle.xls_output.specs.declared.stop.Stop.TheVariants.{Read, Write, Memory}

-- ---- nothing, and a text that is only gathered

pub gathers-added : (w : SinkState) (g h text : List ℕ) → h ≡ g ++ text
    → GathersText w g w h text
gathers-added w g h text e = record {
  grows = ([], sym e, Appends-nil w.written);
  later = omega arith;
  steady = λ n le take. (refl, n, take, (let size : length h ≡ length g + length text = ap length e ∙ length-append g text in omega (arith, size)));
}

pub gathers-nothing : (w : SinkState) (g : List ℕ) → GathersText w g w g []
gathers-nothing w g = gathers-added w g g [] (sym (append-nil g))

-- ---- one text after the other

grows-then : (a b c : Option (List ℕ)) (g h k xs ys : List ℕ) → GrowsSink a g b h xs → GrowsSink b h c k ys
    → GrowsSink a g c k (xs ++ ys)
grows-then a b c g h k xs ys (start, is, p) (more, next, q) = (
  start ++ more,
  sym (append_assoc g xs ys) ∙ ap (λ (l : List ℕ). l ++ ys) is ∙ append_assoc start h ys
      ∙ ap (λ (l : List ℕ). start ++ l) next ∙ sym (append_assoc start more k),
  Appends-trans a b c start more p q,
)

pub gathers-then : {a b c : SinkState} {g h k xs ys : List ℕ}
    → GathersText a g b h xs → GathersText b h c k ys → GathersText a g c k (xs ++ ys)
gathers-then {a} {b} {c} {g} {h} {k} {xs} {ys} p q = record {
  grows = grows-then a.written b.written c.written g h k xs ys p.grows q.grows;
  later = omega (arith, p.later, q.later);
  steady = λ n le take.
      let size : length (xs ++ ys) ≡ length xs + length ys = length-append xs ys in
      let first = p.steady n (omega (arith, size, le)) take in
      let second = q.steady first.1 (omega (arith, size, le, first.3)) first.2 in
      (second.0 ∙ first.0, second.1, second.2, omega (arith, size, first.3, second.3));
}

start-then : (a b c : Option (List ℕ)) (g h xs ys : List ℕ) → GrowsSink a g b h xs → AppendsPrefix b c (h ++ ys)
    → AppendsPrefix a c (g ++ (xs ++ ys))
start-then a b c g h xs ys (start, is, p) (more, rest, next, q) = (
  start ++ more,
  rest,
  sym (append_assoc g xs ys) ∙ ap (λ (l : List ℕ). l ++ ys) is ∙ append_assoc start h ys
      ∙ ap (λ (l : List ℕ). start ++ l) next ∙ sym (append_assoc start more rest),
  Appends-trans a b c start more p q,
)

cause-then : (f i j : ℕ) (e : Stop) → f ≤ i → WriteCause i j e → WriteCause f j e
cause-then f i j Read le cause = cause
cause-then f i j Write le cause = omega (arith, cause)
cause-then f i j Memory le cause = tt

pub stops-then : {a b c : SinkState} {g h xs ys : List ℕ} {e : Stop}
    → GathersText a g b h xs → Stops b h c ys e → Stops a g c (xs ++ ys) e
stops-then {a} {b} {c} {g} {h} {xs} {ys} {e} p q = record {
  start = start-then a.written b.written c.written g h xs ys p.grows q.start;
  cause = cause-then a.faults b.faults c.faults e p.later q.cause;
  later = omega (arith, p.later, q.later);
  steady = λ n le take.
      let size : length (xs ++ ys) ≡ length xs + length ys = length-append xs ys in
      let first = p.steady n (omega (arith, size, le)) take in
      q.steady first.1 (omega (arith, size, le, first.3)) first.2 ∙ first.0;
}

start-more : (a b : Option (List ℕ)) (g xs ys : List ℕ) → AppendsPrefix a b (g ++ xs) → AppendsPrefix a b (g ++ (xs ++ ys))
start-more a b g xs ys (start, rest, is, p) = (
  start,
  rest ++ ys,
  sym (append_assoc g xs ys) ∙ ap (λ (l : List ℕ). l ++ ys) is ∙ append_assoc start rest ys,
  p,
)

pub stops-more : {a b : SinkState} {g xs : List ℕ} {e : Stop} (ys : List ℕ)
    → Stops a g b xs e → Stops a g b (xs ++ ys) e
stops-more {a} {b} {g} {xs} {e} ys p = record {
  start = start-more a.written b.written g xs ys p.start;
  cause = p.cause;
  later = p.later;
  steady = λ n le take. p.steady n (omega (arith, length-append xs ys, le)) take;
}

-- out of memory while the next text was made
pub stops-memory : {a b : SinkState} {g h xs : List ℕ} (ys : List ℕ)
    → GathersText a g b h xs → Stops a g b (xs ++ ys) Memory
stops-memory {a} {b} {g} {h} {xs} ys p = record {
  start = start-more a.written b.written g xs ys (p.grows.0, h, p.grows.1, p.grows.2);
  cause = tt;
  later = p.later;
  steady = λ n le take. (p.steady n (omega (arith, length-append xs ys, le)) take).0;
}

-- ---- the same text, spelled otherwise

pub gathers-as : {a b : SinkState} {g h xs ys : List ℕ}
    → GathersText a g b h xs → xs ≡ ys → GathersText a g b h ys
gathers-as {a} {b} {g} {h} p e = subst (GathersText a g b h) e p

pub stops-as : {a b : SinkState} {g xs ys : List ℕ} {e : Stop}
    → Stops a g b xs e → xs ≡ ys → Stops a g b ys e
stops-as {a} {b} {g} {xs} {ys} {e} p is =
    subst (λ (text : List ℕ). Stops a g b text e) is p

-- ---- at an error

pub puts-stop : {X : Type 0} {a b : SinkState} {g xs : List ℕ} {e : Stop} (h : List ℕ) (r : Result X Stop)
    → IsErrAnd r (λ d. d ≡ e) → Stops a g b xs e → PutsInto a g b h xs r
puts-stop h (Ok x) none p = absurd none
puts-stop {X} {a} {b} {g} {xs} {e} h (Err d) is p = subst (Stops a g b xs) (sym is) p

-- a prefix of a text was gathered, and then it was given up
pub stops-inside : {a b c : SinkState} {g h : List ℕ} {e : Stop} (at : ℕ) (text : List ℕ)
    → GathersText a g b h (take at text) → Stops b h c [] e → Stops a g c text e
stops-inside at text p q =
    stops-as (stops-more (drop at text) (stops-then p q))
    (ap (λ (l : List ℕ). l ++ drop at text) (append-nil (take at text)) ∙ take-append-drop at text)

pub memory-inside : {a b : SinkState} {g h : List ℕ} (at : ℕ) (text : List ℕ)
    → GathersText a g b h (take at text) → Stops a g b text Memory
memory-inside at text p = stops-as (stops-memory (drop at text) p) (take-append-drop at text)

-- ---- out of memory before anything was written

pub stops-memory-now : (w : SinkState) (g text : List ℕ) → Stops w g w text Memory
stops-memory-now w g text = stops-memory text (gathers-nothing w g)

-- ---- lists whose items are put one after the other

-- an item that was not put whole
pub stops-item : {X : Type 0} {a b c : SinkState} {g h : List ℕ} {e : Stop} (text : X → List ℕ) (xs : List X) (k : ℕ) (d : X)
    → k < length xs → GathersText a g b h (flat_map text (take k xs)) → Stops b h c (text (get_or xs k d)) e
    → Stops a g c (flat_map text xs) e
stops-item text xs k d l p q =
    stops-as (stops-more (flat_map text (drop (k + 1) xs)) (stops-then p q)) (sym (split text xs k d l))
  where
    split : {X : Type 0} (text : X → List ℕ) (xs : List X) (k : ℕ) (d : X) → k < length xs
        → flat_map text xs ≡ (flat_map text (take k xs) ++ text (get_or xs k d)) ++ flat_map text (drop (k + 1) xs)
    split text xs k d l =
        let rest : drop k xs ≡ get_or xs k d ∷ drop (k + 1) xs = rw add-one (drop-cons xs k d l) in
        ap (flat_map text) (sym (take-append-drop k xs)) ∙ flat_map-append text (take k xs) (drop k xs)
        ∙ ap (λ (l : List _). flat_map text (take k xs) ++ flat_map text l) rest
        ∙ sym (append_assoc (flat_map text (take k xs)) (text (get_or xs k d)) (flat_map text (drop (k + 1) xs)))

-- one more item
pub gathers-item : {X : Type 0} {a b c : SinkState} {g h m : List ℕ} (text : X → List ℕ) (xs : List X) (k : ℕ) (d : X)
    → k < length xs → GathersText a g b h (flat_map text (take k xs)) → GathersText b h c m (text (get_or xs k d))
    → GathersText a g c m (flat_map text (take (k + 1) xs))
gathers-item text xs k d l p q =
    gathers-as (gathers-then p q)
    (ap (λ (l : List ℕ). flat_map text (take k xs) ++ l) (sym (append-nil (text (get_or xs k d))))
    ∙ sym (flat_map-append text (take k xs) (get_or xs k d ∷ [])) ∙ ap (flat_map text) (sym (take_more xs k d l)))

-- ---- items that an iterator gives

pub next_whole : {X : Type 0} (text : X → List ℕ) (all old left : List X) (x : X) (out : List ℕ)
    → out ++ flat_map text old ≡ flat_map text all → old ≡ x ∷ left
    → (out ++ text x) ++ flat_map text left ≡ flat_map text all
next_whole text all old left x out is e =
    append_assoc out (text x) (flat_map text left) ∙ ap (λ (items : List _). out ++ flat_map text items) (sym e) ∙ is

-- ---- a whole text

-- where nothing was kept before and nothing is kept after, the text was written
pub wrote : {a b : SinkState} {h text : List ℕ}
    → GathersText a [] b h text → h ≡ [] → Wrote a b text
wrote {a} {b} {h} {text} p none = record {
  appends = subst (Appends a.written b.written) (sym (p.grows.1 ∙ ap (λ (l : List ℕ). p.grows.0 ++ l) none ∙ append-nil p.grows.0)) p.grows.2;
  steady = λ n le take. (p.steady n (omega (arith, le)) take).0;
}

pub delivers-stop : {X : Type 0} {a b : SinkState} {text : List ℕ} {e : Stop} (r : Result X Stop)
    → IsErrAnd r (λ d. d ≡ e) → Stops a [] b text e → Delivers a b text r
delivers-stop (Ok x) none p = absurd none
delivers-stop {X} {a} {b} {text} {e} (Err d) is p = subst (Stops a [] b text) (sym is) p

-- where nothing was kept before
pub gathers-from : {a b : SinkState} {g h xs : List ℕ} → g ≡ []
    → GathersText a g b h xs → GathersText a [] b h xs
gathers-from {a} {b} {g} {h} {xs} e p =
    subst (λ (l : List ℕ). GathersText a l b h xs) e p

pub stops-from : {a b : SinkState} {g xs : List ℕ} {e : Stop} → g ≡ []
    → Stops a g b xs e → Stops a [] b xs e
stops-from {a} {b} {g} {xs} {e} is p = subst (λ (l : List ℕ). Stops a l b xs e) is p
