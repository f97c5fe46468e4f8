-- Texts, each of an item, that are put into a writer one after another.
use Rattle.std.proofs.Common.{◌≡◌, ℕ, zero, suc, ◌+◌, ◌<◌, List, [], ◌∷◌, ◌++◌, length, get_or, take, drop, drop-cons, take-append-drop, Result, Ok, Err, sym, ◌∙◌, ap, subst, add-one, append_assoc, append-nil, refl}
use Rattle.std.specs.Prelude.{OnOk}
use Rattle.std.specs.List.{flat_map}
use Rattle.std.proofs.lemmas.List.{take_more}
use Rattle.std.proofs.lemmas.Grind.{flat_map-append}
use Rattle.std.specs.Result.{IsErrAnd}
use Rattle.std.specs.String.{string_bytes}
use Rattle.xls_output.specs.Added.{AddsText}
use Rattle.xls_output.specs.SinkState.{SinkState}
use Rattle.xls_output.specs.Output.{Output, Buffers, GivesUp, Puts}
use Rattle.xls_output.specs.declared.stop.Stop.{Stop}
use Rattle.xls_output.specs.declared.stop.Stop.TheVariants.{Memory}
use Rattle.xls_output.proofs.GatherLemmas.{stops-from}
use Rattle.xls_output.proofs.OutputLemmas.{gathers-added, gathers-after, gathers-nothing, gathers-then, stops-after, stops-memory-now, stops-then, wrote}
use Rattle.xls_output.specs.Each.{Concatenates, GathersEach, GivesUpEach, PutsEach, StopsEach, WroteEach, DeliversEach}
use Rattle.xls_output.specs.declared.text.OutputText.{OutputText}

-- ---- texts one after another

joined : {A : Type 0} (P : A → List ℕ → Type 0) (xs ys : List A) (t u : List ℕ)
    → Concatenates P xs t → Concatenates P ys u → Concatenates P (xs ++ ys) (t ++ u)
joined P [] ys t u none q = subst (λ (l : List ℕ). Concatenates P ys (l ++ u)) (sym none) q
joined P (x ∷ xs) ys t u (first, others, p, rest, is) q = (
  first,
  others ++ u,
  p,
  joined P xs ys others u rest q,
  ap (λ (l : List ℕ). l ++ u) is ∙ append_assoc first others u,
)

-- all of the first items, and some of the others
joined-some : {A : Type 0} (P : A → List ℕ → Type 0) (xs ys : List A) (n : ℕ) (t u : List ℕ)
    → Concatenates P xs t → Concatenates P (take n ys) u
    → (count : ℕ) × Concatenates P (take count (xs ++ ys)) (t ++ u)
joined-some P [] ys n t u none q =
    (n, subst (λ (l : List ℕ). Concatenates P (take n ys) (l ++ u)) (sym none) q)
joined-some P (x ∷ xs) ys n t u (first, others, p, rest, is) q =
    let (count, tail) = joined-some P xs ys n others u rest q in
    (suc count, (first, others ++ u, p, tail, ap (λ (l : List ℕ). l ++ u) is ∙ append_assoc first others u))

-- some of the first items are some of all
taken-of-more : {A : Type 0} (n : ℕ) (xs ys : List A) → (count : ℕ) × (take n xs ≡ take count (xs ++ ys))
taken-of-more zero xs ys = (0, refl)
taken-of-more (suc n) [] ys = (0, refl)
taken-of-more (suc n) (x ∷ xs) ys =
    let (count, is) = taken-of-more n xs ys in
    (suc count, ap (λ (l : List _). x ∷ l) is)

-- ---- no item, and one

pub each-none : {A : Type 0} (P : A → List ℕ → Type 0) (a : Output) → GathersEach P [] a a
each-none P a = record { text = []; texts = refl; gathers = gathers-nothing a }

-- the text of an item was appended, and then what was gathered was passed on
pub each-one : {A : Type 0} (P : A → List ℕ → Type 0) (x : A) {w : SinkState} {n : ℕ} {g h : List ℕ} {b : Output}
    → AddsText (P x) g h → Buffers (record { sink = w; kept = h; lender = n }) b []
    → GathersEach P (x ∷ []) (record { sink = w; kept = g; lender = n }) b
each-one P x {w} {n} {g} {h} {b} (out, p, is) q = record {
  text = out;
  texts = (out, [], p, refl, sym (append-nil out));
  gathers = gathers-after (gathers-added g h out is) q;
}

pub each-one-stopped : {A : Type 0} (P : A → List ℕ → Type 0) (x : A) {w : SinkState} {n : ℕ} {g h : List ℕ} {b : Output} {e : Stop}
    → AddsText (P x) g h → GivesUp (record { sink = w; kept = h; lender = n }) b [] e
    → GivesUpEach P (x ∷ []) (record { sink = w; kept = g; lender = n }) b e
each-one-stopped P x {w} {n} {g} {h} {b} (out, p, is) q = record {
  count = 1;
  text = out;
  texts = (out, [], p, refl, sym (append-nil out));
  stops = stops-after (gathers-added g h out is) q;
}

-- out of memory before the text of an item was appended, whatever is kept then
pub each-memory : {A : Type 0} (P : A → List ℕ → Type 0) (items : List A) {w : SinkState} {n : ℕ} {g h : List ℕ}
    → GivesUpEach P items (record { sink = w; kept = g; lender = n }) (record { sink = w; kept = h; lender = n }) Memory
each-memory P items = record { count = 0; text = []; texts = refl; stops = stops-memory-now [] }

-- ---- some items after others

pub each-then : {A : Type 0} {P : A → List ℕ → Type 0} {xs ys : List A} {a b c : Output}
    → GathersEach P xs a b → GathersEach P ys b c → GathersEach P (xs ++ ys) a c
each-then {A} {P} {xs} {ys} p q = record {
  text = p.text ++ q.text;
  texts = joined P xs ys p.text q.text p.texts q.texts;
  gathers = gathers-then p.gathers q.gathers;
}

pub each-stops-then : {A : Type 0} {P : A → List ℕ → Type 0} {xs ys : List A} {a b c : Output} {e : Stop}
    → GathersEach P xs a b → GivesUpEach P ys b c e → GivesUpEach P (xs ++ ys) a c e
each-stops-then {A} {P} {xs} {ys} p q =
    let some = joined-some P xs ys q.count p.text q.text p.texts q.texts in
    record { count = some.0; text = p.text ++ q.text; texts = some.1; stops = stops-then p.gathers q.stops }

pub each-stops-more : {A : Type 0} {P : A → List ℕ → Type 0} {xs : List A} (ys : List A) {a b : Output} {e : Stop}
    → GivesUpEach P xs a b e → GivesUpEach P (xs ++ ys) a b e
each-stops-more {A} {P} {xs} ys p =
    let some = taken-of-more p.count xs ys in
    record { count = some.0; text = p.text; texts = subst (λ (l : List _). Concatenates P l p.text) some.1 p.texts; stops = p.stops }

-- ---- the same items, spelled otherwise

pub each-as : {A : Type 0} {P : A → List ℕ → Type 0} {xs ys : List A} {a b : Output}
    → GathersEach P xs a b → xs ≡ ys → GathersEach P ys a b
each-as {A} {P} {xs} {ys} {a} {b} p is = subst (λ (l : List _). GathersEach P l a b) is p

pub each-stops-as : {A : Type 0} {P : A → List ℕ → Type 0} {xs ys : List A} {a b : Output} {e : Stop}
    → GivesUpEach P xs a b e → xs ≡ ys → GivesUpEach P ys a b e
each-stops-as {A} {P} {xs} {ys} {a} {b} {e} p is = subst (λ (l : List _). GivesUpEach P l a b e) is p

-- ---- at an error

pub puts-each-stop : {A X : Type 0} {P : A → List ℕ → Type 0} {items : List A} {a b : Output} {e : Stop} (r : Result X Stop)
    → IsErrAnd r (λ d. d ≡ e) → GivesUpEach P items a b e → PutsEach P items a b r
puts-each-stop (Ok x) none p = absurd none
puts-each-stop {A} {X} {P} {items} {a} {b} (Err d) is p = subst (GivesUpEach P items a b) (sym is) p

-- ---- what a call put

-- the text of an item was appended, and then what was gathered was passed on
pub puts-one : {A X : Type 0} (P : A → List ℕ → Type 0) (x : A) (w : SinkState) (n : ℕ) (g h : List ℕ) (b : Output) (r : Result X Stop)
    → AddsText (P x) g h → Puts (record { sink = w; kept = h; lender = n }) b [] r
    → PutsEach P (x ∷ []) (record { sink = w; kept = g; lender = n }) b r
puts-one P x w n g h b (Ok _) added p = each-one P x added p
puts-one P x w n g h b (Err _) added p = each-one-stopped P x added p

-- memory ran out before anything was appended
pub puts-memory : {A X : Type 0} (P : A → List ℕ → Type 0) (items : List A) (w : SinkState) (n : ℕ) (g h : List ℕ) (r : Result X Stop)
    → IsErrAnd r (λ d. d ≡ Memory)
    → PutsEach P items (record { sink = w; kept = g; lender = n }) (record { sink = w; kept = h; lender = n }) r
puts-memory P items w n g h r is = puts-each-stop r is (each-memory P items)

-- some items after others
pub puts-then : {A X : Type 0} (P : A → List ℕ → Type 0) (xs ys : List A) {a b : Output} (c : Output) (r : Result X Stop)
    → GathersEach P xs a b → PutsEach P ys b c r → PutsEach P (xs ++ ys) a c r
puts-then P xs ys c (Ok _) p q = each-then p q
puts-then P xs ys c (Err _) p q = each-stops-then p q

-- the same items, spelled otherwise
pub puts-as : {A X : Type 0} (P : A → List ℕ → Type 0) {xs ys : List A} (a b : Output) (r : Result X Stop)
    → xs ≡ ys → PutsEach P xs a b r → PutsEach P ys a b r
puts-as P a b r e p = subst (λ (l : List _). PutsEach P l a b r) e p

-- ---- the items of the things in a list, by their index

split : {A X : Type 0} (f : X → List A) (xs : List X) (k : ℕ) (d : X) → k < length xs
    → (flat_map f (take k xs) ++ f (get_or xs k d)) ++ flat_map f (drop (k + 1) xs) ≡ flat_map f xs
split f xs k d l =
    let rest : drop k xs ≡ get_or xs k d ∷ drop (k + 1) xs = rw add-one (drop-cons xs k d l) in
    sym (ap (flat_map f) (sym (take-append-drop k xs)) ∙ flat_map-append f (take k xs) (drop k xs)
    ∙ ap (λ (l : List _). flat_map f (take k xs) ++ flat_map f l) rest
    ∙ sym (append_assoc (flat_map f (take k xs)) (f (get_or xs k d)) (flat_map f (drop (k + 1) xs))))

grown : {A X : Type 0} (f : X → List A) (xs : List X) (k : ℕ) (d : X) → k < length xs
    → flat_map f (take k xs) ++ f (get_or xs k d) ≡ flat_map f (take (k + 1) xs)
grown f xs k d l =
    ap (λ (l : List _). flat_map f (take k xs) ++ l) (sym (append-nil (f (get_or xs k d))))
    ∙ sym (flat_map-append f (take k xs) (get_or xs k d ∷ [])) ∙ ap (flat_map f) (sym (take_more xs k d l))

-- the items of one more thing
pub each-item : {A X : Type 0} {P : A → List ℕ → Type 0} {a b c : Output} (f : X → List A) (xs : List X) (k : ℕ) (d : X)
    → k < length xs → GathersEach P (flat_map f (take k xs)) a b → GathersEach P (f (get_or xs k d)) b c
    → GathersEach P (flat_map f (take (k + 1) xs)) a c
each-item f xs k d l p q = each-as (each-then p q) (grown f xs k d l)

-- those of a thing that weren't put whole
pub each-item-stopped : {A X : Type 0} {P : A → List ℕ → Type 0} {a b c : Output} {e : Stop} (f : X → List A) (xs : List X) (k : ℕ) (d : X)
    → k < length xs → GathersEach P (flat_map f (take k xs)) a b → GivesUpEach P (f (get_or xs k d)) b c e
    → GivesUpEach P (flat_map f xs) a c e
each-item-stopped f xs k d l p q =
    each-stops-as (each-stops-more (flat_map f (drop (k + 1) xs)) (each-stops-then p q)) (split f xs k d l)

-- ---- the items of the things that an iterator gives

-- the items of some are put, and with those of what is left they are the whole
pub record EachSome {A X : Type 0} (P : A → List ℕ → Type 0) (f : X → List A) (all left : List X) (a b : Output) : Type 0 where
  pub out : List A
  pub whole : out ++ flat_map f left ≡ flat_map f all
  pub gathers : GathersEach P out a b

pub each-some-first : {A X : Type 0} (P : A → List ℕ → Type 0) (f : X → List A) (all left : List X) (a : Output) → left ≡ all
    → EachSome P f all left a a
each-some-first P f all left a e = record { out = []; whole = ap (flat_map f) e; gathers = each-none P a }

next-whole : {A X : Type 0} (f : X → List A) (all old left : List X) (x : X) (out : List A)
    → out ++ flat_map f old ≡ flat_map f all → old ≡ x ∷ left
    → (out ++ f x) ++ flat_map f left ≡ flat_map f all
next-whole f all old left x out is e =
    append_assoc out (f x) (flat_map f left) ∙ ap (λ (items : List _). out ++ flat_map f items) (sym e) ∙ is

pub each-some-next : {A X : Type 0} {P : A → List ℕ → Type 0} (f : X → List A) {all old left : List X} {x : X} {a b c : Output}
    → EachSome P f all old a b → old ≡ x ∷ left → GathersEach P (f x) b c → EachSome P f all left a c
each-some-next f {all} {old} {left} {x} p e q = record {
  out = p.out ++ f x;
  whole = next-whole f all old left x p.out p.whole e;
  gathers = each-then p.gathers q;
}

pub each-some-stopped : {A X : Type 0} {P : A → List ℕ → Type 0} (f : X → List A) {all old left : List X} {x : X} {a b c : Output} {e : Stop}
    → EachSome P f all old a b → old ≡ x ∷ left → GivesUpEach P (f x) b c e → GivesUpEach P (flat_map f all) a c e
each-some-stopped f {all} {old} {left} {x} p is q =
    each-stops-as (each-stops-more (flat_map f left) (each-stops-then p.gathers q)) (next-whole f all old left x p.out p.whole is)

pub each-some-all : {A X : Type 0} {P : A → List ℕ → Type 0} (f : X → List A) {all left : List X} {a b : Output}
    → EachSome P f all left a b → left ≡ [] → GathersEach P (flat_map f all) a b
each-some-all f p e =
    each-as p.gathers (sym (append-nil p.out) ∙ ap (λ (items : List _). p.out ++ flat_map f items) (sym e) ∙ p.whole)

-- ---- whole texts

-- where nothing was kept before and nothing is kept after, the texts were written
pub each-wrote : {A : Type 0} {P : A → List ℕ → Type 0} {items : List A} {a b c : Output} → a.kept ≡ []
    → GathersEach P items a b → Buffers b c [] → c.kept ≡ [] → WroteEach P items a.sink c.sink
each-wrote none p last end = record { text = p.text; texts = p.texts; wrote = wrote none (gathers-after p.gathers last) end }

-- where nothing was kept before
pub each-from : {A : Type 0} {P : A → List ℕ → Type 0} {items : List A} {a b : Output} {e : Stop} → a.kept ≡ []
    → GivesUpEach P items a b e → StopsEach P items a.sink b.sink e
each-from none p = record { count = p.count; text = p.text; texts = p.texts; stops = stops-from none p.stops.stops }

-- what was kept at the end wasn't written whole
pub each-unwritten : {A : Type 0} {P : A → List ℕ → Type 0} {items : List A} {a b c : Output} {e : Stop} → a.kept ≡ []
    → GathersEach P items a b → GivesUp b c [] e → StopsEach P items a.sink c.sink e
each-unwritten {A} {P} {items} none p q =
    each-from none (each-stops-as (each-stops-then p (record { count = 0; text = []; texts = refl; stops = q })) (append-nil items))

pub delivers-each-stop : {A X : Type 0} {P : A → List ℕ → Type 0} {items : List A} {a b : Output} {e : Stop} (r : Result X Stop)
    → IsErrAnd r (λ d. d ≡ e) → a.kept ≡ [] → GivesUpEach P items a b e → DeliversEach P items a.sink b.sink r
delivers-each-stop (Ok x) none _ p = absurd none
delivers-each-stop {A} {X} {P} {items} {a} {b} (Err d) is none p =
    subst (StopsEach P items a.sink b.sink) (sym is) (each-from none p)

-- the texts of all items are put, and then all that is kept is written
pub delivers-each : {A X : Type 0} {P : A → List ℕ → Type 0} {items : List A} {a b : Output} (c : Output) (r : Result X Stop) → a.kept ≡ []
    → GathersEach P items a b → Puts b c [] r → OnOk r (c.kept ≡ []) → DeliversEach P items a.sink c.sink r
delivers-each c (Ok _) none p last end = each-wrote none p last end
delivers-each c (Err _) none p last end = each-unwritten none p last

-- ---- from the pieces that a writer is made of to the lender of its sink

pub kept-none : {p q : OutputText} → p ≡ q → string_bytes q.text ≡ [] → string_bytes p.text ≡ []
kept-none e none = ap (λ (p : OutputText). string_bytes p.text) e ∙ none

pub delivers-each-back : {A X K : Type 0} (state : K → SinkState) {x x' y y' : K} (P : A → List ℕ → Type 0) (items : List A) (r : Result X Stop)
    → x' ≡ x → y' ≡ y → DeliversEach P items (state x') (state y') r → DeliversEach P items (state x) (state y) r
delivers-each-back state {x} {x'} {y} {y'} P items r e e' p =
    subst (λ (k : _). DeliversEach P items (state k) (state y) r) e
    (subst (λ (k : _). DeliversEach P items (state x') (state k) r) e' p)
