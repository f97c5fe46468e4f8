-- Texts that are put into a writer, one after the other.
use Rattle.std.proofs.Common.{◌≡◌, ℕ, ◌+◌, ◌<◌, List, [], ◌∷◌, ◌++◌, length, get_or, take, Result, Ok, Err, refl, sym, ◌∙◌, ap, subst, append-nil}
use Rattle.std.specs.List.{flat_map}
use Rattle.std.specs.Result.{IsErrAnd}
use Rattle.xls_output.specs.SinkState.{SinkState}
use Rattle.xls_output.specs.Gathering.{PutsInto, Wrote, Delivers}
use Rattle.xls_output.specs.Output.{Output, Buffers, GivesUp, Puts}
use Rattle.xls_output.specs.declared.stop.Stop.{Stop}
use Rattle.xls_output.specs.declared.stop.Stop.TheVariants.{Memory}
use Rattle.xls_output.proofs.GatherLemmas as text

-- ---- nothing, and a text that is only gathered

pub gathers-added : {w : SinkState} {n : ℕ} (g h xs : List ℕ) → h ≡ g ++ xs
    → Buffers (record { sink = w; kept = g; lender = n }) (record { sink = w; kept = h; lender = n }) xs
gathers-added {w} g h xs e = record { gathers = text.gathers-added w g h xs e; same = refl }

pub gathers-nothing : (a : Output) → Buffers a a []
gathers-nothing a = record { gathers = text.gathers-nothing a.sink a.kept; same = refl }

-- ---- one text after the other

pub gathers-then : {a b c : Output} {xs ys : List ℕ} → Buffers a b xs → Buffers b c ys → Buffers a c (xs ++ ys)
gathers-then p q = record { gathers = text.gathers-then p.gathers q.gathers; same = q.same ∙ p.same }

pub stops-then : {a b c : Output} {xs ys : List ℕ} {e : Stop} → Buffers a b xs → GivesUp b c ys e → GivesUp a c (xs ++ ys) e
stops-then p q = record { stops = text.stops-then p.gathers q.stops; same = q.same ∙ p.same }

pub stops-more : {a b : Output} {xs : List ℕ} {e : Stop} (ys : List ℕ) → GivesUp a b xs e → GivesUp a b (xs ++ ys) e
stops-more ys p = record { stops = text.stops-more ys p.stops; same = p.same }

-- out of memory while the next text was made
pub stops-memory : {a : Output} {w : SinkState} {n : ℕ} {g h xs : List ℕ} (ys : List ℕ)
    → Buffers a (record { sink = w; kept = g; lender = n }) xs → GivesUp a (record { sink = w; kept = h; lender = n }) (xs ++ ys) Memory
stops-memory ys p = record { stops = text.stops-memory ys p.gathers; same = p.same }

-- ---- the same text, spelled otherwise

pub gathers-as : {a b : Output} {xs ys : List ℕ} → Buffers a b xs → xs ≡ ys → Buffers a b ys
gathers-as {a} {b} p e = subst (Buffers a b) e p

pub stops-as : {a b : Output} {xs ys : List ℕ} {e : Stop} → GivesUp a b xs e → xs ≡ ys → GivesUp a b ys e
stops-as {a} {b} {xs} {ys} {e} p is = subst (λ (l : List ℕ). GivesUp a b l e) is p

pub puts-as : {X : Type 0} (a b : Output) {xs ys : List ℕ} (r : Result X Stop) → xs ≡ ys → Puts a b xs r → Puts a b ys r
puts-as a b r e p = subst (λ (l : List ℕ). Puts a b l r) e p

-- ---- at an error

pub puts-stop : {X : Type 0} {a b : Output} {xs : List ℕ} {e : Stop} (r : Result X Stop)
    → IsErrAnd r (λ d. d ≡ e) → GivesUp a b xs e → Puts a b xs r
puts-stop (Ok x) none p = absurd none
puts-stop {X} {a} {b} {xs} {e} (Err d) is p = subst (GivesUp a b xs) (sym is) p

pub stops-memory-now : {w : SinkState} {n : ℕ} {g h : List ℕ} (xs : List ℕ)
    → GivesUp (record { sink = w; kept = g; lender = n }) (record { sink = w; kept = h; lender = n }) xs Memory
stops-memory-now {w} {n} {g} {h} xs = record { stops = text.stops-memory-now w g xs; same = refl }

-- out of memory before anything was put
pub puts-memory : {X : Type 0} (w : SinkState) (n : ℕ) (g h xs : List ℕ) (r : Result X Stop)
    → IsErrAnd r (λ d. d ≡ Memory)
    → Puts (record { sink = w; kept = g; lender = n }) (record { sink = w; kept = h; lender = n }) xs r
puts-memory w n g h xs r is = puts-stop r is (stops-memory-now xs)

-- what was put through the two references of a writer
pub puts-of : {X : Type 0} (n : ℕ) (a b : SinkState) (g h xs : List ℕ) (r : Result X Stop) → PutsInto a g b h xs r
    → Puts (record { sink = a; kept = g; lender = n }) (record { sink = b; kept = h; lender = n }) xs r
puts-of n a b g h xs (Ok x) p = record { gathers = p; same = refl }
puts-of n a b g h xs (Err e) p = record { stops = p; same = refl }

-- ---- then no further text

pub gathers-after : {a b c : Output} {xs : List ℕ} → Buffers a b xs → Buffers b c [] → Buffers a c xs
gathers-after p q = gathers-as (gathers-then p q) (append-nil _)

pub stops-after : {a b c : Output} {xs : List ℕ} {e : Stop} → Buffers a b xs → GivesUp b c [] e → GivesUp a c xs e
stops-after p q = stops-as (stops-then p q) (append-nil _)

-- ---- lists whose items are put one after the other

-- an item that was not put whole
pub stops-item : {X : Type 0} {a b c : Output} {e : Stop} (line : X → List ℕ) (xs : List X) (k : ℕ) (d : X)
    → k < length xs → Buffers a b (flat_map line (take k xs)) → GivesUp b c (line (get_or xs k d)) e
    → GivesUp a c (flat_map line xs) e
stops-item line xs k d l p q = record { stops = text.stops-item line xs k d l p.gathers q.stops; same = q.same ∙ p.same }

-- one more item
pub gathers-item : {X : Type 0} {a b c : Output} (line : X → List ℕ) (xs : List X) (k : ℕ) (d : X)
    → k < length xs → Buffers a b (flat_map line (take k xs)) → Buffers b c (line (get_or xs k d))
    → Buffers a c (flat_map line (take (k + 1) xs))
gathers-item line xs k d l p q =
    record { gathers = text.gathers-item line xs k d l p.gathers q.gathers; same = q.same ∙ p.same }

-- ---- items that an iterator gives

-- the texts of some items are put, and with those of the items left they are the whole
pub record PutsSome {X : Type 0} (line : X → List ℕ) (all left : List X) (a b : Output) : Type 0 where
  pub out : List ℕ
  pub whole : out ++ flat_map line left ≡ flat_map line all
  pub gathers : Buffers a b out

pub some-first : {X : Type 0} (line : X → List ℕ) (all left : List X) (a : Output) → left ≡ all → PutsSome line all left a a
some-first line all left a e = record { out = []; whole = ap (flat_map line) e; gathers = gathers-nothing a }

pub some-next : {X : Type 0} (line : X → List ℕ) {all old left : List X} {x : X} {a b c : Output}
    → PutsSome line all old a b → old ≡ x ∷ left → Buffers b c (line x) → PutsSome line all left a c
some-next line {all} {old} {left} {x} p e q = record {
  out = p.out ++ line x;
  whole = text.next_whole line all old left x p.out p.whole e;
  gathers = gathers-then p.gathers q;
}

pub some-stopped : {X : Type 0} (line : X → List ℕ) {all old left : List X} {x : X} {a b c : Output} {e : Stop}
    → PutsSome line all old a b → old ≡ x ∷ left → GivesUp b c (line x) e → GivesUp a c (flat_map line all) e
some-stopped line {all} {old} {left} {x} p is q =
    stops-as (stops-more (flat_map line left) (stops-then p.gathers q)) (text.next_whole line all old left x p.out p.whole is)

-- all of them are put
pub some-all : {X : Type 0} (line : X → List ℕ) {all left : List X} {a b : Output}
    → PutsSome line all left a b → left ≡ [] → Buffers a b (flat_map line all)
some-all line p e =
    gathers-as p.gathers (sym (append-nil p.out) ∙ ap (λ (items : List _). p.out ++ flat_map line items) (sym e) ∙ p.whole)

-- ---- a whole text

-- where nothing was kept before and nothing is kept after, the text was written
pub wrote : {a b : Output} {xs : List ℕ} → a.kept ≡ [] → Buffers a b xs → b.kept ≡ [] → Wrote a.sink b.sink xs
wrote none p none' = text.wrote (text.gathers-from none p.gathers) none'

pub delivers-stop : {X : Type 0} {a b : Output} {xs : List ℕ} {e : Stop} (r : Result X Stop)
    → IsErrAnd r (λ d. d ≡ e) → a.kept ≡ [] → GivesUp a b xs e → Delivers a.sink b.sink xs r
delivers-stop r is none p = text.delivers-stop r is (text.stops-from none p.stops)

-- ---- at the end of a writer, when its sink goes back to the lender

pub wrote-back : {K : Type 0} (state : K → SinkState) {x x' y y' : K} {xs : List ℕ}
    → x' ≡ x → y' ≡ y → Wrote (state x') (state y') xs → Wrote (state x) (state y) xs
wrote-back state {x} {x'} {y} {y'} {xs} e e' p =
    subst (λ (k : _). Wrote (state k) (state y) xs) e (subst (λ (k : _). Wrote (state x') (state k) xs) e' p)

pub delivers-back : {X K : Type 0} (state : K → SinkState) {x x' y y' : K} (xs : List ℕ) (r : Result X Stop)
    → x' ≡ x → y' ≡ y → Delivers (state x') (state y') xs r → Delivers (state x) (state y) xs r
delivers-back state {x} {x'} {y} {y'} xs r e e' p =
    subst (λ (k : _). Delivers (state k) (state y) xs r) e (subst (λ (k : _). Delivers (state x') (state k) xs r) e' p)
