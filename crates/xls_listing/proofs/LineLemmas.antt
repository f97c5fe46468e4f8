-- Lines that are put one after another.
use Rattle.std.proofs.Common.{◌≡◌, ℕ, List, [], ◌++◌, append_assoc, append-nil, refl, sym, ap, subst, ◌∙◌, Result, Ok, Err}
use Rattle.xls_output.specs.SinkState.{SinkState}
use Rattle.xls_output.specs.Output.{Output, Puts}
use Rattle.xls_output.specs.declared.stop.Stop.{Stop}
use Rattle.xls_output.specs.declared.stop.Stop.TheVariants.{Memory}
use Rattle.xls_output.specs.Each.{GathersEach, GivesUpEach, PutsEach}
use Rattle.xls_output.proofs.EachLemmas.{each-as, each-memory, each-none, each-stops-as, each-stops-more, each-stops-then, each-then}

-- nothing was appended
pub puts-pass : {A X : Type 0} (P : A → List ℕ → Type 0) (w : SinkState) (n : ℕ) (g h : List ℕ) (b : Output) (r : Result X Stop)
    → h ≡ g → Puts (record { sink = w; kept = h; lender = n }) b [] r
    → PutsEach P [] (record { sink = w; kept = g; lender = n }) b r
puts-pass P w n g h b (Ok _) same p =
    subst (λ (l : List ℕ). GathersEach P [] (record { sink = w; kept = l; lender = n }) b) same
    (record { text = []; texts = refl; gathers = p })
puts-pass P w n g h b (Err e) same p =
    subst (λ (l : List ℕ). GivesUpEach P [] (record { sink = w; kept = l; lender = n }) b e) same
    (record { count = 0; text = []; texts = refl; stops = p })

-- ---- items one after another in a loop

-- some items are put, and with those that are left they are all
pub record PutsSome {A : Type 0} (P : A → List ℕ → Type 0) (all left : List A) (a b : Output) : Type 0 where
  pub out : List A
  pub whole : out ++ left ≡ all
  pub gathers : GathersEach P out a b

pub some-first : {A : Type 0} (P : A → List ℕ → Type 0) (all left : List A) (a : Output) → left ≡ all
    → PutsSome P all left a a
some-first P all left a e = record { out = []; whole = e; gathers = each-none P a }

step_whole : {A : Type 0} (all old left here out : List A) → out ++ old ≡ all → old ≡ here ++ left → (out ++ here) ++ left ≡ all
step_whole all old left here out is e =
    append_assoc out here left ∙ ap (λ (l : List _). out ++ l) (sym e) ∙ is

pub some-next : {A : Type 0} {P : A → List ℕ → Type 0} {all old left : List A} {here : List A} {a b c : Output}
    → PutsSome P all old a b → old ≡ here ++ left → GathersEach P here b c → PutsSome P all left a c
some-next {A} {P} {all} {old} {left} {here} p e q = record {
  out = p.out ++ here;
  whole = step_whole all old left here p.out p.whole e;
  gathers = each-then p.gathers q;
}

pub some-stopped : {A : Type 0} {P : A → List ℕ → Type 0} {all old : List A} (left : List A) {here : List A} {a b c : Output} {e : Stop}
    → PutsSome P all old a b → old ≡ here ++ left → GivesUpEach P here b c e → GivesUpEach P all a c e
some-stopped {A} {P} {all} {old} left {here} p e q =
    each-stops-as (each-stops-more left (each-stops-then p.gathers q)) (step_whole all old left here p.out p.whole e)

-- out of memory while the next ones were made
pub some-memory : {A : Type 0} {P : A → List ℕ → Type 0} {all left : List A} {a b : Output}
    → PutsSome P all left a b → GivesUpEach P all a b Memory
some-memory {A} {P} {all} {left} p = each-stops-as (each-stops-then p.gathers (each-memory P left)) p.whole

pub some-all : {A : Type 0} {P : A → List ℕ → Type 0} {all left : List A} {a b : Output}
    → PutsSome P all left a b → left ≡ [] → GathersEach P all a b
some-all p e =
    each-as p.gathers (sym (append-nil p.out) ∙ ap (λ (l : List _). p.out ++ l) (sym e) ∙ p.whole)
