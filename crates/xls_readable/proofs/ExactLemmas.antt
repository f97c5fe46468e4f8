-- Texts that are a function of their items.
use Rattle.std.proofs.Common.{◌≡◌, ℕ, List, [], ◌∷◌, ◌++◌, take, drop, take-append-drop, sym, ap, subst, ◌∙◌}
use Rattle.std.specs.List.{flat_map}
use Rattle.std.proofs.lemmas.Grind.{flat_map-append}
use Rattle.xls_output.specs.Each.{Concatenates}
use Rattle.xls_output.specs.SinkState.{SinkState}
use Rattle.xls_output.specs.Gathering.{Stops, Wrote}
use Rattle.xls_output.specs.declared.stop.Stop.{Stop}
use Rattle.xls_output.proofs.GatherLemmas.{stops-as, stops-more}
use Rattle.xls_output.specs.Each.{StopsEach, WroteEach}

module _ {A : Type 0} (P : A → List ℕ → Type 0) (text : A → List ℕ) (is : (x : A) (out : List ℕ) → P x out → out ≡ text x) where
  -- the texts of all items, one after another
  pub exact-all : (xs : List A) (out : List ℕ) → Concatenates P xs out → out ≡ flat_map text xs
  exact-all [] out none = none
  exact-all (x ∷ xs) out (first, others, p, rest, e) =
      e ∙ ap (λ (l : List ℕ). l ++ others) (is x first p) ∙ ap (λ (l : List ℕ). text x ++ l) (exact-all xs others rest)

  -- they were written
  pub exact-wrote : (xs : List A) (a b : SinkState) → WroteEach P xs a b → Wrote a b (flat_map text xs)
  exact-wrote xs a b p = subst (λ (l : List ℕ). Wrote a b l) (exact-all xs p.text p.texts) p.wrote

  -- or a prefix of them
  pub exact-stops : (xs : List A) (a b : SinkState) (e : Stop) → StopsEach P xs a b e → Stops a [] b (flat_map text xs) e
  exact-stops xs a b e p =
      let all : flat_map text (take p.count xs) ++ flat_map text (drop p.count xs) ≡ flat_map text xs =
      sym (flat_map-append text (take p.count xs) (drop p.count xs)) ∙ ap (flat_map text) (take-append-drop p.count xs) in
      stops-as (stops-more (flat_map text (drop p.count xs)) (stops-as p.stops (exact-all (take p.count xs) p.text p.texts))) all
