-- What holds of the content of each sheet holds of the one that a name finds.
use Rattle.std.proofs.Common.{◌≡◌, ℕ, List, [], ◌∷◌, subst, sym, Bool, true, false, Option, Some, None}
use Rattle.std.specs.Prelude.{◌==◌, if◌then◌else◌, IfSome}
use Rattle.std.specs.Option.{option_copied, option_or}
use Rattle.std.specs.Borrow.{Bor}
use Rattle.std.specs.List.{AllByRecursion}
use Rattle.std.specs.Cmp.Lexicographic.{pointwise}
use Rattle.xls_data.specs.Sheets.{SheetContent}
use Rattle.xls_meaning.specs.Reading.{last_named, paired}

module _ {X : Type 0} (P : X → Type 0) where
  last_holds : (o : Option X) (x v : X) (b : Bool) → ((w : X) → o ≡ Some w → P w) → P x
      → option_or o (if b then Some x else None) ≡ Some v → P v
  last_holds (Some w) x v b later here e = later v e
  last_holds None x v true later here e = let is : x ≡ v = cc in subst P is here
  last_holds None x v false later here e = absurd cc

  named_holds : (sheets : List SheetContent) (xs : List X) (name : List ℕ) (v : X) → AllByRecursion P xs
      → last_named (paired sheets xs) name ≡ Some v → P v
  named_holds [] xs name v all e = absurd cc
  named_holds (s ∷ sheets) [] name v all e = absurd cc
  named_holds (s ∷ sheets) (x ∷ xs) name v all e =
      last_holds (last_named (paired sheets xs) name) x v (pointwise ◌==◌ s.name name) (λ w f. named_holds sheets xs name w all.1 f) all.0 e

  pub found_holds : (sheets : List SheetContent) (xs : List X) (name : List ℕ) (r : Option (Bor X)) → AllByRecursion P xs
      → option_copied r ≡ last_named (paired sheets xs) name → IfSome r (λ x. P x.now)
  found_holds sheets xs name None all e = tt
  found_holds sheets xs name (Some x) all e = named_holds sheets xs name x.now all (sym e)
