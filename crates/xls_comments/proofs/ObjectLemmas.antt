-- The texts of objects, record by record.
use Rattle.std.proofs.Common.{◌≡◌, ◌≢◌, ℕ, List, [], refl, sym, ap, ◌∙◌, subst, true, false, Option, Some, None, inl, inr, ◌⊎◌}
use Rattle.std.specs.Prelude.{◌==◌}
use Rattle.std.proofs.lemmas.Bool.Decides.{eqb_tells}
use Rattle.xls_parts.specs.PartRecords.{Placed}
use Rattle.xls_comments.specs.Objects.{Found, object_from, object_in}
use Rattle.xls_comments.specs.Walking.{found_at, found_before, AreKnown}

-- behind the last record
pub all_known : (at : ℕ → Found) (all left : List Placed) (last : Option ℕ) (kept : ℕ → Option (Option ℕ)) → left ≡ [] → AreKnown at all left last kept
    → (id : ℕ) → found_at at (kept id) ≡ object_in all id
all_known at all left last kept e known id = by_last last refl
  where
    over : object_from (found_before at last kept [] id) id [] ≡ object_in all id
    over = subst (λ (rs : List Placed). object_from (found_before at last kept rs id) id rs ≡ object_in all id) e (known.each id)

    by_test : (other : ℕ) → last ≡ Some other → ((other == id) ≡ true) × (other ≡ id) ⊎ ((other == id) ≡ false) × (other ≢ id) → found_at at (kept id) ≡ object_in all id
    by_test other is (inl same) =
        ap (found_at at) (known.begun id (is ∙ ap Some same.1))
        ∙ sym (rw (is, same.0) refl)
        ∙ over
    by_test other is (inr apart) = sym (rw (is, apart.0) refl) ∙ over

    by_last : (l : Option ℕ) → last ≡ l → found_at at (kept id) ≡ object_in all id
    by_last None is = sym (ap (λ (l : Option ℕ). found_before at l kept [] id) is) ∙ over
    by_last (Some other) is = by_test other is (eqb_tells other id)
