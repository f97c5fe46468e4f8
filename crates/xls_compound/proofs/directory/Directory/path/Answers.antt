use Rattle.std.proofs.Common.{◌≡◌, ◌<◌, ◌∷◌, ◌++◌, [], ℕ, List, length, map, Option, Some, Bor, refl, sym, ◌∙◌, ap, subst, arith}
use Rattle.std.specs.List.{slice_get}
use Rattle.std.proofs.Math.ListN.{get_or}
use Rattle.std.proofs.lemmas.Option.{slice_get_read}
use Rattle.xls_compound.specs.Directory.{Listing}
use Rattle.xls_compound.specs.Items.{Climbs, IsPath}
use Rattle.xls_compound.specs.Held.{AreHeld}
use Rattle.xls_compound.proofs.FindLemmas.{one_more_up, from_above}
use Rattle.xls_compound.proofs.directory.Directory.path.Goals as goal

-- a storage stands before what it holds, and its name joins the names
pub up-preserved : goal.up-preserved
up-preserved c =
    let items = c.args.self.now.items in
    let item = c.index-item.result.now in
    let within : c.in-Some.at < length items = c.up.invariant.within c.in-Some.at c.in-Some.is in
    let there : slice_get items c.in-Some.at ≡ Some item =
    slice_get_read items (length items) c.in-Some.at item refl within (c.index-item.ensures ∙ ap (λ (l : Listing). get_or l.items c.in-Some.at item) c.self.view_is) in
    let held = subst (λ (l : Listing). AreHeld l.items) c.self.view_is c.self.invariant in
    record {
      within = λ at e. let before = held c.in-Some.at item at there (sym c.parent-next.ensures ∙ e) in omega arith;
      climbs = λ names h.
          subst (Climbs items (Some c.args.place))
          (sym (ap (λ (xs : List (Bor (List ℕ))). map (λ (x : Bor (List ℕ)). x.now) xs ++ names) c.in_ok-push.ensures.items ∙ one_more_up c.up.names.items c.name.result names))
          (c.up.invariant.climbs (c.name.result.now ∷ names)
          (c.in-Some.at, item, c.in-Some.is, there, c.name.ensures, subst (λ (o : Option ℕ). Climbs items o names) c.parent-next.ensures h));
    }

-- the root is reached
pub returns : goal.returns
returns c =
    subst (λ (xs : List (Bor (List ℕ))). IsPath c.args.self.now.items c.args.place (map (λ (x : Bor (List ℕ)). x.now) xs)) (sym c.reverse.ensures.items)
    (from_above c.args.self.now.items c.args.place c.up.names.items (c.up.invariant.climbs [] c.in_default.is))
