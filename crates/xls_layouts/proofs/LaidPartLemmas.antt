-- A laid sheet part is a sheet part, and its kept records are its own.
use Rattle.std.proofs.Common.{◌≡◌, List, [], ◌∷◌, ◌++◌, None, refl, sym, subst, append_assoc}
use Rattle.std.specs.List.{flat_map, AllByRecursion}
use Rattle.xls_stream.specs.Stream.{Group, StartsContinue, Run}
use Rattle.xls_stream.specs.Substreams.{IsPlain, groups_of, outer_of, own_closed, kept_groups, SheetPart}
use Rattle.xls_stream.specs.Listing.{IsPart}
use Rattle.xls_layouts.specs.Layout.{eof_group, LaidPart, open_part, bytes_of_part, kept_of_part, IsLooseGroup, IsLaidPart}
use Rattle.xls_layouts.proofs.LaidGroupLemmas.{run_laid, laid_starts, nothing_starts}

pub parts_start : (ps : List LaidPart) → AllByRecursion IsLaidPart ps → ¬ StartsContinue (flat_map bytes_of_part ps)
parts_start [] h = nothing_starts
parts_start (p ∷ ps) h = let f = h.0 in laid_starts (open_part p) (flat_map bytes_of_part ps) f.groups

-- loose groups are plain, and none of them is kept
loose_plain : (gs : List Group) → AllByRecursion IsLooseGroup gs → AllByRecursion IsPlain gs
loose_plain [] h = tt
loose_plain (g ∷ gs) h = (h.0.0, loose_plain gs h.1)

none_kept : (gs others : List Group) → AllByRecursion IsLooseGroup gs → kept_groups (gs ++ others) ≡ kept_groups others
none_kept [] others h = refl
none_kept (g ∷ gs) others h = rw h.0.1 (none_kept gs others h.1)

pub laid_part : (p : LaidPart) (ps : List LaidPart) → IsLaidPart p → AllByRecursion IsLaidPart ps → IsPart (bytes_of_part p ++ flat_map bytes_of_part ps) (kept_of_part p) None
laid_part p ps h hs =
    let part : SheetPart (bytes_of_part p ++ flat_map bytes_of_part ps) (kept_groups (outer_of p.items)) None = record {
      outline = own_closed p.prefix p.bof p.items eof_group;
      is_outline = (loose_plain p.prefix h.prefix, h.is_bof, h.items, refl);
      rest = flat_map bytes_of_part ps;
      run = subst (λ (x : List Group). Run (bytes_of_part p ++ flat_map bytes_of_part ps) x (flat_map bytes_of_part ps)) (append_assoc p.prefix (p.bof ∷ groups_of p.items) (eof_group ∷ [])) (run_laid (open_part p) (flat_map bytes_of_part ps) h.groups (parts_start ps hs));
      kept_is = sym (none_kept p.prefix (outer_of p.items) h.prefix);
      ends = refl;
    } in
    (kept_groups (outer_of p.items), part, refl)
