-- The files that a host was told to make, with one more, and what stands at each path then.
use Rattle.std.proofs.Common.{◌≡◌, ℕ, Bool, true, false, List, [], ◌∷◌, Option, Result, refl, inl, inr, sym, subst}
use Rattle.std.specs.Prelude.{◌⊎◌, IsOk, if◌then◌else◌}
use Rattle.std.specs.List.{AllByRecursion}
use Rattle.std.specs.Str.{bytes_eq}
use Rattle.xls_files.specs.Files.{AreAllowed, Begins, HostFiles, IsOldOrWhole, Placed, Places, text_at}
use Rattle.xls_output.specs.SinkState.{SinkState}

module _ {F : Type 0} (MayBegin : List ℕ → Type 0) (MayPlace : Placed F → Type 0) where
  -- no file is made
  pub same_files : (before after : HostFiles F) → after ≡ before → AreAllowed MayBegin MayPlace before → AreAllowed MayBegin MayPlace after
  same_files before after e h = subst (AreAllowed MayBegin MayPlace) (sym e) h

  -- a file is begun that may be
  pub begun_one : {X E : Type 0} (path : List ℕ) (before after : HostFiles F) (r : Result X E)
      → Begins path before after r → MayBegin path → AreAllowed MayBegin MayPlace before → AreAllowed MayBegin MayPlace after
  begun_one path before after r (inl e) may h = same_files before after e h
  begun_one path before after r (inr (ok, e)) may h =
      subst (AreAllowed MayBegin MayPlace) (sym e) (record { begun = (may, h.begun); placed = h.placed })

  -- a file is given its path that may be
  pub placed_one : {X E : Type 0} (placed : Placed F) (before after : HostFiles F) (r : Result X E)
      → Places placed before after r → (IsOk r → MayPlace placed) → AreAllowed MayBegin MayPlace before → AreAllowed MayBegin MayPlace after
  placed_one placed before after r (inl e) may h = same_files before after e h
  placed_one placed before after r (inr (ok, e)) may h =
      subst (AreAllowed MayBegin MayPlace) (sym e) (record { begun = h.begun; placed = (may ok, h.placed) })

-- after each call a path has what it had before all of them, or a whole text
module _ {F : Type 0} (IsWhole : Placed F → Type 0) (state : F → SinkState) (old : List ℕ → Option (List ℕ)) (path : List ℕ) where
  pub old_or_whole : (placed : List (Placed F)) → AllByRecursion IsWhole placed → IsOldOrWhole IsWhole state old placed path
  old_or_whole [] all = inl refl
  old_or_whole (one ∷ earlier) all = by_test (bytes_eq one.path path) (old_or_whole earlier all.1)
    where
      by_test : (t : Bool) → IsOldOrWhole IsWhole state old earlier path
          → ((if t then (state one.file).written else text_at state old earlier path) ≡ old path)
          ⊎ ((last : Placed F) × IsWhole last
          × ((if t then (state one.file).written else text_at state old earlier path) ≡ (state last.file).written))
      by_test true h = inr (one, all.0, refl)
      by_test false h = h
