-- Arrays that are filled as far as they go.
use Rattle.std.proofs.Common.{◌≡◌, ℕ, ◌+◌, ◌-◌, ◌≤◌, ◌<◌, List, [], ◌∷◌, ◌++◌, take, length, refl, rules, arith, sym, ap, subst, ◌∙◌, zero-add, min, inl, inr}
use Rattle.std.proofs.Math.Nat.{suc-add}
use Rattle.std.proofs.lemmas.Bool.{cases_lt}
use Rattle.std.proofs.lemmas.Grind.{common_steps}
use Rattle.std.proofs.lemmas.List.{length-append, length-take-le, take_all}
use Rattle.xls_arrays.specs.Answers.{Begin}
use Rattle.xls_arrays.specs.Arrays.{Arrays}
use Rattle.xls_arrays.specs.Filled.{FitsBefore, RoomsHold, IsFilled, in_rooms}
use Rattle.xls_arrays.specs.declared.rooms.Rooms.{Rooms}

-- nothing was laid
pub filled-nothing : {X : Type 0} (room : List X) → IsFilled room 0 []
filled-nothing room = record { count = refl; begins = search (rules, common_steps) }

-- all that was laid has room
pub filled-fits : {X : Type 0} (room : List X) (laid : ℕ) (items : List X) → IsFilled room laid items
    → length items ≤ length room → take (length items) room ≡ items
filled-fits room laid items f fits = rw (← f.count) (f.begins ∙ take_all (length room) items fits)

-- the first so many of two lists, where these begin in the second
take-append-add : (xs ys : List ℕ) (n : ℕ) → take (length xs + n) (xs ++ ys) ≡ xs ++ take n ys
take-append-add [] ys n = ap (λ k. take k ys) (zero-add n)
take-append-add (x ∷ xs) ys n = rw (suc-add (length xs) n) (ap (λ zs. x ∷ zs) (take-append-add xs ys n))

module _ (before after items bytes : List ℕ) (place count : ℕ)
    (inside : place < length before) (f : IsFilled before place items)
    (written : take (place + count) after ≡ take place before ++ take count bytes)
    (same : length after ≡ length before) where
  items_before : take place before ≡ items
  items_before = f.begins ∙ take_all (length before) items (omega (arith, f.count))

  bytes-whole : count ≡ length bytes → place + count ≤ length before
      → take (place + length bytes) after ≡ take (length after) (items ++ bytes)
  bytes-whole is fits =
      let start : take (place + length bytes) after ≡ items ++ bytes =
      rw (← is) written ∙ ap (λ xs. xs ++ take count bytes) items_before ∙ ap (λ xs. items ++ xs) (take_all count bytes (omega (arith, is))) in
      start ∙ sym (take_all (length after) (items ++ bytes) (omega (arith, is, same, f.count, length-append items bytes)))

  bytes-cut : place + count ≡ length before → count ≤ length bytes
      → take (place + length bytes) after ≡ take (length after) (items ++ bytes)
  bytes-cut is less =
      let start : after ≡ items ++ take count bytes =
      sym (take_all (place + count) after (omega (arith, is, same))) ∙ written ∙ ap (λ xs. xs ++ take count bytes) items_before in
      let end : take (length after) (items ++ bytes) ≡ items ++ take count bytes =
      rw (same, ← is, f.count) (take-append-add items bytes count) in
      take_all (place + length bytes) after (omega (arith, is, same, less)) ∙ start ∙ sym end

-- so many bytes are written as there are, or as there is room for
pub bytes-laid : (before after items bytes : List ℕ) (place count : ℕ) → place < length before → IsFilled before place items
    → count ≡ min (length bytes) (length before - place)
    → take (place + length (take count bytes)) after ≡ take place before ++ take count bytes
    → length after ≡ length before → IsFilled after (place + length bytes) (items ++ bytes)
bytes-laid before after items bytes place count inside f least written same =
    let few : count ≤ length bytes = omega (arith, least) in
    let start : take (place + count) after ≡ take place before ++ take count bytes =
    subst (λ k. take (place + k) after ≡ take place before ++ take count bytes) (length-take-le count bytes few) written in
    record {
      count = omega (arith, f.count, length-append items bytes);
      begins =
          elim (cases_lt (length before - place) (length bytes)) [
            | inl cut ↦ bytes-cut before after items bytes place count inside f start same (omega (arith, least)) (omega (arith, least))
            | inr fits ↦ bytes-whole before after items bytes place count inside f start same (omega (arith, least)) (omega (arith, least))
          ];
    }

-- ---- arrays with room for all

-- they begin with what was laid
pub all_begin : (rooms : Rooms) (a : Arrays) → RoomsHold rooms a → FitsBefore (in_rooms rooms) a → Begin (in_rooms rooms) a
all_begin rooms a h f =
    record {
      sheets = filled-fits rooms.sheets.now rooms.laid.sheets a.sheets h.sheets f.sheets;
      names = filled-fits rooms.names.now rooms.laid.names a.names h.names f.names;
      cells = filled-fits rooms.cells.now rooms.laid.cells a.cells h.cells f.cells;
      formulas = filled-fits rooms.formulas.now rooms.laid.formulas a.formulas h.formulas f.formulas;
      regions = filled-fits rooms.regions.now rooms.laid.regions a.regions h.regions f.regions;
      texts = filled-fits rooms.texts.now rooms.laid.text_bytes a.texts h.texts f.texts;
    }
