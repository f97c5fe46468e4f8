-- How calls end.
use Rattle.std.proofs.Common.{◌≡◌, ℕ, List, [], Result, Ok, Err, OnOk, IfErr, inl, inr, length, ap, refl, sym, subst, ◌∙◌, arith}
use Rattle.xls_arrays.specs.declared.faults.Fault.{Fault}
use Rattle.xls_arrays.specs.declared.refusal.Refusal.{Refusal}
use Rattle.xls_arrays.specs.declared.refusal.Refusal.TheVariants as refusals
use Rattle.xls_arrays.proofs.FilledLemmas.{filled-fits, filled-nothing}
use Rattle.xls_arrays.specs.Filled.{IsFilled}
use Rattle.xls_beside_arrays.specs.Answers.{Begin, Fills, FitsBefore, IsEnd, RefusesToFill}
use Rattle.xls_beside_arrays.specs.Arrays.{Arrays, counts_of, nothing}
use Rattle.xls_beside_arrays.specs.Filled.{HasRoom, RoomsHold, in_rooms}
use Rattle.xls_beside_arrays.specs.Opened.{LaysHeld}
use Rattle.xls_beside_arrays.specs.declared.items.Counts.{Counts}
use Rattle.xls_beside_arrays.specs.declared.rooms.Rooms.{Rooms}

not-filled : {X : Type 0} (room : List X) {laid : ℕ} → laid ≡ 0 → IsFilled room laid []
not-filled room is = subst (λ (n : ℕ). IsFilled room n []) (sym is) (filled-nothing room)

module _ {X : Type 0} where
  counts-are : (counts : Counts) (a : Arrays X) → counts.items ≡ length a.items → counts.damages ≡ length a.damages
      → counts.text_bytes ≡ length a.texts → counts ≡ counts_of a
  counts-are counts a i d t =
      let each : Counts = record { items = counts.items; damages = counts.damages; text_bytes = counts.text_bytes } in
      let same : each ≡ counts_of a = rw (i, d, t) refl in
      same

  -- what was laid
  module _ (rooms : Rooms X) (a : Arrays X) (h : RoomsHold rooms a) where
    pub laid-counts : rooms.laid ≡ counts_of a
    laid-counts = counts-are rooms.laid a h.items.count h.damages.count h.texts.count

    pub fits-before : HasRoom rooms → FitsBefore (in_rooms rooms) a
    fits-before f =
        record {
          items = omega (arith, h.items.count, f.items);
          damages = omega (arith, h.damages.count, f.damages);
          texts = omega (arith, h.texts.count, f.texts);
        }

    pub has-room : FitsBefore (in_rooms rooms) a → HasRoom rooms
    has-room f =
        record {
          items = omega (arith, h.items.count, f.items);
          damages = omega (arith, h.damages.count, f.damages);
          texts = omega (arith, h.texts.count, f.texts);
        }

    pub all-begin : FitsBefore (in_rooms rooms) a → Begin (in_rooms rooms) a
    all-begin f =
        record {
          items = filled-fits rooms.items.now rooms.laid.items a.items h.items f.items;
          damages = filled-fits rooms.damages.now rooms.laid.damages a.damages h.damages f.damages;
          texts = filled-fits rooms.texts.now rooms.laid.text_bytes a.texts h.texts f.texts;
        }

  -- nothing is
  none-laid : (rooms : Rooms X) → rooms.laid ≡ counts_of (nothing {X = X}) → RoomsHold rooms nothing
  none-laid rooms is =
      record {
        items = not-filled rooms.items.now (ap (λ (c : Counts). c.items) is);
        damages = not-filled rooms.damages.now (ap (λ (c : Counts). c.damages) is);
        texts = not-filled rooms.texts.now (ap (λ (c : Counts). c.text_bytes) is);
      }

  -- a refusal that isn't for want of room
  refused : (Held : Arrays X → Type 0) (Refuses : Refusal → Type 0) (after : Arrays X) (counts : Counts) → (Refuses refusals.TooShort → ⊥)
      → counts ≡ counts_of (nothing {X = X}) → (r : Refusal) → Refuses r → RefusesToFill Held Refuses after counts r
  refused Held Refuses after counts never none refusals.Memory p = (p, none)
  refused Held Refuses after counts never none refusals.TooShort p = absurd (never p)
  refused Held Refuses after counts never none (refusals.NoSheet index) p = (p, none)
  refused Held Refuses after counts never none refusals.Obfuscated p = (p, none)
  refused Held Refuses after counts never none (refusals.Stream e) p = (p, none)
  refused Held Refuses after counts never none (refusals.Kind k) p = (p, none)
  refused Held Refuses after counts never none refusals.NoWorkbook p = (p, none)
  refused Held Refuses after counts never none (refusals.Chain chain fault) p = (p, none)
  refused Held Refuses after counts never none (refusals.Directory fault) p = (p, none)

  -- what was laid, or why nothing was, ends the call
  pub fills : (Held : Arrays X → Type 0) (Refuses : Refusal → Type 0) (before rooms : Rooms X) (done : Result (Unit {0}) Refusal)
      {counts : Counts} {fault : Fault} {code : ℕ} → (Refuses refusals.TooShort → ⊥) → before.laid ≡ counts_of (nothing {X = X})
      → OnOk done (LaysHeld Held before rooms) → IfErr done Refuses → IsEnd done rooms counts fault code
      → Fills Held Refuses (in_rooms rooms) counts fault code
  fills Held Refuses before rooms (Ok x) never none ok err (counted, inl (room, answered)) =
      let (a, held, h) = ok (none-laid before none) in
      let f = fits-before rooms a h room in
      record { reported = answered.1; ends = inl ((a, held, counted ∙ laid-counts rooms a h, all-begin rooms a h f), answered.0) }
  fills Held Refuses before rooms (Ok x) never none ok err (counted, inr (short, answered)) =
      let (a, held, h) = ok (none-laid before none) in
      record {
        reported = answered.1;
        ends = inr (
          refusals.TooShort,
          (a, held, counted ∙ laid-counts rooms a h, λ f. short (has-room rooms a h f)),
          answered.0,
        );
      }
  fills Held Refuses before rooms (Err r) {counts} never none ok err (counted, answered) =
      record { reported = answered.1; ends = inr (r, refused Held Refuses (in_rooms rooms) counts never counted r err, answered.0) }

  -- by the arrays of the caller
  pub fills-as : (Held : Arrays X → Type 0) (Refuses : Refusal → Type 0) {after : Arrays X} {counts : Counts} {fault : Fault} {code : ℕ}
      (rooms : Rooms X) → Fills Held Refuses (in_rooms rooms) counts fault code → rooms.items.now ≡ after.items
      → rooms.damages.now ≡ after.damages → rooms.texts.now ≡ after.texts → Fills Held Refuses after counts fault code
  fills-as Held Refuses {after} {counts} {fault} {code} rooms p items damages texts =
      let same : in_rooms rooms ≡ after = rw (items, damages, texts) refl in
      subst (λ (a : Arrays X). Fills Held Refuses a counts fault code) same p
