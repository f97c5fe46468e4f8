-- Each list of bytes is a run of groups up to its end or a cut.
use Rattle.std.proofs.Common.{◌≡◌, ℕ, zero, suc, ◌+◌, ◌-◌, ◌<◌, ◌≤◌, List, [], ◌∷◌, length, take, drop, refl, subst, arith, inl, inr}
use Rattle.std.specs.Prelude.{◌⊎◌}
use Rattle.std.proofs.lemmas.Bool.{cases_lt, cases_eq}
use Rattle.std.proofs.lemmas.List.{length-drop, get_or-drop}
use Rattle.xls_bytes.specs.Numbers.{le}
use Rattle.xls_stream.specs.Stream.{Group, IsRecord, StartsContinue, Gathers, Begins, Run}
use Rattle.xls_stream.specs.Cut.{Cut, PassesEnd}
use Rattle.xls_stream.specs.Walks.{IsOver}
use Rattle.xls_stream.specs.declared.part.Part.{Part}
use Rattle.xls_stream.specs.declared.part.Part.TheVariants.{RecordHeader, RecordLength, ContinueLength}
use Rattle.xls_stream.proofs.Records.{IsBytes, is_record, gathers_nothing, gathers_more, begins}
use Rattle.xls_stream.proofs.Pieces.{cuts}
use Rattle.xls_stream.proofs.Unique.{one_run, nothing_ends, cut_ends, IsEnd}

-- a record of the bytes, which leaves fewer
record FirstRecord (bytes : List ℕ) : Type 0 where
  typ : ℕ
  body : List ℕ
  rest : List ℕ
  is : IsRecord bytes typ body rest
  fewer : length rest < length bytes
  fits : IsBytes rest

first_record : (bytes : List ℕ) → IsBytes bytes → 4 ≤ length bytes
    → 4 + le (take 2 (drop 2 bytes)) ≤ length bytes → FirstRecord bytes
first_record bytes fits four room =
    let size = le (take 2 (drop 2 bytes)) in
    let prefix = take (4 + size) bytes in
    let rest = drop (4 + size) bytes in
    record {
      typ = le (take 2 bytes);
      body = take (length prefix - 4) (drop 4 prefix);
      rest = rest;
      is = is_record bytes prefix rest (le (take 2 bytes)) size fits refl refl four room refl refl;
      fewer = omega (arith, length-drop (4 + size) bytes);
      fits = λ i. rw get_or-drop (fits (4 + size + i));
    }

starts_or_not : (bytes : List ℕ) → StartsContinue bytes ⊎ (¬ StartsContinue bytes)
starts_or_not bytes =
    elim (cases_lt 4 (length bytes)) [ inl lt ↦ by_type bytes lt | inr ge ↦ inr (λ s. let r = s.room in omega arith) ]
  where
    by_type : (b : List ℕ) → 4 < length b → StartsContinue b ⊎ (¬ StartsContinue b)
    by_type [] lt = absurd (omega arith)
    by_type (x ∷ []) lt = absurd (omega arith)
    by_type (x ∷ y ∷ b) lt =
        elim (cases_eq x 60) [
          | inl ex ↦ elim (cases_eq y 0) [
            | inl ey ↦ inl (record {
              room = lt;
              typ = rw (ex, ey) refl;
            })
            | inr ny ↦ inr (λ s. let t = s.typ in ny cc)
          ]
          | inr nx ↦ inr (λ s. let t = s.typ in nx cc)
        ]

-- how gathering ends
data Gathered (start : List ℕ) : Type 0 where
  whole : (after : List ℕ) → Gathers start after → ¬ StartsContinue after
      → length after ≤ length start → IsBytes after → Gathered start
  short : (after : List ℕ) → Gathers start after → StartsContinue after → PassesEnd after
      → Gathered start

gather : (fuel : ℕ) (start after : List ℕ) → length after ≤ fuel → length after ≤ length start
    → IsBytes after → Gathers start after → Gathered start
gather zero start after few below fits g =
    whole after g (λ s. let r = s.room in omega arith) below fits
gather (suc fuel) start after few below fits g =
    elim (starts_or_not after) [
      | inl s ↦ elim (cases_lt (length after) (4 + le (take 2 (drop 2 after)))) [
        | inl lt ↦ short after g s (let r = s.room in record { header = omega arith; short = lt })
        | inr ge ↦
            let r = s.room in
            let f = first_record after fits (omega arith) ge in
            let l = f.fewer in
            gather fuel start f.rest (omega arith) (omega arith) f.fits (gathers_more start after f.typ f.body f.rest g s f.is)
      ]
      | inr n ↦ whole after g n below fits
    ]

-- a group at the start, or a cut
data FirstStep (bytes : List ℕ) : Type 0 where
  goes : (g : Group) (rest : List ℕ) → Begins bytes g rest → length rest < length bytes
      → IsBytes rest → FirstStep bytes
  stops : (p : Part) → Cut bytes p → FirstStep bytes

gathered_step : (bytes : List ℕ) (f : FirstRecord bytes) → Gathered f.rest → FirstStep bytes
gathered_step bytes f (whole after g n below fits) = let l =
    f.fewer in goes _ after (begins bytes f.typ f.body f.rest after g f.is n) (omega arith) fits
gathered_step bytes f (short after g s p) =
    stops ContinueLength (cuts bytes f.typ f.body f.rest after RecordLength g f.is s (λ e. cc) p)

first_step : (bytes : List ℕ) → IsBytes bytes → 0 < length bytes → FirstStep bytes
first_step bytes fits some =
    elim (cases_lt (length bytes) 4) [
      | inl lt ↦ stops RecordHeader (some, lt)
      | inr four ↦ elim (cases_lt (length bytes) (4 + le (take 2 (drop 2 bytes)))) [
        | inl lt ↦ stops RecordLength (record { header = four; short = lt })
        | inr ge ↦
            let f = first_record bytes fits four ge in
            gathered_step bytes f (gather (length f.rest) f.rest f.rest (omega arith) (omega arith) f.fits (gathers_nothing f.rest))
      ]
    ]

abbrev pub Whole : List ℕ → Type 0
Whole bytes = (gs : List Group) × (rest : List ℕ) × Run bytes gs rest × IsOver rest

after_step : (bytes : List ℕ)
    → ((rest : List ℕ) → length rest < length bytes → IsBytes rest → Whole rest) → FirstStep bytes
    → Whole bytes
after_step bytes on (goes g rest b fewer fits) = let w =
    on rest fewer fits in (g ∷ w.0, w.1, (rest, b, w.2), w.3)
after_step bytes on (stops p c) = ([], bytes, refl, inr (p, c))

run_within : (fuel : ℕ) (bytes : List ℕ) → length bytes ≤ fuel → IsBytes bytes → Whole bytes
run_within fuel [] few fits = ([], [], refl, inl refl)
run_within zero (b ∷ bs) few fits = absurd (omega arith)
run_within (suc fuel) (b ∷ bs) few fits =
    after_step (b ∷ bs) (λ rest fewer fits'. run_within fuel rest (omega arith) fits') (first_step (b ∷ bs) fits (omega arith))

pub runs : (bytes : List ℕ) → IsBytes bytes → Whole bytes
runs bytes fits = run_within (length bytes) bytes (omega arith) fits

over_ends : (rest : List ℕ) → IsOver rest → IsEnd rest
over_ends rest o = elim o [ inl e ↦ (λ g after b. nothing_ends g after (subst (λ (x : List ℕ). Begins x g after) e b)) | inr c ↦ cut_ends rest c.0 c.1 ]

pub no_others : (bytes : List ℕ) (gs hs : List Group) (r s : List ℕ) → Run bytes gs r
    → Run bytes hs s → IsOver r → IsOver s → (gs ≡ hs) × (r ≡ s)
no_others bytes gs hs r s a b er es = one_run bytes gs hs r s a b (over_ends r er) (over_ends s es)
