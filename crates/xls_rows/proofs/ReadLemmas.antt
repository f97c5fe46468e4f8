-- Lists of cells that are read one after another.
use Rattle.std.proofs.Common.{◌≡◌, List, [], ◌∷◌, ◌++◌, refl, sym, ap, ◌∙◌, append-nil, append_assoc, Result, Ok, Err, drop, map}
use Rattle.std.specs.Prelude.{Some, None}
use Rattle.std.proofs.lemmas.List.{map-append}
use Rattle.xls_data.specs.Content.{Content}
use Rattle.xls_rows.specs.declared.error.DeError.{DeError}
use Rattle.xls_rows.specs.declared.error.DeError.TheVariants as error
use Rattle.xls_rows.specs.Refusals.{Refusal, Gives}
use Rattle.xls_rows.specs.Rows.{and_then_others, all_read, Exposed, contents_of, first_value}

-- what was read before the others
abbrev pub following : {A : Type 0} → List A → Result (List A) Refusal → Result (List A) Refusal
following acc (Err r) = Err r
following acc (Ok xs) = Ok (acc ++ xs)

-- out of memory is an answer to anything
pub memory_always : {X A : Type 0} (view : X → A) (read : Result A Refusal) → Gives view (Err error.Memory) read
memory_always view (Ok y) = refl
memory_always view (Err r) = tt

after_others : {A : Type 0} (acc : List A) (y : A) (others : Result (List A) Refusal) → following acc (and_then_others (Ok y) others) ≡ following (acc ++ y ∷ []) others
after_others acc y (Err r) = refl
after_others acc y (Ok xs) = ap (λ l. Ok l) (sym (append_assoc acc (y ∷ []) xs))

after_none : {A : Type 0} (all : Result (List A) Refusal) → all ≡ following [] all
after_none (Err r) = refl
after_none (Ok xs) = refl

read_on_from : {X A : Type 0} (view : X → A) (acc : List X) (x : X) (one : Result A Refusal) (others all : Result (List A) Refusal)
    → all ≡ following (map view acc) (and_then_others one others) → Gives view (Ok x) one → all ≡ following (map view (acc ++ x ∷ [])) others
read_on_from view acc x (Ok y) others all e g =
    e ∙ after_others (map view acc) y others ∙ ap (λ l. following l others) (ap (λ z. map view acc ++ z ∷ []) (sym g) ∙ sym (map-append view acc (x ∷ [])))
read_on_from view acc x (Err r) others all e g = absurd g

-- one more was read
pub read_on : {C X A : Type 0} (view : X → A) (read : C → Result A Refusal) (acc : List X) (x : X) (c : C) (cs : List C) (all : Result (List A) Refusal)
    → all ≡ following (map view acc) (all_read read (c ∷ cs)) → Gives view (Ok x) (read c) → all ≡ following (map view (acc ++ x ∷ [])) (all_read read cs)
read_on view read acc x c cs all e g = read_on_from view acc x (read c) (all_read read cs) all e g

stops_from : {X V A : Type 0} (view : X → A) (whole : V → List A) (acc : List A) (d : DeError) (one : Result A Refusal) (others all : Result (List A) Refusal)
    → all ≡ following acc (and_then_others one others) → Gives view (Err d) one → Gives whole (Err d) all
stops_from view whole acc d (Ok y) others all e g = rw g (memory_always whole all)
stops_from view whole acc d (Err r) others all e g = rw e g

-- one is refused
pub read_stops : {C X V A : Type 0} (view : X → A) (whole : V → List A) (read : C → Result A Refusal) (acc : List A) (d : DeError) (c : C) (cs : List C) (all : Result (List A) Refusal)
    → all ≡ following acc (all_read read (c ∷ cs)) → Gives view (Err d) (read c) → Gives whole (Err d) all
read_stops view whole read acc d c cs all e g = stops_from view whole acc d (read c) (all_read read cs) all e g

-- all are read
pub read_ends : {C X V A : Type 0} (view : X → A) (whole : V → List A) (read : C → Result A Refusal) (acc : List X) (v : V) (cs : List C) (all : Result (List A) Refusal)
    → all ≡ following (map view acc) (all_read read cs) → cs ≡ [] → whole v ≡ map view acc → Gives whole (Ok v) all
read_ends view whole read acc v [] all e n w = rw (e, append-nil) w
read_ends view whole read acc v (c ∷ cs) all e n w = absurd (cc n)

-- nothing is read yet
pub read_begins : {C X A : Type 0} (view : X → A) (read : C → Result A Refusal) (cs : List C) → all_read read cs ≡ following (map view []) (all_read read cs)
read_begins view read cs = after_none (all_read read cs)

pub contents_first : {T : Type 0} (content : T → Content) (es : List (Exposed T)) (x : T) → Some x ≡ first_value es → contents_of content es ≡ content x ∷ contents_of content (drop 1 es)
contents_first content [] x e = absurd (cc e)
contents_first content (y ∷ es) x e = ap (λ v. content v ∷ contents_of content es) (sym (cc e))

pub contents_none : {T : Type 0} (content : T → Content) (es : List (Exposed T)) → None ≡ first_value es → contents_of content es ≡ []
contents_none content [] e = refl
contents_none content (y ∷ es) e = absurd (cc e)
