-- Rows that are read as entries.
use Rattle.std.proofs.Common.{◌≡◌, ℕ, List, [], ◌∷◌, refl, drop, Result, Ok, Err, subst}
use Rattle.std.proofs.lemmas.Option.{same_Some}
use Rattle.std.specs.Prelude.{Some}
use Rattle.xls_data.specs.Content.{Content}
use Rattle.xls_rows.specs.Refusals.{Refusal, Gives}
use Rattle.xls_rows.specs.Rows.{Row, Exposed, contents_of, first_value, after_cell}
use Rattle.xls_rows.specs.declared.error.DeError.{DeError}
use Rattle.xls_rows.specs.declared.error.DeError.TheVariants as error
use Rattle.example_rows.specs.declared.entry.Entry.{Entry}
use Rattle.example_rows.specs.Entries.{◌>>=◌, pair_in, parts_of, ReadsEntry}

-- out of memory answers every reading
out_of_memory : {A B : Type 0} (view : A → B) (e : DeError) (read : Result B Refusal)
    → e ≡ error.Memory → Gives view (Err e) read
out_of_memory view e (Ok y) m = m
out_of_memory view e (Err r) m = rw m tt

-- a refusal of the first step is that of the whole
pub first_refused : {A B C D : Type 0} (view : A → B) (whole : C → D) (e : DeError)
    (read : Result B Refusal) (f : B → Result D Refusal)
    → Gives view (Err e) read → Gives whole (Err e) (read >>= f)
first_refused view whole e (Ok y) f g = out_of_memory whole e (f y) g
first_refused view whole e (Err r) f g = g

-- where the first step is read, the rest answers
pub first_read : {A B C D : Type 0} (view : A → B) (whole : C → D) (x : A)
    (answer : Result C DeError) (read : Result B Refusal) (f : B → Result D Refusal)
    → Gives view (Ok x) read → Gives whole answer (f (view x)) → Gives whole answer (read >>= f)
first_read {D} view whole x answer (Ok y) f g h = subst (λ b. Gives whole answer (f b)) g h
first_read view whole x answer (Err r) f g h = absurd g

-- the contents of two cells or more
two_cells : {T : Type 0} (content : T → Content) (es : List (Exposed T)) (x y : T)
    → Some x ≡ first_value es → Some y ≡ first_value (drop 1 es)
    → contents_of content es ≡ content x ∷ content y ∷ contents_of content (drop 2 es)
two_cells content [] x y e f = absurd (cc e)
two_cells content (a ∷ []) x y e f = absurd (cc f)
two_cells content (a ∷ b ∷ es) x y e f = rw (same_Some x a.value e, same_Some y b.value f) refl

-- a row of two cells or more
pub entry_of : {T : Type 0} (content : T → Content) (row after : Row T) (place : ℕ × ℕ) (x y : T)
    (answer : Result Entry DeError)
    → place ≡ row.place → Some x ≡ first_value row.exposed
    → after ≡ after_cell row → Some y ≡ first_value after.exposed
    → Gives parts_of answer (pair_in place (content x) (content y)) → ReadsEntry content row answer
entry_of content row after place x y answer here e step f p =
    let later : Some y ≡ first_value (drop 1 row.exposed) = rw step at f in
    rw (two_cells content row.exposed x y e later) (rw here at p)
