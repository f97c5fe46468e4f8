-- A directory reads in one way.
use Rattle.std.proofs.Common.{◌≡◌, ℕ, List, [], ◌∷◌, Option, Some, None, Result, Ok, Err, refl, sym, ap, subst, ◌∙◌}
use Rattle.xls_text.specs.declared.encoding.XlsEncoding.{XlsEncoding}
use Rattle.xls_vba.specs.declared.error.VbaError.{VbaError}
use Rattle.xls_vba.specs.Fields.{header_from}
use Rattle.xls_vba.specs.Items.{Element, item_from, ProjectHead, ItemsFault}
use Rattle.xls_vba.specs.References.{Ref, references_of}
use Rattle.xls_vba.specs.Modules.{Mod, modules_part}
use Rattle.xls_vba.specs.Directory.{Project, Refers, IsDirectory, IsProjectFault, in_header, in_items, in_modules}

-- a result is one value, or one error
ok_same : {A E : Type 0} (r : Result A E) (x y : A) → r ≡ Ok x → r ≡ Ok y → x ≡ y
ok_same r x y h k = cc

err_same : {A E : Type 0} (r : Result A E) (x y : E) → r ≡ Err x → r ≡ Err y → x ≡ y
err_same r x y h k = cc

ok_or_err : {A E : Type 0} (r : Result A E) (x : A) (y : E) → r ≡ Ok x → r ≡ Err y → ⊥
ok_or_err r x y h k = cc

some_same : {A : Type 0} (x y : A) → Some x ≡ Some y → x ≡ y
some_same x y e = cc

none_or_some : {A : Type 0} (x : A) → None ≡ Some x → ⊥
none_or_some x e = cc

-- what stands at the end of items, and what a header gives
abbrev pub Step : Type 0
Step = Option Element × List ℕ

abbrev pub Head : Type 0
Head = XlsEncoding × List ℕ

-- the end of the items, or a fault
abbrev pub stop_of : Result (List ℕ) VbaError → Result Step VbaError
stop_of (Ok rest) = Ok (None, rest)
stop_of (Err e) = Err e

stop_same : (v : Result Step VbaError) (o p : Result (List ℕ) VbaError) → v ≡ stop_of o → v ≡ stop_of p → o ≡ p
stop_same v (Ok r) (Ok s) h k = ap Ok (ap (λ (x : Step). x.1) (ok_same v _ _ h k))
stop_same v (Ok r) (Err f) h k = absurd (ok_or_err v _ _ h k)
stop_same v (Err f) (Ok s) h k = absurd (ok_or_err v _ _ k h)
stop_same v (Err f) (Err g) h k = ap Err (err_same v _ _ h k)

stop_or_item : (v : Result Step VbaError) (o : Result (List ℕ) VbaError) (d : Element) (mid : List ℕ) → v ≡ stop_of o → v ≡ Ok (Some d, mid) → ⊥
stop_or_item v (Ok r) d mid h k = none_or_some d (ap (λ (x : Step). x.0) (ok_same v _ _ h k))
stop_or_item v (Err f) d mid h k = ok_or_err v _ _ k h

module _ (page : XlsEncoding) where
  -- items up to a stop are the only ones
  once : (bytes : List ℕ) (es fs : List Element) (at bt : List ℕ) (o p : Result (List ℕ) VbaError)
      → ProjectHead page bytes es at → item_from page at ≡ stop_of o → ProjectHead page bytes fs bt → item_from page bt ≡ stop_of p
      → (es ≡ fs) × (o ≡ p)
  once bytes [] [] at bt o p prefix stop others end =
      (refl, stop_same (item_from page at) o p stop (ap (item_from page) (sym prefix ∙ others) ∙ end))
  once bytes [] (f ∷ fs) at bt o p prefix stop others end =
      absurd (stop_or_item (item_from page bytes) o f others.0 (ap (item_from page) prefix ∙ stop) others.1)
  once bytes (e ∷ es) [] at bt o p prefix stop others end =
      absurd (stop_or_item (item_from page bytes) p e prefix.0 (ap (item_from page) others ∙ end) prefix.1)
  once bytes (e ∷ es) (f ∷ fs) at bt o p prefix stop others end =
      let pairs = ok_same (item_from page bytes) _ _ prefix.1 others.1 in
      let heads : e ≡ f = some_same _ _ (ap (λ (x : Step). x.0) pairs) in
      let mids : others.0 ≡ prefix.0 = sym (ap (λ (x : Step). x.1) pairs) in
      let rest = once prefix.0 es fs at bt o p prefix.2 stop (subst (λ (mid : List ℕ). ProjectHead page mid fs bt) mids others.2) end in
      (rw (heads, rest.0), rest.1)

  refers_once : (bytes : List ℕ) (rs ts : List Ref) (rest left : List ℕ) → Refers page bytes rs rest → Refers page bytes ts left → (rs ≡ ts) × (rest ≡ left)
  refers_once bytes rs ts rest left h k =
      let same = once bytes h.elements k.elements h.items.0 k.items.0 (Ok rest) (Ok left) h.items.1 h.items.2 k.items.1 k.items.2 in
      (h.read_off ∙ ap references_of same.0 ∙ sym k.read_off, ok_same _ rest left refl same.1)

  refers_or_fault : (bytes : List ℕ) (rs : List Ref) (rest : List ℕ) (e : VbaError) → Refers page bytes rs rest → ItemsFault page bytes e → ⊥
  refers_or_fault bytes rs rest e h k =
      ok_or_err _ rest e refl (once bytes h.elements k.0 h.items.0 k.1 (Ok rest) (Err e) h.items.1 h.items.2 k.2 k.3).1

  one_fault : (bytes : List ℕ) (e f : VbaError) → ItemsFault page bytes e → ItemsFault page bytes f → e ≡ f
  one_fault bytes e f h k = err_same _ e f refl (once bytes h.0 k.0 h.1 k.1 (Err e) (Err f) h.2 h.3 k.2 k.3).1

module _ (x y : Head) (same : x ≡ y) where
  moved : (refs : List Ref) (rest : List ℕ) → Refers x.0 x.1 refs rest → Refers y.0 y.1 refs rest
  moved refs rest h = subst (λ (z : Head). Refers z.0 z.1 refs rest) same h

  moved_fault : (e : VbaError) → ItemsFault x.0 x.1 e → ItemsFault y.0 y.1 e
  moved_fault e h = subst (λ (z : Head). ItemsFault z.0 z.1 e) same h

  moved_modules : (refs others : List Ref) (rest left : List ℕ) → Refers x.0 x.1 refs rest → Refers y.0 y.1 others left
      → modules_part x.0 rest ≡ modules_part y.0 left
  moved_modules refs others rest left h k =
      let following = (refers_once y.0 y.1 refs others rest left (moved refs rest h) k).1 in
      ap (λ (z : Head). modules_part z.0 rest) same ∙ ap (modules_part y.0) following

module _ (bytes : List ℕ) where
  header_same : (x y : Head) → header_from bytes ≡ Ok x → header_from bytes ≡ Ok y → x ≡ y
  header_same x y h k = ok_same (header_from bytes) x y h k

  pub one_project : (p q : Project) → IsDirectory bytes p → IsDirectory bytes q → p ≡ q
  one_project p q h k =
      let x : Head = (h.page, h.items) in
      let y : Head = (k.page, k.items) in
      let same = header_same x y h.header k.header in
      let refs = (refers_once k.page k.items p.references q.references h.rest k.rest (moved x y same p.references h.rest h.refers) k.refers).0 in
      let parts = moved_modules x y same p.references q.references h.rest k.rest h.refers k.refers in
      let modules = ok_same _ _ _ h.modules (parts ∙ k.modules) in
      ap (λ (z : List Ref). record { references = z; modules = p.modules }) refs
      ∙ ap (λ (z : List Mod). record { references = q.references; modules = z }) modules

  pub project_or_fault : (p : Project) (e : VbaError) → IsDirectory bytes p → IsProjectFault bytes e → ⊥
  project_or_fault p e h (in_header header) = ok_or_err _ _ _ h.header header
  project_or_fault p e h (in_items page items header fault) =
      let x : Head = (h.page, h.items) in
      let y : Head = (page, items) in
      refers_or_fault page items p.references h.rest e (moved x y (header_same x y h.header header) p.references h.rest h.refers) fault
  project_or_fault p e h (in_modules page items rest refs header refers fault) =
      let x : Head = (h.page, h.items) in
      let y : Head = (page, items) in
      ok_or_err _ _ _ h.modules (moved_modules x y (header_same x y h.header header) p.references refs h.rest rest h.refers refers ∙ fault)

  pub one_first_fault : (e f : VbaError) → IsProjectFault bytes e → IsProjectFault bytes f → e ≡ f
  one_first_fault e f (in_header h) (in_header k) = err_same _ e f h k
  one_first_fault e f (in_header h) (in_items page items k fault) = absurd (ok_or_err _ _ _ k h)
  one_first_fault e f (in_header h) (in_modules page items rest refs k refers fault) = absurd (ok_or_err _ _ _ k h)
  one_first_fault e f (in_items page items h fault) (in_header k) = absurd (ok_or_err _ _ _ h k)
  one_first_fault e f (in_items p a h fault) (in_items q b k other) =
      let x : Head = (p, a) in
      let y : Head = (q, b) in
      one_fault q b e f (moved_fault x y (header_same x y h k) e fault) other
  one_first_fault e f (in_items p a h fault) (in_modules q b rest refs k refers other) =
      let x : Head = (p, a) in
      let y : Head = (q, b) in
      absurd (refers_or_fault q b refs rest e refers (moved_fault x y (header_same x y h k) e fault))
  one_first_fault e f (in_modules page items rest refs h refers fault) (in_header k) = absurd (ok_or_err _ _ _ h k)
  one_first_fault e f (in_modules p a rest refs h refers fault) (in_items q b k other) =
      let x : Head = (p, a) in
      let y : Head = (q, b) in
      absurd (refers_or_fault q b refs rest f (moved x y (header_same x y h k) refs rest refers) other)
  one_first_fault e f (in_modules p a rest refs h refers fault) (in_modules q b left others k refers_too other) =
      let x : Head = (p, a) in
      let y : Head = (q, b) in
      err_same _ e f fault (moved_modules x y (header_same x y h k) refs others rest left refers refers_too ∙ other)
