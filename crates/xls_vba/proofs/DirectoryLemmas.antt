-- Items and modules one after the other, and the first fault among them.
use Rattle.std.proofs.Common.{◌≡◌, ℕ, suc, ◌+◌, ◌-◌, ◌<◌, List, [], ◌∷◌, ◌++◌, Some, Result, Ok, Err, refl, sym, ap, ◌∙◌, arith, append_assoc}
use Rattle.xls_text.specs.declared.encoding.XlsEncoding.{XlsEncoding}
use Rattle.xls_vba.specs.declared.error.VbaError.{VbaError}
use Rattle.xls_vba.specs.declared.error.VbaError.TheVariants as errors
use Rattle.xls_vba.specs.Fields.{Fails, ◌>>=◌, header_from}
use Rattle.xls_vba.specs.Items.{Element, item_from, ProjectHead, ItemsFault}
use Rattle.xls_vba.specs.Modules.{Mod, module_from, modules_from, modules_part}
use Rattle.xls_vba.specs.References.{Ref}
use Rattle.xls_vba.specs.Directory.{FailsIn, Refers, IsProjectFault, in_items, in_modules}

-- modules so far, and what is read of the others
abbrev pub prefixed : List Mod → Result (List Mod) VbaError → Result (List Mod) VbaError
prefixed prefix (Ok ms) = Ok (prefix ++ ms)
prefixed prefix (Err e) = Err e

-- a fault of a part is one of the whole
pub fails_as : {Y Z : Type 0} (e : VbaError) (part : Result Y VbaError) (whole : Result Z VbaError) → (part ≡ Err e → whole ≡ Err e) → Fails e part → Fails e whole
fails_as errors.Memory part whole as_whole h = tt
fails_as e part whole as_whole h = as_whole h

-- a fault of the next item
pub fails_at : (e : VbaError) (page : XlsEncoding) (bytes at : List ℕ) (es : List Element) → ProjectHead page bytes es at → Fails e (item_from page at) → FailsIn e (ItemsFault page bytes)
fails_at errors.Memory page bytes at es prefix h = tt
fails_at e page bytes at es prefix h = (es, at, prefix, h)

-- one item more
pub Prefix-push : (page : XlsEncoding) (bytes at after : List ℕ) (es : List Element) (e : Element) → ProjectHead page bytes es at → item_from page at ≡ Ok (Some e, after) → ProjectHead page bytes (es ++ e ∷ []) after
Prefix-push page bytes at after [] e prefix step = (after, rw (sym prefix) at step, refl)
Prefix-push page bytes at after (d ∷ es) e prefix step = (prefix.0, prefix.1, Prefix-push page prefix.0 at after es e prefix.2 step)

prefixed-more : (prefix : List Mod) (m : Mod) (read : Result (List Mod) VbaError)
    → prefixed (prefix ++ m ∷ []) read ≡ prefixed prefix (prefixed (m ∷ []) read)
prefixed-more prefix m (Ok ms) = rw append_assoc
prefixed-more prefix m (Err e) = refl

module_then : (page : XlsEncoding) (n : ℕ) (bytes after : List ℕ) (m : Mod) → module_from page bytes ≡ Ok (m, after)
    → modules_from page (suc n) bytes ≡ prefixed (m ∷ []) (modules_from page n after)
module_then page n bytes after m step = rw step (by_rest (modules_from page n after))
  where
    by_rest : (read : Result (List Mod) VbaError) → (read >>= λ ms. Ok (m ∷ ms)) ≡ prefixed (m ∷ []) read
    by_rest (Ok ms) = refl
    by_rest (Err e) = refl

-- one module more
pub modules_more : (prefix now : List Mod) (total : Result (List Mod) VbaError) (page : XlsEncoding) (count i : ℕ) (bytes after : List ℕ) (m : Mod) → i < count
    → module_from page bytes ≡ Ok (m, after) → now ≡ prefix ++ m ∷ []
    → prefixed prefix (modules_from page (count - i) bytes) ≡ total → prefixed now (modules_from page (count - (i + 1)) after) ≡ total
modules_more prefix now total page count i bytes after m below step grown before =
    let k : count - i ≡ suc (count - (i + 1)) = omega arith in
    let one : modules_from page (count - i) bytes ≡ prefixed (m ∷ []) (modules_from page (count - (i + 1)) after) =
    ap (λ n. modules_from page n bytes) k ∙ module_then page (count - (i + 1)) bytes after m step in
    rw (grown, prefixed-more) (sym (ap (prefixed prefix) one) ∙ before)

-- a module that fails
pub modules_fail : (prefix : List Mod) (total : Result (List Mod) VbaError) (page : XlsEncoding) (count i : ℕ) (bytes : List ℕ) (e : VbaError) → i < count
    → prefixed prefix (modules_from page (count - i) bytes) ≡ total → module_from page bytes ≡ Err e → total ≡ Err e
modules_fail prefix total page count i bytes e below before step =
    let k : count - i ≡ suc (count - (i + 1)) = omega arith in
    let one : modules_from page (count - i) bytes ≡ Err e = rw (k, step) in
    sym before ∙ ap (prefixed prefix) one

-- a fault among the items, after the header
pub fails_items : (e : VbaError) (bytes : List ℕ) (page : XlsEncoding) (items : List ℕ) → header_from bytes ≡ Ok (page, items)
    → FailsIn e (ItemsFault page items) → FailsIn e (IsProjectFault bytes)
fails_items errors.Memory bytes page items header h = tt
fails_items e bytes page items header h = in_items page items header h

-- a fault among the modules, after the references
pub fails_modules : (e : VbaError) (bytes : List ℕ) (page : XlsEncoding) (items rest : List ℕ) (refs : List Ref) → header_from bytes ≡ Ok (page, items)
    → Refers page items refs rest → Fails e (modules_part page rest) → FailsIn e (IsProjectFault bytes)
fails_modules errors.Memory bytes page items rest refs header refers h = tt
fails_modules e bytes page items rest refs header refers h = in_modules page items rest refs header refers h
