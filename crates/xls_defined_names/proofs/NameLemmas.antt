-- Names, record by record.
use Rattle.std.proofs.Common.{◌≡◌, ◌≢◌, ℕ, List, [], ◌∷◌, ◌++◌, map, refl, sym, ap, ◌∙◌, ne_eqb}
use Rattle.xls_defined_names.specs.declared.names.DefinedName.{DefinedName}
use Rattle.xls_text.specs.declared.encoding.XlsEncoding.{XlsEncoding}
use Rattle.xls_record.specs.declared.version.Biff.{Biff}
use Rattle.xls_parts.specs.PartRecords.{Placed}
use Rattle.xls_defined_names.specs.Names.{Name, name_view, names_of, record_name}

module _ (page : XlsEncoding) (version : Biff) (stream : List ℕ) where
  pub names_end : names_of page version stream [] ≡ []
  unfolding names_of
  names_end = refl

  pub names_more : (r : Placed) (rs : List Placed) → r.typ ≡ 0x0018
      → names_of page version stream (r ∷ rs) ≡ record_name page version stream r ∷ names_of page version stream rs
  unfolding names_of
  names_more r rs e = rw e refl

  pub names_other : (r : Placed) (rs : List Placed) → r.typ ≢ 0x0018 → names_of page version stream (r ∷ rs)
      ≡ names_of page version stream rs
  unfolding names_of
  names_other r rs n = rw (ne_eqb r.typ 0x0018 n) refl

one_behind : (old : List DefinedName) (x : DefinedName) (rest : List Name) → map name_view (old ++ x ∷ []) ++ rest ≡ map name_view old
    ++ (name_view x ∷ rest)
one_behind [] x rest = refl
one_behind (o ∷ old) x rest = ap (λ (ns : List Name). name_view o ∷ ns) (one_behind old x rest)

-- a name more, and those that are left
pub one_more : (old new : List DefinedName) (x : DefinedName) (n : Name) (left rest all : List Name) → new ≡ old ++ x ∷ [] → name_view x
    ≡ n → left ≡ n ∷ rest
    → map name_view old ++ left ≡ all → map name_view new ++ rest ≡ all
one_more old new x n left rest all e f g h =
    ap (λ (xs : List DefinedName). map name_view xs ++ rest) e ∙ one_behind old x rest
    ∙ ap (λ (y : Name). map name_view old ++ (y ∷ rest)) f
    ∙ ap (λ (ns : List Name). map name_view old ++ ns) (sym g) ∙ h
