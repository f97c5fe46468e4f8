-- A field by the last entry of its number.
use Rattle.std.proofs.Common.{◌≡◌, ℕ, List, Option, Some, None, String, subst}
use Rattle.xls_text.specs.declared.encoding.XlsEncoding.{XlsEncoding}
use Rattle.xls_props.specs.Entries.{Entry, last_of}
use Rattle.xls_props.specs.Values.{◌>>=◌, Shows, value_at, value_unless_empty, field}

module _ (Z : Type 0) (number : ℕ) (s : List ℕ) (es : List Entry) (page : XlsEncoding) where
  pub no_field : None ≡ last_of number es → Shows {Z = Z} (field number s es page) None
  no_field none = subst (λ (o : Option ℕ). Shows {Z = Z} (o >>= λ at. value_unless_empty (value_at page s at)) None) none tt

  pub one_field : (at : ℕ) (text : Option (String Z)) → Some at ≡ last_of number es → Shows (value_unless_empty (value_at page s at)) text
      → Shows (field number s es page) text
  one_field at text some shows = subst (λ (o : Option ℕ). Shows (o >>= λ at. value_unless_empty (value_at page s at)) text) some shows
