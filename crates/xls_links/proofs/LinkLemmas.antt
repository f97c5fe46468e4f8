-- Items, one at a time, and the records of no bytes.
use Rattle.std.proofs.Common.{◌≡◌, ℕ, List, [], ◌∷◌, Bool, true, false, cond, Err, length, drop, ◌<◌, ◌≤◌, refl, arith}
use Rattle.std.specs.Prelude.{nat_lt}
use Rattle.std.proofs.lemmas.Bool.{ltb-true}
use Rattle.xls_parts.specs.PartRecords.{records_within, outer_from, own_from, own_records}
use Rattle.xls_text.specs.declared.encoding.XlsEncoding.{XlsEncoding}
use Rattle.xls_links.specs.declared.damage.Flaw.TheVariants.{EndsIn}
use Rattle.xls_links.specs.declared.damage.Part.TheVariants.{Head}
use Rattle.xls_links.specs.Items.{Item}
use Rattle.xls_links.specs.Links.{flags_of, parts_at, parts_of}

pub one_item_fewer : (before after : List Item) (item : Item) → before ≡ item ∷ after → length after < length before
one_item_fewer before after item e = rw e (omega arith)

pub no_records : own_records 0 [] ≡ []
unfolding records_within outer_from own_from
no_records = refl

-- the head is whole
pub parts_whole : (page : XlsEncoding) (body : List ℕ) → 32 ≤ length body → parts_of page body ≡ parts_at page (flags_of body) (drop 32 body)
parts_whole page body h = by_test (nat_lt (length body) 32) refl
  where
    by_test : (b : Bool) → nat_lt (length body) 32 ≡ b → cond b (Err (EndsIn Head)) (parts_at page (flags_of body) (drop 32 body)) ≡ parts_at page (flags_of body) (drop 32 body)
    by_test false e = refl
    by_test true e = absurd (omega (arith, h, ltb-true (length body) 32 e))
