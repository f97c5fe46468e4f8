-- The first fault of a stream by its check, under the options by default.
use Rattle.std.proofs.Common.{◌≡◌, ℕ, ◌<◌, ◌≤◌, List, length, sym, subst, None}
use Rattle.xls_record.specs.declared.error.XlsError.{XlsError}
use Rattle.xls_record.specs.declared.error.XlsError.TheVariants.{TooLarge}
use Rattle.xls_meaning.specs.Faults.{FirstFault, IsSound}
use Rattle.xls_open.specs.Opening.{default_rules}
use Rattle.xls_open.specs.Checking.{FirstChecked}
use Rattle.xls_open.proofs.AlikeLemmas.{checked_alike}
use Rattle.xls_open.proofs.OpeningLemmas.{limit_first}

-- more bytes than may be
pub too_large : (bytes : List ℕ) (n : ℕ) → n ≡ default_rules.max_bytes → default_rules.max_bytes < length bytes
    → FirstFault default_rules bytes (TooLarge n)
too_large bytes n same more =
    subst (λ (m : ℕ). FirstFault default_rules bytes (TooLarge m)) (sym same) (limit_first default_rules bytes more)

-- within the limit, the fault that the check answers
pub first_checked : (bytes : List ℕ) (e : XlsError) → length bytes ≤ default_rules.max_bytes
    → FirstChecked None 33_554_432 bytes e → FirstFault default_rules bytes e
first_checked bytes e within h = (checked_alike default_rules bytes within e).1 h

-- and where it answers none
pub none_checked : (bytes : List ℕ) → length bytes ≤ default_rules.max_bytes
    → ((e : XlsError) → FirstChecked None 33_554_432 bytes e → ⊥) → IsSound default_rules bytes
none_checked bytes within clear e h = clear e ((checked_alike default_rules bytes within e).0 h)
