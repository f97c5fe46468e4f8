-- Monikers of a composite one, one at a time.
use Rattle.std.proofs.Common.{◌≡◌, ℕ, zero, suc, ◌-◌, ◌<◌, ◌≤◌, List, ◌++◌, refl, sym, ap, ◌∙◌, arith, Option, Some, Result, Ok, Err}
use Rattle.xls_text.specs.declared.encoding.XlsEncoding.{XlsEncoding}
use Rattle.xls_links.specs.declared.damage.Flaw.{Flaw}
use Rattle.xls_links.specs.declared.damage.Stop.{Stop}
use Rattle.xls_links.specs.declared.damage.Stop.TheVariants.{Memory, Flawed}
use Rattle.xls_links.specs.declared.items.LinkKind.{LinkKind}
use Rattle.xls_links.specs.Splitting.{◌>>=◌, Refuses}
use Rattle.xls_links.specs.Monikers.{Target, simple_at, joined_kind, kind_or_file, joined_at}

module _ (page : XlsEncoding) (kind : Option LinkKind) (text bytes : List ℕ) where
  joined_more : (left : ℕ) → 0 < left
      → joined_at page left kind text bytes ≡ (simple_at page bytes >>= λ x. joined_at page (left - 1) (Some (joined_kind kind x.0.kind)) (text ++ x.0.text) x.1)
  unfolding joined_at
  joined_more zero h = absurd (omega (arith, h))
  joined_more (suc left) h = let one : suc left - 1 ≡ left = omega arith in rw one refl

  pub joined_ok : (left : ℕ) (t : Target) (after : List ℕ) → 0 < left → simple_at page bytes ≡ Ok (t, after)
      → joined_at page left kind text bytes ≡ joined_at page (left - 1) (Some (joined_kind kind t.kind)) (text ++ t.text) after
  joined_ok left t after h e = joined_more left h ∙ ap (λ (r : Result (Target × List ℕ) Flaw). r >>= λ x. joined_at page (left - 1) (Some (joined_kind kind x.0.kind)) (text ++ x.0.text) x.1) e

  joined_err : (left : ℕ) (flaw : Flaw) → 0 < left → simple_at page bytes ≡ Err flaw → joined_at page left kind text bytes ≡ Err flaw
  joined_err left flaw h e = joined_more left h ∙ ap (λ (r : Result (Target × List ℕ) Flaw). r >>= λ x. joined_at page (left - 1) (Some (joined_kind kind x.0.kind)) (text ++ x.0.text) x.1) e

  pub joined_stops : (left : ℕ) (all : Result (Target × List ℕ) Flaw) (stop : Stop) → 0 < left
      → Refuses stop (simple_at page bytes) → joined_at page left kind text bytes ≡ all → Refuses stop all
  joined_stops left all (Memory e) h g so_far = tt
  joined_stops left all (Flawed flaw) h g so_far = sym so_far ∙ joined_err left flaw h g

  pub joined_end : (left : ℕ) → left ≤ 0 → joined_at page left kind text bytes ≡ Ok (record { kind = kind_or_file kind; text = text }, bytes)
  unfolding joined_at
  joined_end zero h = refl
  joined_end (suc left) h = absurd (omega (arith, h))
