use Rattle.std.proofs.Common.{ℕ, ◌≤◌, List, length, inl, inr, Result, Ok, Err, arith}
use Rattle.xls_stream.specs.Listing.{ListEntry}
use Rattle.xls_stream.specs.Walks.{IsBytes}
use Rattle.xls_stream.proofs.HoldingLemmas.{one_list}
use Rattle.xls_record.specs.declared.error.XlsError.{XlsError}
use Rattle.xls_record.specs.declared.error.XlsError.TheVariants as errors
use Rattle.xls_open.specs.Opening.{default_options}
use Rattle.xls_lay.specs.Reading.{ReadsList}
use Rattle.xls_report.specs.Remaking.{TellsList}
use Rattle.xls_report.proofs.CheckLemmas.{first_checked, none_checked}
use Rattle.xls_report.proofs.remake.list_of.Goals as goal

-- within the limit
tells : (bytes : List ℕ) → IsBytes bytes → length bytes ≤ default_options.max_bytes
    → (r : Result (List ListEntry) XlsError) → ReadsList bytes r → TellsList bytes r
tells bytes fits le (Ok list) h = record {
  sound = none_checked bytes le h.0;
  carries = h.1;
  one = λ other c. one_list bytes fits list other h.1 c;
}
tells bytes fits le (Err errors.Memory) h = tt
tells bytes fits le (Err e) (inl h) = first_checked bytes e le h
tells bytes fits le (Err e) (inr h) = let same = h.0 in cc

pub returns : goal.returns
returns c = tells c.args.bytes.now (λ i. omega (arith, c.type_inv.bytes i)) c.requires c.logical_of.result c.logical_of.ensures
