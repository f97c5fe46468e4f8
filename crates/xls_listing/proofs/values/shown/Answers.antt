use Rattle.std.proofs.Common.{ℕ, List, Some, ap, codes}
use Rattle.std.specs.String.{string_bytes}
use Rattle.xls_readable.specs.Items.{text}
use Rattle.xls_listing.proofs.DisplayedLemmas.{encoded_of}
use Rattle.xls_listing.proofs.values.shown.Goals as goal

pub returns-in-DateTimeIso-clause-shown : goal.returns-in-DateTimeIso-clause-shown
returns-in-DateTimeIso-clause-shown c =
    let call = c.as_str-in-DateTimeIso in
    rw c.in-DateTimeIso.is
    (ap (λ (t : List ℕ). Some (codes "date", text t))
    (encoded_of _ (string_bytes c.in-DateTimeIso.s) call.utf8 call.ensures.value))

pub returns-in-DurationIso-clause-shown : goal.returns-in-DurationIso-clause-shown
returns-in-DurationIso-clause-shown c =
    let call = c.as_str-in-DurationIso in
    rw c.in-DurationIso.is
    (ap (λ (t : List ℕ). Some (codes "span", text t))
    (encoded_of _ (string_bytes c.in-DurationIso.s) call.utf8 call.ensures.value))
