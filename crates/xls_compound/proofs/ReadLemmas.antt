-- What is read of a chain, by the header and the bytes that the code has.
use Rattle.std.proofs.Common.{◌≡◌, ℕ, List, Result, Ok, Err, IfOk, sym, subst}
use Rattle.xls_sectors.specs.declared.header.Header.{Header}
use Rattle.xls_sectors.specs.Streams.{WholeChain}
use Rattle.xls_sectors.specs.Tables.{Opened, sectors_of}
use Rattle.xls_compound.specs.Compound.{DirectoryBytes, MiniFatBytes}

module _ (opened : Opened) (header : Header) (bytes slice : List ℕ) (is : header ≡ opened.header) (same : slice ≡ bytes) where
  pub directory_is : WholeChain (sectors_of opened) header.first_directory (Ok bytes) → DirectoryBytes opened (Ok slice)
  directory_is h =
      subst (λ (xs : List ℕ). DirectoryBytes opened (Ok xs)) (sym same)
      (subst (λ (x : Header). WholeChain (sectors_of opened) x.first_directory (Ok bytes)) is h)

  pub mini_fat_is : WholeChain (sectors_of opened) header.first_mini_fat (Ok bytes) → MiniFatBytes opened (Ok slice)
  mini_fat_is h =
      subst (λ (xs : List ℕ). MiniFatBytes opened (Ok xs)) (sym same)
      (subst (λ (x : Header). WholeChain (sectors_of opened) x.first_mini_fat (Ok bytes)) is h)

-- what follows from the value
pub if_ok_more : {X E : Type 0} (r : Result X E) (P Q : X → Type 0) → ((x : X) → P x → Q x) → IfOk r P → IfOk r Q
if_ok_more (Ok x) P Q f h = f x h
if_ok_more (Err e) P Q f h = tt
