use Rattle.std.proofs.Common.{subst}
use Rattle.xls_sectors.specs.declared.header.Header.{Header}
use Rattle.xls_compound.specs.declared.fault.DirectoryError.{DirectoryError}
use Rattle.xls_compound.specs.Directory.{IsDirectory, IsRefusal, IsDirectoryFault}
use Rattle.xls_compound.specs.Compound.{is_wide}
use Rattle.xls_compound.proofs.ReadLemmas.{directory_is}
use Rattle.xls_compound.proofs.compound.read_directory.Goals as goal

-- the directory's chain is whole, and what it holds has the fault
pub returns-in-Err-Fault-read-clause-err : goal.returns-in-Err-Fault-read-clause-err
returns-in-Err-Fault-read-clause-err c file opens =
    let bytes = c.as_slice.result.now in
    let chain = directory_is c.args.sectors.now c.header-header.result _ bytes c.header-header.ensures c.as_slice.ensures.value c.in-Ok.ensures.exact in
    let fault = subst (λ (e : DirectoryError). IsRefusal (is_wide c.header-header.result) bytes e) c.in-Err-Fault-read.field-0-is c.in-Err-Fault-read.ensures.err in (
      c.args.sectors.now,
      bytes,
      opens,
      chain,
      subst (λ (h : Header). IsDirectoryFault (is_wide h) bytes c.in-Err-Fault-read.fault) c.header-header.ensures fault,
    )

-- it holds the listing
pub returns-in-Ok-read-clause-ok : goal.returns-in-Ok-read-clause-ok
returns-in-Ok-read-clause-ok c file opens =
    let bytes = c.as_slice.result.now in
    record {
      is_opened = opens;
      directory = bytes;
      is_directory = directory_is c.args.sectors.now c.header-header.result _ bytes c.header-header.ensures c.as_slice.ensures.value c.in-Ok.ensures.exact;
      is_listing = subst (λ (h : Header). IsDirectory (is_wide h) bytes c.in-Ok-read.directory) c.header-header.ensures c.in-Ok-read.ensures.ok;
    }
