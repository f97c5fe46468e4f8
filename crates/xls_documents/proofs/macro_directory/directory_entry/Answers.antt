use Rattle.std.proofs.Common.{subst}
use Rattle.xls_documents.specs.MacroDirectory.{TestsAs}
use Rattle.xls_documents.proofs.DirectoryLemmas.{looked_all, looked_found, looked_next}
use Rattle.xls_documents.proofs.macro_directory.directory_entry.Goals as goal

pub returns-then-branch : goal.returns-then-branch
returns-then-branch c =
    looked_found c.args.compound.now.listing c.entries.entry-iterator c.next.new.self c.in-Some.entry c.entries.invariant.2 c.in-Some.ensures.steps
    (subst (TestsAs c.in-Some.entry) c.if-branch.true c.in_ok-is_directory.ensures)

pub entries-preserved : goal.entries-preserved
entries-preserved c = (
  tt,
  tt,
  looked_next c.args.compound.now.listing c.entries.entry-iterator c.next.new.self c.in-Some.entry c.entries.invariant.2 c.in-Some.ensures.steps
      (subst (TestsAs c.in-Some.entry) c.if-branch.false c.in_ok-is_directory.ensures),
)

pub returns : goal.returns
returns c = looked_all c.args.compound.now.listing c.entries.entry-iterator c.entries.invariant.2 c.in-None.ensures.steps.0
