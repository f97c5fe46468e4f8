-- A law over what the commands write.
use Rattle.std.specs.Prelude.{ℕ, ◌≤◌, List, length, Some}
use Rattle.xls_stream.specs.Walks.{IsBytes}
use Rattle.xls_stream.specs.Listing.{ListEntry, Carries}
use Rattle.xls_layouts.specs.Canonical.{Fits}
use Rattle.xls_open.specs.Opening.{default_options}
use Rattle.xls_command.specs.Outputs.{IsOutput}
use Rattle.xls_command.specs.declared.command.Command.TheVariants.{Dump, Remake}

-- what `remake` writes of a stream has the dump that the stream has, where it is within the limit of bytes
abbrev pub RemadeDumps : Type 0
RemadeDumps = (bytes : List ℕ) (list : List ListEntry) → IsBytes bytes → Carries bytes list → Fits list
    → (remade : List ℕ) → IsOutput Remake (Some bytes) remade → length remade ≤ default_options.max_bytes
    → (text : List ℕ) → IsOutput Dump (Some bytes) text → IsOutput Dump (Some remade) text
