-- The operands of a formula, and the white space that waits ([MS-XLS] PtgAttrSpaceType).
use Rattle.std.specs.Prelude.{ℕ, List, [], ◌++◌, replicate, if◌then◌else◌}
use Rattle.xls_shown_ptg.specs.declared.tokens.Space.{Space}
use Rattle.xls_shown_ptg.specs.declared.tokens.SpacePlace.{SpacePlace}
use Rattle.xls_shown_ptg.specs.declared.tokens.SpacePlace.TheVariants as places

-- an operand's text as it is shown, and as it is shown where it is the name of a call
pub record Operand : Type 0 where
  pub shown : List ℕ
  pub called : List ℕ

-- one that is shown alike in both places
abbrev pub alike : List ℕ → Operand
alike text = record { shown = text; called = text }

-- white space that waits for the next token that writes: before what it writes, and before the parenthesis that closes it
pub record Waiting : Type 0 where
  pub before : List ℕ
  pub closing : List ℕ

-- the operands, the last one first; what waits; what stands before the formula
pub record State : Type 0 where
  pub operands : List Operand
  pub waiting : Waiting
  pub front : List ℕ

abbrev pub nothing_waits : Waiting
nothing_waits = record { before = []; closing = [] }

abbrev pub start : State
start = record { operands = []; waiting = nothing_waits; front = [] }

-- spaces, or newlines
abbrev pub blanks : Space → List ℕ
blanks space = replicate space.count (if space.is_newline then 0x0A else 0x20)

-- behind what waits there, in the order stored
abbrev pub wait_before : List ℕ → Waiting → Waiting
wait_before text w = record { before = w.before ++ text; closing = w.closing }

abbrev pub wait_closing : List ℕ → Waiting → Waiting
wait_closing text w = record { before = w.before; closing = w.closing ++ text }

abbrev pub wait_at : SpacePlace → List ℕ → State → State
wait_at places.Before text s = record { operands = s.operands; waiting = wait_before text s.waiting; front = s.front }
wait_at places.Closing text s = record { operands = s.operands; waiting = wait_closing text s.waiting; front = s.front }
wait_at places.Front text s = record { operands = s.operands; waiting = s.waiting; front = s.front ++ text }

-- before a text without parentheses of its own: all that waits
abbrev pub all_of : Waiting → List ℕ
all_of waiting = waiting.before ++ waiting.closing

-- other operands; nothing waits any more
abbrev pub written : List Operand → State → State
written operands s = record { operands = operands; waiting = nothing_waits; front = s.front }
