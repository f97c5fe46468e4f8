use Rattle.std.proofs.Common.{◌≡◌, ℕ, List, ◌+◌, ◌-◌, ◌++◌, ◌∙◌, ◌≤◌, length, take, drop, sym, ap, arith, append-nil, length-append}
use Rattle.std.proofs.lemmas.List.{length-take}
use Rattle.std.proofs.Math.Seq.{take-add}
use Rattle.std.proofs.lemmas.Grind.{common_steps}
use Rattle.xls_output.specs.declared.writer.TheConstants.{PIECE}
use Rattle.xls_output.proofs.GatherLemmas.{gathers-added, gathers-as, gathers-then, memory-inside, puts-stop, stops-inside}
use Rattle.xls_lines.proofs.buffer.gather_by_pieces.Goals as goal

add-sub-left : (a b : ℕ) → a + b - a ≡ b
add-sub-left a b = omega arith

-- what fits the room is within the bound
within_room : (old new text : List ℕ) (n : ℕ) → new ≡ old ++ take n text → n + length old ≤ PIECE → length new ≤ PIECE
within_room old new text n e le =
    let all : length new ≡ length old + length (take n text) = ap length e ∙ length-append old (take n text) in
    omega (arith, all, length-take n text)

pub returns-in_err-room-clause-puts : goal.returns-in_err-room-clause-puts
returns-in_err-room-clause-puts g c =
    puts-stop _ c.from_residual.result c.from_residual.ensures.1 (stops-inside c.loop-at.at c.args.text.now c.loop-at.invariant.gathers c.in_err-room.ensures.puts)

pub returns-in_err-extend_from_slice-clause-puts :
    goal.returns-in_err-extend_from_slice-clause-puts
returns-in_err-extend_from_slice-clause-puts g c =
    let a = c.from_residual-in_err-extend_from_slice in
    puts-stop _ a.result a.ensures.1 (memory-inside c.loop-at.at c.args.text.now (gathers-as (gathers-then c.loop-at.invariant.gathers c.in_ok-room.ensures.puts) (append-nil _)))

pub loop-at-preserved : goal.loop-at-preserved
loop-at-preserved g c =
    let all = gathers-then (gathers-as (gathers-then c.loop-at.invariant.gathers c.in_ok-room.ensures.puts) (append-nil _)) (gathers-added _ _ _ _ c.in_ok-extend_from_slice.ensures.items) in
    record {
      within = grind (arith, common_steps);
      bound = within_room c.room_in.new.bytes.items _ (drop c.loop-at.at c.args.text.now) (c.loop-at.at + c.min.result - c.loop-at.at) c.in_ok-extend_from_slice.ensures.items (omega (arith, c.in_ok-room.ensures.room, c.min.ensures));
      gathers = gathers-as all (ap (λ n. take c.loop-at.at c.args.text.now ++ take n (drop c.loop-at.at c.args.text.now)) (add-sub-left c.loop-at.at c.min.result)
          ∙ sym (take-add c.loop-at.at c.min.result c.args.text.now));
    }
