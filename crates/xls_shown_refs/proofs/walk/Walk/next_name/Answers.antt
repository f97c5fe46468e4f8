use Rattle.std.proofs.Common.{refl}
use Rattle.xls_shown_refs.proofs.PassLemmas.{passes_cells, passes_name, stops_at}
use Rattle.xls_shown_refs.proofs.walk.Walk.next_name.Goals as goal

pub items-preserved-in-Continue-1 : goal.items-preserved-in-Continue-1
items-preserved-in-Continue-1 c =
    passes_cells c.args.names.now c.args.self.now c.items.self _ c.in-Some.item c.in-Some.ensures.items c.in-Cells.citation c.in-Cells.is
    c.in_ok-take-in-Cells.ensures refl c.items.invariant

pub returns-then-branch : goal.returns-then-branch
returns-then-branch c =
    stops_at c.args.names.now c.args.self.now c.items.self (record { pending = c.pop.new.self; found = c.items.self.found; cells = c.items.self.cells; names = c.begin_name.new.followed })
    c.in-Some.item c.in-Some.ensures.items c.in-Name.number c.in_ok-begin_name-in-Name.field-0 c.in-Name.is refl refl
    c.in_ok-begin_name-in-Name.ensures c.if-branch.true c.items.invariant

pub items-preserved : goal.items-preserved
items-preserved c =
    passes_name c.args.names.now c.args.self.now c.items.self (record { pending = c.pop.new.self; found = c.items.self.found; cells = c.items.self.cells; names = c.begin_name.new.followed })
    c.in-Some.item c.in-Some.ensures.items c.in-Name.number c.in_ok-begin_name-in-Name.field-0 c.in-Name.is refl refl
    c.in_ok-begin_name-in-Name.ensures c.if-branch.false c.items.invariant
