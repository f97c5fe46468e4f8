-- The walk over the globals.
use Rattle.std.proofs.Common.{◌≡◌, ℕ, List, [], ◌∷◌, refl, ap, false, Option, Some, None}
use Rattle.std.specs.Prelude.{◌==◌}
use Rattle.xls_stream.specs.Stream.{Group, Begins}
use Rattle.xls_stream.specs.Substreams.{GlobalsPart}
use Rattle.xls_stream.specs.Counting.{From, globals_of, with_group}
use Rattle.xls_stream.specs.Cut.{Cut}
use Rattle.xls_stream.specs.Walks.{IsBytes}
use Rattle.xls_stream.specs.declared.part.Part.{Part}
use Rattle.xls_stream.proofs.Ends.{has_groups}
use Rattle.xls_stream.proofs.Outlines.{run_bytes, same_globals}
use Rattle.xls_open.specs.Steps.{after}

pub globals_from : (bytes : List ℕ) (groups : List Group) (cut : Option Part) → IsBytes bytes
    → From globals_of bytes groups cut → GlobalsPart bytes groups cut
globals_from bytes groups cut fits f = (same_globals bytes groups cut fits).1 f

-- ---- steps of the walk

pub begins_from : (rest : List ℕ) (g : Group) (after : List ℕ) (more : List Group) (cut : Option Part)
    → Begins rest g after → (g.typ == 0x000A) ≡ false → From globals_of after more cut
    → From globals_of rest (g ∷ more) cut
begins_from rest g after more cut b e f = record {
  all = g ∷ f.all;
  stop = f.stop;
  walk = record { rest = f.walk.rest; run = (after, b, f.walk.run); end = f.walk.end };
  is = rw e (ap (with_group g) f.is);
}

closes : (g : Group) (gs : List Group) (cut : Option Part) → g.typ ≡ 0x000A
    → globals_of (g ∷ gs) cut ≡ ([], None)
closes g gs cut e = rw e refl

pub eof_from : (rest : List ℕ) (g : Group) (after : List ℕ) → Begins rest g after → g.typ ≡ 0x000A
    → IsBytes rest → From globals_of rest [] None
eof_from rest g after b e fits =
    let w = has_groups after (run_bytes rest (g ∷ []) after (after, b, refl) fits) in
    record {
      all = g ∷ w.0;
      stop = w.1;
      walk = record { rest = w.2.rest; run = (after, b, w.2.run); end = w.2.end };
      is = closes g w.0 w.1 e;
    }

pub end_from : (rest : List ℕ) → rest ≡ [] → From globals_of rest [] None
end_from rest e = record {
  all = [];
  stop = None;
  walk = record { rest = rest; run = refl; end = e };
  is = refl;
}

pub cut_from : (rest : List ℕ) (p : Part) → Cut rest p → From globals_of rest [] (Some p)
cut_from rest p c = record {
  all = [];
  stop = Some p;
  walk = record { rest = rest; run = refl; end = c };
  is = refl;
}
