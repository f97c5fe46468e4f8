-- What tokens do to the operands in both readings: texts of trees.
use Rattle.std.proofs.Common.{◌≡◌, ℕ, zero, suc, List, [], ◌∷◌, ◌++◌, map, append-nil, refl, sym, ap, subst, codes, Result, Ok, Err}
use Rattle.std.proofs.lemmas.List.{length-map}
use Rattle.xls_record.specs.declared.error.XlsError.{XlsError}
use Rattle.xls_record.specs.declared.error.XlsError.TheVariants as errors
use Rattle.xls_formula.specs.Effects as exact
use Rattle.xls_formula.specs.Fold as fold
use Rattle.xls_formula.specs.Tree.{Tree, Trees, no_trees, tree, render, render_each, separated}
use Rattle.xls_shown_ptg.specs.Reading.{◌>>=◌, lifted}
use Rattle.xls_shown_ptg.specs.declared.fault.Fault.{Fault}
use Rattle.xls_shown_ptg.specs.declared.fault.Fault.TheVariants as faults
use Rattle.xls_formula_shown.specs.ShownEffects as shows
use Rattle.xls_formula_shown.specs.ShownFold.{call_text, change, gather, whole}
use Rattle.xls_formula_shown.specs.State.{Operand, State, alike, nothing_waits, written}

-- ---- operands

abbrev pub operand : Tree → Operand
operand t = alike (render t)

abbrev pub operands : List Tree → List Operand
operands ts = map operand ts

abbrev pub state_of : List Tree → State
state_of ts = record { operands = operands ts; waiting = nothing_waits; front = [] }

-- ---- calls

abbrev each : Trees → List Operand
each no_trees = []
each (tree t ts) = operand t ∷ each ts

each_shown : (ts : Trees) → map (λ (t : Operand). t.shown) (each ts) ≡ render_each ts
each_shown no_trees = refl
each_shown (tree t ts) = ap (λ (texts : List (List ℕ)). render t ∷ texts) (each_shown ts)

abbrev called : List ℕ → Result (List Operand × List Operand) Fault → Result (List Operand) Fault
called name r = r >>= (λ x. Ok (alike (call_text nothing_waits name x.0) ∷ x.1))

gathers : (n : ℕ) (name : List ℕ) (acc : Trees) (ts : List Tree)
    → called name (gather n (each acc) (operands ts)) ≡ lifted operands (fold.gather n name acc ts)
gathers zero name acc ts =
    ap (λ (texts : List (List ℕ)). Ok (alike (name ++ (codes "(" ++ (separated texts ++ codes ")"))) ∷ operands ts)) (each_shown acc)
gathers (suc n) name acc [] = refl
gathers (suc n) name acc (t ∷ ts) = gathers n name (tree t acc) ts

-- ---- one token

-- it does in one reading what it does in the other
abbrev pub Does : exact.Effect → shows.Effect → Type 0
Does e f = (ts : List Tree) → change f (state_of ts) ≡ lifted state_of (fold.grow e ts)

stand : (r : Result (List Tree) XlsError) (s : Result (List Operand) Fault) → s ≡ lifted operands r
    → s >>= (λ os. Ok (written os (state_of []))) ≡ lifted state_of r
stand (Ok ts) s e = ap (λ (x : Result (List Operand) Fault). x >>= (λ os. Ok (written os (state_of [])))) e
stand (Err x) s e = ap (λ (x : Result (List Operand) Fault). x >>= (λ os. Ok (written os (state_of [])))) e

pub pushes_do : (t : Tree) (text : List ℕ) → text ≡ render t → Does (exact.pushes t) (shows.pushes text)
pushes_do t text e ts = ap (λ (x : List ℕ). Ok (written (alike x ∷ operands ts) (state_of []))) e

pub leads_do : (sign : List ℕ) → Does (exact.wraps sign []) (shows.leads sign)
leads_do sign [] = refl
leads_do sign (t ∷ ts) = ap (λ (x : List ℕ). Ok (written (alike (sign ++ x) ∷ operands ts) (state_of []))) (sym (append-nil (render t)))

pub trails_do : (sign : List ℕ) → Does (exact.wraps [] sign) (shows.trails sign)
trails_do sign [] = refl
trails_do sign (t ∷ ts) = refl

pub encloses_do : Does (exact.wraps (codes "(") (codes ")")) shows.encloses
encloses_do [] = refl
encloses_do (t ∷ ts) = refl

pairs_alike : (operator : List ℕ) → Does (exact.pairs operator) (shows.pairs operator)
pairs_alike operator [] = refl
pairs_alike operator (t ∷ []) = refl
pairs_alike operator (t ∷ u ∷ ts) = refl

pub pairs_do : (operator sign : List ℕ) → sign ≡ operator → Does (exact.pairs operator) (shows.pairs sign)
pairs_do operator sign e = subst (λ x. Does (exact.pairs operator) (shows.pairs x)) (sym e) (pairs_alike operator)

pub sum_does : Does (exact.wraps (codes "SUM(") (codes ")")) (shows.calls 1 (codes "SUM"))
sum_does [] = refl
sum_does (t ∷ ts) = refl

calls_alike : (count : ℕ) (name : List ℕ) → Does (exact.calls count name) (shows.calls count name)
calls_alike count name ts =
    stand (fold.gather count name no_trees ts) (called name (gather count [] (operands ts))) (gathers count name no_trees ts)

pub calls_do : (count other : ℕ) (name : List ℕ) → other ≡ count → Does (exact.calls count name) (shows.calls other name)
calls_do count other name e = subst (λ n. Does (exact.calls count name) (shows.calls n name)) (sym e) (calls_alike count name)

pub keeps_do : Does exact.keeps shows.keeps
keeps_do ts = refl

-- ---- the whole

pub whole_is : (ts : List Tree) → whole [] (operands ts) ≡ lifted render (fold.one_tree ts)
whole_is [] = refl
whole_is (t ∷ []) = refl
whole_is (t ∷ u ∷ ts) = ap (λ n. Err (faults.Xls (errors.InvalidFormula n))) (length-map (t ∷ u ∷ ts) operand)
