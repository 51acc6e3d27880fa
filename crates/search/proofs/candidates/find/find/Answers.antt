-- `search::candidates::find::find` meets its contract: of `planned` and `slot` the proof knows their contracts alone.
use mathlib.Core.Path.{◌≡◌, sym, ap, ◌∙◌}
use mathlib.Core.List.{List}
use Prim.Native.Nat.{ℕ, suc, ◌<◌}
use native.Mathlib.Numerals.{add-one}
use native.Mathlib.Omega.{arith}
use lib.ListN.{length, get_or, set}
use Rattle.stack.specs.declared.candidate.Candidate.{Candidate}
use Rattle.stack.specs.Stack.{nobody}
use Rattle.search.specs.declared.candidates.plan.Plan.{Plan}
use Rattle.search.specs.declared.candidates.plan.Listing.{Listing}
use Rattle.search.specs.declared.front.ask.Ask.{Ask}
use Rattle.search.specs.candidates.Each.{map_from}
use Rattle.search.specs.candidates.Plan.{plan_of, slot_of}
use Rattle.search.proofs.candidates.Eaches.{map_from-none, map_from-next}
use Rattle.search.proofs.candidates.Plans.{small}
use Rattle.search.proofs.candidates.find.find.Goals as goal

-- a record that is stored to is there, and is one of eight
there : (slots : ℕ) (frame tile recs proj : List ℕ) (a : Ask) {p : Plan} → p ≡ plan_of slots frame tile recs proj a → {i : ℕ} → i < p.n → (i < slots) × (i < 8)
there slots frame tile recs proj a e h =
    let s = small slots frame tile recs proj a in
    let n = ap (λ (q : Plan). q.n) e in
    (omega (arith, s.0, n), omega (arith, s.1, n))

-- one record more
next : (r : Listing) (cs zs : List Candidate) (i : ℕ) {u : Candidate} → i < length cs
    → zs ≡ map_from (λ d j. slot_of d r j) cs 0 i → u ≡ slot_of (get_or zs i nobody) r i → set zs i u ≡ map_from (λ d j. slot_of d r j) cs 0 (suc i)
next r cs zs i h e f =
    ap (set zs i) f
    ∙ ap (λ (ys : List Candidate). set ys i (slot_of (get_or ys i nobody) r i)) e
    ∙ sym (map_from-next (λ d j. slot_of d r j) nobody cs i h)

pub loop-i-init : goal.loop-i-init
loop-i-init c = sym (map_from-none (λ d j. slot_of d c.planned-p.result.found j) nobody c.args.stack.now 0)

pub offset_bounds-stack-i : goal.offset_bounds-stack-i
offset_bounds-stack-i c =
    let a = c.args in
    record { fits = omega (arith, (there (length a.stack.now) a.from.frame.now a.from.tile.now a.from.recs.now a.from.proj.now a.a c.planned-p.ensures {i = c.loop-i.i} (omega arith)).1) }

pub slice_copy_out-slot : goal.slice_copy_out-slot
slice_copy_out-slot c =
    let a = c.args in
    omega (arith, c.loop-i.auto.stack, (there (length a.stack.now) a.from.frame.now a.from.tile.now a.from.recs.now a.from.proj.now a.a c.planned-p.ensures {i = c.loop-i.i} (omega arith)).0)

pub slot-requires : goal.slot-requires
slot-requires c =
    let a = c.args in
    (there (length a.stack.now) a.from.frame.now a.from.tile.now a.from.recs.now a.from.proj.now a.a c.planned-p.ensures {i = c.loop-i.i} (omega arith)).1

pub offset_bounds-stack-i-in-loop-i : goal.offset_bounds-stack-i-in-loop-i
offset_bounds-stack-i-in-loop-i c =
    let a = c.args in
    record { fits = omega (arith, (there (length a.stack.now) a.from.frame.now a.from.tile.now a.from.recs.now a.from.proj.now a.a c.planned-p.ensures {i = c.loop-i.i} (omega arith)).1) }

pub bounds-stack-i : goal.bounds-stack-i
bounds-stack-i c =
    let a = c.args in
    omega (arith, c.loop-i.auto.stack, (there (length a.stack.now) a.from.frame.now a.from.tile.now a.from.recs.now a.from.proj.now a.a c.planned-p.ensures {i = c.loop-i.i} (omega arith)).0)

pub loop-i-preserved : goal.loop-i-preserved
loop-i-preserved c =
    let a = c.args in
    let h = (there (length a.stack.now) a.from.frame.now a.from.tile.now a.from.recs.now a.from.proj.now a.a c.planned-p.ensures {i = c.loop-i.i} (omega arith)).0 in
    rw (add-one c.loop-i.i) (next c.planned-p.result.found a.stack.now c.loop-i.stack c.loop-i.i h c.loop-i.invariant c.slot.ensures)
