-- `motion::loading::step::load_step` meets its contract.
use mathlib.Core.List.{List}
use Prim.Native.Nat.{◌-◌, ◌/◌, ◌<◌}
use Rattle.ground.specs.Script.{Patch, run}
use Rattle.motion.proofs.loading.Steps.{within, clears, takes-read, takes}
use native.Mathlib.Omega.{arith}
use mathlib.Core.Path.{ap, ◌∙◌}
use borrow.Author.Rules.{rules}
use Rattle.motion.proofs.loading.step.load_step.Goals as goal

pub nonzero_div-pass : goal.nonzero_div-pass
nonzero_div-pass c = let s = c in let i = within _ _ _ c.rows_of-rows.ensures s.requires.k_bound.0 in i.some

pub nonzero_rem-y : goal.nonzero_rem-y
nonzero_rem-y c = let s = c in let i = within _ _ _ c.rows_of-rows.ensures s.requires.k_bound.0 in i.some

pub overflow_add-y : goal.overflow_add-y
overflow_add-y c = let s = c in let i = within _ _ _ c.rows_of-rows.ensures s.requires.k_bound.0 in omega (arith, i.under, s.requires.fields.bounded.low)

pub returns-then-pass-eq0 : goal.returns-then-pass-eq0
returns-then-pass-eq0 c =
    let s = c in
    c.clear_row.ensures ∙ ap (λ (p : List Patch). run p s.args.proj.now) (clears _ _ _ c.rows_of-rows.ensures _ c.if-pass-eq0.true)

pub offset_bounds-at-i : goal.offset_bounds-at-i
offset_bounds-at-i c = let s = c in let i = within _ _ _ c.rows_of-rows.ensures s.requires.k_bound.0 in let g = s.requires.fields.few in search rules

pub bounds-at-i : goal.bounds-at-i
bounds-at-i c = let s = c in let i = within _ _ _ c.rows_of-rows.ensures s.requires.k_bound.0 in omega (arith, i.pass, s.requires.fields.few, c.if-pass-eq0.false)

pub load_ref-requires : goal.load_ref-requires
load_ref-requires c =
    let s = c in
    let e = c.rows_of-rows.ensures in
    let i = within _ _ _ e s.requires.k_bound.0 in
    let h : s.args.k / c.rows_of-rows.result - 1 < s.args.us.n = omega (arith, i.pass, c.if-pass-eq0.false) in
    record { fielded = (s.requires.fields.each _ h, s.requires.fields.numbers _ h); top_le_y = (omega arith, i.under, s.requires.k_bound.1); w_value = takes-read _ _ _ e c.if-pass-eq0.false ∙ s.requires.k_value }

pub returns : goal.returns
returns c =
    let s = c in
    c.load_ref.ensures ∙ ap (λ (p : List Patch). run p s.args.proj.now) (takes _ _ _ c.rows_of-rows.ensures _ c.if-pass-eq0.false)
