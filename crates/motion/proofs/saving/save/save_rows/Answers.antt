-- `motion::saving::save::save_rows` meets its contract.
use Rattle.std.specs.Prelude.{Option, ℕ}
use mathlib.Core.Path.{refl, ap, ◌∙◌}
use native.Mathlib.Omega.{arith}
use Rattle.ground.specs.Script.{run}
use Rattle.ground.proofs.Spans.{start, more, stop, all-accept}
use Rattle.motion.specs.saving.Save.{row_read, place_patch, row_patch}
use Rattle.motion.proofs.saving.Saves.{row_room, rows_all, due}
use Rattle.motion.proofs.saving.save.save_rows.Goals as goal

pub records-total-requires : goal.records-total-requires
records-total-requires c = let s = c in (due s.args.recs.now s.args.f s.args.a s.args.sby s.args.pass _ refl refl s.requires).sizes

pub loop-y-init : goal.loop-y-init
loop-y-init c = (omega arith, start _ _ _)

pub row_entry-entry-requires : goal.row_entry-entry-requires
row_entry-entry-requires c =
    let s = c in
    let d = due s.args.recs.now s.args.f s.args.a s.args.sby s.args.pass _ refl refl s.requires in
    (d.sizes, d.area)

pub save_row-requires : goal.save_row-requires
unfolding row_read
save_row-requires c =
    let s = c in
    let l = c.loop-y in
    let t = c.loop-y-test.true in
    let d = due s.args.recs.now s.args.f s.args.a s.args.sby s.args.pass _ c.strip_in-w.ensures c.records-total.ensures s.requires in
    record { row_room = row_room _ _ _ _ _ d.room l.auto.field t; at_value = rw c.row_entry-entry.ensures (all-accept _ _ _ _ d.reads l.auto.y t) }

pub loop-y-preserved : goal.loop-y-preserved
unfolding row_patch
loop-y-preserved c =
    let a = c.args in
    let l = c.loop-y in (
      omega arith,
      more _ _ _ l.auto.y _ l.invariant.1
          (c.save_row.ensures ∙ ap (λ (p : Option ℕ). run (place_patch a.recs.now a.f.refs c.strip_in-w.result l.y p) l.field) c.row_entry-entry.ensures),
    )

pub returns : goal.returns
returns c =
    let a = c.args in
    let l = c.loop-y in
    rows_all a.recs.now a.f a.a a.sby a.pass _ _ c.strip_in-w.ensures c.requires
    (stop _ _ _ _ (omega (arith, l.invariant.0)) _ l.invariant.1)
