-- `motion::saving::save::check_rows` meets its contract.
use mathlib.Core.Path.{◌≡◌, ap, ◌∙◌}
use Rattle.ground.proofs.Spans.{asked, ask-on, ask-stops}
use Rattle.frame.proofs.Records.{frame-sizes}
use Rattle.motion.specs.saving.Save.{strip_read, row_read, save_table}
use Rattle.motion.proofs.saving.Saves.{walk-ready, reads_all}
use Rattle.motion.proofs.saving.save.check_rows.Goals as goal
use Rattle.motion.proofs.saving.save.check_rows.Goals.{After-check_row-answer}

read : (c : After-check_row-answer) →
    let a = c.args in
    c.check_row-answer.result ≡ row_read a.recs.now c.records-total.result (save_table a.f a.a a.sby a.pass) c.strip_in-w.result c.loop-y.y
unfolding row_read
read c = c.check_row-answer.ensures ∙ ap (strip_read _ _ _) c.row_entry.ensures

pub records-total-requires : goal.records-total-requires
records-total-requires c = frame-sizes c.args.f c.requires.frame

pub row_entry-requires : goal.row_entry-requires
row_entry-requires c = (frame-sizes c.args.f c.requires.frame, c.requires.area)

pub check_row-answer-requires : goal.check_row-answer-requires
check_row-answer-requires c = walk-ready c.args.f c.args.a c.strip_in-w.ensures c.records-total.ensures c.requires

pub returns-then-answer-ne0 : goal.returns-then-answer-ne0
returns-then-answer-ne0 c =
    let a = c.args in
    reads_all a.recs.now a.f a.a a.sby a.pass c.strip_in-w.ensures c.records-total.ensures
    (ask-stops _ _ _ c.loop-y-test.true (read (goal.at.returns-then-answer-ne0 c).After-check_row-answer) c.if-answer-ne0.true ∙ c.loop-y.invariant)

pub loop-y-preserved : goal.loop-y-preserved
loop-y-preserved c = ask-on _ _ _ c.loop-y-test.true (read (goal.at.loop-y-preserved c).After-check_row-answer) c.if-answer-ne0.false ∙ c.loop-y.invariant

pub returns : goal.returns
returns c =
    let a = c.args in
    reads_all a.recs.now a.f a.a a.sby a.pass c.strip_in-w.ensures c.records-total.ensures
    (asked _ _ _ c.loop-y-test.false ∙ c.loop-y.invariant)
