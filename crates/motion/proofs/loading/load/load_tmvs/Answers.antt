-- `motion::loading::load::load_tmvs` meets its contract.
use Rattle.motion.proofs.loading.Steps.{front, ready, front-refuses, reads-refuse, loaded}
use Rattle.motion.specs.loading.Fields.{lengths_of, all_used}
use Rattle.motion.specs.loading.Load.{load_front}
use Rattle.frame.proofs.Records.{frame-sizes}
use Prim.Native.Nat.{ℕ}
use mathlib.Core.List.{List}
use mathlib.Core.Path.{◌≡◌, sym, ap, ◌∙◌}
use lib.ListN.{length}
use Rattle.motion.proofs.loading.load.load_tmvs.Goals as goal
use Rattle.motion.proofs.loading.load.load_tmvs.Goals.{After-load_front-front}

-- what is judged first, of the fields themselves
judged : (c : After-load_front-front) →
    let a = c.args in
    c.load_front-front.result ≡ load_front a.f a.a a.lent (lengths_of (all_used a.fields)) (length a.proj.now)
judged c = let a = c.args in c.load_front-front.ensures ∙ ap (λ (l : List ℕ). load_front a.f a.a a.lent l (length a.proj.now)) c.lengths.ensures

pub returns-then-front-ne0 : goal.returns-then-front-ne0
returns-then-front-ne0 c =
    let it = front-refuses (all_used c.args.fields) _ _ _ _ (judged (goal.at.returns-then-front-ne0 c).After-load_front-front) c.if-front-ne0.true in
    record { value = it.0; proj_after = it.1 }

pub window_in-w-requires : goal.window_in-w-requires
window_in-w-requires c = let p = front _ _ _ _ _ (sym c.load_front-front.ensures ∙ c.if-front-ne0.false) in (frame-sizes _ p.frame, p.area)

pub check_steps-answer-requires : goal.check_steps-answer-requires
check_steps-answer-requires c =
    let z = sym (judged (goal.at.check_steps-answer-requires c).After-load_front-front) ∙ c.if-front-ne0.false in
    (ready _ _ _ _ c.window_in-w.ensures c.uses_of-us.ensures (front _ _ _ _ _ z)).0

pub returns-then-answer-ne0 : goal.returns-then-answer-ne0
returns-then-answer-ne0 c =
    let z = sym (judged (goal.at.returns-then-answer-ne0 c).After-load_front-front) ∙ c.if-front-ne0.false in
    let it = reads-refuse (all_used c.args.fields) _ _ _ _ c.window_in-w.ensures c.uses_of-us.ensures z c.check_steps-answer.ensures c.if-answer-ne0.true in
    record { value = it.0; proj_after = it.1 }

pub load_steps-requires : goal.load_steps-requires
load_steps-requires c =
    let z = sym (judged (goal.at.load_steps-requires c).After-load_front-front) ∙ c.if-front-ne0.false in
    let r = ready _ _ _ _ c.window_in-w.ensures c.uses_of-us.ensures (front _ _ _ _ _ z) in
    record { fields = r.0; stride_in_bounds = r.1; us_value = sym c.check_steps-answer.ensures ∙ c.if-answer-ne0.false }

pub returns : goal.returns
returns c =
    let z = sym (judged (goal.at.returns c).After-load_front-front) ∙ c.if-front-ne0.false in
    let it = loaded (all_used c.args.fields) _ _ _ _ c.window_in-w.ensures c.uses_of-us.ensures z c.check_steps-answer.ensures c.if-answer-ne0.false c.load_steps.ensures in
    record { value = it.0; proj_after = it.1 }
