-- Demand 3, proved: `any_order`, `all_finished`, `no-matter` (specs/Demand has their words). The desk is seen as a state of the plan (proofs/Planned),
-- and each of its steps as the plan's.
-- Assumes nothing.
use mathlib.Core.Path.{◌≡◌, refl, sym, ap, ap₂, ◌∙◌, subst, fun_ext}
use mathlib.Core.Logic.{◌⊎◌}
use mathlib.Core.Bool.{Bool, true, false}
use mathlib.Core.List.{List, [], ◌∷◌}
use Prim.Native.Nat.{ℕ, zero, suc, ◌+◌, ◌≤◌, ◌<◌}
use native.Mathlib.Decide.{ℕ_discrete, dec_lt}
use native.Mathlib.Numerals.{add-one}
use native.Mathlib.Omega.{arith}
use lib.Dec.{ltb}
use lib.ListN.{length, get_or, set, length-set}
use lib.Seq.{ext_get_or, get_or-set_same, get_or-set_other}
use borrow.Author.Tests.{lt-ltb, le-ltb}
use Rattle.ground.specs.Pick.{pick}
use Rattle.ground.specs.Script.{Patch, run}
use Rattle.ground.specs.Span.{span}
use Rattle.ground.specs.Window.{Plan, St, After, Stepped, moved, bump, rows, act, step, play, fresh, wholes}
use Rattle.ground.proofs.Picks.{pick_true, pick-false}
use Rattle.ground.proofs.Spans as spans
use Rattle.ground.proofs.Windows.{bump-same, bump-other, kind-moved, kind-finished, kind-nojob, after-fresh, after-step}
use Rattle.ground.proofs.Orders as orders
use Rattle.jobs.specs.declared.job.record.Job.{Job}
use Rattle.jobs.specs.job.Job.{no_job, job_at, is_load, count_of}
use Rattle.jobs.specs.Admit.{Handed, handed}
use Rattle.jobs.specs.Step.{done_number, step_number}
use Rattle.order.specs.steps.Turn.{with_done, names}
use Rattle.order.specs.Desk.{Given, Desk, Buffers, buffers, handed_by, answer_to, turn, plays}
use Rattle.order.specs.Demand.{Admitted, InWindow, on_buffer, first_rows, done_by, AnyOrder, Finishes, Whole, whole_script, all_whole}
use Rattle.order.proofs.Admission.{Fit, Accepted, accepted}
use Rattle.order.proofs.Planned.{script, worked, plan_of, free}
use Rattle.order.proofs.Turns as turns
use Rattle.order.proofs.Wholes.{load-whole, save-whole}

-- ---- rows of work, one after the other, as far as they are laid over one buffer: a job lays all it lays there, or nothing

all-or-none : (b : ℕ) (j : Job) → ((ps : List Patch) → on_buffer b j ps ≡ ps) ⊎ ((ps : List Patch) → on_buffer b j ps ≡ [])
all-or-none zero j = by (is_load j)
  where
    by : (x : Bool) → ((ps : List Patch) → pick x ps [] ≡ ps) ⊎ ((ps : List Patch) → pick x ps [] ≡ [])
    by true = ◌⊎◌.inl (λ ps. refl)
    by false = ◌⊎◌.inr (λ ps. refl)
all-or-none (suc zero) j = by (is_load j)
  where
    by : (x : Bool) → ((ps : List Patch) → pick x [] ps ≡ ps) ⊎ ((ps : List Patch) → pick x [] ps ≡ [])
    by true = ◌⊎◌.inr (λ ps. refl)
    by false = ◌⊎◌.inl (λ ps. refl)
all-or-none (suc (suc b)) j = ◌⊎◌.inr (λ ps. refl)

module _ (b : ℕ) (j : Job) (f : ℕ → List Patch) (l : List ℕ) where
  none-laid : l ≡ run (on_buffer b j (span f 0 0)) l
  unfolding run
  none-laid = by (all-or-none b j)
    where
      by : ((ps : List Patch) → on_buffer b j ps ≡ ps) ⊎ ((ps : List Patch) → on_buffer b j ps ≡ []) → l ≡ run (on_buffer b j (span f 0 0)) l
      by (◌⊎◌.inl a) = rw (a (span f 0 0)) (spans.start f 0 l)
      by (◌⊎◌.inr a) = rw (a (span f 0 0)) refl

  one_more : (k : ℕ) → run (on_buffer b j (f k)) (run (on_buffer b j (span f 0 k)) l) ≡ run (on_buffer b j (span f 0 (suc k))) l
  unfolding run
  one_more k = by (all-or-none b j)
    where
      by : ((ps : List Patch) → on_buffer b j ps ≡ ps) ⊎ ((ps : List Patch) → on_buffer b j ps ≡ [])
          → run (on_buffer b j (f k)) (run (on_buffer b j (span f 0 k)) l) ≡ run (on_buffer b j (span f 0 (suc k))) l
      by (◌⊎◌.inl a) = rw (a (f k), a (span f 0 k), a (span f 0 (suc k))) (spans.more f 0 k (omega arith) l refl refl ∙ ap (λ (n : ℕ). run (span f 0 n) l) (add-one k))
      by (◌⊎◌.inr a) = rw (a (f k), a (span f 0 k), a (span f 0 (suc k))) refl

rows_are : (g : Given) (d : Desk) (j k : ℕ) (m : Buffers) (b : ℕ) → rows (plan_of g d) j k m b ≡ run (on_buffer b (job_at d.batch j) (first_rows g (job_at d.batch j) k)) (m b)
rows_are g d j zero m b = none-laid b (job_at d.batch j) (script g (job_at d.batch j)) (m b)
rows_are g d j (suc k) m b =
    ap (run (on_buffer b (job_at d.batch j) (script g (job_at d.batch j) k))) (rows_are g d j k m b)
    ∙ one_more b (job_at d.batch j) (script g (job_at d.batch j)) (m b) k

-- a row laid on the desk is a row laid over each of its buffers
laid : (g : Given) (k : ℕ) (j : Job) (c : ℕ) (e : Desk) → buffers (turns.onward g k j c e) ≡ worked g j c (buffers e)
unfolding run
laid g k j c e = fun_ext by
  where
    by : (b : ℕ) → buffers (turns.onward g k j c e) b ≡ worked g j c (buffers e) b
    by zero = refl
    by (suc zero) = refl
    by (suc (suc b)) = refl

module _ (g : Given) (d : Desk) (adm : Admitted g d) where
  abbrev n : ℕ
  n = d.batch.n

  abbrev J : ℕ → Job
  J j = job_at d.batch j

  abbrev P : Plan
  P = plan_of g d

  ok : Accepted (handed_by g d) d.batch
  ok = accepted (handed_by g d) d.batch adm.accepted

  -- a desk as a state of the plan
  record Seen (e : Desk) (s : St P) : Type 0 where
    mem : buffers e ≡ s.mem
    many : e.batch.n ≡ n
    places : length e.batch.jobs ≡ 8
    each : (j : ℕ) → j < n → job_at e.batch j ≡ with_done (J j) (s.done j)
    others : (j : ℕ) → n ≤ j → job_at e.batch j ≡ J j

  start : Seen d (fresh P (buffers d))
  start = record {
    mem = refl;
    many = refl;
    places = adm.places;
    each = λ j h. ap (with_done (J j)) (adm.unstepped j h);
    others = λ j h. refl;
  }

  abbrev Ok : St P → Type 0
  Ok s = After P (buffers d) (λ _. buffers d) s

  -- what it is handed is what admission was handed
  handed-alike : (e : Desk) (s : St P) → Seen e s → Ok s → handed_by g e ≡ handed_by g d
  handed-alike e s v a =
      ap₂ (handed g.frame g.lent g.fields g.recs) (ap (λ (m : Buffers). length (m 0)) v.mem ∙ a.ok 0)
      (ap (λ (m : Buffers). length (m 1)) v.mem ∙ a.ok 1)

  module _ (e : Desk) (s : St P) (v : Seen e s) (a : Ok s) (k : ℕ) where
    named : k < n → names e.batch k ≡ true
    named h = turns.named_in e.batch k (omega (arith, ok.few, v.many)) (omega (arith, v.many))

    number : {c : ℕ} → step_number (handed_by g d) (with_done (J k) (s.done k)) ≡ c → step_number (handed_by g e) (with_done (J k) (s.done k)) ≡ c
    number z = ap (λ (h : Handed). step_number h (with_done (J k) (s.done k))) (handed-alike e s v a) ∙ z

    goes : (h : k < n) → s.done k < count_of g.frame (J k) → step_number (handed_by g e) (with_done (J k) (s.done k)) ≡ 0
    goes h l = number (turns.moves (handed_by g d) (J k) (ok.each k h) (s.done k) l)

    rests : (h : k < n) → ¬ (s.done k < count_of g.frame (J k)) → step_number (handed_by g e) (with_done (J k) (s.done k)) ≡ done_number
    rests h l = number (turns.finished (handed_by g d) (J k) (ok.each k h) (s.done k) (omega (arith, a.within k h, l)))

    -- the answer
    answer : k < n → answer_to g k e ≡ pick (ltb (s.done k) (count_of g.frame (J k))) 0 done_number
    answer h = by (dec_lt (s.done k) (count_of g.frame (J k)))
      where
        by : Dec (s.done k < count_of g.frame (J k)) → answer_to g k e ≡ pick (ltb (s.done k) (count_of g.frame (J k))) 0 done_number
        by (yes l) = (turns.moved g k e (J k) (s.done k) (v.each k h) (named h) (goes h l)).0 ∙ sym (pick_true done_number (lt-ltb (s.done k) (count_of g.frame (J k)) l))
        by (no l) = (turns.stayed g k e (J k) (s.done k) (v.each k h) (named h) (rests h l)).0 ∙ sym (pick-false 0 (le-ltb (s.done k) (count_of g.frame (J k)) (omega arith)))

    none : n ≤ k → (answer_to g k e ≡ 12) × (turn g k e ≡ e)
    none h = turns.no_one g k e (turns.named-out e.batch k (omega (arith, v.many)))

    -- the step is the plan's
    seen_step : Seen (turn g k e) (step P k s)
    seen_step = by (dec_lt k n)
      where
        -- one more row of job k
        after : k < n → Seen (turns.onward g k (J k) (s.done k) e) (act P moved k s)
        after h = record {
          mem = laid g k (J k) (s.done k) e ∙ ap (worked g (J k) (s.done k)) v.mem;
          many = v.many;
          places = length-set e.batch.jobs k (with_done (J k) (s.done k + 1)) ∙ v.places;
          each = λ j l. job j l (ℕ_discrete j k);
          others = λ j l. get_or-set_other e.batch.jobs k j (with_done (J k) (s.done k + 1)) no_job (omega arith) ∙ v.others j l;
        }
          where
            job : (j : ℕ) → j < n → Dec (j ≡ k) → get_or (set e.batch.jobs k (with_done (J k) (s.done k + 1))) j no_job ≡ with_done (J j) (bump k s.done j)
            job j l (yes q) =
                ap (λ (x : ℕ). get_or (set e.batch.jobs k (with_done (J k) (s.done k + 1))) x no_job) q
                ∙ get_or-set_same e.batch.jobs k (with_done (J k) (s.done k + 1)) no_job (omega (arith, v.places, ok.few, h))
                ∙ ap (with_done (J k)) (add-one (s.done k) ∙ sym (bump-same k s.done))
                ∙ ap (λ (x : ℕ). with_done (J x) (bump k s.done x)) (sym q)
            job j l (no q) =
                get_or-set_other e.batch.jobs k j (with_done (J k) (s.done k + 1)) no_job q ∙ v.each j l
                ∙ ap (with_done (J j)) (sym (bump-other k j s.done q))

        there : k < n → Dec (s.done k < count_of g.frame (J k)) → Seen (turn g k e) (step P k s)
        there h (yes l) =
            subst (λ (x : Desk). Seen x (step P k s)) (sym (turns.moved g k e (J k) (s.done k) (v.each k h) (named h) (goes h l)).1)
            (subst (λ y. Seen (turns.onward g k (J k) (s.done k) e) (act P y k s)) (sym (kind-moved P k s.done h l refl)) (after h))
        there h (no l) =
            subst (λ (x : Desk). Seen x (step P k s)) (sym (turns.stayed g k e (J k) (s.done k) (v.each k h) (named h) (rests h l)).1)
            (subst (λ y. Seen e (act P y k s)) (sym (kind-finished P k s.done h (omega arith))) v)

        by : Dec (k < n) → Seen (turn g k e) (step P k s)
        by (yes h) = there h (dec_lt (s.done k) (count_of g.frame (J k)))
        by (no h) =
            subst (λ (x : Desk). Seen x (step P k s)) (sym (none (omega arith)).1)
            (subst (λ y. Seen e (act P y k s)) (sym (kind-nojob P k s.done (omega arith))) v)

  -- and so is every list of steps
  seen_all : (ks : List ℕ) (e : Desk) (s : St P) → Seen e s → Ok s → Seen (plays g ks e) (play P ks s) × Ok (play P ks s)
  seen_all [] e s v a = (v, a)
  seen_all (k ∷ ks) e s v a = seen_all ks (turn g k e) (step P k s) (seen_step e s v a k) (kept a)
    where
      kept : Ok s → Ok (step P k s)
      kept a = after-step P (buffers d) (λ _. buffers d) (orders.laws P (buffers d) (free g d ok)) k s a

  seen : (ks : List ℕ) → Seen (plays g ks d) (play P ks (fresh P (buffers d))) × Ok (play P ks (fresh P (buffers d)))
  seen ks = seen_all ks d (fresh P (buffers d)) start (after-fresh P (buffers d) (λ _. buffers d) (orders.laws P (buffers d) (free g d ok)))

  -- THE THEOREM
  pub any_order : (ks : List ℕ) → AnyOrder g d ks (plays g ks d)
  any_order ks = record {
    record_of = λ j h. v.each j h ∙ ap (with_done (J j)) (t.count j h);
    many = v.many;
    behind = v.others;
    places = v.places ∙ sym adm.places;
    windows = λ j b i h w. held j b i h w ∙ ap (λ (ps : List Patch). get_or (run ps (buffers d b)) i 0) (whole-laid (J j) b i (first_rows g (J j) (done_by g d ks j)) w);
    rest = λ b i f. ap (λ (m : Buffers). get_or (m b) i 0) v.mem ∙ t.rest (b, i) (λ j h w. f j h w.1);
    lengths = λ b. ap (λ (m : Buffers). length (m b)) v.mem ∙ t.ok b;
    answers = λ k h. answer (plays g ks d) s v (seen ks).1 k h ∙ ap (λ (c : ℕ). pick (ltb c (count_of g.frame (J k))) 0 done_number) (t.count k h);
    no-job = λ k h. none (plays g ks d) s v (seen ks).1 k h;
  }
    where
      s : St P
      s = play P ks (fresh P (buffers d))

      v : Seen (plays g ks d) s
      v = (seen ks).0

      t : Stepped P (buffers d) ks s
      t = orders.any_order P (buffers d) (free g d ok) ks

      held : (j b i : ℕ) → j < n → InWindow g (J j) b i
          → get_or (buffers (plays g ks d) b) i 0 ≡ get_or (run (on_buffer b (J j) (first_rows g (J j) (done_by g d ks j))) (buffers d b)) i 0
      held j b i h w =
          ap (λ (m : Buffers). get_or (m b) i 0) v.mem ∙ t.window j (b, i) h (h, w)
          ∙ ap (λ (l : List ℕ). get_or l i 0) (rows_are g d j (done_by g d ks j) (buffers d) b)

      -- a job with a window in a buffer lays all that it lays there
      whole-laid : (j : Job) (b i : ℕ) (ps : List Patch) → InWindow g j b i → on_buffer b j ps ≡ ps
      whole-laid j zero i ps w = pick_true [] w.0
      whole-laid j (suc zero) i ps w = pick-false [] w.0
      whole-laid j (suc (suc b)) i ps w = absurd w

  -- two lists of steps that take each job equally far end in one desk, records too
  pub no-matter : (q r : List ℕ) → ((j : ℕ) → j < n → done_by g d q j ≡ done_by g d r j) → plays g q d ≡ plays g r d
  no-matter q r a = λ i. record { batch = record { n = (v.many ∙ sym w.many) i; jobs = jobs i }; proj = mems i 0; saved = mems i 1 }
    where
      v : Seen (plays g q d) (play P q (fresh P (buffers d)))
      v = (seen q).0

      w : Seen (plays g r d) (play P r (fresh P (buffers d)))
      w = (seen r).0

      same : play P q (fresh P (buffers d)) ≡ play P r (fresh P (buffers d))
      same = orders.no-matter P (buffers d) (free g d ok) q r a

      mems : buffers (plays g q d) ≡ buffers (plays g r d)
      mems = v.mem ∙ ap (λ (s : St P). s.mem) same ∙ sym w.mem

      job : (j : ℕ) → Dec (j < n) → job_at (plays g q d).batch j ≡ job_at (plays g r d).batch j
      job j (yes h) = v.each j h ∙ ap (λ (s : St P). with_done (J j) (s.done j)) same ∙ sym (w.each j h)
      job j (no h) = v.others j (omega arith) ∙ sym (w.others j (omega arith))

      jobs : (plays g q d).batch.jobs ≡ (plays g r d).batch.jobs
      jobs = ext_get_or no_job (plays g q d).batch.jobs (plays g r d).batch.jobs (v.places ∙ sym w.places) (λ j _. job j (dec_lt j n))

  -- all finished equals all run whole in list order
  wholes-are : (i : ℕ) → i ≤ n → (b : ℕ) → wholes P i (buffers d) b ≡ all_whole g d i b
  wholes-are zero l b = refl
  wholes-are (suc i) l b =
      rows_are g d i (count_of g.frame (J i)) (wholes P i (buffers d)) b
      ∙ ap₂ (λ (ps : List Patch) (x : List ℕ). run (on_buffer b (J i) ps) x) (script-whole (is_load (J i)) refl) (wholes-are i (omega arith) b)
    where
      f : Fit (handed_by g d) (J i)
      f = ok.each i (omega arith)

      script-whole : (x : Bool) → is_load (J i) ≡ x → first_rows g (J i) (count_of g.frame (J i)) ≡ whole_script g d (J i)
      script-whole true e = load-whole (handed_by g d) (J i) f e ∙ sym (pick_true _ e)
      script-whole false e = save-whole (handed_by g d) (J i) f e ∙ sym (pick-false _ e)

  pub all_finished : (ks : List ℕ) → Finishes g d ks → Whole g d (plays g ks d)
  all_finished ks a = record {
    each = λ b. ap (λ (m : Buffers). m b) ((seen ks).0.mem ∙ orders.all_named P (buffers d) (free g d ok) ks a) ∙ wholes-are n (omega arith) b;
  }
