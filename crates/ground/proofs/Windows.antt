-- After any list of steps of a plan that has its `Laws`, `After` holds; and where the same rows are done the state is the same.
-- Assumes nothing.
use mathlib.Core.Path.{◌≡◌, refl, sym, ap, ◌∙◌, subst, fun_ext}
use mathlib.Core.Logic.{◌⊎◌, inl, inr, ◌≢◌}
use mathlib.Core.Bool.{Bool, true, false, true≢false}
use mathlib.Core.List.{List, [], ◌∷◌}
use Prim.Native.Nat.{ℕ, zero, suc, ◌≤◌, ◌<◌}
use native.Mathlib.Omega.{arith}
use native.Mathlib.Decide.{ℕ_discrete}
use lib.Dec.{ltb, eqb}
use borrow.Author.Tests.{ltb-true, ltb-false, lt-ltb, le-ltb, eq-eqb, ne_eqb}
use Rattle.ground.specs.Pick.{pick}
use Rattle.ground.specs.Window.{Plan, St, moved, waiting, finished, nojob, After, Laws, bump, rows, kind, act, step, play, fresh}

pub bump-same : (j : ℕ) (d : ℕ → ℕ) → bump j d j ≡ suc (d j)
bump-same j d = rw (eq-eqb j j refl)

pub bump-other : (j i : ℕ) (d : ℕ → ℕ) → i ≢ j → bump j d i ≡ d i
bump-other j i d h = rw (ne_eqb i j h)

-- What a step does, by its kind.
pub record Moves (P : Plan) (j : ℕ) (d : ℕ → ℕ) : Type 0 where
  pub job : j < P.jobs
  pub left : d j < P.cnt j
  pub clear : P.ready j d ≡ true
  pub is : kind P j d ≡ moved

pub kind-moved : (P : Plan) (j : ℕ) (d : ℕ → ℕ) → j < P.jobs → d j < P.cnt j → P.ready j d ≡ true → kind P j d ≡ moved
unfolding kind
kind-moved P j d a b c = rw (lt-ltb j P.jobs a, lt-ltb (d j) (P.cnt j) b, c)

pub kind-finished : (P : Plan) (j : ℕ) (d : ℕ → ℕ) → j < P.jobs → P.cnt j ≤ d j → kind P j d ≡ finished
unfolding kind
kind-finished P j d a b = rw (lt-ltb j P.jobs a, le-ltb (d j) (P.cnt j) b)

pub kind-waiting : (P : Plan) (j : ℕ) (d : ℕ → ℕ) → j < P.jobs → d j < P.cnt j → P.ready j d ≡ false → kind P j d ≡ waiting
unfolding kind
kind-waiting P j d a b c = rw (lt-ltb j P.jobs a, lt-ltb (d j) (P.cnt j) b, c)

pub kind-nojob : (P : Plan) (j : ℕ) (d : ℕ → ℕ) → P.jobs ≤ j → kind P j d ≡ nojob
unfolding kind
kind-nojob P j d a = rw (le-ltb j P.jobs a)

-- A step moves, or changes nothing.
pub step-cases : (P : Plan) (j : ℕ) (s : St P) → Moves P j s.done ⊎ (step P j s ≡ s)
step-cases P j s = a (ltb j P.jobs) refl
  where
    c : (t : Bool) → P.ready j s.done ≡ t → j < P.jobs → s.done j < P.cnt j → Moves P j s.done ⊎ (step P j s ≡ s)
    c true e h l = inl (record { job = h; left = l; clear = e; is = kind-moved P j s.done h l e })
    c false e h l = inr (ap (λ k. act P k j s) (kind-waiting P j s.done h l e))

    b : (t : Bool) → ltb (s.done j) (P.cnt j) ≡ t → j < P.jobs → Moves P j s.done ⊎ (step P j s ≡ s)
    b true e h = c (P.ready j s.done) refl h (ltb-true (s.done j) (P.cnt j) e)
    b false e h = inr (ap (λ k. act P k j s) (kind-finished P j s.done h (ltb-false (s.done j) (P.cnt j) e)))

    a : (t : Bool) → ltb j P.jobs ≡ t → Moves P j s.done ⊎ (step P j s ≡ s)
    a true e = b (ltb (s.done j) (P.cnt j)) refl (ltb-true j P.jobs e)
    a false e = inr (ap (λ k. act P k j s) (kind-nojob P j s.done (ltb-false j P.jobs e)))

-- A cell is in the window of a job below n, or of none.
pub owner : (P : Plan) → ((j : ℕ) (c : P.Cell) → Dec (P.W j c)) → (c : P.Cell) (n : ℕ) → ((j : ℕ) × (j < n) × P.W j c) ⊎ ((j : ℕ) → j < n → ¬ P.W j c)
owner P W? c zero = inr (λ j h. absurd (omega arith))
owner P W? c (suc n) = go (W? n c) (owner P W? c n)
  where
    go : Dec (P.W n c) → ((j : ℕ) × (j < n) × P.W j c) ⊎ ((j : ℕ) → j < n → ¬ P.W j c)
        → ((j : ℕ) × (j < suc n) × P.W j c) ⊎ ((j : ℕ) → j < suc n → ¬ P.W j c)
    go (yes w) o = inl (n, omega arith, w)
    go (no v) (inl o) = inl (o.0, omega (arith, o.1), o.2)
    go (no v) (inr o) = inr (λ j h w. other j h w (ℕ_discrete j n))
      where
        other : (j : ℕ) → j < suc n → P.W j c → Dec (j ≡ n) → ⊥
        other j h w (yes q) = v (subst (λ x. P.W x c) q w)
        other j h w (no q) = o j (omega arith) w

module _ (P : Plan) (m₀ : P.Mem) (start : ℕ → P.Mem) (L : Laws P m₀ start) where
  -- before any step
  pub after-fresh : After P m₀ start (fresh P m₀)
  after-fresh = record {
    ok = L.shape.ok₀;
    within = λ j h. omega arith;
    others = λ j h. refl;
    window = λ j c h w. L.begins j c h w;
    rest = λ c h. refl;
  }

  -- one row of job j
  after-row : (j : ℕ) (s : St P) → After P m₀ start s → j < P.jobs → s.done j < P.cnt j → P.ready j s.done ≡ true
      → After P m₀ start (act P moved j s)
  after-row j s a h l e = record {
    ok = L.shape.keeps j (s.done j) s.mem h l a.ok;
    within = λ i g. within i g (ℕ_discrete i j);
    others = λ i g. bump-other j i s.done (omega arith) ∙ a.others i g;
    window = λ i c g w. window i c g w (ℕ_discrete i j);
    rest = λ c n. L.shape.off j (s.done j) s.mem c h l a.ok (n j h) ∙ a.rest c n;
  }
    where
      within : (i : ℕ) → i < P.jobs → Dec (i ≡ j) → bump j s.done i ≤ P.cnt i
      within i g (yes q) = rw (q, bump-same j s.done) l
      within i g (no q) = rw (bump-other j i s.done q) (a.within i g)

      window : (i : ℕ) (c : P.Cell) → i < P.jobs → P.W i c → Dec (i ≡ j)
          → P.at (P.row j (s.done j) s.mem) c ≡ P.at (rows P i (bump j s.done i) (start i)) c
      window i c g w (yes q) = rw (q, bump-same j s.done) (L.own j s c a h l e (subst (λ x. P.W x c) q w))
      window i c g w (no q) = rw (bump-other j i s.done q)
          (L.shape.off j (s.done j) s.mem c h l a.ok (λ v. q (L.shape.apart i j c g h w v)) ∙ a.window i c g w)

  pub after-step : (j : ℕ) (s : St P) → After P m₀ start s → After P m₀ start (step P j s)
  after-step j s a = go (step-cases P j s)
    where
      go : Moves P j s.done ⊎ (step P j s ≡ s) → After P m₀ start (step P j s)
      go (inl m) = subst (λ k. After P m₀ start (act P k j s)) (sym m.is) (after-row j s a m.job m.left m.clear)
      go (inr q) = subst (After P m₀ start) (sym q) a

  pub after_run : (r : List ℕ) (s : St P) → After P m₀ start s → After P m₀ start (play P r s)
  after_run [] s a = a
  after_run (j ∷ r) s a = after_run r (step P j s) (after-step j s a)

  -- T1, but for the counts: after any list of steps.
  pub after : (r : List ℕ) → After P m₀ start (play P r (fresh P m₀))
  after r = after_run r (fresh P m₀) after-fresh

  -- Where the same rows are done, the memory is the same.
  pub mem-same : (s t : St P) → After P m₀ start s → After P m₀ start t → ((j : ℕ) → j < P.jobs → s.done j ≡ t.done j) → s.mem ≡ t.mem
  mem-same s t a b d = L.shape.ext s.mem t.mem a.ok b.ok (λ c. go c (owner P L.shape.W? c P.jobs))
    where
      go : (c : P.Cell) → ((j : ℕ) × (j < P.jobs) × P.W j c) ⊎ ((j : ℕ) → j < P.jobs → ¬ P.W j c) → P.at s.mem c ≡ P.at t.mem c
      go c (inl o) = a.window o.0 c o.1 o.2
          ∙ ap (λ k. P.at (rows P o.0 k (start o.0)) c) (d o.0 o.1) ∙ sym (b.window o.0 c o.1 o.2)
      go c (inr n) = a.rest c n ∙ sym (b.rest c n)

  -- and so is the whole state
  pub state-same : (s t : St P) → After P m₀ start s → After P m₀ start t → ((j : ℕ) → j < P.jobs → s.done j ≡ t.done j) → s ≡ t
  state-same s t a b d = λ i. record { mem = mem-same s t a b d i; done = fun_ext (λ j. go j (ltb j P.jobs) refl) i }
    where
      go : (j : ℕ) (x : Bool) → ltb j P.jobs ≡ x → s.done j ≡ t.done j
      go j true e = d j (ltb-true j P.jobs e)
      go j false e = a.others j (ltb-false j P.jobs e) ∙ sym (b.others j (ltb-false j P.jobs e))

-- ---- whole jobs, in list order

-- job j has done k rows, and the others what they had
abbrev pub upto : ℕ → ℕ → (ℕ → ℕ) → ℕ → ℕ
upto j k d i = pick (eqb i j) k (d i)

-- The first k rows of job j at once.
abbrev pub part : (P : Plan) → ℕ → ℕ → St P → St P
part P j k s = record { mem = rows P j k s.mem; done = upto j k s.done }

-- Of the jobs below n, in list order, those that f picks, each run whole.
abbrev pub pass : (P : Plan) → (ℕ → Bool) → ℕ → St P → St P
pass P f zero s = s
pass P f (suc n) s = pick (f n) (part P n (P.cnt n) (pass P f n s)) (pass P f n s)

-- the same, of the memory alone
abbrev pub passed : (P : Plan) → (ℕ → Bool) → ℕ → P.Mem → P.Mem
passed P f zero m = m
passed P f (suc n) m = pick (f n) (rows P n (P.cnt n) (passed P f n m)) (passed P f n m)

pub pass-mem : (P : Plan) (f : ℕ → Bool) (n : ℕ) (s : St P) → (pass P f n s).mem ≡ passed P f n s.mem
pass-mem P f zero s = refl
pass-mem P f (suc n) s = go (f n) (pass-mem P f n s)
  where
    go : (b : Bool) → (pass P f n s).mem ≡ passed P f n s.mem
        → (pick b (part P n (P.cnt n) (pass P f n s)) (pass P f n s)).mem ≡ pick b (rows P n (P.cnt n) (passed P f n s.mem)) (passed P f n s.mem)
    go true e = ap (rows P n (P.cnt n)) e
    go false e = e

pub with-same : (j k : ℕ) (d : ℕ → ℕ) → upto j k d j ≡ k
with-same j k d = rw (eq-eqb j j refl)

pub with-other : (j k i : ℕ) (d : ℕ → ℕ) → i ≢ j → upto j k d i ≡ d i
with-other j k i d h = rw (ne_eqb i j h)

with-zero : (j : ℕ) (d : ℕ → ℕ) → d j ≡ 0 → upto j 0 d ≡ d
with-zero j d z = fun_ext (λ i. go i (ℕ_discrete i j))
  where
    go : (i : ℕ) → Dec (i ≡ j) → upto j 0 d i ≡ d i
    go i (yes q) = rw q (with-same j 0 d ∙ sym z)
    go i (no q) = with-other j 0 i d q

with-bump : (j k : ℕ) (d : ℕ → ℕ) → bump j (upto j k d) ≡ upto j (suc k) d
with-bump j k d = fun_ext (λ i. go i (eqb i j))
  where
    go : (i : ℕ) (b : Bool) → pick b (suc (pick b k (d i))) (pick b k (d i)) ≡ pick b (suc k) (d i)
    go i true = refl
    go i false = refl

-- What a pass from s to t over the jobs below n that f picks has done.
pub record Passed (P : Plan) (m₀ : P.Mem) (start : ℕ → P.Mem) (f : ℕ → Bool) (n : ℕ) (s t : St P) : Type 0 where
  pub holds : After P m₀ start t
  pub whole : (i : ℕ) → i < n → f i ≡ true → t.done i ≡ P.cnt i
  pub kept : (i : ℕ) → f i ≡ false → t.done i ≡ s.done i
  pub later : (i : ℕ) → n ≤ i → t.done i ≡ s.done i

module _ (P : Plan) (m₀ : P.Mem) (start : ℕ → P.Mem) (L : Laws P m₀ start) where
  after-part : (j k : ℕ) (s : St P) → After P m₀ start s → j < P.jobs → s.done j ≡ 0 → k ≤ P.cnt j
      → ((i : ℕ) → i < k → P.ready j (upto j i s.done) ≡ true) → After P m₀ start (part P j k s)
  after-part j zero s a h z l e = subst (λ d. After P m₀ start (record { mem = s.mem; done = d })) (sym (with-zero j s.done z)) a
  after-part j (suc k) s a h z l e = subst (After P m₀ start) same
      (after-row P m₀ start L j (part P j k s) (after-part j k s a h z (omega arith) (λ i g. e i (omega arith))) h less (e k (omega arith)))
    where
      less : upto j k s.done j < P.cnt j
      less = rw (with-same j k s.done) l

      same : act P moved j (part P j k s) ≡ part P j (suc k) s
      same = λ i. record { mem = P.row j (with-same j k s.done i) (rows P j k s.mem); done = with-bump j k s.done i }

  -- A pass over the jobs that f picks, where each of those is unstepped and may move whatever they among themselves have done.
  pub after-pass : (f : ℕ → Bool) (s : St P) → After P m₀ start s
      → ((j : ℕ) → j < P.jobs → f j ≡ true → s.done j ≡ 0)
      → ((j : ℕ) (d : ℕ → ℕ) → j < P.jobs → f j ≡ true → ((i : ℕ) → f i ≡ false → d i ≡ s.done i) → P.ready j d ≡ true)
      → (n : ℕ) → n ≤ P.jobs → Passed P m₀ start f n s (pass P f n s)
  after-pass f s a z e zero l = record { holds = a; whole = λ i h _. absurd (omega arith); kept = λ i _. refl; later = λ i _. refl }
  after-pass f s a z e (suc n) l = go (f n) refl (after-pass f s a z e n (omega arith))
    where
      go : (b : Bool) → f n ≡ b → Passed P m₀ start f n s (pass P f n s)
          → Passed P m₀ start f (suc n) s (pick b (part P n (P.cnt n) (pass P f n s)) (pass P f n s))
      go false q p = record {
        holds = p.holds;
        whole = λ i h g. p.whole i (differ i h g (ℕ_discrete i n)) g;
        kept = p.kept;
        later = λ i h. p.later i (omega arith);
      }
        where
          differ : (i : ℕ) → i < suc n → f i ≡ true → Dec (i ≡ n) → i < n
          differ i h g (yes r) = absurd (true≢false (sym g ∙ ap f r ∙ q))
          differ i h g (no r) = omega arith
      go true q p = record {
        holds = after-part n (P.cnt n) t p.holds (omega arith) (p.later n (omega arith) ∙ z n (omega arith) q) (omega arith)
            (λ i h. e n (upto n i t.done) (omega arith) q (λ x g. with-other n i x t.done (not-n x g) ∙ p.kept x g));
        whole = λ i h g. fin i h g (ℕ_discrete i n);
        kept = λ i g. with-other n (P.cnt n) i t.done (not-n i g) ∙ p.kept i g;
        later = λ i h. with-other n (P.cnt n) i t.done (omega arith) ∙ p.later i (omega arith);
      }
        where
          t : St P
          t = pass P f n s

          not-n : (i : ℕ) → f i ≡ false → i ≢ n
          not-n i g r = true≢false (sym q ∙ ap f (sym r) ∙ g)

          fin : (i : ℕ) → i < suc n → f i ≡ true → Dec (i ≡ n) → upto n (P.cnt n) t.done i ≡ P.cnt i
          fin i h g (yes r) = rw r (with-same n (P.cnt n) t.done)
          fin i h g (no r) = with-other n (P.cnt n) i t.done r ∙ p.whole i (omega arith) g
