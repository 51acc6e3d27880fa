-- Jobs over one memory, each with a window of cells and a count of rows, stepped one row at a time in any order.
-- A plan says what the memory and the jobs are. `Free` is what is shown of a plan; `Stepped` is what then holds after any list of steps (proofs/Orders).
use Rattle.std.specs.Prelude.{◌≡◌, Bool, true, List, [], ◌∷◌, ℕ, zero, suc, ◌≤◌, ◌<◌, min, ltb, eqb}
use Rattle.ground.specs.Pick.{pick}

-- `at m c` is what memory m holds at cell c, and `Ok` says its shape, as the lengths of its buffers. There are `jobs` jobs, numbered from 0: `W j c` says that
-- cell c is in job j's window, `cnt j` is its count of rows, and `row j k` its k-th row of work. It may take its next row only where `ready j done` holds of
-- the rows that all jobs have done.
pub record Plan : Type 1 where
  pub Mem : Type 0
  pub Cell : Type 0
  pub Val : Cell → Type 0
  pub at : Mem → (c : Cell) → Val c
  pub Ok : Mem → Type 0
  pub W : ℕ → Cell → Type 0
  pub jobs : ℕ
  pub cnt : ℕ → ℕ
  pub row : ℕ → ℕ → Mem → Mem
  pub ready : ℕ → (ℕ → ℕ) → Bool

-- the memory, and how many rows each job has done
pub record St (P : Plan) : Type 0 where
  pub mem : P.Mem
  pub done : ℕ → ℕ

-- what a step answers
pub data Kind : Type 0 where
  moved waiting finished nojob : Kind

-- one more row done for job j
abbrev pub bump : ℕ → (ℕ → ℕ) → ℕ → ℕ
bump j d i = pick (eqb i j) (suc (d i)) (d i)

-- the first k rows of job j
abbrev pub rows : (P : Plan) → ℕ → ℕ → P.Mem → P.Mem
rows P j zero m = m
rows P j (suc k) m = P.row j k (rows P j k m)

unfoldable pub kind : (P : Plan) → ℕ → (ℕ → ℕ) → Kind
kind P j d = pick (ltb j P.jobs) (pick (ltb (d j) (P.cnt j)) (pick (P.ready j d) moved waiting) finished) nojob

abbrev pub act : (P : Plan) → Kind → ℕ → St P → St P
act P moved j s = record { mem = P.row j (s.done j) s.mem; done = bump j s.done }
act P waiting j s = s
act P finished j s = s
act P nojob j s = s

-- a step that names job j
abbrev pub step : (P : Plan) → ℕ → St P → St P
step P j s = act P (kind P j s.done) j s

-- a list of steps, the head of the list first
abbrev pub play : (P : Plan) → List ℕ → St P → St P
play P [] s = s
play P (j ∷ r) s = play P r (step P j s)

-- memory m, no job stepped yet
abbrev pub fresh : (P : Plan) → P.Mem → St P
fresh P m = record { mem = m; done = λ _. zero }

-- how often a list of steps names j
abbrev pub named : ℕ → List ℕ → ℕ
named j [] = zero
named j (i ∷ r) = pick (eqb j i) (suc (named j r)) (named j r)

-- every job below n run whole, the first of the list first
abbrev pub wholes : (P : Plan) → ℕ → P.Mem → P.Mem
wholes P zero m = m
wholes P (suc n) m = rows P n (P.cnt n) (wholes P n m)

-- What holds after any steps: `start j` is the memory from which job j's rows are counted, and `m₀` is the memory as lent.
pub record After (P : Plan) (m₀ : P.Mem) (start : ℕ → P.Mem) (s : St P) : Type 0 where
  pub ok : P.Ok s.mem
  pub within : (j : ℕ) → j < P.jobs → s.done j ≤ P.cnt j
  pub others : (j : ℕ) → P.jobs ≤ j → s.done j ≡ 0
  pub window : (j : ℕ) (c : P.Cell) → j < P.jobs → P.W j c → P.at s.mem c ≡ P.at (rows P j (s.done j) (start j)) c
  pub rest : (c : P.Cell) → ((j : ℕ) → j < P.jobs → ¬ P.W j c) → P.at s.mem c ≡ P.at m₀ c

-- What is shown of every plan: windows can be told and share no cell; a row keeps the memory's shape and changes nothing outside its job's window; memories
-- with equal cells are equal.
pub record Shape (P : Plan) (m₀ : P.Mem) : Type 0 where
  pub W? : (j : ℕ) (c : P.Cell) → Dec (P.W j c)
  pub apart : (i j : ℕ) (c : P.Cell) → i < P.jobs → j < P.jobs → P.W i c → P.W j c → i ≡ j
  pub ok₀ : P.Ok m₀
  pub keeps : (j k : ℕ) (m : P.Mem) → j < P.jobs → k < P.cnt j → P.Ok m → P.Ok (P.row j k m)
  pub off : (j k : ℕ) (m : P.Mem) (c : P.Cell) → j < P.jobs → k < P.cnt j → P.Ok m → ¬ P.W j c → P.at (P.row j k m) c ≡ P.at m c
  pub ext : (m t : P.Mem) → P.Ok m → P.Ok t → ((c : P.Cell) → P.at m c ≡ P.at t c) → m ≡ t

-- In general. `own` is the one law that speaks of what a row reads: where the job may move, its row on the memory as it stands and its row on its own
-- history leave the same in its window.
pub record Laws (P : Plan) (m₀ : P.Mem) (start : ℕ → P.Mem) : Type 0 where
  pub shape : Shape P m₀
  pub own : (j : ℕ) (s : St P) (c : P.Cell) → After P m₀ start s → j < P.jobs → s.done j < P.cnt j → P.ready j s.done ≡ true → P.W j c
      → P.at (P.row j (s.done j) s.mem) c ≡ P.at (rows P j (suc (s.done j)) (start j)) c
  pub begins : (j : ℕ) (c : P.Cell) → j < P.jobs → P.W j c → P.at m₀ c ≡ P.at (start j) c

-- Of jobs that never wait: what a row leaves in its job's window goes by that window alone.
pub record Free (P : Plan) (m₀ : P.Mem) : Type 0 where
  pub shape : Shape P m₀
  pub own : (j k : ℕ) (m t : P.Mem) → j < P.jobs → k < P.cnt j → P.Ok m → P.Ok t
      → ((c : P.Cell) → P.W j c → P.at m c ≡ P.at t c)
      → (c : P.Cell) → P.W j c → P.at (P.row j k m) c ≡ P.at (P.row j k t) c
  pub moves : (j : ℕ) (d : ℕ → ℕ) → P.ready j d ≡ true

-- What then holds after the steps r: each job has done as many rows as it was named, up to its count; its window holds what that many of its rows leave
-- there; every other cell is as lent.
pub record Stepped (P : Plan) (m₀ : P.Mem) (r : List ℕ) (s : St P) : Type 0 where
  pub count : (j : ℕ) → j < P.jobs → s.done j ≡ min (named j r) (P.cnt j)
  pub window : (j : ℕ) (c : P.Cell) → j < P.jobs → P.W j c → P.at s.mem c ≡ P.at (rows P j (min (named j r) (P.cnt j)) m₀) c
  pub rest : (c : P.Cell) → ((j : ℕ) → j < P.jobs → ¬ P.W j c) → P.at s.mem c ≡ P.at m₀ c
  pub ok : P.Ok s.mem
