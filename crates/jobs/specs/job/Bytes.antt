-- Jobs in bytes (document 01, "Capture file"), the low byte of a number first: kind and tile row of one byte; column start and end, row start and end,
-- superblock row of two; pass of one. A job that is lent to be stepped has four bytes more, for its steps done.
use Rattle.std.specs.Prelude.{ℕ, ◌+◌, ◌*◌, ◌/◌, List, ltb, length, get_or}
use Rattle.ground.specs.Little.{two_at, four_at}
use Rattle.ground.specs.Pick.{pick}
use Rattle.ground.specs.Tab.{tab}
use Rattle.jobs.specs.declared.job.record.Job.{Job}
use Rattle.jobs.specs.declared.job.record.Batch.{Batch}
use Rattle.jobs.specs.job.Job.{no_job}

-- how many bytes a job has: in a capture file, and lent to be stepped
abbrev pub capture_job : ℕ
capture_job = 13

abbrev pub job_bytes : ℕ
job_bytes = 17

-- the job that any bytes hold from i on, with so many steps done
unfoldable pub job_held : List ℕ → (i done : ℕ) → Job
job_held l i done =
    record {
      kind = get_or l i 0;
      area =
          record {
            tile = get_or l (i + 1) 0;
            left = record { 0 = two_at l (i + 2) };
            right = record { 0 = two_at l (i + 4) };
            top = record { 0 = two_at l (i + 6) };
            bottom = record { 0 = two_at l (i + 8) };
          };
      sby = two_at l (i + 10);
      pass = get_or l (i + 12) 0;
      done = done;
    }

-- the steps done that jobs of `size` bytes tell: a capture file's are none
abbrev pub done_at : (size : ℕ) → List ℕ → (i : ℕ) → ℕ
done_at size l i = pick (ltb size job_bytes) 0 (four_at l (i + capture_job))

-- JOBS OF `size` BYTES, one behind the other: job i, and how many whole ones there are in n bytes
abbrev pub job_in : (size : ℕ) → List ℕ → ℕ → Job
job_in size l i = job_held l (size * i) (done_at size l (size * i))

abbrev pub jobs_in : (size n : ℕ) → ℕ
jobs_in size n = n / size

-- a place of a batch's eight: its job where there is one
unfoldable pub place_in : (size : ℕ) → List ℕ → ℕ → Job
place_in size l i = pick (ltb i (jobs_in size (length l))) (job_in size l i) no_job

unfoldable pub batch_of : (size : ℕ) → List ℕ → Batch
batch_of size l = record { n = jobs_in size (length l); jobs = tab (place_in size l) 0 8 }
