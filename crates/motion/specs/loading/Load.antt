-- The load of a projection (document 01, port order 6; refusals 1, 3, 4 and 5, then the reads, 7): its window's vectors become INVALID, reference bytes
-- kept; then references, rows, columns in order, and the last to land stays.
use Rattle.std.specs.Prelude.{ℕ, ◌+◌, ◌-◌, ◌*◌, ◌/◌, ◌%◌, ◌&&◌, not, List, ◌++◌, ltb, eqb}
use Rattle.ground.specs.Pick.{pick}
use Rattle.ground.specs.Answer.{or_else, accepted}
use Rattle.ground.specs.Below.{all_below}
use Rattle.ground.specs.Script.{Patch}
use Rattle.ground.specs.Span.{span, first_of}
use Rattle.frame.specs.declared.record.Frame.{Frame}
use Rattle.frame.specs.extent.Sizes.{saved_cells, projected_cells}
use Rattle.frame.specs.Record.{well_frame}
use Rattle.motion.specs.declared.saving.area.Area.{Area}
use Rattle.motion.specs.declared.saving.area.Window.{Window}
use Rattle.motion.specs.declared.loading.fields.Lent.{Lent}
use Rattle.motion.specs.declared.loading.used.Uses.{Uses}
use Rattle.motion.specs.saving.Area.{well_area, window_of}
use Rattle.motion.specs.landing.Row.{row_script, sources_read, clear_row}
use Rattle.motion.specs.loading.Used.{uses_of, use_at}
use Rattle.motion.specs.loading.Fields.{Sources, cells_in, lengths_of, well_lent, long_enough, is_lent}

-- row y of use i
unfoldable pub ref_row : Sources → Window → Uses → (i y : ℕ) → List Patch
ref_row src w us i y = row_script (src i y) w (use_at us i).motion y

-- THE LOAD, whole: the rows cleared, then each reference's rows
unfoldable pub whole_script : Sources → Window → Uses → List Patch
whole_script src w us =
    span (clear_row w) w.top.0 w.bottom.0 ++ span (λ i. span (ref_row src w us i) w.top.0 w.bottom.0) 0 us.n

-- THE STEP OF A LOAD: step k of rows x (1 + references); the first rows' worth clears
unfoldable pub rows_of : Window → ℕ
rows_of w = w.bottom.0 - w.top.0

unfoldable pub steps_of : Window → Uses → ℕ
steps_of w us = (1 + us.n) * rows_of w

unfoldable pub pass_script : Sources → Window → Uses → (pass y : ℕ) → List Patch
pass_script src w us pass y = pick (eqb pass 0) (clear_row w y) (ref_row src w us (pass - 1) y)

unfoldable pub step_script : Sources → Window → Uses → ℕ → List Patch
step_script src w us k = pass_script src w us (k / rows_of w) (w.top.0 + k % rows_of w)

unfoldable pub pass_read : Sources → Window → (pass y : ℕ) → ℕ
pass_read src w pass y = pick (eqb pass 0) 0 (sources_read (src (pass - 1) y) w)

unfoldable pub step_read : Sources → Window → ℕ → ℕ
step_read src w k = pass_read src w (k / rows_of w) (w.top.0 + k % rows_of w)

-- what is judged before the reads, by the buffers' lengths
unfoldable pub load_front : Frame → Area → Lent → (lengths : List ℕ) → ℕ → ℕ
load_front f a l lengths nproj =
    pick (not (well_frame f && well_lent l)) 1
    (pick (not (well_area f.sizes a)) 3
    (pick (ltb nproj (5 * projected_cells f.sizes)) 4
    (pick (not (all_below (uses_of f).n (long_enough (5 * saved_cells f.sizes) (uses_of f) l lengths))) 4
    (pick (not (all_below (uses_of f).n (is_lent (uses_of f) l))) 5 0))))

unfoldable pub load_reads : Sources → Frame → Area → ℕ
load_reads src f a = first_of (step_read src (window_of f.sizes a)) 0 (steps_of (window_of f.sizes a) (uses_of f))

unfoldable pub load_answer : List (List ℕ) → Frame → Area → Lent → ℕ → ℕ
load_answer fields f a l nproj = or_else (load_front f a l (lengths_of fields) nproj) (load_reads (cells_in fields f) f a)

unfoldable pub load_script : List (List ℕ) → Frame → Area → Lent → ℕ → List Patch
load_script fields f a l nproj =
    accepted (load_answer fields f a l nproj) (whole_script (cells_in fields f) (window_of f.sizes a) (uses_of f))
