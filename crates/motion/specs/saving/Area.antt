-- The part of a frame that a load or a save works on (document 01, refusal 3, "Jobs and windows"): a tile row, columns and rows, all in units of 8 samples.
use Rattle.std.specs.Prelude.{ℕ, ◌*◌, ◌-◌, min, Bool, ◌&&◌, ltb, leb}
use Rattle.ground.specs.Pick.{pick}
use Rattle.frame.specs.declared.extent.sizes.Sizes.{Sizes}
use Rattle.frame.specs.extent.Sizes.{part_of}
use Rattle.rows.specs.Setup.{in_frame}
use Rattle.motion.specs.declared.saving.area.Area.{Area}
use Rattle.motion.specs.declared.saving.area.Strip.{Strip}
use Rattle.motion.specs.declared.saving.area.Window.{Window}

-- no end before its start, at most 16 rows before the cut, the column end within the stride, the tile row, by the one-thread rule, one of the frame's
unfoldable pub well_area : Sizes → Area → Bool
well_area s a =
    leb a.left.0 a.right.0 && leb a.right.0 s.stride.0 && leb a.top.0 a.bottom.0 && leb (a.bottom.0 - a.top.0) 16
    && in_frame s a.tile

-- the row end is cut to the frame
unfoldable pub bottom_of : Sizes → Area → ℕ
bottom_of s a = min a.bottom.0 s.ih8.0

-- A save's columns are walked to an end that is cut to the frame. A block may pass that end where it is the frame's own, up to the stride; else not.
unfoldable pub end_of : Sizes → Area → ℕ
end_of s a = min a.right.0 s.iw8.0

unfoldable pub limit_of : Sizes → Area → ℕ
limit_of s a = pick (ltb (end_of s a) s.iw8.0) (end_of s a) s.stride.0

unfoldable pub strip_of : Sizes → Area → Strip
strip_of s a =
    record {
      left = a.left;
      end = record { 0 = end_of s a };
      limit = record { 0 = limit_of s a };
      top = a.top;
      bottom = record { 0 = bottom_of s a };
      stride = s.stride;
    }

-- A load's column end isn't cut. Its rows, modulo 16, lie in its tile row's part of the projection.
unfoldable pub window_of : Sizes → Area → Window
window_of s a =
    record {
      left = a.left;
      right = a.right;
      top = a.top;
      bottom = record { 0 = bottom_of s a };
      iw8 = s.iw8;
      stride = s.stride;
      part = 16 * (part_of s a.tile * s.stride.0);
    }
