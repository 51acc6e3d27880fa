-- Which descriptions frame setup takes (document 01, refusals 1 and 2).
use Rattle.std.specs.Prelude.{ℕ, ◌+◌, ◌*◌, ◌^◌, Bool, ◌&&◌, List, ltb, leb, length, get_or}
use Rattle.ground.specs.Pick.{pick}
use Rattle.ground.specs.Below.{all_below}
use Rattle.frame.specs.declared.hints.description.Description.{Description}
use Rattle.frame.specs.extent.Sizes.{limits}

-- each byte of a list is below a limit
unfoldable pub under : List ℕ → ℕ → Bool
under xs limit = all_below (length xs) (λ i. ltb (get_or xs i 0) limit)

-- flags are 0 or 1, the seven present flags too
unfoldable pub flags : Description → List ℕ → Bool
flags d present = leb d.sb128 1 && leb d.temporal 1 && under present 2

-- at most 8 bits, and each hint below 2 ^ bits
unfoldable pub hinted : Description → Bool
hinted d =
    leb d.hint_bits 8 && ltb d.current_hint (2 ^ d.hint_bits)
    && under d.hints (2 ^ d.hint_bits) && under d.hints_by_ref (2 ^ d.hint_bits)

unfoldable pub sized : Description → List ℕ → Bool
sized d present =
    limits d.width d.height d.tile_rows d.tile_threads d.frame_threads && flags d present

unfoldable pub setup_answer : Description → List ℕ → ℕ
setup_answer d present = pick (sized d present) (pick (hinted d) 0 2) 1

-- a reference's hint, and the hint that reference r's own frame held for reference m
unfoldable pub hint_at : Description → ℕ → ℕ
hint_at d r = get_or d.hints r 0

unfoldable pub held_at : Description → ℕ → ℕ → ℕ
held_at d r m = get_or d.hints_by_ref (7 * r + m) 0
