-- The references that a load uses: selected, and not skipped (document 01, "Jobs and windows").
use Rattle.std.specs.Prelude.{Option, None, Some}
use Rattle.std.specs.Prelude.{ℕ, zero, suc, ◌-◌, min, false, List, [], ◌∷◌, ◌++◌, ltb, ℤ, pos, length, get_or, replicate}
use Rattle.frame.specs.declared.mfmv.Mfmv.{Mfmv}
use Rattle.frame.specs.declared.record.Frame.{Frame}
use Rattle.frame.specs.Mfmv.{no_mfmv}
use Rattle.motion.specs.declared.loading.used.Used.{Used}
use Rattle.motion.specs.declared.loading.used.Uses.{Uses}

-- a reference's cells go the offset's way, or against it for references 0..3
abbrev pub used_as : Mfmv → ℤ → Used
used_as m z = record { field = m.reference; motion = record { cur = z; apart = m.ref2ref; back = ltb m.reference 4 } }

abbrev pub use_for : Mfmv → Option ℤ → List Used
use_for m None = []
use_for m (Some z) = used_as m z ∷ []

unfoldable pub use_of : Mfmv → List Used
use_of m = use_for m m.ref2cur

-- the first n of a list of references, in order
unfoldable pub used_of : List Mfmv → ℕ → List Used
used_of ms zero = []
used_of ms (suc n) = used_of ms n ++ use_of (get_or ms n no_mfmv)

-- a record that isn't well formed may count more than its three places
unfoldable pub used : Frame → List Used
used f = used_of f.mfmvs (min 3 f.n_mfmvs)

-- the same as a record with room for three
abbrev pub idle_use : Used
idle_use = record { field = 0; motion = record { cur = pos 0; apart = replicate 7 0; back = false } }

unfoldable pub held_as : List Used → Uses
held_as us = record { n = length us; at = us ++ replicate (3 - length us) idle_use }

abbrev pub uses_of : Frame → Uses
uses_of f = held_as (used f)

-- what a read past the record's places would give
abbrev pub no_use : Used
no_use = record { field = 0; motion = record { cur = pos 0; apart = []; back = false } }

-- use i of such a record
abbrev pub use_at : Uses → ℕ → Used
use_at us i = get_or us.at i no_use
