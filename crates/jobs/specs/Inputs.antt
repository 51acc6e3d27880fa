-- What jobs read and never write: the frame's record, how its fields are lent, those that a load uses, and the records.
use Rattle.std.specs.Prelude.{ℕ, List}
use Rattle.motion.specs.loading.Fields.{Sources, all_used, cells_in}
use Rattle.jobs.specs.declared.inputs.Inputs.{Inputs}
use Rattle.jobs.specs.declared.job.record.Lengths.{Lengths}
use Rattle.jobs.specs.Admit.{Handed, handed, lengths}

-- the fields of the used references
abbrev pub used_fields : Inputs → List (List ℕ)
used_fields i = all_used i.fields

-- a load's sources
abbrev pub used_sources : Inputs → Sources
used_sources i = cells_in (used_fields i) i.frame

-- beside two buffers to write, of so many bytes
abbrev pub handed_with : Inputs → (nproj nsaved : ℕ) → Handed
handed_with i nproj nsaved = handed i.frame i.lent (used_fields i) i.recs.now nproj nsaved

abbrev pub lengths_with : Inputs → (nproj nsaved : ℕ) → Lengths
lengths_with i nproj nsaved = lengths (used_fields i) i.recs.now nproj nsaved
