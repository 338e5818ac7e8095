-- Counts of records. Assumes nothing.
use Rattle.std.specs.Prelude.{Bool, cond, List, ℕ, ◌+◌, ◌%◌, ◌^◌, set, slice_index_or}
use Rattle.record_file.specs.declared.Count.{Count}

-- a count after one more record, which agrees with what it expects or not; no count comes near to wrapping
abbrev pub counted : Bool → Count → Count
counted agrees c = record { records = (c.records + 1) % 2 ^ 64; mismatches = cond agrees c.mismatches ((c.mismatches + 1) % 2 ^ 64) }

-- the counts of the calls after a record of one of them
abbrev pub counted_at : ℕ → Bool → List Count → List Count
counted_at call agrees cs = set cs call (counted agrees (slice_index_or cs call (record { records = 0; mismatches = 0 })))
