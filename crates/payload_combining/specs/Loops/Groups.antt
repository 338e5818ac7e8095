-- Which bit an item of a slot carries, and which an item of a group in order; and counters before any vote. Assumes nothing.
use Rattle.std.specs.Prelude.{Bool, List, ℕ, ◌+◌, ◌*◌, replicate}
use Rattle.votes.specs.Votes.{carries}
use Rattle.votes.specs.Loops.Counters.{middle}
use Rattle.payload_layout.specs.declared.Layout.{Layout}
use Rattle.payload_layout.specs.Layouts.{group_bits}
use Rattle.payload_layout.specs.Items.{padded}
use Rattle.payload_copying.specs.Loops.Slots.{slot_bit}

-- item i of a slot in which group g of copy k stands carries bit b
unfoldable pub slot_on : Layout → ℕ → ℕ → ℕ → ℕ → Bool
slot_on L k g = carries (slot_bit L k g)

-- bit x of group g in the padded data of copy k is b
unfoldable pub group_on : Layout → ℕ → ℕ → ℕ → ℕ → Bool
group_on L k g = carries (λ x. padded L k (g * group_bits L + x))

-- a counter for each coded bit, each in the middle
abbrev pub middles : Layout → List ℕ
middles L = replicate L.coded middle
