-- The table of all addresses, and the walk down the columns that fills it. Assumes nothing.
use Rattle.std.specs.Prelude.{cond, ℕ, ◌+◌, ◌*◌, ◌/◌, ◌%◌, ltb}
use Rattle.address_interleaver.specs.Addresses.{out_addr}

-- after x comes the next of its column or, at the column's end, the head of the next; and the column in which that stands
abbrev pub next_in_column : ℕ → ℕ → ℕ → ℕ → ℕ
next_in_column n m x column = cond (ltb (x + m) n) (x + m) (column + 1)

abbrev pub next_column : ℕ → ℕ → ℕ → ℕ → ℕ
next_column n m x column = cond (ltb (x + m) n) column (column + 1)

-- address u of all interleavers side by side, each of `span` carriers and so many to a group, as a carrier of its group
unfoldable pub address_of : ℕ → ℕ → ℕ → ℕ → ℕ
address_of interleavers span step u = u / span % interleavers * span + out_addr span step (u / span) (u % span)
