-- Counters of votes, of 8 bits, one for each bit. Assumes nothing.
use Rattle.std.specs.Prelude.{◌≡◌, ℕ, ◌+◌, ◌*◌, ◌%◌, ◌<◌, Bool, cond, List, ◌==◌, slice_index}
use Rattle.bits.specs.Lists.{tabulate}
use Rattle.votes.specs.Votes.{votes}

-- where a counter starts
abbrev pub middle : ℕ
middle = 64

-- a counter after one item, modulo 256: up for a one, down for a zero
abbrev pub after_item : ℕ → ℕ → ℕ
after_item counter item = (counter + cond (item == 1) 1 0 + 255 * cond (item == 0) 1 0) % 256

-- W counters after the first n items, where item k counts for the bits that it carries, from what they were at the start
unfoldable pub counted : ℕ → ℕ → (ℕ → ℕ → Bool) → List ℕ → List ℕ → List ℕ
counted W n on items start = tabulate W (λ q. (slice_index start q + votes n on items q 1 + 255 * votes n on items q 0) % 256)

-- counters that counted the first n items have then counted m more, which carry as `onto` says
abbrev pub Adds : ℕ → ℕ → ℕ → (ℕ → ℕ → Bool) → List ℕ → List ℕ → List ℕ → Type 0
Adds W n m onto items before after =
    (on : ℕ → ℕ → Bool) (start : List ℕ) → ((j q : ℕ) → j < m → on (n + j) q ≡ onto j q)
    → before ≡ counted W n on items start → after ≡ counted W (n + m) on items start
