-- What holds of a shape by which the loops go. Assumes nothing.
use Rattle.std.specs.Prelude.{◌≡◌, true, false, ℕ, zero, ◌+◌, ◌*◌, ◌<◌, ◌≤◌}
use Rattle.interleaver_shape.specs.declared.Shape.{Shape}

-- A shape whose orders have each row once: a step that is read on without a restart has an inverse modulo the number of rows.
pub record Sound (L : Shape) : Type 0 where
  pub step-pos : zero < L.step
  pub group-pos : zero < L.group
  pub lead-le : L.lead ≤ L.group
  pub rows_are : L.rows ≡ L.parity * L.group
  pub continuous-ok : L.continuous ≡ true → (inverse : ℕ) × (rounds : ℕ) × (L.step * inverse ≡ 1 + rounds * L.parity)

-- A shape whose numbers are so small that nothing computed from them overflows.
pub record Small (L : Shape) : Type 0 where
  pub rows-lt : L.rows < 65536
  pub parity-lt : L.parity < 65536
  pub step-lt : L.step < 65536
  pub offset-lt : L.offset < 65536
  pub group-lt : L.group < 65536

-- A shape whose step and offset pass the end of its parity rows at most once.
pub record Near (L : Shape) : Type 0 where
  pub step-le : L.step ≤ L.parity
  pub offset-lt : L.offset < L.parity

-- A shape of pairs, one data nibble and one parity nibble, both read in passes.
pub record Paired (L : Shape) : Type 0 where
  pub group-is : L.group ≡ 1
  pub lead_is : L.lead ≡ 1
  pub in-passes : L.continuous ≡ false
