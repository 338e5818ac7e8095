-- `address_interleaver::walk` meets its contract. The invariant: as many numbers as turns stand where they are moved to, and the
-- next one is known with its column. Assumes nothing.
use Rattle.std.proofs.Common.{◌≡◌, ◌+◌, ◌%◌, ◌<◌}
use Rattle.address_interleaver.specs.Addresses.{columns}
use Rattle.address_interleaver.proofs.WalkLaws.{Walked}
use Rattle.address_interleaver.proofs.walk.Given as goal

abbrev pub invariant-loop : goal.invariant-loop
invariant-loop l = record {
  place : l.p ≡ (l.counter + l.start) % l.n;
  walked : Walked l.n l.m l.start l.base l.counter l.out;
  number : l.counter < l.n → (l.x ≡ columns l.n l.m l.counter) × (l.column ≡ columns l.n l.m l.counter % l.m);
}
