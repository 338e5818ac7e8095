-- `scrambler::put_bytes` meets its contract: the bytes that follow are put after those before them. Assumes nothing.
use Rattle.std.proofs.Common.{◌≡◌, ℕ, ◌++◌, ◌<◌, List, length, get_or, ◌∙◌, rules, arith, get_or-take}
use lib.ListN.{get_or-append}
use Rattle.scrambler.specs.Scrambler.{scrambler_byte}
use Rattle.scrambler.proofs.ScramblerLaws.{byte-follows-ten, byte-follows-eighty}
use Rattle.scrambler.proofs.put_bytes.Goals as goal

-- the first bytes are there, whatever stands after them
there : (first rest : List ℕ) → ((k : ℕ) → k < length first → get_or first k 0 ≡ scrambler_byte k)
    → (k : ℕ) → k < length first → get_or (first ++ rest) k 0 ≡ scrambler_byte k
there first rest held k h = get_or-append first rest 0 k h ∙ held k h

pub follow_bytes-requires : goal.follow_bytes-requires
follow_bytes-requires c = record {
  some = omega arith;
  near_le = omega arith;
  first = λ k h l. there _ _ c.step_bytes-2.ensures k (search rules);
  follows = byte-follows-ten;
}

pub follow_bytes-requires-2 : goal.follow_bytes-requires-2
follow_bytes-requires-2 c = record {
  some = omega arith;
  near_le = omega arith;
  first = λ k h l. get_or-take 80 _ k 0 (omega arith) ∙ there _ _ c.step_bytes-2.ensures k (search rules);
  follows = byte-follows-ten;
}

pub follow_bytes-requires-3 : goal.follow_bytes-requires-3
follow_bytes-requires-3 c = record {
  some = omega arith;
  near_le = omega arith;
  first = λ k h l. there _ _ c.follow_bytes-2.ensures k (search rules);
  follows = byte-follows-eighty;
}
