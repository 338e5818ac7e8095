-- The copy codes and their counts undo each other. Assumes nothing.
use mathlib.Core.Path.{◌≡◌, sym}
use mathlib.Core.Bool.{cond}
use Prim.Native.Nat.{ℕ, ◌<◌}
use lib.Dec.{eqb, ltb}
use borrow.Author.Tests.{eqb-true, lt-ltb}
use Rattle.bits.specs.Lists.{lowest}
use Rattle.bits.proofs.ListLaws.{lowest-at}
use Rattle.bits.proofs.RangeLaws.{agree}
use Rattle.card.specs.Card.{copy_count, copy_code}

-- a code that has a count is the code of that count
pub code-back : (code : ℕ) → code < 6 → copy_code (copy_count code) ≡ code
unfolding copy_code lowest
code-back = agree 6 (λ code. copy_code (copy_count code)) (λ code. code) tt

-- a count that has a code is the count of that code
pub count-back : (copies : ℕ) → copy_code copies < 6 → copy_count (copy_code copies) ≡ copies
unfolding copy_code
count-back copies h = sym (eqb-true copies (copy_count (copy_code copies)) (lowest-at 6 (λ code. eqb copies (copy_count code)) h))

-- a code of three bits whose count has a code is that code
pub code_read : (code : ℕ) → code < 8 → copy_code (copy_count code) < 6 → copy_code (copy_count code) ≡ code
unfolding copy_code lowest
code_read code h l = rw (lt-ltb (copy_code (copy_count code)) 6 l) at (agree 8 (λ k. cond (ltb (copy_code (copy_count k)) 6) (copy_code (copy_count k)) k) (λ k. k) tt code h)
