-- Carriers against bits: twice the altered and the lost carriers bound twice the wrong and the lost copies of each bit, so that every bit
-- survives a damage below its copies; and a damage of as many lost carriers as a bit has copies leaves that bit undecided.
-- Assumes nothing.
use Rattle.std.proofs.Common.{◌≡◌, ℕ, ◌+◌, ◌*◌, ◌<◌, ◌≤◌, Bool, true, false, cond, not, ◌&&◌, ◌||◌, T, List, length, get_or, sym, refl, ap, ◌∙◌, subst, arith, eqb→eq}
use mathlib.Core.Bool.{or_comm}
use Rattle.bits.specs.Lists.{tabulate, first_above}
use Rattle.bits.specs.Sums.{count}
use Rattle.bits.proofs.ListLaws.{length-tabulate, get_or-tabulate, tabulate-ext, first-none}
use Rattle.bits.proofs.SumLaws.{sum-ext, sum-pairs, sum-within, one-le, count_none}
use Rattle.votes.specs.Votes.{carries, wrong_item, lost_item, copies, wrong_copies, lost_copies, decided}
use Rattle.votes.specs.Damage.{Damage, altered_carrier, lost_carrier, altered, lost}
use Rattle.votes.proofs.VoteLaws.{right-item, bit-item, decided-as-sent, all-lost}

-- the two items of a carrier never carry the same bit
abbrev pub Apart : ℕ → (ℕ → ℕ → Bool) → Type 0
Apart K on = (k : ℕ) → k < K → (b : ℕ) → T (on (2 * k) b) → T (on (2 * k + 1) b) → ⊥

-- ---- one carrier: w says that an item is wrong, l that it is lost, w' and l' the same of the other item

item-within : (w l w' l' : Bool) → (T w → T l → ⊥)
    → 2 * cond w 1 0 + cond l 1 0 ≤ 2 * cond (w || w') 1 0 + cond (not (w || w') && (l || l')) 1 0
item-within true true w' l' d = absurd (d tt tt)
item-within true false w' l' d = omega arith
item-within false l true l' d = omega (arith, one-le l)
item-within false true false l' d = omega arith
item-within false false false l' d = omega arith

-- at most one of the tests e and e' passes
carrier-within : (e e' w l w' l' : Bool) → (T e → T e' → ⊥) → (T w → T l → ⊥) → (T w' → T l' → ⊥)
    → 2 * (cond (e && w) 1 0 + cond (e' && w') 1 0) + (cond (e && l) 1 0 + cond (e' && l') 1 0)
    ≤ 2 * cond (w || w') 1 0 + cond (not (w || w') && (l || l')) 1 0
carrier-within true true w l w' l' d x x' = absurd (d tt tt)
carrier-within true false w l w' l' d x x' = omega (arith, item-within w l w' l' x)
carrier-within false true w l w' l' d x x' = rw (or_comm w w', or_comm l l') (omega (arith, item-within w' l' w l x'))
carrier-within false false w l w' l' d x x' = omega arith

not-both : (s x : ℕ) → T (wrong_item s x) → T (lost_item x) → ⊥
not-both s x w l = subst (λ (y : ℕ). T (wrong_item s y)) (eqb→eq x 2 l) w

-- no item of a damage is above 2
pub none_above : (N : ℕ) (items : List ℕ) → Damage N items → first_above 2 items ≡ length items
none_above N items damage = sym (first-none 2 items (λ k h. omega (arith, damage.legal k (omega (arith, damage.long)))))

-- ---- all carriers

module _ (K : ℕ) (on : ℕ → ℕ → Bool) (apart : Apart K on) where
  -- what a damage of the carriers can do to the copies of a bit
  pub copies-within : (sent items : List ℕ) (b : ℕ)
      → 2 * wrong_copies (2 * K) on sent items b + lost_copies (2 * K) on items b ≤ 2 * altered K sent items + lost K sent items
  unfolding wrong_copies lost_copies altered lost altered_carrier lost_carrier count
  copies-within sent items b =
      rw (
        sum-pairs K (λ n. cond (on n b && wrong_item (get_or sent n 0) (get_or items n 0)) 1 0),
        sum-pairs K (λ n. cond (on n b && lost_item (get_or items n 0)) 1 0),
      )
      (sum-within K _ _ _ _ (λ k h.
      carrier-within (on (2 * k) b) (on (2 * k + 1) b)
      (wrong_item (get_or sent (2 * k) 0) (get_or items (2 * k) 0)) (lost_item (get_or items (2 * k) 0))
      (wrong_item (get_or sent (2 * k + 1) 0) (get_or items (2 * k + 1) 0)) (lost_item (get_or items (2 * k + 1) 0))
      (apart k h b)
      (not-both (get_or sent (2 * k) 0) (get_or items (2 * k) 0))
      (not-both (get_or sent (2 * k + 1) 0) (get_or items (2 * k + 1) 0))))

  -- a bit with more copies than twice the altered and the lost carriers is decided as sent
  pub survives : (sent items : List ℕ) → Damage (2 * K) items → (b v : ℕ) → v < 2 → ((n : ℕ) → n < 2 * K → T (on n b) → get_or sent n 0 ≡ v)
      → 2 * altered K sent items + lost K sent items < copies (2 * K) on b → decided (2 * K) on items b ≡ v
  survives sent items d b v bit same h =
      decided-as-sent (2 * K) on sent items b v bit same (λ n l t. d.legal n l) (omega (arith, copies-within sent items b))

-- ---- best possible

-- the items sent, with those that pass a test marked lost and nothing else changed
unfoldable erased : ℕ → (ℕ → Bool) → List ℕ → List ℕ
erased N test sent = tabulate N (λ n. cond (test n) 2 (get_or sent n 0))

-- a damage that loses m carriers of K, alters none, and leaves bit b without a strict majority
pub record Undecides (K : ℕ) (on : ℕ → ℕ → Bool) (sent : List ℕ) (b m : ℕ) (items : List ℕ) : Type 0 where
  pub damage : Damage (2 * K) items
  pub none-altered : altered K sent items ≡ 0
  pub carriers-lost : lost K sent items ≡ m
  pub undecided : decided (2 * K) on items b ≡ 2

never-wrong : (c : Bool) (s : ℕ) → wrong_item s (cond c 2 s) ≡ false
never-wrong true s = refl
never-wrong false s = right-item s

lost-where : (c : Bool) (s : ℕ) → s < 2 → lost_item (cond c 2 s) ≡ c
lost-where true s h = refl
lost-where false s h = bit-item s h

still-legal : (c : Bool) (s : ℕ) → s < 2 → cond c 2 s < 3
still-legal true s h = omega arith
still-legal false s h = omega arith

marked : (c : Bool) (s : ℕ) → T c → cond c 2 s ≡ 2
marked true s t = refl
marked false s t = elim t [ ]

one_of_two : (e e' : Bool) → (T e → T e' → ⊥) → ◌≡◌ {A = ℕ} (cond (e || e') 1 0) (cond e 1 0 + cond e' 1 0)
one_of_two true true d = absurd (d tt tt)
one_of_two true false d = refl
one_of_two false true d = refl
one_of_two false false d = refl

module _ (N : ℕ) (test : ℕ → Bool) (sent : List ℕ) where
  erased-at : (n : ℕ) → n < N → get_or (erased N test sent) n 0 ≡ cond (test n) 2 (get_or sent n 0)
  unfolding erased
  erased-at n h = get_or-tabulate N _ n 0 h

  item-right : (n : ℕ) → n < N → wrong_item (get_or sent n 0) (get_or (erased N test sent) n 0) ≡ false
  item-right n h = rw (erased-at n h) (never-wrong (test n) (get_or sent n 0))

  module _ (bits : (n : ℕ) → n < N → get_or sent n 0 < 2) where
    item-lost : (n : ℕ) → n < N → lost_item (get_or (erased N test sent) n 0) ≡ test n
    item-lost n h = rw (erased-at n h) (lost-where (test n) (get_or sent n 0) (bits n h))

    erased-damage : Damage N (erased N test sent)
    unfolding erased
    erased-damage =
        record {
          long = length-tabulate N _;
          legal = λ n h. rw (erased-at n h) (still-legal (test n) (get_or sent n 0) (bits n h));
        }

module _ (K : ℕ) (on : ℕ → ℕ → Bool) (apart : Apart K on) (sent : List ℕ) (bits : (n : ℕ) → n < 2 * K → get_or sent n 0 < 2) (b : ℕ) where
  -- the damage that marks the copies of b as lost
  abbrev gone : List ℕ
  gone = erased (2 * K) (λ n. on n b) sent

  right : (n : ℕ) → n < 2 * K → wrong_item (get_or sent n 0) (get_or gone n 0) ≡ false
  right = item-right (2 * K) (λ n. on n b) sent

  gone-altered : altered K sent gone ≡ 0
  unfolding altered altered_carrier
  gone-altered = count_none K _ (λ k h. rw (right (2 * k) (omega arith), right (2 * k + 1) (omega arith)))

  gone-lost : lost K sent gone ≡ copies (2 * K) on b
  unfolding lost lost_carrier altered_carrier copies count
  gone-lost = sum-ext K _ _ carrier ∙ sym (sum-pairs K (λ n. cond (on n b) 1 0))
    where
      carrier : (k : ℕ) → k < K → ◌≡◌ {A = ℕ} (cond (lost_carrier sent gone k) 1 0) (cond (on (2 * k) b) 1 0 + cond (on (2 * k + 1) b) 1 0)
      carrier k h =
          rw (
            right (2 * k) (omega arith),
            right (2 * k + 1) (omega arith),
            item-lost (2 * K) (λ n. on n b) sent bits (2 * k) (omega arith),
            item-lost (2 * K) (λ n. on n b) sent bits (2 * k + 1) (omega arith),
          )
          (one_of_two (on (2 * k) b) (on (2 * k + 1) b) (apart k h b))

  -- for every bit there is a damage of as many lost carriers as it has copies that leaves it undecided
  pub undecides : (items : List ℕ) × Undecides K on sent b (copies (2 * K) on b) items
  undecides = (
    gone,
    record {
      damage = erased-damage (2 * K) (λ n. on n b) sent bits;
      none-altered = gone-altered;
      carriers-lost = gone-lost;
      undecided = all-lost (2 * K) on gone b (λ n h t. erased-at (2 * K) (λ n. on n b) sent n h ∙ marked (on n b) (get_or sent n 0) t);
    },
  )

-- ---- any function from items to bits

pub carries-bit : (lane : ℕ → ℕ) (n b : ℕ) → T (carries lane n b) → lane n ≡ b
unfolding carries
carries-bit lane n b t = eqb→eq (lane n) b t

carries-apart : (K : ℕ) (lane : ℕ → ℕ) → ((k : ℕ) → k < K → lane (2 * k) ≡ lane (2 * k + 1) → ⊥) → Apart K (carries lane)
carries-apart K lane differ k h b t u = differ k h (carries-bit lane (2 * k) b t ∙ sym (carries-bit lane (2 * k + 1) b u))

-- the bits d go out, on each lane the bit that it carries
module _ (K : ℕ) (lane : ℕ → ℕ) (differ : (k : ℕ) → k < K → lane (2 * k) ≡ lane (2 * k + 1) → ⊥) (d : ℕ → ℕ) (bits : (b : ℕ) → d b < 2) where
  abbrev pub sent : List ℕ
  sent = tabulate (2 * K) (λ n. d (lane n))

  sent-at : (n : ℕ) → n < 2 * K → get_or sent n 0 ≡ d (lane n)
  sent-at n h = get_or-tabulate (2 * K) _ n 0 h

  -- below the smallest copy count, m, every one of B bits is decided as sent
  pub lanes-survive : (B m : ℕ) → ((b : ℕ) → b < B → m ≤ copies (2 * K) (carries lane) b) → (items : List ℕ) → Damage (2 * K) items
      → 2 * altered K sent items + lost K sent items < m → tabulate B (decided (2 * K) (carries lane) items) ≡ tabulate B d
  lanes-survive B m fewest items damage h =
      tabulate-ext B _ _
      (λ b l. survives K (carries lane) (carries-apart K lane differ) sent items damage b (d b) (bits b)
      (λ n k t. sent-at n k ∙ ap d (carries-bit lane n b t)) (omega (arith, fewest b l)))

  -- a bit with m copies has a damage of m lost carriers that leaves it undecided
  pub lanes-undecide : (b : ℕ) → (items : List ℕ) × Undecides K (carries lane) sent b (copies (2 * K) (carries lane) b) items
  lanes-undecide b = undecides K (carries lane) (carries-apart K lane differ) sent (λ n h. rw (sent-at n h) (bits (lane n))) b
