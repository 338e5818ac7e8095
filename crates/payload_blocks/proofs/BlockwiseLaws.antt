-- Laws of outcomes block by block: the lowest block that refuses decides, and where none does, the answer. Assumes nothing.
use mathlib.Core.Path.{◌≡◌, refl, sym, ap, ap₂, subst, ◌∙◌}
use mathlib.Core.Bool.{Bool, true, false, cond}
use mathlib.Core.List.{List, [], ◌∷◌, ◌++◌, append-nil}
use Prim.Native.Nat.{ℕ, zero, suc, ◌+◌, ◌<◌}
use native.Mathlib.Numerals.{add-one}
use native.Mathlib.Omega.{arith}
use lib.Dec.{ltb}
use borrow.Author.Tests.{ltb-true, ltb-false}
use Rattle.refusal.specs.declared.Refusal.{Refusal}
use Rattle.refusal.specs.Report.{Report, done, refused, refusal, number}
use Rattle.refusal.specs.Outcome.{Row, Outcome, first_applicable, in_order, row_order}
use Rattle.refusal.proofs.OutcomeLaws.{NoneApplies, none-parts, refused_as, done-same, refused-report, refused-outcome}
use Rattle.payload_blocks.specs.Blockwise.{outcome_by, blockwise, outcome_blockwise}

-- ---- rows in the order given

-- what is made of what the rows come to
made-of : {A X : Type 0} (g : A → X) (rows : List Row) (f : Refusal → A) (good : A)
    → g (first_applicable rows f good) ≡ first_applicable rows (λ r. g (f r)) (g good)
made-of g [] f good = refl
made-of {A} {X} g (r ∷ rows) f good = go r.applies (made-of g rows f good)
  where
    go : (b : Bool) → g (first_applicable rows f good) ≡ first_applicable rows (λ r. g (f r)) (g good)
        → g (cond b (f r.cause) (first_applicable rows f good)) ≡ cond b (g (f r.cause)) (first_applicable rows (λ r. g (f r)) (g good))
    go true ih = refl
    go false ih = ih

-- an outcome's report is that of the rows alone
report-alone : {A B : Type 0} (rows : List Row) (out : B) (a : A) (made : B) → (outcome_by rows out a made).report ≡ first_applicable rows refusal (done a)
report-alone {A} {B} rows out a made =
    made-of (λ (o : Outcome A B). o.report) rows (λ r. record { report = refusal r; out = out }) (record { report = done a; out = made })

-- where the rows refuse over some memory, they refuse by the same cause over any
pub refused-over : {A B : Type 0} (rows : List Row) (was : B) (a : A) (make : B) (r : Refusal) (out made : B)
    → (outcome_by rows was a make).report ≡ refusal r → outcome_by rows out a made ≡ record { report = refusal r; out = out }
refused-over rows was a make r out made e =
    ap (λ (rs : List Row). outcome_by rs out a made) (sym (append-nil rows))
    ∙ refused-outcome rows [] a r out a made (sym (report-alone rows was a make) ∙ e)

-- 1 where a report is an answer
answers : {A : Type 0} → Report A → ℕ
answers (done a) = 1
answers (refused n v w) = 0

-- no refusal's report is an answer
pub not-answered : {A : Type 0} (r : Refusal) {a : A} → refusal r ≡ done a → ⊥
unfolding answers
not-answered {A} r e = let (v, f) = refused_as answers r in let z : ◌≡◌ {A = ℕ} 1 0 = sym (ap answers e) ∙ f in omega arith

-- rows that come to an answer do not apply, and the answer is the one given
answered : {A : Type 0} (rows : List Row) (a d : A) → first_applicable rows refusal (done a) ≡ done d → NoneApplies rows × (a ≡ d)
answered [] a d e = (tt, done-same e)
answered {A} (r ∷ rows) a d e = go r.applies refl e (answered rows a d)
  where
    go : (b : Bool) → r.applies ≡ b → cond b (refusal r.cause) (first_applicable rows refusal (done a)) ≡ done d
        → (first_applicable rows refusal (done a) ≡ done d → NoneApplies rows × (a ≡ d)) → ((r.applies ≡ false) × NoneApplies rows) × (a ≡ d)
    go true q f ih = absurd (not-answered r.cause f)
    go false q f ih = let (none, is) = ih f in ((q, none), is)

pub done-over : {A B : Type 0} (rows : List Row) (out : B) (a d : A) (made : B) → (outcome_by rows out a made).report ≡ done d → NoneApplies rows × (a ≡ d)
done-over rows out a d made e = answered rows a d (sym (report-alone rows out a made) ∙ e)

-- where no row applies, what is made is that of the answer
none-first : {X : Type 0} (rows rest : List Row) (f : Refusal → X) (good : X) → NoneApplies rows → first_applicable (rows ++ rest) f good ≡ first_applicable rest f good
none-first [] rest f good none = refl
none-first (r ∷ rows) rest f good (no_row, none) = rw no_row (none-first rows rest f good none)

pub outcome-by-good : {A B : Type 0} (rows : List Row) (out : B) (a : A) (made : B) → NoneApplies rows → outcome_by rows out a made ≡ record { report = done a; out = made }
outcome-by-good [] out a made none = refl
outcome-by-good (r ∷ rows) out a made (no_row, none) = rw no_row (outcome-by-good rows out a made none)

-- ---- block by block

-- a refusal keeps what was lent
pub kept-blockwise : {A B : Type 0} (rows : List Row) (n : ℕ) (block_rows : ℕ → List Row) (out : B) (a : A) (made : B)
    → (number (outcome_blockwise rows n block_rows out a made).report ≡ 0 → ⊥) → (outcome_blockwise rows n block_rows out a made).out ≡ out
kept-blockwise rows n block_rows out a made h = kept-by (in_order row_order rows ++ blockwise n block_rows) out a made h
  where
    kept-by : {A B : Type 0} (rows : List Row) (out : B) (a : A) (made : B)
        → (number (outcome_by rows out a made).report ≡ 0 → ⊥) → (outcome_by rows out a made).out ≡ out
    kept-by [] out a made h = absurd (h refl)
    kept-by {A} {B} (r ∷ rows) out a made h = go r.applies h (kept-by rows out a made)
      where
        go : (b : Bool) → (number (cond b (record { report = refusal r.cause; out = out }) (outcome_by rows out a made)).report ≡ 0 → ⊥)
            → ((number (outcome_by rows out a made).report ≡ 0 → ⊥) → (outcome_by rows out a made).out ≡ out)
            → (cond b (record { report = refusal r.cause; out = out }) (outcome_by rows out a made)).out ≡ out
        go true k ih = refl
        go false k ih = ih k

-- no row of rows behind each other applies where none of either part does
pub none-both : (rows rest : List Row) → NoneApplies rows → NoneApplies rest → NoneApplies (rows ++ rest)
none-both [] rest none last = last
none-both (r ∷ rows) rest (no_row, none) last = (no_row, none-both rows rest none last)

module _ (rows : ℕ → List Row) where
  -- no row of a block applies where none of any block does
  pub none-blockwise : (n : ℕ) → ((b : ℕ) → b < n → NoneApplies (rows b)) → NoneApplies (blockwise n rows)
  none-blockwise zero none = tt
  none-blockwise (suc n) none = none-both (blockwise n rows) (rows n) (none-blockwise n (λ b h. none b (omega arith))) (none n (omega arith))

  -- one block more
  pub none_next : (n : ℕ) → NoneApplies (blockwise n rows) → NoneApplies (rows n) → NoneApplies (blockwise (n + 1) rows)
  none_next n lower none = rw add-one (none-both (blockwise n rows) (rows n) lower none)

  -- and the other way round
  pub none-of-block : (n : ℕ) → NoneApplies (blockwise n rows) → (b : ℕ) → b < n → NoneApplies (rows b)
  none-of-block zero none b h = absurd (omega arith)
  none-of-block (suc n) none b h = go (ltb b n) refl (none-of-block n (none-parts (blockwise n rows) (rows n) none).0 b)
    where
      go : (t : Bool) → ltb b n ≡ t → (b < n → NoneApplies (rows b)) → NoneApplies (rows b)
      go true l ih = ih (ltb-true b n l)
      go false l ih =
          let here : n ≡ b = omega (arith, ltb-false b n l) in
          subst (λ (m : ℕ). NoneApplies (rows m)) here (none-parts (blockwise n rows) (rows n) none).1

  module _ {C : Type 0} (d : C) (b : ℕ) (r : Refusal) (lower : NoneApplies (blockwise b rows)) (e : first_applicable (rows b) refusal (done d) ≡ refusal r) where
    -- where no lower block refuses, the first block that does decides, whatever the higher ones are
    pub lowest-refused : (n : ℕ) → b < n → first_applicable (blockwise n rows) refusal (done d) ≡ refusal r
    lowest-refused zero h = absurd (omega arith)
    lowest-refused (suc n) h = go (ltb b n) refl (lowest-refused n)
      where
        go : (t : Bool) → ltb b n ≡ t → (b < n → first_applicable (blockwise n rows) refusal (done d) ≡ refusal r)
            → first_applicable (blockwise n rows ++ rows n) refusal (done d) ≡ refusal r
        go true l ih = refused-report (blockwise n rows) (rows n) d r d (ih (ltb-true b n l))
        go false l ih =
            let here : b ≡ n = omega (arith, ltb-false b n l) in
            subst (λ (m : ℕ). first_applicable (blockwise m rows ++ rows m) refusal (done d) ≡ refusal r) here
            (none-first (blockwise b rows) (rows b) refusal (done d) lower ∙ e)

    pub blockwise-refused : {A B : Type 0} (n : ℕ) → b < n → (out : B) (a : A) (made : B) → outcome_by (blockwise n rows) out a made ≡ record { report = refusal r; out = out }
    blockwise-refused n h out a made =
        ap (λ (rs : List Row). outcome_by rs out a made) (sym (append-nil (blockwise n rows)))
        ∙ refused-outcome (blockwise n rows) [] d r out a made (lowest-refused n h)

-- the same rows of each block
pub blockwise-ext : (rows other : ℕ → List Row) (n : ℕ) → ((b : ℕ) → b < n → rows b ≡ other b) → blockwise n rows ≡ blockwise n other
blockwise-ext rows other zero same = refl
blockwise-ext rows other (suc n) same = ap₂ ◌++◌ (blockwise-ext rows other n (λ b h. same b (omega arith))) (same n (omega arith))
