-- What the functions that compute a layout have to hold: one copy by one division, and more by the section's arithmetic. Assumes nothing.
use mathlib.Core.Path.{◌≡◌, refl, sym, ap, ap₂, ◌∙◌}
use mathlib.Core.Bool.{Bool, cond}
use Prim.Native.Nat.{ℕ, ◌+◌, ◌-◌, ◌*◌, ◌/◌, ◌%◌, ◌<◌, ◌≤◌}
use native.Mathlib.Nat.{mul-le-mul, mul-le-mul_left, mul-pos, mul-zero, one-mul, add-mul, div-one, div-le_self, mul-div_cancel, mod-lt, div-eq_of_lt, div-add-mod'}
use native.Mathlib.Omega.{arith}
use lib.Dec.{eqb, leb}
use borrow.Author.Tests.{eq-eqb, ne_eqb}
use Rattle.std.specs.Int.{div_ceil}
use Rattle.std.proofs.lemmas.Grind.{div_ceil_times}
use Rattle.bits.proofs.BoolLaws.{test-cases}
use Rattle.bits.proofs.NumberLaws.{lt-cases}
use Rattle.card.specs.Card.{copy_code}
use Rattle.payload_layout.specs.declared.Layout.{Layout}
use Rattle.payload_layout.specs.Layouts.{all_interleavers, group_interleavers, span_of, used_of, group_of, last_symbol_bits, last_group_bits, pad_bits, shift_run, rounded_down, shift_step, layout_by, layout_for}
use Rattle.payload_layout.proofs.SectionLaws.{one-interleaver, one-a-group}
use Rattle.payload_layout.proofs.SectionLaws as section

-- layouts of the same numbers
same_layout : (carriers bits coded copies : ℕ) {symbols symbols' pad pad' run run' interleavers interleavers' span span' step step' : ℕ}
    → symbols ≡ symbols' → pad ≡ pad' → run ≡ run' → interleavers ≡ interleavers' → span ≡ span' → step ≡ step'
    → ◌≡◌ {A = Layout}
    (record { carriers = carriers; bits = bits; symbols = symbols; coded = coded; pad = pad; copies = copies; run = run; interleavers = interleavers; span = span; step = step })
    (record { carriers = carriers; bits = bits; symbols = symbols'; coded = coded; pad = pad'; copies = copies; run = run'; interleavers = interleavers'; span = span'; step = step' })
same_layout carriers bits coded copies y p r n s t =
    λ i. record { carriers = carriers; bits = bits; symbols = y i; coded = coded; pad = p i; copies = copies; run = r i; interleavers = n i; span = s i; step = t i }

-- ---- one copy, of S bits to a symbol and to a group

module _ (S D : ℕ) (pos : 0 < S) where
  abbrev symbols : ℕ
  symbols = div_ceil D S

  pub symbols-hold : D ≤ symbols * S
  symbols-hold = (div_ceil_times D S pos).0

  pub symbols-tight : symbols * S < D + S
  symbols-tight = (div_ceil_times D S pos).1

  pub pad-is : symbols * S - D ≡ pad_bits S S D
  unfolding pad_bits last_group_bits
  pad-is = lt-cases 0 (D % S) rest none
    where
      none : D % S ≤ 0 → symbols * S - D ≡ S - cond (eqb (D % S) 0) S (D % S - S * ((D % S - 1) / S))
      none l =
          let q : symbols ≡ D / S = omega arith in
          rw (eq-eqb (D % S) 0 (omega arith)) (omega (arith, ap (λ (k : ℕ). k * S) q, div-add-mod' D S))

      rest : 0 < D % S → symbols * S - D ≡ S - cond (eqb (D % S) 0) S (D % S - S * ((D % S - 1) / S))
      rest l =
          let r = mod-lt D pos in
          let q : symbols ≡ D / S + 1 = omega arith in
          let zero-div : (D % S - 1) / S ≡ 0 = div-eq_of_lt (omega arith) in
          rw (ne_eqb (D % S) 0 (λ e. omega arith), zero-div, mul-zero S) (omega (arith, ap (λ (k : ℕ). k * S) q, div-add-mod' D S, add-mul (D / S) 1 S))

  pub symbols-are : symbols ≡ (D + pad_bits S S D) / S
  symbols-are =
      sym (ap (λ (k : ℕ). k / S) (let z : D + pad_bits S S D ≡ symbols * S = omega (arith, pad-is, symbols-hold) in z) ∙ mul-div_cancel symbols pos)

module _ (carriers : ℕ) where
  one_span : span_of carriers 1 ≡ carriers
  unfolding span_of
  one_span = ap (λ (k : ℕ). carriers / k) one-interleaver ∙ div-one carriers

  one-used : used_of carriers 1 ≡ carriers
  unfolding used_of
  one-used = ap₂ ◌*◌ one-interleaver one_span ∙ one-mul carriers

  one-group : group_of carriers 1 ≡ carriers
  unfolding group_of
  one-group = ap (λ (k : ℕ). k / 1) one-used ∙ div-one carriers

one-run : (last G : ℕ) → shift_run 1 last G ≡ 1
unfolding shift_run
one-run last G = test-cases (leb last (0 * G)) (λ e. rw e) (λ e. rw e)

-- the layout that the function makes is the section's
pub one-made : (carriers bits coded : ℕ) → 0 < bits * carriers
    → ◌≡◌ {A = Layout} (record {
      carriers = carriers;
      bits = bits;
      symbols = div_ceil coded (bits * carriers);
      coded = coded;
      pad = div_ceil coded (bits * carriers) * (bits * carriers) - coded;
      copies = 1;
      run = 1;
      interleavers = 1;
      span = carriers;
      step = 0;
    }) (layout_for carriers bits 1 coded)
unfolding layout_for layout_by shift_step
one-made carriers bits coded pos =
    let O : bits * carriers ≡ bits * used_of carriers 1 = ap (λ (k : ℕ). bits * k) (sym (one-used carriers)) in
    let G : bits * carriers ≡ bits * group_of carriers 1 = ap (λ (k : ℕ). bits * k) (sym (one-group carriers)) in
    let pad : div_ceil coded (bits * carriers) * (bits * carriers) - coded ≡ pad_bits (bits * used_of carriers 1) (bits * group_of carriers 1) coded =
    pad-is (bits * carriers) coded pos ∙ ap₂ (λ (o g : ℕ). pad_bits o g coded) O G in
    let symbols : div_ceil coded (bits * carriers) ≡ (coded + pad_bits (bits * used_of carriers 1) (bits * group_of carriers 1) coded) / (bits * group_of carriers 1) =
    symbols-are (bits * carriers) coded pos ∙ ap₂ (λ (o g : ℕ). (coded + pad_bits o g coded) / g) O G in
    let run = sym (one-run (last_symbol_bits (bits * used_of carriers 1) coded) (bits * group_of carriers 1)) in
    same_layout carriers bits coded 1 symbols pad run (sym one-a-group) (sym (one_span carriers)) refl

-- ---- more copies

module _ (carriers bits copies : ℕ) (is : copy_code copies < 6) (enough : all_interleavers copies ≤ carriers) (few : carriers ≤ 411) (bits_pos : 0 < bits) (bits-few : bits ≤ 4) where
  pub symbol-pos : 0 < bits * used_of carriers copies
  symbol-pos =
      mul-pos bits_pos
      (rw (section.used-is carriers copies is enough)
      (mul-pos (section.copies-pos copies is) (mul-pos (section.per-group-pos copies is) (section.span_pos carriers copies is enough))))

  pub symbol-lt : bits * used_of carriers copies ≤ 1644
  symbol-lt = omega (arith, mul-le-mul {n₁ = bits} {m₁ = used_of carriers copies} {n₂ = 4} {m₂ = 411} bits-few (omega (arith, section.used_le carriers copies is enough)))

  pub group-pos : 0 < bits * group_of carriers copies
  group-pos = mul-pos bits_pos (section.group-pos carriers copies is enough)

  pub group-lt : bits * group_of carriers copies ≤ 1644
  unfolding group_of
  group-lt = omega (arith, symbol-lt, mul-le-mul_left bits (div-le_self (used_of carriers copies) copies))

-- the layout that the function makes is the section's, where the interleavers are those of the copies
pub copied-made : (carriers bits copies coded all per group last run step : ℕ) → all ≡ all_interleavers copies → per ≡ group_interleavers copies → (copies ≡ 1 → ⊥)
    → let used : ℕ = all * (carriers / all) in
    group ≡ last_group_bits (bits * used) (bits * (used / copies)) coded → last ≡ last_symbol_bits (bits * used) coded
    → run ≡ shift_run copies last (bits * (used / copies)) → step ≡ rounded_down (carriers / all / (2 * all))
    → ◌≡◌ {A = Layout} (record {
      carriers = carriers;
      bits = bits;
      symbols = (coded + (bits * (used / copies) - group)) / (bits * (used / copies));
      coded = coded;
      pad = bits * (used / copies) - group;
      copies = copies;
      run = run;
      interleavers = per;
      span = carriers / all;
      step = step;
    }) (layout_for carriers bits copies coded)
unfolding layout_for layout_by pad_bits used_of group_of span_of shift_step
copied-made carriers bits copies coded all per group last run step a p more g l r t =
    let O : ℕ → ℕ = λ n. bits * (n * (carriers / n)) in
    let G : ℕ → ℕ = λ n. bits * (n * (carriers / n) / copies) in
    let of : ℕ = all_interleavers copies in
    let pad : G all - group ≡ G of - last_group_bits (O of) (G of) coded =
    ap (λ (k : ℕ). G all - k) g ∙ ap (λ (k : ℕ). G k - last_group_bits (O k) (G k) coded) a in
    let symbols : (coded + (G all - group)) / G all ≡ (coded + (G of - last_group_bits (O of) (G of) coded)) / G of =
    ap₂ (λ (p k : ℕ). (coded + p) / G k) pad a in
    let run' : run ≡ shift_run copies (last_symbol_bits (O of) coded) (G of) =
    r ∙ ap (λ (k : ℕ). shift_run copies k (G all)) l ∙ ap (λ (k : ℕ). shift_run copies (last_symbol_bits (O k) coded) (G k)) a in
    let rounded : ℕ → ℕ = λ n. rounded_down (carriers / n / (2 * n)) in
    let step' : step ≡ cond (eqb copies 1) 0 (rounded of) =
    t ∙ ap rounded a ∙ sym (ap (λ (b : Bool). cond b 0 (rounded of)) (ne_eqb copies 1 more)) in
    same_layout carriers bits coded copies symbols pad run' p (ap (λ (k : ℕ). carriers / k) a) step'
