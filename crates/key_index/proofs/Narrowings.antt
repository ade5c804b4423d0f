-- The interval that bounds leave, bound by bound.
use Rattle.std.proofs.Common.{◌≡◌, ℕ, zero, suc, ◌+◌, ◌<◌, ◌≤◌, List, [], ◌∷◌, length, drop, get_or, max, min, Option, Some, refl, sym, ap, subst, ◌∙◌, arith, inl, inr}
use Rattle.std.specs.Prelude.{◌⊎◌}
use Rattle.heap_page.specs.declared.errors.BadPage.{BadPage}
use Rattle.heap_page.specs.declared.errors.FetchErr.{FetchErr}
use Rattle.rows.specs.declared.plain.Bound.{Bound}
use Rattle.rows.specs.declared.plain.Interval.{Interval}
use Rattle.rows.specs.declared.plain.KeyEntry.{KeyEntry}
use Rattle.rows.specs.declared.plain.KeyIndex.{KeyIndex}
use Rattle.key_index.specs.Files.{HoldsIndex}
use Rattle.key_index.specs.Intervals.{interval_of, lower_end, lower_of, upper_end, upper_of}
use Rattle.key_index.specs.Paths.{AreLower, AreUpper, HasInterval, IfBad, IsNarrowed, StopsInterval, StopsLower, StopsUpper}
use Rattle.key_index.proofs.Passing.{bad_too}

upper_le : (bounds : List Bound) (entries : List KeyEntry) → upper_of bounds entries ≤ length entries
upper_le [] entries = omega arith
upper_le (b ∷ bs) entries = omega (arith, upper_le bs entries)

all_entries : (index : KeyIndex) (pages : ℕ → List ℕ) (entries : List KeyEntry) → HoldsIndex index pages entries → index.entries ≡ length entries
all_entries index pages entries h = ap (λ (i : KeyIndex). i.entries) h.numbers

upper_most : (index : KeyIndex) (pages : ℕ → List ℕ) (bounds : List Bound) (n : ℕ) → AreUpper index pages bounds n → n ≤ index.entries
upper_most index pages [] n e = omega (arith, e)
upper_most index pages (b ∷ bs) n h = omega (arith, h.4, upper_most index pages bs h.1 h.3)

pub record Narrowing {W : Type 0} (image : W → Option (ℕ → ℕ → List ℕ)) (index : KeyIndex) (bounds : List Bound) (old now : W) (before after : ℕ → ℕ) (ends : Interval) (rest : List Bound) : Type 0 where
  pub same : now ≡ old
  pub counts : (d : ℕ) → before d ≤ after d
  pub low : ends.from ≤ index.entries
  pub high : ends.upto ≤ index.entries
  pub lowers : (f : ℕ → ℕ → List ℕ) → image old ≡ Some f → (n : ℕ) → AreLower index (f index.file) rest n → AreLower index (f index.file) bounds (max ends.from n)
  pub uppers : (f : ℕ → ℕ → List ℕ) → image old ≡ Some f → (n : ℕ) → AreUpper index (f index.file) rest n → AreUpper index (f index.file) bounds (min ends.upto n)
  pub stops : (f : ℕ → ℕ → List ℕ) → image old ≡ Some f → (bad : BadPage) → StopsInterval index (f index.file) rest bad → StopsInterval index (f index.file) bounds bad
  pub told : (f : ℕ → ℕ → List ℕ) (entries : List KeyEntry) → image old ≡ Some f → HoldsIndex index (f index.file) entries →
      (max ends.from (lower_of rest entries) ≡ lower_of bounds entries) × (min ends.upto (upper_of rest entries) ≡ upper_of bounds entries)

module _ {W : Type 0} (image : W → Option (ℕ → ℕ → List ℕ)) (index : KeyIndex) (bounds : List Bound) (old : W) (before : ℕ → ℕ) where
  pub begins : Narrowing image index bounds old old before before (record { from = 0; upto = index.entries }) bounds
  begins = record {
    same = refl;
    counts = λ d. omega arith;
    low = omega arith;
    high = omega arith;
    lowers = λ f is n h. let e : max 0 n ≡ n = omega arith in subst (λ (m : ℕ). AreLower index (f index.file) bounds m) (sym e) h;
    uppers = λ f is n h. let e : min index.entries n ≡ n = omega (arith, upper_most index (f index.file) bounds n h) in subst (λ (m : ℕ). AreUpper index (f index.file) bounds m) (sym e) h;
    stops = λ f is bad h. h;
    told = λ f entries is h. (omega arith, omega (arith, upper_le bounds entries, all_entries index (f index.file) entries h));
  }

  pub narrows : (now next : W) (after later : ℕ → ℕ) (ends new : Interval) (b : Bound) (rest : List Bound) → Narrowing image index bounds old now before after ends (b ∷ rest) → next ≡ now → ((d : ℕ) → after d ≤ later d) →
      (new.from ≤ index.entries) × (new.upto ≤ index.entries) →
      ((f : ℕ → ℕ → List ℕ) (entries : List KeyEntry) → image now ≡ Some f → HoldsIndex index (f index.file) entries →
      (new.from ≡ max ends.from (lower_end b.op b.value entries)) × (new.upto ≡ min ends.upto (upper_end b.op b.value entries))) →
      ((f : ℕ → ℕ → List ℕ) → image now ≡ Some f → IsNarrowed index (f index.file) b ends new) →
      Narrowing image index bounds old next before later new rest
  narrows now next after later ends new b rest n e counts within step path = record {
    same = e ∙ n.same;
    counts = λ d. omega (arith, n.counts d, counts d);
    low = within.0;
    high = within.1;
    lowers = λ f is m h.
        let i = path f (ap image n.same ∙ is) in
        let k : max ends.from (max i.0 m) ≡ max new.from m = omega (arith, i.4) in
        subst (λ (x : ℕ). AreLower index (f index.file) bounds x) k (n.lowers f is (max i.0 m) (i.0, m, i.2, h, refl));
    uppers = λ f is m h.
        let i = path f (ap image n.same ∙ is) in
        let k : min ends.upto (min i.1 m) ≡ min new.upto m = omega (arith, i.5) in
        subst (λ (x : ℕ). AreUpper index (f index.file) bounds x) k (n.uppers f is (min i.1 m) (i.1, m, i.3, h, refl));
    stops = λ f is bad h. n.stops f is bad (inr (inr h));
    told = λ f entries is h.
        let was = n.told f entries is h in
        let got = step f entries (ap image n.same ∙ is) h in
        (omega (arith, was.0, got.0), omega (arith, was.1, got.1));
  }

  pub interval_found : (now : W) (after : ℕ → ℕ) (ends : Interval) → Narrowing image index bounds old now before after ends [] → (top : ℕ) → top ≡ max ends.from ends.upto →
      (f : ℕ → ℕ → List ℕ) → image old ≡ Some f → HasInterval index (f index.file) bounds (record { from = ends.from; upto = top })
  interval_found now after ends n top e f is =
      let a : max ends.from 0 ≡ ends.from = omega arith in
      let b : min ends.upto index.entries ≡ ends.upto = omega (arith, n.high) in
      (ends.upto, subst (λ (x : ℕ). AreLower index (f index.file) bounds x) a (n.lowers f is 0 refl), subst (λ (x : ℕ). AreUpper index (f index.file) bounds x) b (n.uppers f is index.entries refl), e)

  -- a search that stops at one bound
  pub interval_stops : (now : W) (after : ℕ → ℕ) (ends : Interval) (b : Bound) (rest : List Bound) → Narrowing image index bounds old now before after ends (b ∷ rest) → (f : ℕ → ℕ → List ℕ) → image old ≡ Some f → (e : FetchErr) →
      (image now ≡ Some f → IfBad (λ bad. StopsLower index (f index.file) b.op b.value bad ⊎ StopsUpper index (f index.file) b.op b.value bad) e) → IfBad (StopsInterval index (f index.file) bounds) e
  interval_stops now after ends b rest n f is e h =
      bad_too (λ bad. StopsLower index (f index.file) b.op b.value bad ⊎ StopsUpper index (f index.file) b.op b.value bad) (StopsInterval index (f index.file) bounds) e
      (λ bad k. n.stops f is bad (one bad k)) (h (ap image n.same ∙ is)) where
        one : (bad : BadPage) → StopsLower index (f index.file) b.op b.value bad ⊎ StopsUpper index (f index.file) b.op b.value bad → StopsInterval index (f index.file) (b ∷ rest) bad
        one bad (inl k) = inl k
        one bad (inr k) = inr (inl k)

  pub found : (now : W) (after : ℕ → ℕ) (ends : Interval) → Narrowing image index bounds old now before after ends [] → (top : ℕ) → top ≡ max ends.from ends.upto →
      (f : ℕ → ℕ → List ℕ) (entries : List KeyEntry) → image old ≡ Some f → HoldsIndex index (f index.file) entries → ◌≡◌ {A = Interval} (record { from = ends.from; upto = top }) (interval_of bounds entries)
  found now after ends n top e f entries is h =
      let was = n.told f entries is h in
      let a : ends.from ≡ lower_of bounds entries = omega (arith, was.0) in
      let b : top ≡ max (lower_of bounds entries) (upper_of bounds entries) = omega (arith, was.0, was.1, e, n.high, all_entries index (f index.file) entries h) in
      rw (a, b) refl

pub bound_here : (bs : List Bound) (i : ℕ) (b : Bound) → i < length bs → b ≡ get_or bs i b → drop i bs ≡ b ∷ drop (i + 1) bs
bound_here [] i b lt e = absurd (omega arith)
bound_here (x ∷ xs) zero b lt e = ap (λ (y : Bound). y ∷ xs) (sym e)
bound_here (x ∷ xs) (suc i) b lt e = let k : suc i + 1 ≡ suc (i + 1) = omega arith in rw k (bound_here xs i b (omega arith) e)
