-- The pages that a search passes.
use Rattle.std.proofs.Common.{◌≡◌, ℕ, suc, ◌-◌, ◌<◌, ◌≤◌, Bool, List, refl, sym, subst, arith, inl, inr}
use Rattle.std.specs.Prelude.{MatchResult, Result, Ok, Err}
use Rattle.heap_page.specs.declared.errors.BadPage.{BadPage}
use Rattle.heap_page.specs.declared.errors.FetchErr.{FetchErr}
use Rattle.heap_page.specs.declared.errors.FetchErr.TheVariants as fetch
use Rattle.rows.specs.declared.plain.KeyIndex.{KeyIndex}
use Rattle.key_index.specs.Aims.{upto_number}
use Rattle.key_index.specs.Entries.{Item}
use Rattle.key_index.specs.Paths.{FirstBroken, HasEntry, HasRank, IfBad, IsBadAbove, IsBadHere, IsBadLeaf, IsFineHead, answer_from, Reaches, ReachesLeaf, StopsEntry, StopsRank}
use Rattle.key_index.specs.Searches.{BreaksAbove, BreaksEntry, BreaksRank, IsEntryAt, IsNext, NotBad, Ranks}

-- what holds of one bad page holds of another
pub bad_too : (P Q : BadPage → Type 0) (e : FetchErr) → ((bad : BadPage) → P bad → Q bad) → IfBad P e → IfBad Q e
bad_too P Q (fetch.DriveFault d) to h = tt
bad_too P Q (fetch.BadPage bad) to h = to bad h
bad_too P Q fetch.NoMemory to h = tt

-- where no page is bad, what was taken is the answer
pub taken : {T : Type 0} (file page : ℕ) (r : Result T ℕ) (got : Result T FetchErr) (P : T → Type 0) → got ≡ answer_from file page r → MatchResult r P (λ rule. ⊥) → MatchResult got P NotBad
taken file page (Ok x) got P e h = rw e h
taken file page (Err rule) got P e h = absurd h

module _ (index : KeyIndex) (pages : ℕ → List ℕ) (p : Item → Bool) where
  pub at_root : Reaches index pages p (index.height - index.height) (index.pages - 1, 0)
  at_root = let z : index.height - index.height ≡ 0 = omega arith in rw z (refl, refl)

  module _ (level page left : ℕ) (most : level ≤ index.height) (lt : 1 < level) (way : Reaches index pages p (index.height - level) (page, left)) where
    same_level : index.height - 1 - (index.height - level) ≡ level - 1
    same_level = omega (arith, most, lt)

    pub one_down : (next start : ℕ) → IsFineHead index pages page → IsNext index (level - 1) left p (pages page) (next, start) → Reaches index pages p (index.height - (level - 1)) (next, start)
    one_down next start head is =
        let s : index.height - (level - 1) ≡ suc (index.height - level) = omega (arith, most, lt) in
        rw s ((page, left), way, head, subst (λ (l : ℕ). IsNext index l left p (pages page) (next, start)) (sym same_level) is)

    bad_here : (bad : BadPage) → IsBadHere index pages page (BreaksAbove index (level - 1) left p (pages page)) bad → IsBadAbove index pages p bad
    bad_here bad h = record {
      steps = index.height - level;
      left = left;
      above = omega (arith, most, lt);
      way = subst (λ (n : ℕ). Reaches index pages p (index.height - level) (n, left)) (sym h.0) way;
      breaks = subst (λ (n : ℕ). FirstBroken index pages n (BreaksAbove index (index.height - 1 - (index.height - level)) left p (pages n)) bad.rule) (sym h.0)
          (subst (λ (l : ℕ). FirstBroken index pages page (BreaksAbove index l left p (pages page)) bad.rule) (sym same_level) h.1);
    }

    pub stops_above : (e : FetchErr) → IfBad (IsBadHere index pages page (BreaksAbove index (level - 1) left p (pages page))) e → IfBad (IsBadAbove index pages p) e
    stops_above e h = bad_too (IsBadHere index pages page (BreaksAbove index (level - 1) left p (pages page))) (IsBadAbove index pages p) e bad_here h

  pub at_leaf : (level page left : ℕ) → level ≤ 1 → 0 < level → Reaches index pages p (index.height - level) (page, left) → ReachesLeaf index pages p (page, left)
  at_leaf level page left le lt way = let one : level ≡ 1 = omega (arith, le, lt) in subst (λ (l : ℕ). Reaches index pages p (index.height - l) (page, left)) one way

  module _ (page left : ℕ) (way : ReachesLeaf index pages p (page, left)) where
    pub leaf_here : (Breaks : ℕ → List ℕ → ℕ → Type 0) (bad : BadPage) → IsBadHere index pages page (Breaks left (pages page)) bad → IsBadLeaf index pages p Breaks bad
    leaf_here Breaks bad h = record {
      left = left;
      way = subst (λ (n : ℕ). ReachesLeaf index pages p (n, left)) (sym h.0) way;
      breaks = subst (λ (n : ℕ). FirstBroken index pages n (Breaks left (pages n)) bad.rule) (sym h.0) h.1;
    }

    pub rank_found : (rank : ℕ) → IsFineHead index pages page × Ranks index left p (pages page) rank → HasRank index pages p rank
    rank_found rank h = λ some. record { at = (page, left); way = way; head = h.0; leaf = h.1 }

    pub rank_stops : 0 < index.entries → (e : FetchErr) → IfBad (IsBadHere index pages page (BreaksRank index left p (pages page))) e → IfBad (StopsRank index pages p) e
    rank_stops some e h = bad_too (IsBadHere index pages page (BreaksRank index left p (pages page))) (StopsRank index pages p) e (λ bad k. (some, inr (leaf_here (λ l. BreaksRank index l p) bad k))) h

  pub rank_stops_above : 0 < index.entries → (e : FetchErr) → IfBad (IsBadAbove index pages p) e → IfBad (StopsRank index pages p) e
  rank_stops_above some e h = bad_too (IsBadAbove index pages p) (StopsRank index pages p) e (λ bad k. (some, inl k)) h

module _ (index : KeyIndex) (pages : ℕ → List ℕ) (number : ℕ) where
  module _ (page left : ℕ) (way : ReachesLeaf index pages (upto_number number) (page, left)) where
    pub entry_found : (found : ℕ × ℕ) → IsFineHead index pages page × IsEntryAt index left number (pages page) found → HasEntry index pages number found
    entry_found found h = record { at = (page, left); way = way; head = h.0; leaf = h.1 }

    pub entry_stops : (e : FetchErr) → IfBad (IsBadHere index pages page (BreaksEntry index left number (pages page))) e → IfBad (StopsEntry index pages number) e
    entry_stops e h = bad_too (IsBadHere index pages page (BreaksEntry index left number (pages page))) (StopsEntry index pages number) e (λ bad k. inr (leaf_here index pages (upto_number number) page left way (λ l. BreaksEntry index l number) bad k)) h

  pub entry_stops_above : (e : FetchErr) → IfBad (IsBadAbove index pages (upto_number number)) e → IfBad (StopsEntry index pages number) e
  entry_stops_above e h = bad_too (IsBadAbove index pages (upto_number number)) (StopsEntry index pages number) e (λ bad k. inl k) h
