-- Walking a list for the best so far ends at the first that none comes before.
use Rattle.std.proofs.Common.{◌≡◌, ◌∙◌, sym, refl, ap, subst, arith, ℕ, suc, ◌<◌, Bool, true, false, List, [], ◌∷◌, ◌++◌, Some, None, length, get_or, cond, not, unwrap_or, ◌&&◌}
use Rattle.std.specs.List.{All, best_of, find}
use Rattle.std.proofs.lemmas.List.{append-nil, append_assoc}
use Rattle.std.proofs.lemmas.List.Folds.{list_all-append, find-append}
use Rattle.std.proofs.lemmas.List.Sums.{AllPass-from_list_all, list_all-from_AllPass}
use Rattle.std.proofs.lemmas.List.Elements.{All-nil, All-push, All-tail}
use Rattle.io_cpu_scheduler.specs.declared.load.Load.{Load}
use Rattle.io_cpu_scheduler.specs.Loads.{first_best, first_unbeaten, is_unbeaten}
use Rattle.io_cpu_scheduler.proofs.Balances.{not_true}

-- both cases of a test
pub by_test : (b : Bool) (P : Type 0) → (b ≡ true → P) → (b ≡ false → P) → P
by_test true P when else_when = when refl
by_test false P when else_when = else_when refl

not_both : (b : Bool) → b ≡ true → b ≡ false → ⊥
not_both b t f = cc

find_passes : (p : Load → Bool) (ls : List Load) (b : Load) → find p ls ≡ Some b → p b ≡ true
find_passes p [] b is = absurd cc
find_passes p (l ∷ ls) b is = by_test (p l) (p b ≡ true)
    (λ hit. let same : l ≡ b = ap (λ o. unwrap_or o l) (subst (λ t. cond t (Some l) (find p ls) ≡ Some b) hit is) in subst (λ x. p x ≡ true) same hit)
    (λ miss. find_passes p ls b (subst (λ t. cond t (Some l) (find p ls) ≡ Some b) miss is))

-- a test that passes no load that another failed finds the same, if that passes
find_kept : (p q : Load → Bool) (ls more : List Load) (b : Load) → find p ls ≡ Some b → ((x : Load) → p x ≡ false → q x ≡ false) → q b ≡ true → find q (ls ++ more) ≡ Some b
find_kept p q [] more b is fails passes = absurd cc
find_kept p q (l ∷ ls) more b is fails passes = by_test (p l) (find q ((l ∷ ls) ++ more) ≡ Some b)
    (λ hit.
    let same : l ≡ b = ap (λ o. unwrap_or o l) (subst (λ t. cond t (Some l) (find p ls) ≡ Some b) hit is) in
    let also : q l ≡ true = subst (λ x. q x ≡ true) (sym same) passes in
    rw (also) (ap (λ x. Some x) same))
    (λ miss. rw (fails l miss) (find_kept p q ls more b (subst (λ t. cond t (Some l) (find p ls) ≡ Some b) miss is) fails passes))

find_none : (q : Load → Bool) (ls : List Load) → ((k : ℕ) (d : Load) → k < length ls → q (get_or ls k d) ≡ false) → find q ls ≡ None
find_none q [] fails = refl
find_none q (l ∷ ls) fails = rw (fails 0 l (omega arith)) (find_none q ls (λ k d less. fails (suc k) d (omega arith)))

-- what an order of loads has to keep among the loads that fit
pub record IsOrder (wins : Load → Load → Bool) (Fits : Load → Type 0) : Type 0 where
  pub one_way : (a b : Load) → wins a b ≡ true → wins b a ≡ false
  pub chain : (a b c : Load) → Fits a → Fits b → Fits c → wins a b ≡ false → wins b c ≡ false → wins a c ≡ false

module _ (wins : Load → Load → Bool) (Fits : Load → Type 0) (order : IsOrder wins Fits) where
  never_itself : (a : Load) → wins a a ≡ false
  never_itself a = not_true (wins a a) (λ t. not_both (wins a a) t (order.one_way a a t))

  -- one more load
  tested : (ls : List Load) (l x : Load) → is_unbeaten wins (ls ++ l ∷ []) x ≡ (is_unbeaten wins ls x && (not (wins l x) && true))
  tested ls l x = list_all-append (λ other. not (wins other x)) ls (l ∷ [])

  -- none of the list comes before the one that was found
  over : (ls : List Load) (b : Load) → first_unbeaten wins ls ≡ Some b → (k : ℕ) (d : Load) → k < length ls → wins (get_or ls k d) b ≡ false
  over ls b is k d less =
      let passes = AllPass-from_list_all (λ other. not (wins other b)) ls (find_passes (is_unbeaten wins ls) ls b is) k d less in
      not_true _ (λ t. not_both true refl (sym passes ∙ ap not t))

  stays : (ls : List Load) (l b : Load) → first_unbeaten wins ls ≡ Some b → wins l b ≡ false → first_unbeaten wins (ls ++ l ∷ []) ≡ Some b
  stays ls l b is loses = find_kept (is_unbeaten wins ls) (is_unbeaten wins (ls ++ l ∷ [])) ls (l ∷ []) b is
      (λ x fails. rw (tested ls l x, fails) refl)
      (rw (tested ls l b, find_passes (is_unbeaten wins ls) ls b is, loses) refl)

  changes : (ls : List Load) (l b : Load) → All Fits ls → Fits l → Fits b → first_unbeaten wins ls ≡ Some b → wins l b ≡ true → first_unbeaten wins (ls ++ l ∷ []) ≡ Some l
  changes ls l b all fit fit_b is beaten =
      let q = is_unbeaten wins (ls ++ l ∷ []) in
      let none : find q ls ≡ None = find_none q ls (λ k d less.
      let x = get_or ls k d in
      let loses : wins l x ≡ true = by_test (wins l x) (wins l x ≡ true) (λ t. t) (λ f. absurd (not_both (wins l b) beaten (order.chain l x b fit (all k d less) fit_b f (over ls b is k d less)))) in
      by_test (is_unbeaten wins ls x) (q x ≡ false) (λ t. rw (tested ls l x, t, loses) refl) (λ f. rw (tested ls l x, f) refl)) in
      let among : is_unbeaten wins ls l ≡ true = list_all-from_AllPass (λ other. not (wins other l)) ls (λ k d less.
      let x = get_or ls k d in
      let loses : wins x l ≡ false = not_true (wins x l) (λ t. not_both (wins l b) beaten (order.chain l x b fit (all k d less) fit_b (order.one_way x l t) (over ls b is k d less))) in
      rw (loses) refl) in
      let found : q l ≡ true = rw (tested ls l l, among, never_itself l) refl in
      rw (find-append q ls (l ∷ []), none, found) refl

  -- the best so far, from the front of the list on
  walks : (seen : List Load) (b : Load) (rest : List Load) → All Fits seen → Fits b → All Fits rest → first_unbeaten wins seen ≡ Some b → first_unbeaten wins (seen ++ rest) ≡ Some (best_of wins b rest)
  walks seen b [] all fit others is = rw (append-nil seen) is
  walks seen b (l ∷ ls) all fit others is =
      let fit_l : Fits l = others 0 l (omega arith) in
      let all_l : All Fits (seen ++ l ∷ []) = All-push Fits seen l all fit_l in
      let tail : All Fits ls = All-tail Fits l ls others in
      rw (← append_assoc seen (l ∷ []) ls) (by_test (wins l b) (first_unbeaten wins ((seen ++ l ∷ []) ++ ls) ≡ Some (best_of wins b (l ∷ ls)))
      (λ t. rw (t) (walks (seen ++ l ∷ []) l ls all_l fit_l tail (changes seen l b all fit_l fit is t)))
      (λ f. rw (f) (walks (seen ++ l ∷ []) b ls all_l fit tail (stays seen l b is f))))

  pub unbeaten_is_best : (ls : List Load) → All Fits ls → first_unbeaten wins ls ≡ first_best wins ls
  unbeaten_is_best [] all = refl
  unbeaten_is_best (l ∷ ls) all =
      let fit : Fits l = all 0 l (omega arith) in
      walks (l ∷ []) l ls (All-push Fits [] l (All-nil Fits) fit) fit (All-tail Fits l ls all) (rw (never_itself l) refl)
