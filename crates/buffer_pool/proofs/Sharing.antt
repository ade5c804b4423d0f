-- A pool that threads share.
use Rattle.std.proofs.Common.{◌≡◌, ◌≢◌, ℕ, zero, suc, ◌+◌, ◌<◌, ◌≤◌, max, List, [], ◌∷◌, ◌++◌, length, Option, Some, None, Result, refl, sym, ap, subst, ◌∙◌, arith, append_assoc, append-nil}
use mathlib.Core.Logic.{dite}
use native.Mathlib.Decide.{ℕ_discrete}
use Rattle.std.specs.Prelude.{IfOk, IfErr, option_map, slice_get}
use Rattle.std.specs.List.{All}
use Rattle.std.specs.Option.{option_map_or}
use Rattle.std.specs.Arc.{arc_value}
use Rattle.std.specs.declared.sync.Arc.{Arc}
use Rattle.std.specs.declared.alloc.Global.{Global}
use Rattle.std.proofs.lemmas.List.Elements.{All-get_or, All-push}
use Rattle.std.proofs.lemmas.Option.{get_or_from_slice_get, slice_get-map, slice_get_within}
use Rattle.run_lock.specs.declared.lock.RunLock.{RunLock}
use Rattle.run_lock.specs.declared.lock.Pass.{Pass}
use Rattle.run_lock.specs.Passes.{seen_of}
use Rattle.xp_outside.specs.declared.drive.Drive.{Ghosts}
use Rattle.heap_page.specs.declared.page.Page.{Page}
use Rattle.heap_page.specs.declared.map.FileMap.{FileMap}
use Rattle.heap_page.specs.declared.errors.FetchErr.{FetchErr}
use Rattle.heap_page.specs.Maps.{HasPage}
use Rattle.heap_page.specs.Sources.{FetchCause, IsGiven}
use Rattle.heap_page.specs.Stores.{AreRead, IsRead}
use Rattle.buffer_pool.specs.Fetched.{IsFetched}
use Rattle.buffer_pool.specs.Images.{image_on}
use Rattle.buffer_pool.specs.Locks.{CoversSeen, Each, drives_seen, lock_drive, lock_drives}
use Rattle.buffer_pool.specs.Places.{IsPlaced}
use Rattle.buffer_pool.specs.Seats.{seen_in}
use Rattle.buffer_pool.specs.declared.place.Place.{Place}
use Rattle.buffer_pool.specs.declared.named.ShardName.{ShardName}
use Rattle.buffer_pool.specs.declared.shard.Shard.{Shard}
use Rattle.buffer_pool.specs.Counts.{Covers, up_to}
use Rattle.buffer_pool.proofs.Counting.{length-up_to}
use Rattle.buffer_pool.proofs.Lists.{item_at}
use Rattle.buffer_pool.proofs.Fetching.{caused, given}
use Rattle.buffer_pool.proofs.Pairs.{each_at, each_both, each_length, each_same}

pub read_none : {D : Type 0} (g : Ghosts D) (d : D) → IsRead g d d
read_none g d = record { size = refl; count = omega arith; told = refl }

none_is : {A : Type 0} (x : A) → None ≡ Some x → ⊥
none_is x e = cc

-- one more drive has its lock
pub locked_more : {D : Type 0} (all old new drives rest : List D) (x : D) → new ≡ old ++ x ∷ [] → drives ≡ x ∷ rest → old ++ drives ≡ all → new ++ rest ≡ all
locked_more all old new drives rest x more first same = ap (λ l. l ++ rest) more ∙ append_assoc old (x ∷ []) rest ∙ ap (λ l. old ++ l) (sym first) ∙ same

-- all have
pub locked_all : {D : Type 0} (all locked drives : List D) → locked ++ drives ≡ all → drives ≡ [] → locked ≡ all
locked_all all locked drives same none = sym (append-nil locked) ∙ ap (λ l. locked ++ l) (sym none) ∙ same

-- what a seat has seen that joins another, shard by shard from the last
pub joined_more : (first old new other : ℕ → ℕ) (n place x : ℕ) → n ≡ place + 1 → ((d : ℕ) → d < n → old d ≡ first d) → ((d : ℕ) → n ≤ d → old d ≡ max (first d) (other d)) →
    new place ≡ max (old place) x → ((d : ℕ) → d ≢ place → new d ≡ old d) → other place ≡ x → ((d : ℕ) → d < place → new d ≡ first d) × ((d : ℕ) → place ≤ d → new d ≡ max (first d) (other d))
joined_more first old new other n place x size below above joined others is = (
  (λ d lt. others d (λ same. absurd (omega arith)) ∙ below d (omega arith)),
  (λ d le. dite (ℕ_discrete d place)
      (λ hit. subst (λ k. new k ≡ max (first k) (other k)) (sym hit) (let was : old place ≡ first place = below place (omega arith) in omega (arith, joined, was, is)))
      (λ miss. others d miss ∙ above d (omega (arith, miss, le, size)))),
)

-- drives that came back, as the clauses of other calls say it
pub are_read : {D : Type 0} (g : Ghosts D) (old new : List D) → Each (IsRead g) old new → AreRead g old new
are_read g old new e = record { len = each_length (IsRead g) old new e; each = each_at (IsRead g) old new e }

-- the drives of the locks, and then those that were not locked
pub handed_back : {D : Type 0} (g : Ghosts D) (named unlocked first rest back drives : List D) (drive : D) → Each (IsRead g) named unlocked → first ≡ unlocked ++ drive ∷ [] → back ++ rest ≡ first ++ drives → rest ≡ [] → Each (IsRead g) (named ++ drive ∷ drives) back
handed_back g named unlocked first rest back drives drive e f same none =
    let all : back ≡ unlocked ++ drive ∷ drives = sym (append-nil back) ∙ ap (λ l. back ++ l) (sym none) ∙ same ∙ ap (λ l. l ++ drives) f ∙ append_assoc unlocked (drive ∷ []) drives in
    subst (λ l. Each (IsRead g) (named ++ drive ∷ drives) l) (sym all) (each_both (IsRead g) named (drive ∷ drives) unlocked (drive ∷ drives) e (each_same (IsRead g) (drive ∷ drives) (read_none g)))

module _ {F D E : Type 0} where
  -- one more lock is open
  pub unlocked_more : (all done : List D) (locks rest : List (RunLock F (ShardName D) E)) (lock : RunLock F (ShardName D) E) → all ≡ done ++ lock_drives locks → locks ≡ lock ∷ rest → all ≡ (done ++ lock_drive lock ∷ []) ++ lock_drives rest
  unlocked_more all done locks rest lock same first = same ∙ ap (λ ls. done ++ lock_drives ls) first ∙ sym (append_assoc done (lock_drive lock ∷ []) (lock_drives rest))

  -- all are
  pub unlocked_all : (all done : List D) (locks : List (RunLock F (ShardName D) E)) → all ≡ done ++ lock_drives locks → locks ≡ [] → all ≡ done
  unlocked_all all done locks same none = same ∙ ap (λ ls. done ++ lock_drives ls) none ∙ append-nil done

  seen_first : (locks : List (RunLock F (ShardName D) E)) (passes : List (Pass F (ShardName D) E)) (lock : RunLock F (ShardName D) E) (rest : List (RunLock F (ShardName D) E)) (pass : Pass F (ShardName D) E) (others : List (Pass F (ShardName D) E)) →
      locks ≡ lock ∷ rest → passes ≡ pass ∷ others → drives_seen locks passes ≡ (lock_drive lock, seen_of pass) ∷ drives_seen rest others
  seen_first locks passes lock rest pass others e f = λ i. drives_seen (e i) (f i)

  pub seen_more_unlocked : (all done : List (D × ℕ)) (locks rest : List (RunLock F (ShardName D) E)) (passes others : List (Pass F (ShardName D) E)) (lock : RunLock F (ShardName D) E) (pass : Pass F (ShardName D) E) → all ≡ done ++ drives_seen locks passes → locks ≡ lock ∷ rest → passes ≡ pass ∷ others →
      all ≡ (done ++ (lock_drive lock, seen_of pass) ∷ []) ++ drives_seen rest others
  seen_more_unlocked all done locks rest passes others lock pass same first second =
      same ∙ ap (λ ls. done ++ ls) (seen_first locks passes lock rest pass others first second) ∙ sym (append_assoc done ((lock_drive lock, seen_of pass) ∷ []) (drives_seen rest others))

  pub seen_all_unlocked : (all done : List (D × ℕ)) (locks : List (RunLock F (ShardName D) E)) (passes : List (Pass F (ShardName D) E)) → all ≡ done ++ drives_seen locks passes → locks ≡ [] → all ≡ done
  seen_all_unlocked all done locks passes same none = same ∙ ap (λ ls. done ++ drives_seen ls passes) none ∙ append-nil done

  seen_get : (locks : List (RunLock F (ShardName D) E)) (passes : List (Pass F (ShardName D) E)) (d : ℕ) (named : D) → length passes ≡ length locks → slice_get (lock_drives locks) d ≡ Some named →
      slice_get (drives_seen locks passes) d ≡ Some (named, option_map_or seen_of (slice_get passes d) 0)
  seen_get [] passes d named len at = absurd cc
  seen_get (l ∷ ls) [] d named len at = absurd (omega arith)
  seen_get (l ∷ ls) (p ∷ ps) zero named len at = let same : lock_drive l ≡ named = cc in ap (λ (x : D). Some (x, seen_of p)) same
  seen_get (l ∷ ls) (p ∷ ps) (suc d) named len at = seen_get ls ps d named (omega arith) at

  -- what was seen of each drive that came back
  pub covers_back : (g : Ghosts D) (locks : List (RunLock F (ShardName D) E)) (passes : List (Pass F (ShardName D) E)) (back : List D) → length passes ≡ length locks → Each (CoversSeen g) (drives_seen locks passes) back →
      (d : ℕ) (named drive : D) → slice_get (lock_drives locks) d ≡ Some named → slice_get back d ≡ Some drive → Covers (g.faults named) (option_map_or seen_of (slice_get passes d) 0) (g.faults drive)
  covers_back g locks passes back len each d named drive at here =
      each_at (CoversSeen g) (drives_seen locks passes) back each d (named, option_map_or seen_of (slice_get passes d) 0) drive (seen_get locks passes d named len at) here

-- a count that covers a counter covers what was seen of it
pub covers_less : (named seen counter count : ℕ) → seen ≤ counter → Covers named counter count → Covers named seen count
covers_less named seen counter count less covers = omega arith

module _ {D : Type 0} {g : Ghosts D} where
  -- passes that have seen nothing
  pub none_seen : (passes : List (Pass (Shard D g) (ShardName D) ℕ)) → All (λ (p : Pass (Shard D g) (ShardName D) ℕ). seen_of p ≡ 0) passes → (d : ℕ) → seen_in passes d ≡ 0
  none_seen passes all d = by (slice_get passes d) refl where
    by : (o : Option (Pass (Shard D g) (ShardName D) ℕ)) → slice_get passes d ≡ o → option_map_or seen_of o 0 ≡ 0
    by None e = refl
    by (Some p) e = ap seen_of (sym (get_or_from_slice_get passes d p p e)) ∙ All-get_or (λ (p : Pass (Shard D g) (ShardName D) ℕ). seen_of p ≡ 0) passes d p (slice_get_within passes d p e) all

  pub seen_here : (passes : List (Pass (Shard D g) (ShardName D) ℕ)) (d : ℕ) (p : Pass (Shard D g) (ShardName D) ℕ) → slice_get passes d ≡ Some p → seen_in passes d ≡ seen_of p
  seen_here passes d p e = ap (λ (o : Option (Pass (Shard D g) (ShardName D) ℕ)). option_map_or seen_of o 0) e

  -- a pass of a new shard has seen nothing
  pub seen_more : (passes passes' : List (Pass (Shard D g) (ShardName D) ℕ)) (pass : Pass (Shard D g) (ShardName D) ℕ) (counter : ℕ) → All (λ (p : Pass (Shard D g) (ShardName D) ℕ). seen_of p ≡ 0) passes → seen_of pass ≡ length (up_to counter) → counter ≡ 0 → passes' ≡ passes ++ pass ∷ [] →
      All (λ (p : Pass (Shard D g) (ShardName D) ℕ). seen_of p ≡ 0) passes'
  seen_more passes passes' pass counter all seen none more =
      subst (All (λ (p : Pass (Shard D g) (ShardName D) ℕ). seen_of p ≡ 0)) (sym more) (All-push (λ (p : Pass (Shard D g) (ShardName D) ℕ). seen_of p ≡ 0) passes pass all (seen ∙ length-up_to counter ∙ none))

  -- passes that have seen as much, one by one
  pub seen_same : (passes olds : List (Pass (Shard D g) (ShardName D) ℕ)) → length passes ≡ length olds → ((d : ℕ) (p : Pass (Shard D g) (ShardName D) ℕ) → slice_get passes d ≡ Some p → seen_of p ≡ seen_in olds d) → (d : ℕ) → seen_in passes d ≡ seen_in olds d
  seen_same passes olds len same d = by (slice_get passes d) (slice_get olds d) refl refl where
    by : (o n : Option (Pass (Shard D g) (ShardName D) ℕ)) → slice_get passes d ≡ o → slice_get olds d ≡ n → option_map_or seen_of o 0 ≡ option_map_or seen_of n 0
    by None None at was = refl
    by None (Some q) at was = let is = item_at passes d (omega (arith, slice_get_within olds d q was, len)) in absurd (none_is is.0 (sym at ∙ is.1))
    by (Some p) n at was = same d p at ∙ ap (λ (x : Option (Pass (Shard D g) (ShardName D) ℕ)). option_map_or seen_of x 0) was

  -- what a shared pool answers
  pub answered : (files : FileMap) (locks : List (RunLock (Shard D g) (ShardName D) ℕ)) (lock : RunLock (Shard D g) (ShardName D) ℕ) (file page : ℕ) (place : Place) (before now : ℕ → ℕ) (b n : ℕ) (r : Result (Arc Page Global) FetchErr) →
      IsPlaced files file page place → HasPage files.files.items file page → slice_get locks place.drive ≡ Some lock →
      b ≡ before place.drive → n ≡ now place.drive → IsFetched (g.pages (lock_drive lock)) place file page b n r →
      IfOk r (λ found. IsGiven files.files.items (image_on g files (lock_drives locks)) file page (arc_value found))
      × IfErr r (FetchCause files.files.items (image_on g files (lock_drives locks)) files.drives before now file page)
  answered files locks lock file page place before now b n r placed has at was is fetched =
      let got = subst (λ x. IsFetched (g.pages (lock_drive lock)) place file page (before place.drive) x r) is (subst (λ x. IsFetched (g.pages (lock_drive lock)) place file page x n r) was fetched) in
      let named : slice_get (lock_drives locks) place.drive ≡ Some (lock_drive lock) = slice_get-map lock_drive locks place.drive ∙ ap (option_map lock_drive) at in (
        given g files (lock_drives locks) file page place (lock_drive lock) before now placed has named r got,
        caused g files (lock_drives locks) file page place (lock_drive lock) before now placed has named r got,
      )
