-- What a cache keeps.
use Rattle.std.proofs.Common.{◌≡◌, ℕ, true, false, List, [], ◌∷◌, Option, Some, None, Result, Ok, Err, refl, sym, ap, subst, ◌∙◌, nat_eq, inl, inr, ◌-◌, take}
use Rattle.std.specs.Prelude.{◌⊎◌, IfOk, OnErr, option_map, slice_get}
use Rattle.std.specs.List.{Contains}
use Rattle.std.specs.Map.{lookup, lookup_entry, remove_entry}
use Rattle.std.specs.Option.{option_map_or}
use Rattle.std.specs.Arc.{arc_value}
use Rattle.std.specs.declared.sync.Arc.{Arc}
use Rattle.std.specs.declared.alloc.Global.{Global}
use Rattle.std.proofs.lemmas.Bool.{eqb-true}
use Rattle.xp_outside.specs.Drives.{ReadsPage}
use Rattle.heap_page.specs.declared.page.Page.{Page}
use Rattle.heap_page.specs.declared.head.FileKind.{FileKind}
use Rattle.heap_page.specs.declared.errors.FetchErr.{FetchErr}
use Rattle.heap_page.specs.declared.errors.FetchErr.TheVariants.{DriveFault, BadPage, NoMemory}
use Rattle.lru.specs.LruCache.{LruCache, lru_cache, promoted}
use Rattle.lru.proofs.CallerLemmas.{Contains-lookup, Contains-lookup_entry, Contains-put_entries}
use Rattle.buffer_pool.specs.Told.{AreTold, IsTold}
use Rattle.buffer_pool.specs.Used.{BeginsWith, IsCachedBad, IsToldBad, IsUsed}

-- what a read gives is told
pub told_read : (told : Option (List (List ℕ))) (address : ℕ) (bytes : List ℕ) → ReadsPage told address bytes → IsTold told address bytes
told_read None address bytes h = λ pages is. absurd cc
told_read (Some told) address bytes h = λ pages is. let same : told ≡ pages = cc in subst (λ (ps : List (List ℕ)). slice_get ps address ≡ Some bytes) same h

-- a look-up finds the value of the entry that it finds
pub lookup_is : {V : Type 0} (address : ℕ) (es : List (ℕ × V)) (v : V) → lookup (nat_eq address) es ≡ Some v → (e : ℕ × V) × (lookup_entry (nat_eq address) es ≡ Some e) × (e.1 ≡ v)
lookup_is address [] v h = absurd cc
lookup_is address (f ∷ es) v h = (elim (nat_eq address f.0) as (λ y. nat_eq address f.0 ≡ y → (e : _) × (lookup_entry (nat_eq address) (f ∷ es) ≡ Some e) × (e.1 ≡ v)) [
  | true ↦ λ t. let found = rw t at h in let same : f.1 ≡ v = cc in (f, rw t refl, same)
  | false ↦ λ t. let rest : lookup (nat_eq address) es ≡ Some v = rw t at h in let on = lookup_is address es v rest in (on.0, rw t on.1, on.2)
]) refl

-- a page with the value of a cached one is with its value in the cache
found_is : (found : Arc Page Global) (o : Option (Arc Page Global)) → option_map arc_value (Some found) ≡ option_map arc_value o → (cached : Arc Page Global) × (o ≡ Some cached) × (arc_value cached ≡ arc_value found)
found_is found (Some cached) e = (cached, refl, sym (some_is (arc_value found) (arc_value cached) e)) where
  some_is : (x y : List ℕ) → Some x ≡ Some y → x ≡ y
  some_is x y e = cc
found_is found None e = absurd cc

-- a cached page is the told one
pub told_found : (told : Option (List (List ℕ))) (address : ℕ) (es : List (ℕ × Arc Page Global)) (found : Arc Page Global) → AreTold told es →
    option_map arc_value (Some found) ≡ option_map arc_value (lookup (nat_eq address) es) → IsTold told address (arc_value found)
told_found told address es found h is =
    let cached = found_is found (lookup (nat_eq address) es) is in
    told_lookup told address es cached.0 (arc_value found) h cached.1 cached.2
  where
    told_lookup : (told : Option (List (List ℕ))) (address : ℕ) (es : List (ℕ × Arc Page Global)) (cached : Arc Page Global) (bytes : List ℕ) → AreTold told es → lookup (nat_eq address) es ≡ Some cached → arc_value cached ≡ bytes → IsTold told address bytes
    told_lookup told address es cached bytes h is same =
        let entry = Contains-lookup (nat_eq address) es cached is in
        let key : address ≡ entry.0 = eqb-true address entry.0 entry.2 in
        subst (λ (b : List ℕ). IsTold told address b) same (subst (λ (a : ℕ). IsTold told a (arc_value cached)) (sym key) (h (entry.0, cached) entry.1))

-- a cached page that breaks a rule is a told one that does
pub told_bad : (told : Option (List (List ℕ))) (kind : FileKind) (file page address : ℕ) (es : List (ℕ × Arc Page Global)) (e : FetchErr) → AreTold told es →
    IsCachedBad kind file page (lookup (nat_eq address) es) e → IsToldBad told kind file page address e
told_bad told kind file page address es e h = by (lookup (nat_eq address) es) refl e where
  by : (o : Option (Arc Page Global)) → lookup (nat_eq address) es ≡ o → (e : FetchErr) → IsCachedBad kind file page o e → IsToldBad told kind file page address e
  by None is (DriveFault d) b = tt
  by None is (BadPage bad) b = absurd cc
  by None is NoMemory b = tt
  by (Some cached) is (DriveFault d) b = tt
  by (Some cached) is (BadPage bad) b = (b.0, b.1, (arc_value cached, told_found told address es cached h (ap (option_map arc_value) (sym is)), b.2))
  by (Some cached) is NoMemory b = tt

-- a cached page that is made the first was used
pub used_again : (address : ℕ) (old new : LruCache ℕ (Arc Page Global)) (found : Arc Page Global) →
    option_map arc_value (Some found) ≡ option_map arc_value (lookup (nat_eq address) old.entries) → new ≡ lru_cache (promoted (nat_eq address) old.entries) old.cap → IsUsed address (arc_value found) old new
used_again address old new found is after =
    let cached = found_is found (lookup (nat_eq address) old.entries) is in
    let entry = lookup_is address old.entries cached.0 cached.1 in
    (cached.0, cached.2, after ∙ ap (λ es. lru_cache es old.cap) (same (lookup_entry (nat_eq address) old.entries) entry.0 cached.0 entry.1 entry.2))
  where
    same : (o : Option (ℕ × Arc Page Global)) (e : ℕ × Arc Page Global) (page : Arc Page Global) → o ≡ Some e → e.1 ≡ page →
        option_map_or (λ f. f ∷ remove_entry (nat_eq address) old.entries) o old.entries ≡ option_map_or (λ f. (f.0, page) ∷ remove_entry (nat_eq address) old.entries) o ((address, page) ∷ take (old.cap - 1) old.entries)
    same o e page h v = rw (h, sym v) refl

-- a page that was used is told, so all that are cached then are
pub stay_used : (told : Option (List (List ℕ))) (address : ℕ) (bytes : List ℕ) (old new : LruCache ℕ (Arc Page Global)) → IsTold told address bytes → IsUsed address bytes old new → AreTold told old.entries → AreTold told new.entries
stay_used told address bytes old new t used h = λ e at. elim (Contains-put_entries nat_eq old address used.0 e (subst (λ (c : LruCache ℕ (Arc Page Global)). Contains c.entries e) used.2 at)) [
  | inl was ↦ h e was
  | inr put ↦ is_put e put.0 (key_is e put.1)
] where
  key_is : (e : ℕ × Arc Page Global) → (e.0 ≡ address) ⊎ ((w : Arc Page Global) × Contains old.entries (e.0, w) × (nat_eq address e.0 ≡ true)) → address ≡ e.0
  key_is e (inl same) = sym same
  key_is e (inr was) = eqb-true address e.0 was.2

  is_put : (e : ℕ × Arc Page Global) → e.1 ≡ used.0 → address ≡ e.0 → IsTold told e.0 (arc_value e.1)
  is_put e same key = subst (λ (b : List ℕ). IsTold told e.0 b) (sym (ap arc_value same ∙ used.1)) (subst (λ (a : ℕ). IsTold told a bytes) key t)

-- and it comes first
pub first_used : (address : ℕ) (bytes : List ℕ) (old new : LruCache ℕ (Arc Page Global)) → IsUsed address bytes old new → BeginsWith address bytes new.entries
first_used address bytes old new used = (used.0, used.1, ap (λ (c : LruCache ℕ (Arc Page Global)). slice_get c.entries 0) used.2 ∙ by (lookup_entry (nat_eq address) old.entries) refl) where
  by : (o : Option (ℕ × Arc Page Global)) → lookup_entry (nat_eq address) old.entries ≡ o →
      slice_get (option_map_or (λ e. (e.0, used.0) ∷ remove_entry (nat_eq address) old.entries) o ((address, used.0) ∷ take (old.cap - 1) old.entries)) 0 ≡ Some (address, used.0)
  by None e = refl
  by (Some f) e = let key : address ≡ f.0 = eqb-true address f.0 (Contains-lookup_entry (nat_eq address) old.entries f e).1 in ap (λ (k : ℕ). Some (k, used.0)) (sym key)

-- so where a fetch answers a page
pub first_result : (address : ℕ) (old new : LruCache ℕ (Arc Page Global)) (r : Result (Arc Page Global) FetchErr) → IfOk r (λ found. IsUsed address (arc_value found) old new) → IfOk r (λ found. BeginsWith address (arc_value found) new.entries)
first_result address old new (Ok found) h = first_used address (arc_value found) old new h
first_result address old new (Err e) h = tt

-- whatever a fetch answers that read a told page, the cached pages are told
pub stay_result : (told : Option (List (List ℕ))) (address : ℕ) (old new : LruCache ℕ (Arc Page Global)) (r : Result (Arc Page Global) FetchErr) → IfOk r (λ found. IsTold told address (arc_value found)) →
    IfOk r (λ found. IsUsed address (arc_value found) old new) → OnErr r (new ≡ old) → AreTold told old.entries → AreTold told new.entries
stay_result told address old new (Ok found) t used same h = stay_used told address (arc_value found) old new t used h
stay_result told address old new (Err e) t used same h = subst (λ (c : LruCache ℕ (Arc Page Global)). AreTold told c.entries) (sym same) h
