-- A pool that one caller has.
use Rattle.std.proofs.Common.{◌≡◌, ℕ, ◌<◌, ◌≤◌, ◌^◌, List, [], ◌∷◌, ◌++◌, length, map, Option, Some, None, Result, Ok, Err, true, ◌≢◌, refl, sym, ap, subst, ◌∙◌, arith, append_assoc}
use mathlib.Core.Logic.{dite}
use native.Mathlib.Decide.{ℕ_discrete}
use Rattle.std.specs.Prelude.{IfOk, IfErr, option_map, slice_get}
use Rattle.std.specs.Arc.{arc_value}
use Rattle.std.specs.declared.sync.Arc.{Arc}
use Rattle.std.specs.declared.alloc.Global.{Global}
use Rattle.heap_page.specs.declared.page.Page.{Page}
use Rattle.heap_page.specs.declared.errors.FetchErr.{FetchErr}
use Rattle.heap_page.specs.declared.errors.FetchErr.TheVariants.{DriveFault, BadPage, NoMemory}
use Rattle.heap_page.specs.Sources.{AreCalm, FetchCause, IsGiven}
use Rattle.buffer_pool.specs.Fetched.{IsFetched}
use Rattle.buffer_pool.specs.Images.{image_on}
use Rattle.buffer_pool.proofs.Fetching.{caused, given}
use Rattle.std.specs.Option.{option_map_or}
use Rattle.std.proofs.lemmas.List.{length-map, map-append}
use Rattle.std.proofs.lemmas.List.Elements.{All-get_or}
use Rattle.std.proofs.lemmas.Option.{get_or_from_slice_get, slice_get-map, slice_get_within}
use Rattle.xp_outside.specs.declared.drive.Drive.{Ghosts}
use Rattle.heap_page.specs.declared.map.FileMap.{FileMap}
use Rattle.heap_page.specs.Maps.{HasPage, IsMap, needs_of, pages_of_all, shares}
use Rattle.heap_page.specs.Stores.{AreRead, HaveRoom, IsRead, fetch_fault}
use Rattle.buffer_pool.specs.Lone.{AreNew, AreOn, AreShards, IsEmpty, count_at, drives_in, drives_of, map_of}
use Rattle.buffer_pool.specs.Places.{IsPlaced}
use Rattle.buffer_pool.specs.Shards.{Fits}
use Rattle.buffer_pool.specs.declared.mounted.Mounted.{Mounted}
use Rattle.buffer_pool.specs.declared.place.Place.{Place}
use Rattle.buffer_pool.specs.declared.shard.Shard.{Shard}
use Rattle.buffer_pool.proofs.Fitting.{fits_new}
use Rattle.buffer_pool.proofs.Lists.{item_at}

some_is : {A : Type 0} (x y : A) → Some x ≡ Some y → x ≡ y
some_is x y e = cc

none_is : {A : Type 0} (x : A) → None ≡ Some x → ⊥
none_is x e = cc

-- the same map
pub map_again : (map copy : FileMap) → copy.files.items ≡ map.files.items → copy.drives ≡ map.drives → IsMap map → IsMap copy
map_again map copy files drives h = record {
  some = subst (λ n. 0 < n) (sym drives) h.some;
  small = subst (λ fs. pages_of_all fs < 2 ^ 32) (sym files) h.small;
}

pub needs_again : (map copy : FileMap) (d : ℕ) → copy.files.items ≡ map.files.items → copy.drives ≡ map.drives → needs_of copy d ≡ needs_of map d
needs_again map copy d files drives = (λ i. shares (drives i) d (files i))

-- a page of a file has one place
pub place_same : (files : FileMap) (file page : ℕ) (a b : Place) → HasPage files.files.items file page → IsPlaced files file page a → IsPlaced files file page b → a ≡ b
place_same files file page a b has one other = λ i. record {
  drive = (one.drive ∙ sym other.drive) i;
  address = (one.address ∙ sym other.address) i;
  kind = (sym (one.kind has.0 has.1) ∙ other.kind has.0 has.1) i;
}

-- a fault is that of the place's drive
fault_here : (told : Option (List (List ℕ))) (place : Place) (file page before now : ℕ) (r : Result (Arc Page Global) FetchErr) → IsFetched told place file page before now r → (e : ℕ) → fetch_fault r ≡ Some e → e ≡ place.drive
fault_here told place file page before now (Ok found) h e is = absurd (none_is e is)
fault_here told place file page before now (Err (DriveFault d)) h e is = sym (some_is_number d e is) ∙ h.0 where
  some_is_number : (x y : ℕ) → Some x ≡ Some y → x ≡ y
  some_is_number x y k = cc
fault_here told place file page before now (Err (BadPage bad)) h e is = absurd (none_is e is)
fault_here told place file page before now (Err NoMemory) h e is = absurd (none_is e is)

module _ {D : Type 0} {g : Ghosts D} where
  -- one more drive has its shard
  pub filled : (shards shards' : List (Shard D g)) (shard : Shard D g) (all drives rest : List D) (x : D) → drives_in shards ++ drives ≡ all → drives ≡ x ∷ rest → shard.drive ≡ x → shards' ≡ shards ++ shard ∷ [] → drives_in shards' ++ rest ≡ all
  filled shards shards' shard all drives rest x same first drive more =
      ap (λ ss. drives_in ss ++ rest) more
      ∙ ap (λ ds. ds ++ rest) (map-append (λ (s : Shard D g). s.drive) shards (shard ∷ []))
      ∙ append_assoc (drives_in shards) (shard.drive ∷ []) rest
      ∙ ap (λ d. drives_in shards ++ d ∷ rest) drive
      ∙ ap (λ ds. drives_in shards ++ ds) (sym first)
      ∙ same

  -- new shards fit their drives
  pub new_fits : (drives : List D) (frames : ℕ) (shards : List (Shard D g)) → AreNew drives frames shards →
      (d : ℕ) (named : D) (shard : Shard D g) → slice_get drives d ≡ Some named → slice_get shards d ≡ Some shard → Fits named shard
  new_fits drives frames shards new d named shard at here =
      let mine : slice_get (drives_in shards) d ≡ Some shard.drive = slice_get-map (λ (s : Shard D g). s.drive) shards d ∙ ap (option_map (λ (s : Shard D g). s.drive)) here in
      let same : shard.drive ≡ named = some_is shard.drive named (sym mine ∙ ap (λ ds. slice_get ds d) new.same ∙ at) in
      let within = slice_get_within shards d shard here in
      let empty = subst (IsEmpty frames) (get_or_from_slice_get shards d shard shard here) (All-get_or (IsEmpty frames) shards d shard within new.empty) in
      fits_new g named frames shard same empty

  -- the address of a page is on its drive
  pub within : (mounted : Mounted D) (shards : List (Shard D g)) (file page : ℕ) (place : Place) → AreShards mounted shards → IsPlaced (map_of mounted) file page place →
      (shard : Shard D g) → slice_get shards place.drive ≡ Some shard → place.address < g.size shard.drive
  within mounted shards file page place sound placed shard here =
      let named = item_at (drives_of mounted) place.drive (omega (arith, sound.drives, placed.on_drive)) in
      let fits = sound.fits place.drive named.0 shard named.1 here in
      let room = sound.room place.drive named.0 named.1 in
      omega (arith, placed.within, room, fits.drive.size)

  -- a fetch keeps the shards
  pub still : (mounted : Mounted D) (d : ℕ) (old new : List (Shard D g)) → AreShards mounted old → AreOn d old new → AreShards mounted new
  still mounted d old new sound on = record {
    map = sound.map;
    drives = sound.drives;
    len = on.len ∙ sound.len;
    room = sound.room;
    fits = λ e named shard at here. dite (ℕ_discrete e d)
        (λ hit.
        let was = item_at old e (omega (arith, slice_get_within new e shard here, on.len)) in
        let called = on.called was.0 shard (subst (λ k. slice_get old k ≡ Some was.0) hit was.1) (subst (λ k. slice_get new k ≡ Some shard) hit here) in
        called.fits named (sound.fits e named was.0 at was.1))
        (λ miss. sound.fits e named shard at (sym (on.others e miss) ∙ here));
  }

  -- no count falls
  pub counts_on : (d : ℕ) (old new : List (Shard D g)) → AreOn d old new → (e : ℕ) → count_at old e ≤ count_at new e
  counts_on d old new on e = dite (ℕ_discrete e d)
      (λ hit. called hit (slice_get old e) (slice_get new e) refl refl)
      (λ miss. subst (λ (o : Option (Shard D g)). option_map_or (λ (s : Shard D g). g.faults s.drive) (slice_get old e) 0 ≤ option_map_or (λ (s : Shard D g). g.faults s.drive) o 0) (sym (on.others e miss)) (omega arith))
    where
      called : e ≡ d → (o n : Option (Shard D g)) → slice_get old e ≡ o → slice_get new e ≡ n → option_map_or (λ (s : Shard D g). g.faults s.drive) o 0 ≤ option_map_or (λ (s : Shard D g). g.faults s.drive) n 0
      called hit None n at here = omega arith
      called hit (Some was) None at here = let is = item_at new e (omega (arith, slice_get_within old e was at, on.len)) in absurd (none_is is.0 (sym here ∙ is.1))
      called hit (Some was) (Some is) at here = (on.called was is (subst (λ k. slice_get old k ≡ Some was) hit at) (subst (λ k. slice_get new k ≡ Some is) hit here)).drive.count

  -- what was answered of one drive stands for the others
  pub calm_on : (d : ℕ) (old new : List (Shard D g)) (fault : Option ℕ) → AreOn d old new → (fault ≡ None → count_at new d ≡ count_at old d) → ((e : ℕ) → fault ≡ Some e → e ≡ d) → (e : ℕ) → fault ≢ Some e → count_at new e ≡ count_at old e
  calm_on d old new fault on quiet only e other = dite (ℕ_discrete e d)
      (λ hit. subst (λ k. count_at new k ≡ count_at old k) (sym hit) (quiet (by hit fault refl)))
      (λ miss. ap (λ (o : Option (Shard D g)). option_map_or (λ (s : Shard D g). g.faults s.drive) o 0) (on.others e miss))
    where
      by : e ≡ d → (f : Option ℕ) → fault ≡ f → fault ≡ None
      by hit None is = is
      by hit (Some k) is = absurd (other (is ∙ ap Some (only k is ∙ sym hit)))

  -- what a pool answers
  pub answered : (mounted : Mounted D) (old new after : List (Shard D g)) (file page : ℕ) (place : Place) (r : Result (Arc Page Global) FetchErr) → after ≡ new → AreShards mounted old → IsPlaced (map_of mounted) file page place → HasPage (map_of mounted).files.items file page →
      ((named : D) (shard : Shard D g) → slice_get old place.drive ≡ Some shard → Fits named shard → IsFetched (g.pages named) place file page (count_at old place.drive) (count_at new place.drive) r) →
      IfOk r (λ found. IsGiven (map_of mounted).files.items (image_on g (map_of mounted) (drives_of mounted)) file page (arc_value found))
      × IfErr r (FetchCause (map_of mounted).files.items (image_on g (map_of mounted) (drives_of mounted)) (map_of mounted).drives (count_at old) (count_at after) file page)
  answered mounted old new after file page place r is sound placed has fetched =
      let named = item_at (drives_of mounted) place.drive (omega (arith, sound.drives, placed.on_drive)) in
      let shard = item_at old place.drive (omega (arith, sound.len, placed.on_drive)) in
      let got = fetched named.0 shard.0 shard.1 (sound.fits place.drive named.0 shard.0 named.1 shard.1) in (
        given g (map_of mounted) (drives_of mounted) file page place named.0 (count_at old) (count_at new) placed has named.1 r got,
        subst (λ (shards : List (Shard D g)). IfErr r (FetchCause (map_of mounted).files.items (image_on g (map_of mounted) (drives_of mounted)) (map_of mounted).drives (count_at old) (count_at shards) file page)) (sym is)
            (caused g (map_of mounted) (drives_of mounted) file page place named.0 (count_at old) (count_at new) placed has named.1 r got),
      )

  -- and no other drive fails
  pub calm : (mounted : Mounted D) (old new after : List (Shard D g)) (file page : ℕ) (place : Place) (r : Result (Arc Page Global) FetchErr) → after ≡ new → AreShards mounted old → IsPlaced (map_of mounted) file page place → AreOn place.drive old new →
      (fetch_fault r ≡ None → count_at new place.drive ≡ count_at old place.drive) →
      ((named : D) (shard : Shard D g) → slice_get old place.drive ≡ Some shard → Fits named shard → IsFetched (g.pages named) place file page (count_at old place.drive) (count_at new place.drive) r) →
      AreCalm true (fetch_fault r) (count_at old) (count_at after)
  calm mounted old new after file page place r is sound placed on quiet fetched = λ _ d other.
      let named = item_at (drives_of mounted) place.drive (omega (arith, sound.drives, placed.on_drive)) in
      let shard = item_at old place.drive (omega (arith, sound.len, placed.on_drive)) in
      let got = fetched named.0 shard.0 shard.1 (sound.fits place.drive named.0 shard.0 named.1 shard.1) in
      ap (λ (shards : List (Shard D g)). count_at shards d) is
      ∙ calm_on place.drive old new (fetch_fault r) on quiet (fault_here (g.pages named.0) place file page (count_at old place.drive) (count_at new place.drive) r got) d other

-- the drives that the shards have are those that were read
pub unloaded : {D : Type 0} (g : Ghosts D) (mounted : Mounted D) (shards : List (Shard D g)) (drives : List D) → AreShards mounted shards → drives ≡ drives_in shards → AreRead g (drives_of mounted) drives
unloaded {D = D} g mounted shards drives sound is = record {
  len = ap length is ∙ length-map shards (λ (s : Shard D g). s.drive) ∙ sound.len ∙ sym sound.drives;
  each = λ d old new at here.
      let shard = item_at shards d (omega (arith, slice_get_within (drives_of mounted) d old at, sound.drives, sound.len)) in
      let mine : slice_get drives d ≡ Some shard.0.drive = ap (λ ds. slice_get ds d) is ∙ slice_get-map (λ (s : Shard D g). s.drive) shards d ∙ ap (option_map (λ (s : Shard D g). s.drive)) shard.1 in
      let same : shard.0.drive ≡ new = some_is shard.0.drive new (sym mine ∙ here) in
      subst (IsRead g old) same (sound.fits d old shard.0 at shard.1).drive;
}

-- new shards are those of their drives
pub shards_new : {D : Type 0} (g : Ghosts D) (map : FileMap) (mounted : Mounted D) (drives : List D) (frames : ℕ) (shards : List (Shard D g)) → IsMap map → length drives ≡ map.drives → HaveRoom g map drives →
    (map_of mounted).files.items ≡ map.files.items → (map_of mounted).drives ≡ map.drives → drives_of mounted ≡ drives → AreNew drives frames shards → AreShards mounted shards
shards_new {D = D} g map mounted drives frames shards h count room files number are new = record {
  map = map_again map (map_of mounted) files number h;
  drives = ap length are ∙ count ∙ sym number;
  len = sym (length-map shards (λ (s : Shard D g). s.drive)) ∙ ap length new.same ∙ count ∙ sym number;
  room = λ d drive at. subst (λ n. n ≤ g.size drive) (sym (needs_again map (map_of mounted) d files number)) (room d drive (sym (ap (λ ds. slice_get ds d) are) ∙ at));
  fits = λ d named shard at here. new_fits drives frames shards new d named shard (sym (ap (λ ds. slice_get ds d) are) ∙ at) here;
}
