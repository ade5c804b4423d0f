-- Why there is no plan.
use Rattle.std.proofs.Common.{◌≡◌, ℕ, ◌<◌, ◌≤◌, true, List, length, Option, Some, refl, subst, sym, ap, ◌∙◌, arith}
use Rattle.std.specs.Prelude.{slice_get, option_map, IfErr, Result, Ok, Err}
use Rattle.std.specs.Option.{option_map_or}
use Rattle.std.proofs.lemmas.List.{length-map}
use Rattle.std.proofs.lemmas.Option.{slice_get-map, slice_get_within}
use Rattle.xp_outside.specs.declared.drive.Drive.{Ghosts}
use Rattle.heap_page.specs.declared.errors.BadPage.{BadPage}
use Rattle.heap_page.specs.declared.errors.FetchErr.{FetchErr}
use Rattle.heap_page.specs.declared.errors.FetchErr.TheVariants as fetch
use Rattle.heap_page.specs.Sources.{AreCalm}
use Rattle.heap_page.specs.Stores.{AreQuiet}
use Rattle.buffer_pool.specs.Lone.{count_at, drives_in}
use Rattle.buffer_pool.specs.declared.shard.Shard.{Shard}
use Rattle.buffer_pool.proofs.Lists.{item_at}
use Rattle.buffer_pool.specs.Images.{image_on}
use Rattle.key_index.specs.Paths.{IfBad, StopsInterval}
use Rattle.rows.specs.declared.plain.Bound.{Bound}
use Rattle.key_index.specs.Searches.{HasIndex, SearchCause}
use Rattle.rows.specs.declared.plain.KeyIndex.{KeyIndex}
use Rattle.table_store.specs.declared.database.Laid.{Laid}
use Rattle.query_planner.specs.Causes.{IsBadIndexPage, PlanCause, ReadCause}

-- a page at which a search stops is one of an index
pub searched : (laid : Laid) (image : Option (ℕ → ℕ → List ℕ)) (table : ℕ) (index : KeyIndex) (bounds : List Bound) (drives : ℕ) (before now : ℕ → ℕ) (e : FetchErr) → slice_get laid.indexes.items table ≡ Some (Some index) → HasIndex laid.map.files.items index →
    SearchCause index drives before now e → ((pages : ℕ → ℕ → List ℕ) → image ≡ Some pages → IfBad (StopsInterval index (pages index.file) bounds) e) → ReadCause laid image drives before now e
searched laid image table index bounds drives before now (fetch.DriveFault d) stands has cause stops = cause
searched laid image table index bounds drives before now (fetch.BadPage bad) stands has cause stops = record {
  table = table;
  index = index;
  stands = stands;
  file = cause.0;
  there = (has.0, rw cause.0 has.1, omega (arith, cause.1, has.3));
  rule = cause.2;
  broken = λ pages is. (bounds, stops pages is);
}
searched laid image table index bounds drives before now fetch.NoMemory stands has cause stops = cause

pub all_searched : {T : Type 0} (laid : Laid) (image : Option (ℕ → ℕ → List ℕ)) (table : ℕ) (index : KeyIndex) (bounds : List Bound) (drives : ℕ) (before now : ℕ → ℕ) (r : Result T FetchErr) → slice_get laid.indexes.items table ≡ Some (Some index) → HasIndex laid.map.files.items index →
    IfErr r (SearchCause index drives before now) → ((pages : ℕ → ℕ → List ℕ) → image ≡ Some pages → IfErr r (IfBad (StopsInterval index (pages index.file) bounds))) → IfErr r (ReadCause laid image drives before now)
all_searched laid image table index bounds drives before now (Ok x) stands has cause stops = tt
all_searched laid image table index bounds drives before now (Err e) stands has cause stops = searched laid image table index bounds drives before now e stands has cause stops

-- the same image
pub imaged : (laid : Laid) (image other : Option (ℕ → ℕ → List ℕ)) (bad : BadPage) → image ≡ other → IsBadIndexPage laid image bad → IsBadIndexPage laid other bad
imaged laid image other bad same h = subst (λ (o : Option (ℕ → ℕ → List ℕ)). IsBadIndexPage laid o bad) same h

-- counts that were smaller
pub earlier : (laid : Laid) (image : Option (ℕ → ℕ → List ℕ)) (drives : ℕ) (first before now : ℕ → ℕ) (e : FetchErr) → ((d : ℕ) → first d ≤ before d) → ReadCause laid image drives before now e → ReadCause laid image drives first now e
earlier laid image drives first before now (fetch.DriveFault d) grows cause = (cause.0, omega (arith, cause.1, grows d))
earlier laid image drives first before now (fetch.BadPage bad) grows cause = cause
earlier laid image drives first before now fetch.NoMemory grows cause = cause

module _ {D : Type 0} (g : Ghosts D) where
  count_of : (shards : List (Shard D g)) (d : ℕ) (drive : D) → slice_get (drives_in shards) d ≡ Some drive → count_at shards d ≡ g.faults drive
  count_of shards d drive at =
      let within : d < length shards = omega (arith, slice_get_within (drives_in shards) d drive at, length-map shards (λ (s : Shard D g). s.drive)) in
      let shard = item_at shards d within in
      let mine : slice_get (drives_in shards) d ≡ Some shard.0.drive = slice_get-map (λ (s : Shard D g). s.drive) shards d ∙ ap (option_map (λ (s : Shard D g). s.drive)) shard.1 in
      let same : shard.0.drive ≡ drive = some_is shard.0.drive drive (sym mine ∙ at) in
      ap (λ o. option_map_or (λ (s : Shard D g). g.faults s.drive) o 0) shard.1 ∙ ap g.faults same
    where
      some_is : (x y : D) → Some x ≡ Some y → x ≡ y
      some_is x y e = cc

  -- the counts of its drives that stand
  pub quiet_of : (fault : Option ℕ) (olds news : List D) (first last : List (Shard D g)) → drives_in first ≡ olds → news ≡ drives_in last → AreCalm true fault (count_at first) (count_at last) → AreQuiet g fault olds news
  quiet_of fault olds news first last was is calm = record {
    each = λ d old new other at here. sym (count_of last d new (rw (← is) here)) ∙ (calm refl d other ∙ count_of first d old (rw was at));
  }

  -- the drives of a pool, as it was made and as it is at the end
  pub of_drives : (laid : Laid) (image : Option (ℕ → ℕ → List ℕ)) (drives : ℕ) (olds news : List D) (first last : List (Shard D g)) (e : FetchErr) → drives_in first ≡ olds → news ≡ drives_in last → image ≡ image_on g laid.map olds → drives ≡ length olds → length news ≡ length olds →
      ReadCause laid image drives (count_at first) (count_at last) e → PlanCause g laid olds news e
  of_drives laid image drives olds news first last (fetch.DriveFault d) was is pictured count same cause =
      let old = item_at olds d (omega (arith, cause.0, count)) in
      let new = item_at news d (omega (arith, cause.0, count, same)) in
      let before : count_at first d ≡ g.faults old.0 = count_of first d old.0 (rw was old.1) in
      let now : count_at last d ≡ g.faults new.0 = count_of last d new.0 (rw (← is) new.1) in
      record { old = old.0; new = new.0; was = old.1; is = new.1; rose = rw (← before, ← now) cause.1 }
  of_drives laid image drives olds news first last (fetch.BadPage bad) was is pictured count same cause = imaged laid image (image_on g laid.map olds) bad pictured cause
  of_drives laid image drives olds news first last fetch.NoMemory was is pictured count same cause = cause
