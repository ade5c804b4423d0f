-- Where the relations of a statement's variables are found, and which columns they have.
use Rattle.std.proofs.Common.{◌≡◌, ℕ, zero, suc, ◌+◌, ◌-◌, ◌<◌, ◌≤◌, Bool, true, false, cond, ◌==◌, List, [], ◌∷◌, ◌++◌, length, map, Option, Some, None, refl, sym, ap, ◌∙◌, subst, arith, append_assoc, get_or, length-append, slice_get, inl, inr}
use Rattle.std.specs.Prelude.{◌⊎◌, ⊤, slice_index_or, IfSome, All}
use Rattle.std.specs.List.{AllByRecursion}
use Rattle.std.proofs.lemmas.Bool.{cases_lt}
use Rattle.std.proofs.lemmas.Bool.Decides.{nat_tests}
use Rattle.std.proofs.lemmas.List.{append-nil, length-map}
use Rattle.std.proofs.lemmas.Option.{slice_get-get_or}
use Rattle.std.proofs.lemmas.List.Elements.{recursion_from_All}
use Rattle.rows.specs.declared.plain.KeyIndex.{KeyIndex}
use Rattle.rows.specs.declared.plain.LayoutColumn.{LayoutColumn}
use Rattle.rows.specs.declared.plain.Relation.{Relation}
use Rattle.heap_page.specs.declared.map.PageFile.{PageFile}
use Rattle.rel_meaning.specs.Meaning.{layout_column, listed}
use Rattle.plan_tree.specs.declared.tree.Way.{Way}
use Rattle.plan_tree.specs.declared.tree.Way.TheVariants as way
use Rattle.plan_tree.proofs.Typing.{get_left, get_right, get_past}
use Rattle.kept_relations.specs.declared.kept.Kept.{Kept}
use Rattle.kept_answers.specs.KeptAnswers.{AscendFrom, columns_behind, columns_kept, kept_of}
use Rattle.fragments.specs.Homes.{Home, nowhere, stored, made, Known, Store, columns_in, heap_file, home_if, home_of, index_if, indexes_before, kept_home, made_by, stored_home, stored_if}
use Rattle.fragments.specs.Premises.{HasFiles, HasInterval, IsWithin, MayRead, catalog_columns, index_in}

-- the kept relations before a statement, and those from it on
pub record Standing (known : Known) (lasts : List ℕ) (columns : List (List LayoutColumn)) : Type 0 where
  pub done : List Kept
  pub todo : List Kept
  pub split : known.kept ≡ done ++ todo
  pub before : AllByRecursion (λ (k : Kept). k.statement < length lasts) done
  pub behind : AscendFrom (length lasts) todo
  pub are : columns ≡ catalog_columns known ++ map columns_kept done

pub some_at : {X : Type 0} (xs : List X) (i : ℕ) → i < length xs → (x : X) × (slice_get xs i ≡ Some x)
some_at [] i h = absurd (omega arith)
some_at (x ∷ xs) zero h = (x, refl)
some_at (x ∷ xs) (suc i) h = some_at xs i (omega arith)

pub all_at : {X : Type 0} (P : X → Type 0) (xs : List X) (i : ℕ) (x : X) → AllByRecursion P xs → slice_get xs i ≡ Some x → P x
all_at P [] i x all h = cc
all_at P (y ∷ ys) zero x all h = let e : y ≡ x = cc in subst P e all.0
all_at P (y ∷ ys) (suc i) x all h = all_at P ys i x all.1 h

pub get_map : {X Y : Type 0} (f : X → Y) (xs : List X) (i : ℕ) (x : X) → slice_get xs i ≡ Some x → slice_get (map f xs) i ≡ Some (f x)
get_map f [] i x h = cc
get_map f (y ∷ ys) zero x h = let e : y ≡ x = cc in ap (λ z. Some (f z)) e
get_map f (y ∷ ys) (suc i) x h = get_map f ys i x h

pub or_at : {X : Type 0} (xs : List X) (i : ℕ) (x d : X) → slice_get xs i ≡ Some x → slice_index_or xs i d ≡ x
or_at [] i x d h = cc
or_at (y ∷ ys) zero x d h = let e : y ≡ x = cc in e
or_at (y ∷ ys) (suc i) x d h = or_at ys i x d h

pub get_is : {X : Type 0} (xs : List X) (i : ℕ) (x : X) → i < length xs → x ≡ get_or xs i x → slice_get xs i ≡ Some x
get_is xs i x less is = slice_get-get_or xs i x less ∙ ap (λ y. Some y) (sym is)

abbrev pub IsThere : Home → Type 0
IsThere nowhere = ⊥
IsThere (stored store) = ⊤
IsThere (made number columns) = ⊤

-- a relation that is there, with these columns
pub record IsHome (columns : List LayoutColumn) (home : Home) : Type 0 where
  pub there : IsThere home
  pub are : columns_in home ≡ columns

module _ (known : Known) (files : (relation : ℕ) (here : Relation) → slice_get known.relations relation ≡ Some here → HasFiles known relation here)
    (lasts : List ℕ) (columns : List (List LayoutColumn)) (standing : Standing known lasts columns) where
  catalog_long : length (catalog_columns known) ≡ length known.relations
  catalog_long = length-map known.relations (λ (here : Relation). map layout_column here.columns)

  pub columns_long : length columns ≡ length known.relations + length standing.done
  columns_long = ap length standing.are ∙ length-append (catalog_columns known) (map columns_kept standing.done) ∙ (λ i. catalog_long i + length-map standing.done columns_kept i)

  stored_there : (relation : ℕ) (here : Relation) → slice_get known.relations relation ≡ Some here → IsHome (listed columns relation) (stored_home known relation here)
  stored_there relation here h =
      let f = files relation here h in
      let less : relation < length (catalog_columns known) = (let k = some_less known.relations relation here h in omega (arith, k, catalog_long)) in
      let at : slice_get columns relation ≡ Some (map layout_column here.columns) =
      ap (λ cs. slice_get cs relation) standing.are ∙ get_left (catalog_columns known) (map columns_kept standing.done) relation less ∙ get_map (λ (r : Relation). map layout_column r.columns) known.relations relation here h in
      subst (λ home. IsHome (listed columns relation) home) (sym (ap (stored_if known relation here) f.heap))
      (record { there = tt; are = sym (or_at columns relation (map layout_column here.columns) [] at) })
    where
      some_less : {X : Type 0} (xs : List X) (i : ℕ) (x : X) → slice_get xs i ≡ Some x → i < length xs
      some_less [] i x h = cc
      some_less (y ∷ ys) zero x h = omega arith
      some_less (y ∷ ys) (suc i) x h = let k = some_less ys i x h in omega (arith, k)

  kept_there : (relation place : ℕ) → relation ≡ length known.relations + place → place < length standing.done → IsHome (listed columns relation) (kept_home lasts (slice_get known.kept (relation - length known.relations)))
  kept_there relation place e less =
      let k = some_at standing.done place less in
      let there : slice_get known.kept place ≡ Some k.0 = ap (λ ks. slice_get ks place) standing.split ∙ get_left standing.done standing.todo place less ∙ k.1 in
      let number = some_at lasts k.0.statement (all_at (λ (x : Kept). x.statement < length lasts) standing.done place k.0 standing.before k.1) in
      let back : relation - length known.relations ≡ place = omega (arith, e) in
      let long : relation ≡ length (catalog_columns known) + place = omega (arith, e, catalog_long) in
      let at : slice_get columns relation ≡ Some (columns_kept k.0) =
      ap (λ cs. slice_get cs relation) standing.are ∙ ap (slice_get (catalog_columns known ++ map columns_kept standing.done)) long
      ∙ get_right (catalog_columns known) (map columns_kept standing.done) place ∙ get_map columns_kept standing.done place k.0 k.1 in
      subst (λ home. IsHome (listed columns relation) home) (sym (ap (λ n. kept_home lasts (slice_get known.kept n)) back ∙ ap (kept_home lasts) there ∙ ap (made_by k.0) number.1))
      (record { there = tt; are = sym (or_at columns relation (columns_kept k.0) [] at) })

  -- each relation that a statement may name is there
  pub home_there : (relation : ℕ) → relation < length columns → IsHome (listed columns relation) (home_of known lasts relation)
  home_there relation less = by (slice_get known.relations relation) refl where
    by : (o : Option Relation) → slice_get known.relations relation ≡ o → IsHome (listed columns relation) (home_if known lasts relation o)
    by (Some here) h = stored_there relation here h
    by None h = elim (cases_lt relation (length known.relations)) [
      | inl below ↦ absurd (let s = some_at known.relations relation below in let no : ◌≡◌ {A = Option Relation} None (Some s.0) = sym h ∙ s.1 in cc)
      | inr above ↦ kept_there relation (relation - length known.relations) (omega arith) (omega (arith, columns_long))
    ]

pub may_read : (known : Known) (lasts : List ℕ) (relation : ℕ) (how : Way) → IsThere (home_of known lasts relation) → IsWithin (index_in known relation (slice_get known.relations relation)) how → MayRead (home_of known lasts relation) how
may_read known lasts relation how = by (slice_get known.relations relation) where
  in_file : (here : Relation) (o : Option PageFile) (w : Way) → IsThere (stored_if known relation here o) → IsWithin (index_if known.indexes (indexes_before known.relations relation) here.index) w → MayRead (stored_if known relation here o) w
  in_file here None w there within = elim there [ ]
  in_file here (Some file) way.Heap there within = tt
  in_file here (Some file) (way.Index interval) there within = within

  by_number : (kept : Kept) (o : Option ℕ) → IsThere (made_by kept o) → MayRead (made_by kept o) how
  by_number kept None there = elim there [ ]
  by_number kept (Some number) there = tt

  kept_read : (o : Option Kept) → IsThere (kept_home lasts o) → MayRead (kept_home lasts o) how
  kept_read None there = elim there [ ]
  kept_read (Some kept) there = by_number kept (slice_get lasts kept.statement) there

  by : (o : Option Relation) → IsThere (home_if known lasts relation o) → IsWithin (index_in known relation o) how → MayRead (home_if known lasts relation o) how
  by None there within = kept_read (slice_get known.kept (relation - length known.relations)) there
  by (Some here) there within = in_file here (slice_get known.files (heap_file known.relations relation)) how there within

-- ---- the next statement

kept_behind : (statement n : ℕ) (ks : List Kept) → AscendFrom n ks → statement < n → kept_of ks statement ≡ None
kept_behind statement n [] h less = refl
kept_behind statement n (k ∷ ks) h less =
    let differ : (k.statement == statement) ≡ false = (let a = h.0 in grind (arith, nat_tests)) in
    ap (λ b. cond b (Some k) (kept_of ks statement)) differ ∙ kept_behind statement (k.statement + 1) ks h.1 (let a = h.0 in omega (arith, a))

kept_done : (statement : ℕ) (done todo : List Kept) → AllByRecursion (λ (k : Kept). k.statement < statement) done → kept_of (done ++ todo) statement ≡ kept_of todo statement
kept_done statement [] todo all = refl
kept_done statement (k ∷ ks) todo all =
    let differ : (k.statement == statement) ≡ false = (let a = all.0 in grind (arith, nat_tests)) in
    ap (λ b. cond b (Some k) (kept_of (ks ++ todo) statement)) differ ∙ kept_done statement ks todo all.1

more_before : (n : ℕ) (done : List Kept) → AllByRecursion (λ (k : Kept). k.statement < n) done → AllByRecursion (λ (k : Kept). k.statement < n + 1) done
more_before n [] all = tt
more_before n (k ∷ ks) all = (let a = all.0 in omega (arith, a), more_before n ks all.1)

before_end : (n : ℕ) (done : List Kept) (k : Kept) → AllByRecursion (λ (k : Kept). k.statement < n) done → k.statement < n → AllByRecursion (λ (k : Kept). k.statement < n) (done ++ k ∷ [])
before_end n [] k all h = (h, tt)
before_end n (x ∷ xs) k all h = (all.0, before_end n xs k all.1 h)

map_end : (done : List Kept) (k : Kept) → map columns_kept (done ++ k ∷ []) ≡ map columns_kept done ++ columns_kept k ∷ []
map_end [] k = refl
map_end (x ∷ xs) k = ap (λ r. columns_kept x ∷ r) (map_end xs k)

module _ (known : Known) (lasts : List ℕ) (columns : List (List LayoutColumn)) (standing : Standing known lasts columns) (last : ℕ) where
  abbrev n : ℕ
  n = length lasts

  long : length (lasts ++ last ∷ []) ≡ n + 1
  long = length-append lasts (last ∷ [])

  abbrev Next : Option Kept → Type 0
  Next o = Standing known (lasts ++ last ∷ []) (columns_behind columns o)

  same : AscendFrom (n + 1) standing.todo → Next None
  same behind = record {
    done = standing.done;
    todo = standing.todo;
    split = standing.split;
    before = subst (λ m. AllByRecursion (λ (k : Kept). k.statement < m) standing.done) (sym long) (more_before n standing.done standing.before);
    behind = subst (λ m. AscendFrom m standing.todo) (sym long) behind;
    are = standing.are;
  }

  one_more : (k : Kept) (ks : List Kept) → standing.todo ≡ k ∷ ks → k.statement ≡ n → AscendFrom (k.statement + 1) ks → Next (Some k)
  one_more k ks e at behind = record {
    done = standing.done ++ k ∷ [];
    todo = ks;
    split = standing.split ∙ ap (λ ts. standing.done ++ ts) e ∙ sym (append_assoc standing.done (k ∷ []) ks);
    before = subst (λ m. AllByRecursion (λ (x : Kept). x.statement < m) (standing.done ++ k ∷ [])) (sym long) (before_end (n + 1) standing.done k (more_before n standing.done standing.before) (omega (arith, at)));
    behind = subst (λ m. AscendFrom m ks) (ap (λ m. m + 1) at ∙ sym long) behind;
    are = ap (λ cs. cs ++ columns_kept k ∷ []) standing.are ∙ append_assoc (catalog_columns known) (map columns_kept standing.done) (columns_kept k ∷ []) ∙ ap (λ cs. catalog_columns known ++ cs) (sym (map_end standing.done k));
  }

  -- the columns behind a statement
  pub standing_next : Standing known (lasts ++ last ∷ []) (columns_behind columns (kept_of known.kept (length lasts)))
  standing_next = subst Next (sym (ap (λ ks. kept_of ks n) standing.split ∙ kept_done n standing.done standing.todo standing.before)) (by standing.todo refl standing.behind) where
    by : (ts : List Kept) → standing.todo ≡ ts → AscendFrom n ts → Next (kept_of ts n)
    by [] e h = same (subst (AscendFrom (n + 1)) (sym e) tt)
    by (k ∷ ks) e h = here (k.statement == n) refl where
      here : (b : Bool) → (k.statement == n) ≡ b → Next (cond b (Some k) (kept_of ks n))
      here true t = one_more k ks e (let w : k.statement ≡ n = grind (arith, nat_tests) in w) h.1
      here false f =
          let other : k.statement ≡ n → ⊥ = grind (arith, nat_tests) in
          let more : n + 1 ≤ k.statement = (let a = h.0 in omega (arith, a, other)) in
          subst Next (sym (kept_behind n (k.statement + 1) ks h.1 (omega (arith, more)))) (same (subst (AscendFrom (n + 1)) (sym e) (more, h.1)))
