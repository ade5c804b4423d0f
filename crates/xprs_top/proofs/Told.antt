-- What is told of several files together.
use Rattle.std.proofs.Common.{◌≡◌, ◌≤◌, ◌<◌, ◌+◌, ℕ, suc, List, ◌∷◌, ◌++◌, length, take, drop, get_or, sym, ap, subst, ◌∙◌, arith, inr, Option, Some, None, Ok, Err, Result, take-append-drop, take-suc, []}
use Rattle.std.proofs.lemmas.List.{drop_more}
use Rattle.rows.specs.declared.plain.Relation.{Relation}
use Rattle.rows.specs.declared.value.Value.{Value}
use Rattle.rows.specs.declared.plain.Column.{Column}
use Rattle.rel_meaning.specs.Meaning.{IsTable}
use Rattle.name_check.specs.Resolved.{AreTables}
use Rattle.rel_meaning.specs.declared.query.Table.{Table}
use Rattle.xprs_top.specs.declared.status.Status.{Status}
use Rattle.xprs_top.specs.declared.status.Status.TheVariants.{Done, Usage, Refused, ShelfFault, DriveFault, Bad, SinkFault, NoMemory, DriveFull, NotBuilt, TooLarge}
use Rattle.xprs_top.specs.Inputs.{OnFiles, Shows, Told, Finds}
use Rattle.xprs_top.specs.Readings.{Files, Just, Then, bind, table_of, tables_of}
use Rattle.xprs_top.proofs.Tables.{faulty, one_more, more_tables, table_with}

module _ {A B X : Type 0} (first : Files → Result A Status → Type 0) (next : A → Result B Status → Type 0) (x : A) (view : X → B) where
  there : (told : Option Files) (P : Result B Status) → OnFiles told (λ files. first files (Ok x)) → next x P → OnFiles told (λ files. Then (first files) next P)
  there None P h f = tt
  there (Some files) (Ok y) h f = (x, h, f)
  there (Some files) (Err e) h f = inr (x, h, f)

  -- what is found in a file that was fetched
  pub found_in : (told : Option Files) (before now : ℕ) (result : Result X Status) → OnFiles told (λ files. first files (Ok x)) → Finds view result (next x) → Told told before now view result (λ files. Then (first files) next)
  found_in told before now (Ok y) h f = there told (Ok (view y)) h f
  found_in told before now (Err Done) h f = f
  found_in told before now (Err Usage) h f = f
  found_in told before now (Err (Refused r)) h f = there told (Err (Refused r)) h f
  found_in told before now (Err ShelfFault) h f = absurd f
  found_in told before now (Err (DriveFault d)) h f = absurd f
  found_in told before now (Err (Bad bad)) h f = absurd f
  found_in told before now (Err SinkFault) h f = f
  found_in told before now (Err NoMemory) h f = tt
  found_in told before now (Err (DriveFull d needs capacity)) h f = absurd f
  found_in told before now (Err (TooLarge number)) h f = absurd f
  found_in told before now (Err (NotBuilt what)) h f = absurd f

one_item_more : (xs : List Relation) (i : ℕ) (d : Relation) → i < length xs → take (i + 1) xs ≡ take i xs ++ get_or xs i d ∷ []
one_item_more xs i d h = let k : i + 1 ≡ suc i = omega arith in rw k (take-suc xs i d h)

split : (xs : List Relation) (i : ℕ) (d : Relation) → i < length xs → take i xs ++ get_or xs i d ∷ drop (i + 1) xs ≡ xs
split xs i d h = ap (λ (ys : List Relation). take i xs ++ ys) (sym (drop_more xs i d h)) ∙ take-append-drop i xs

-- a table that isn't read, behind tables that are
pub stopped : (told then : Option Files) → then ≡ told → (before mid now : ℕ) → before ≤ mid → (xs : List Relation) (i : ℕ) (d : Relation) → i < length xs → (ts : List Table) →
    OnFiles told (λ files. tables_of files (take i xs) ≡ Ok ts) → (s : Status) → Shows then mid now s (λ files. Just (table_of files (get_or xs i d))) → Shows told before now s (λ files. Just (tables_of files xs))
stopped told then same before mid now le xs i d h ts read Done shows = shows
stopped told then same before mid now le xs i d h ts read Usage shows = shows
stopped told then same before mid now le xs i d h ts read (Refused r) shows = by told read (subst (λ t. OnFiles t (λ files. Just (table_of files (get_or xs i d)) (Err (Refused r)))) same shows) where
  by : (t : Option Files) → OnFiles t (λ files. tables_of files (take i xs) ≡ Ok ts) → OnFiles t (λ files. Just (table_of files (get_or xs i d)) (Err (Refused r))) → OnFiles t (λ files. Just (tables_of files xs) (Err (Refused r)))
  by None k e = tt
  by (Some files) k e = ap (tables_of files) (sym (split xs i d h)) ∙ faulty files (take i xs) (drop (i + 1) xs) (get_or xs i d) ts (Refused r) k e
stopped told then same before mid now le xs i d h ts read ShelfFault shows = omega (arith, le, shows)
stopped told then same before mid now le xs i d h ts read (DriveFault number) shows = absurd shows
stopped told then same before mid now le xs i d h ts read (Bad bad) shows = absurd shows
stopped told then same before mid now le xs i d h ts read SinkFault shows = shows
stopped told then same before mid now le xs i d h ts read NoMemory shows = tt
stopped told then same before mid now le xs i d h ts read (DriveFull number needs capacity) shows = absurd shows
stopped told then same before mid now le xs i d h ts read (TooLarge number) shows = absurd shows
stopped told then same before mid now le xs i d h ts read (NotBuilt what) shows = absurd shows

-- a table that is read, behind tables that are
pub more_told : (told then : Option Files) → then ≡ told → (xs : List Relation) (i : ℕ) (d : Relation) → i < length xs → (ts news : List Table) (rows : List (List Value)) →
    OnFiles told (λ files. tables_of files (take i xs) ≡ Ok ts) → OnFiles then (λ files. Just (table_of files (get_or xs i d)) (Ok rows)) → news ≡ ts ++ table_with (get_or xs i d) rows ∷ [] →
    OnFiles told (λ files. tables_of files (take (i + 1) xs) ≡ Ok news)
more_told told then same xs i d h ts news rows read shows pushed = by told read (subst (λ t. OnFiles t (λ files. Just (table_of files (get_or xs i d)) (Ok rows))) same shows) where
  by : (t : Option Files) → OnFiles t (λ files. tables_of files (take i xs) ≡ Ok ts) → OnFiles t (λ files. Just (table_of files (get_or xs i d)) (Ok rows)) → OnFiles t (λ files. tables_of files (take (i + 1) xs) ≡ Ok news)
  by None k e = tt
  by (Some files) k e = ap (tables_of files) (one_item_more xs i d h) ∙ (one_more files (take i xs) (get_or xs i d) ts rows k e ∙ ap (λ (us : List Table). Ok us) (sym pushed))

pub stopped_at : (told then : Option Files) → then ≡ told → (before mid now : ℕ) → before ≤ mid → (xs : List Relation) (i : ℕ) (r : Relation) → i < length xs → r ≡ get_or xs i r → (ts : List Table) →
    OnFiles told (λ files. tables_of files (take i xs) ≡ Ok ts) → (s : Status) → Shows then mid now s (λ files. Just (table_of files r)) → Shows told before now s (λ files. Just (tables_of files xs))
stopped_at told then same before mid now le xs i r h is ts read s shows =
    stopped told then same before mid now le xs i r h ts read s (subst (λ (q : Relation). Shows then mid now s (λ files. Just (table_of files q))) is shows)

pub more_told_at : (told then : Option Files) → then ≡ told → (xs : List Relation) (i : ℕ) (r : Relation) → i < length xs → r ≡ get_or xs i r → (ts news : List Table) (t : Table) →
    OnFiles told (λ files. tables_of files (take i xs) ≡ Ok ts) → OnFiles then (λ files. Just (table_of files r) (Ok t.rows)) → t.columns ≡ r.columns → news ≡ ts ++ t ∷ [] →
    OnFiles told (λ files. tables_of files (take (i + 1) xs) ≡ Ok news)
more_told_at told then same xs i r h is ts news t read shows columns pushed =
    more_told told then same xs i r h ts news t.rows read (subst (λ (q : Relation). OnFiles then (λ files. Just (table_of files q) (Ok t.rows))) is shows)
    (pushed ∙ ap (λ (cs : List Column). ts ++ record { columns = cs; rows = t.rows } ∷ []) (columns ∙ ap (λ (q : Relation). q.columns) is))

pub tables_at : (xs : List Relation) (i : ℕ) (r : Relation) → i < length xs → r ≡ get_or xs i r → (ts news : List Table) (t : Table) → AreTables (take i xs) ts → t.columns ≡ r.columns → IsTable t → news ≡ ts ++ t ∷ [] →
    AreTables (take (i + 1) xs) news
tables_at xs i r h is ts news t are columns table pushed =
    rw (pushed, one_item_more xs i r h) (more_tables (take i xs) ts (get_or xs i r) t are (columns ∙ ap (λ (q : Relation). q.columns) is) table)

-- what is told of files after a first reading of them
module _ {A B X : Type 0} (first : Files → Result A Status → Type 0) (next : A → Files → Result B Status → Type 0) (x : A) (view : X → B) where
  joined : (files : Files) (P : Result B Status) → first files (Ok x) → next x files P → Then (first files) (λ a. next a files) P
  joined files (Ok y) h f = (x, h, f)
  joined files (Err e) h f = inr (x, h, f)

  both : (told : Option Files) (P : Result B Status) → OnFiles told (λ files. first files (Ok x)) → OnFiles told (λ files. next x files P) → OnFiles told (λ files. Then (first files) (λ a. next a files) P)
  both None P h f = tt
  both (Some files) P h f = joined files P h f

  pub then_told : (told then : Option Files) → then ≡ told → (before mid now : ℕ) → before ≤ mid → (result : Result X Status) → OnFiles told (λ files. first files (Ok x)) → Told then mid now view result (next x) →
      Told told before now view result (λ files. Then (first files) (λ a. next a files))
  then_told told then same before mid now le (Ok y) h f = both told (Ok (view y)) h (subst (λ t. OnFiles t (λ files. next x files (Ok (view y)))) same f)
  then_told told then same before mid now le (Err Done) h f = f
  then_told told then same before mid now le (Err Usage) h f = f
  then_told told then same before mid now le (Err (Refused r)) h f = both told (Err (Refused r)) h (subst (λ t. OnFiles t (λ files. next x files (Err (Refused r)))) same f)
  then_told told then same before mid now le (Err ShelfFault) h f = omega (arith, le, f)
  then_told told then same before mid now le (Err (DriveFault d)) h f = absurd f
  then_told told then same before mid now le (Err (Bad bad)) h f = absurd f
  then_told told then same before mid now le (Err SinkFault) h f = f
  then_told told then same before mid now le (Err NoMemory) h f = tt
  then_told told then same before mid now le (Err (DriveFull d needs capacity)) h f = absurd f
  then_told told then same before mid now le (Err (TooLarge number)) h f = absurd f
  then_told told then same before mid now le (Err (NotBuilt what)) h f = absurd f

-- what is found of a first reading, where that is a function
pub bound_told : {A B X : Type 0} (first : Files → Result A Status) (next : A → Result B Status) (x : A) (view : X → B) (told : Option Files) (before now : ℕ) (result : Result X Status) →
    OnFiles told (λ files. Just (first files) (Ok x)) → Finds view result (Just (next x)) → Told told before now view result (λ files. Just (bind (first files) next))
bound_told {A} {B} {X} first next x view told before now result h f = by told result h f where
  there : (t : Option Files) (P : Result B Status) → OnFiles t (λ files. Just (first files) (Ok x)) → next x ≡ P → OnFiles t (λ files. Just (bind (first files) next) P)
  there None P h f = tt
  there (Some files) P h f = rw h f

  by : (t : Option Files) (r : Result X Status) → OnFiles t (λ files. Just (first files) (Ok x)) → Finds view r (Just (next x)) → Told t before now view r (λ files. Just (bind (first files) next))
  by t (Ok y) h f = there t (Ok (view y)) h f
  by t (Err Done) h f = f
  by t (Err Usage) h f = f
  by t (Err (Refused r)) h f = there t (Err (Refused r)) h f
  by t (Err ShelfFault) h f = absurd f
  by t (Err (DriveFault d)) h f = absurd f
  by t (Err (Bad bad)) h f = absurd f
  by t (Err SinkFault) h f = f
  by t (Err NoMemory) h f = tt
  by t (Err (DriveFull d needs capacity)) h f = absurd f
  by t (Err (TooLarge number)) h f = absurd f
  by t (Err (NotBuilt what)) h f = absurd f
