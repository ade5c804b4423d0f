-- The numbers of a machine that the words say are within their limits.
use Rattle.std.proofs.Common.{◌≡◌, ◌≤◌, ℕ, Bool, true, false, List, [], ◌∷◌, Option, Some, None, Result, Ok, Err, IfOk, if◌then◌else◌, refl, subst, ap, arith}
use Rattle.std.specs.Prelude.{◌&&◌, codes, nat_le}
use Rattle.std.specs.Str.{bytes_eq}
use Rattle.std.proofs.lemmas.Bool.{leb-true}
use Rattle.std.specs.Option.{option_and_then, option_map}
use Rattle.std.specs.Str.Parse.{digits_value}
use Rattle.clap.specs.Faults.{fault_of}
use Rattle.clap.specs.Simple.{matches_of}
use Rattle.clap.specs.Walk.{Row, first_of}
use Rattle.command_words.specs.Commands.{Text, job_app, plans_app}
use Rattle.command_words.specs.Forms as words
use Rattle.command_words.specs.Forms.{Answered, Asked, Planned}
use Rattle.command_words.specs.Forms.{asked_if, backends_by, batch_by, drives_by, files_by, form_called, form_of, frames_by, is_clear, is_numeral, job_by, job_form, join_by, machine_by, number_or, number_within, plans_by, plans_form, trace_by}
use Rattle.command_words.specs.declared.request.Machine.{Machine as Wanted}
use Rattle.io_cpu_scheduler.specs.Limits.{IsMachine}
use Rattle.xprs_top.specs.declared.goal.Aim.TheVariants.{Make}
use Rattle.xprs_top.specs.declared.goal.Goal.TheVariants.{Answers}
use Rattle.xprs_top.specs.declared.status.Status.{Status}
use Rattle.xprs_top.specs.declared.status.Status.TheVariants.{Done, Usage, Refused, ShelfFault, DriveFault, Bad, SinkFault, NoMemory, DriveFull, NotBuilt, TooLarge}
use Rattle.xprs_top.specs.declared.status.Unbuilt.TheVariants.{Trace}
use Rattle.xprs_top.specs.declared.words.Operands.{Operands}
use Rattle.xprs_top.specs.Requests as Requests
use Rattle.xprs_top.specs.Requests.{HasMachine, IsAsked, IsServed, Request, asked_by, answers_machine, plans_machine, request_of, served, to_make}

-- ---- optional values

abbrev Made : {A B : Type 0} → (A → Option B) → Option A → B → Type 0
Made {A} f o y = (x : A) × (o ≡ Some x) × (f x ≡ Some y)

made : {A B : Type 0} (f : A → Option B) (o : Option A) (y : B) → option_and_then f o ≡ Some y →
    Made f o y
made f (Some x) y e = (x, refl, e)
made f None y e = absurd cc

some_same : {A : Type 0} (x y : A) → ◌≡◌ {A = Option A} (Some x) (Some y) → x ≡ y
some_same x y e = cc

mapped : {A B : Type 0} (f : A → B) (o : Option A) (y : B) → option_map f o ≡ Some y →
    (x : A) × (o ≡ Some x) × (f x ≡ y)
mapped f (Some x) y e = (x, refl, some_same (f x) y e)
mapped f None y e = absurd cc

picked : {A : Type 0} (b : Bool) (o : Option A) (y : A) → (if b then o else None) ≡ Some y →
    (b ≡ true) × (o ≡ Some y)
picked true o y e = (refl, e)
picked false o y e = absurd cc

both : (a b : Bool) → (a && b) ≡ true → (a ≡ true) × (b ≡ true)
both true b e = (refl, e)
both false b e = absurd cc

-- ---- numbers

abbrev pub Within : ℕ → ℕ → Type 0
Within high n = (1 ≤ n) × (n ≤ high)

within : (high : ℕ) (text : Text) (n : ℕ) → number_within 1 high text ≡ Some n → Within high n
within high text n e =
    let p = picked (is_numeral text && (nat_le 1 (digits_value 10 text) && nat_le (digits_value 10 text) high))
    (Some (digits_value 10 text)) n e in
    let t = both (is_numeral text) (nat_le 1 (digits_value 10 text) && nat_le (digits_value 10 text) high) p.0 in
    let u = both (nat_le 1 (digits_value 10 text)) (nat_le (digits_value 10 text) high) t.1 in
    let same : digits_value 10 text ≡ n = some_same (digits_value 10 text) n p.1 in
    subst (Within high) same
    (leb-true 1 (digits_value 10 text) u.0, leb-true (digits_value 10 text) high u.1)

number_in : (standard high : ℕ) (o : Option Text) (n : ℕ) → Within high standard →
    number_or standard 1 high o ≡ Some n → Within high n
number_in standard high None n ok e = subst (Within high) (some_same standard n e) ok
number_in standard high (Some text) n ok e = within high text n e

-- ---- the forms with a machine

pub record Limited (m : Wanted) : Type 0 where
  pub backends : Within 64 m.backends
  pub drives : Within 16 m.drives
  pub batch : Within 64 m.batch

machine_in : (rows : List Row) (m : Wanted) → machine_by rows ≡ Some m → Limited m
machine_in rows m e =
    let b = made _ (backends_by rows) m e in
    let d = made _ (drives_by rows) m b.2 in
    let f = made _ (frames_by rows) m d.2 in
    let k = mapped _ (batch_by rows) m f.2 in
    subst Limited k.2 (record {
      backends = number_in 4 64 (first_of (codes "backends") rows) b.0 (omega arith, omega arith) b.1;
      drives = number_in 4 16 (first_of (codes "drives") rows) d.0 (omega arith, omega arith) d.1;
      batch = number_in 8 64 (first_of (codes "batch") rows) k.0 (omega arith, omega arith) k.1;
    })

job_in : (rows : List Row) (j : Answered) → job_by rows ≡ Some j → Limited j.machine
job_in rows j e =
    let f = made _ (files_by rows) j e in
    let m = made _ (machine_by rows) j f.2 in
    let k = mapped _ (join_by rows) j m.2 in
    subst (λ (x : Answered). Limited x.machine) k.2 (machine_in rows m.0 m.1)

abbrev pub FewPlans : Planned → Type 0
FewPlans p = Within 64 p.backends × Within 16 p.drives

plans_in : (rows : List Row) (p : Planned) → plans_by rows ≡ Some p → FewPlans p
plans_in rows p e =
    let f = made _ (files_by rows) p e in
    let b = made _ (backends_by rows) p f.2 in
    let d = made _ (drives_by rows) p b.2 in
    let k = mapped _ (join_by rows) p d.2 in
    subst FewPlans k.2 (
      number_in 4 64 (first_of (codes "backends") rows) b.0 (omega arith, omega arith) b.1,
      number_in 4 16 (first_of (codes "drives") rows) d.0 (omega arith, omega arith) d.1,
    )

-- ---- what the words ask for

abbrev pub IsLimited : Asked → Type 0
IsLimited (words.run job) = Unit {0}
IsLimited (words.alone job) = Limited job.machine
IsLimited (words.explain plans) = FewPlans plans
IsLimited (words.check files) = Unit {0}
IsLimited (words.gen made) = Unit {0}

choice : {F : Type 0} (P : F → Type 0) (b : Bool) (x y : F) → P x → P y → P (if b then x else y)
choice P true x y p q = p
choice P false x y p q = q

of_alone : (given : List Text) (a : Asked) → option_map words.alone (job_form given) ≡ Some a → IsLimited a
unfolding job_form
of_alone given a e =
    let k = mapped words.alone (job_form given) a e in
    let rows = matches_of job_app given in
    let p = picked (is_clear (fault_of job_app given)) (job_by rows) k.0 k.1 in
    subst IsLimited k.2 (job_in rows k.0 p.1)

of_explain : (given : List Text) (a : Asked) → option_map words.explain (plans_form given) ≡ Some a → IsLimited a
unfolding plans_form
of_explain given a e =
    let k = mapped words.explain (plans_form given) a e in
    let rows = matches_of plans_app given in
    let p = picked (is_clear (fault_of plans_app given)) (plans_by rows) k.0 k.1 in
    subst IsLimited k.2 (plans_in rows k.0 p.1)

abbrev Fine : Option Asked → Type 0
Fine o = (a : Asked) → o ≡ Some a → IsLimited a

by_name : (word : Text) (given : List Text) (a : Asked) → asked_if (form_called word) given ≡ Some a → IsLimited a
unfolding form_called
by_name word given =
    choice (λ f. Fine (asked_if f given)) (bytes_eq word (codes "run")) _ _
    (λ a e. let k = mapped words.run _ a e in subst IsLimited k.2 tt)
    (choice (λ f. Fine (asked_if f given)) (bytes_eq word (codes "alone")) _ _ (of_alone given)
    (choice (λ f. Fine (asked_if f given)) (bytes_eq word (codes "explain")) _ _ (of_explain given)
    (choice (λ f. Fine (asked_if f given)) (bytes_eq word (codes "check")) _ _
    (λ a e. let k = mapped words.check _ a e in subst IsLimited k.2 tt)
    (choice (λ f. Fine (asked_if f given)) (bytes_eq word (codes "gen")) _ _
    (λ a e. let k = mapped words.gen _ a e in subst IsLimited k.2 tt)
    (λ a e. absurd cc)))))

-- the numbers that the words say are within their limits
pub limited : (given : List Text) (a : Asked) → form_of given ≡ Some a → IsLimited a
limited [] a e = absurd cc
limited (word ∷ others) a e = by_name word (word ∷ others) a e

of_job : (job : Answered) → Limited job.machine → IsMachine (answers_machine job.machine)
of_job job few = record {
  some_backend = few.backends.0;
  backends = few.backends.1;
  some_drive = few.drives.0;
  drives = few.drives.1;
  some_batch = few.batch.0;
  batch = few.batch.1;
}

of_plans : (plans : Planned) → FewPlans plans → IsMachine (plans_machine plans.backends plans.drives)
of_plans plans few = record {
  some_backend = few.0.0;
  backends = few.0.1;
  some_drive = few.1.0;
  drives = few.1.1;
  some_batch = omega arith;
  batch = omega arith;
}

-- what is read of such words
same_aim : (a : Request) (o : Operands) → ◌≡◌ {A = Requests.Form} (Ok a) (Ok (request_of o)) →
    a.aim ≡ o.aim
same_aim a o e = ap (λ (r : Request). r.aim) (same a (request_of o) e) where
  same : (x y : Request) → ◌≡◌ {A = Requests.Form} (Ok x) (Ok y) → x ≡ y
  same x y e = cc

aimed : (a : Asked) (o : Operands) → IsLimited a → served a ≡ Ok (request_of o) → HasMachine o.aim
aimed (words.run job) o few e = absurd cc
aimed (words.alone job) o few e = by job.is_traced e where
  by : (b : Bool) → (if b then Err (NotBuilt Trace)
      else to_make (Make Answers (answers_machine job.machine)) job.files) ≡ Ok (request_of o) →
      HasMachine o.aim
  by true k = absurd cc
  by false k = subst HasMachine (same_aim _ o k) (of_job job few)
aimed (words.explain plans) o few e = subst HasMachine (same_aim _ o e) (of_plans plans few)
aimed (words.check files) o few e = subst HasMachine (same_aim _ o e) tt
aimed (words.gen made) o few e = absurd cc

pub aims : (given : List Text) (a : Asked) (found : Result Operands Status) →
    form_of given ≡ Some a → IsServed (served a) found → IfOk found (λ o. HasMachine o.aim)
aims given a (Ok o) e shows = aimed a o (limited given a e) shows
aims given a (Err status) e shows = tt

-- what was read of words, in the terms of what was asked
pub asked_of : (given : List Text) (a : Asked) (o : Option Asked) (found : Result Operands Status) →
    o ≡ form_of given → o ≡ Some a → IsServed (served a) found → IsAsked (asked_by given) found
unfolding asked_by
asked_of given a o found is some shows = rw (← is, some) (weaker (served a) found shows) where
  weaker : (f : Requests.Form) (found : Result Operands Status) → IsServed f found → IsAsked f found
  weaker f (Ok operands) shows = shows
  weaker f (Err Usage) shows = shows
  weaker f (Err (NotBuilt what)) shows = shows
  weaker f (Err NoMemory) shows = tt
  weaker f (Err (TooLarge number)) shows = absurd shows
  weaker f (Err Done) shows = absurd shows
  weaker f (Err (Refused r)) shows = absurd shows
  weaker f (Err ShelfFault) shows = absurd shows
  weaker f (Err (DriveFault d)) shows = absurd shows
  weaker f (Err (Bad bad)) shows = absurd shows
  weaker f (Err SinkFault) shows = absurd shows
  weaker f (Err (DriveFull d needs capacity)) shows = absurd shows

pub asked_none : (given : List Text) → None ≡ form_of given → asked_by given ≡ Err Usage
unfolding asked_by
asked_none given is = rw (← is) refl
