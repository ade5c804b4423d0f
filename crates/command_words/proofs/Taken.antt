-- What a command finds in the words, and the forms.
use Rattle.std.proofs.Common.{◌≡◌, ◌≢◌, ◌⊎◌, refl, subst, sym, true, false, List, ℕ, [], ◌∷◌, Some}
use Rattle.std.proofs.Common.{None, Option, inl, inr}
use Rattle.clap.specs.Walk.{Row, rows_of}
use Rattle.clap.specs.Values.{kind_of}
use Rattle.clap.specs.Kinds.{HasKind, Kinds}
use Rattle.clap.specs.Simple.{App, HasMatchesOf, is_simple}
use Rattle.clap.specs.Matches.{found_of}
use Rattle.clap.specs.Faults.{fault_of, is_simple_and_free}
use Rattle.clap.specs.declared.error.Error.{Error}
use Rattle.clap.specs.declared.error.kind.ErrorKind.TheVariants as kind
use Rattle.clap.specs.declared.parser.matches.ArgMatches.{ArgMatches}
use Rattle.clap.proofs.OnLiterals.{clap_on_literals}
use Rattle.command_words.specs.Commands.{HasMatches, Text, file_app, generation_app, job_app}
use Rattle.command_words.specs.Commands.{plain_app, plans_app}
use Rattle.command_words.specs.Forms.{file_form, files_by, form_with, generation_by, generation_form, is_clear}
use Rattle.command_words.specs.Forms.{job_by, job_form, plans_by, plans_form}

pub file_is_simple : is_simple file_app ≡ true
unfolding clap_on_literals file_app plain_app
file_is_simple = refl

pub file_is_free : is_simple_and_free file_app ≡ true
unfolding clap_on_literals file_app plain_app
file_is_free = refl

pub job_is_simple : is_simple job_app ≡ true
unfolding clap_on_literals job_app file_app plain_app
job_is_simple = refl

pub job_is_free : is_simple_and_free job_app ≡ true
unfolding clap_on_literals job_app file_app plain_app
job_is_free = refl

pub plans_is_simple : is_simple plans_app ≡ true
unfolding clap_on_literals plans_app file_app plain_app
plans_is_simple = refl

pub plans_is_free : is_simple_and_free plans_app ≡ true
unfolding clap_on_literals plans_app file_app plain_app
plans_is_free = refl

pub generation_is_simple : is_simple generation_app ≡ true
unfolding clap_on_literals generation_app plain_app
generation_is_simple = refl

pub generation_is_free : is_simple_and_free generation_app ≡ true
unfolding clap_on_literals generation_app plain_app
generation_is_free = refl

-- the command took the words
pub taken : (a : App) (words : List Text) (m : ArgMatches) → is_simple a ≡ true →
    is_simple_and_free a ≡ true → (is_simple_and_free a ≡ true → fault_of a words ≡ []) →
    HasMatchesOf a words m
    → HasMatches a words (Some m)
unfolding HasMatches
taken a words m simple free none rows = (none free, (rows simple).0)

some_kind : (ks : Kinds) (e : Error) → HasKind ks e → kind_of e ≢ kind.OutOfMemory → ks ≢ []
some_kind [] e (inl memory) other = absurd (other memory)
some_kind [] e (inr none) other = absurd none
some_kind (k ∷ ks) e h other = λ bad. cc

-- it refused them
pub refused : (a : App) (words : List Text) (e : Error) → is_simple_and_free a ≡ true →
    (is_simple_and_free a ≡ true → HasKind (fault_of a words) e) → kind_of e ≢ kind.OutOfMemory
    → HasMatches a words None
unfolding HasMatches
refused a words e free why other = some_kind (fault_of a words) e (why free) other

nonempty : (ks : Kinds) → ks ≢ [] → is_clear ks ≡ false
nonempty [] d = absurd (d refl)
nonempty (k ∷ ks) d = refl

-- what the words say, where the command took them
pub said_of : {A : Type 0} (a : App) (by : List Row → Option A) (words : List Text)
    (m : ArgMatches) → HasMatches a words (Some m) →
    form_with a by words ≡ by (rows_of (found_of m))
unfolding HasMatches
said_of a by words m h = rw (h.0, h.1) refl

pub said_none : {A : Type 0} (a : App) (by : List Row → Option A) (words : List Text) →
    HasMatches a words None → form_with a by words ≡ None
unfolding HasMatches
said_none a by words h = rw (nonempty (fault_of a words) h) refl

pub job_said : (words : List Text) (m : ArgMatches) → HasMatches job_app words (Some m) →
    job_form words ≡ job_by (rows_of (found_of m))
unfolding job_form
job_said words m h = said_of job_app job_by words m h

pub job_none : (words : List Text) → HasMatches job_app words None → job_form words ≡ None
unfolding job_form
job_none words h = said_none job_app job_by words h

pub plans_said : (words : List Text) (m : ArgMatches) → HasMatches plans_app words (Some m) →
    plans_form words ≡ plans_by (rows_of (found_of m))
unfolding plans_form
plans_said words m h = said_of plans_app plans_by words m h

pub plans_none : (words : List Text) → HasMatches plans_app words None → plans_form words ≡ None
unfolding plans_form
plans_none words h = said_none plans_app plans_by words h

pub file_said : (words : List Text) (m : ArgMatches) → HasMatches file_app words (Some m) →
    file_form words ≡ files_by (rows_of (found_of m))
unfolding file_form
file_said words m h = said_of file_app files_by words m h

pub file_none : (words : List Text) → HasMatches file_app words None → file_form words ≡ None
unfolding file_form
file_none words h = said_none file_app files_by words h

pub generation_said : (words : List Text) (m : ArgMatches) → HasMatches generation_app words (Some m) →
    generation_form words ≡ generation_by (rows_of (found_of m))
unfolding generation_form
generation_said words m h = said_of generation_app generation_by words m h

pub generation_none : (words : List Text) → HasMatches generation_app words None → generation_form words ≡ None
unfolding generation_form
generation_none words h = said_none generation_app generation_by words h
