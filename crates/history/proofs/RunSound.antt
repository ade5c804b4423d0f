-- The deposits and the batches of each fragment of a run, event by event.
use Rattle.std.proofs.Common.{◌≡◌, ℕ, ◌<◌, ◌&&◌, not, Bool, true, false, cond, eqb, List, [], ◌∷◌, ◌++◌, length, take, refl, ap, sym, ◌∙◌, subst, inl, inr, arith, Option, Some, None, is_some}
use Rattle.std.proofs.lemmas.Bool.{eqb-true}
use Rattle.page_partition.specs.Counts.{has}
use Rattle.page_partition.specs.Owners.{Divided}
use Rattle.adjust_protocol.specs.Moves.{Move}
use Rattle.adjust_protocol.specs.Moves as move
use Rattle.adjust_protocol.specs.History.{Setting, Once, Allowed, out_in, held_in, pending_in, is_collecting_in, is_full_in}
use Rattle.history.specs.declared.event.Event.{Event}
use Rattle.history.specs.declared.event.Event.TheVariants as event
use Rattle.history.specs.Outline.{Run, outline}
use Rattle.history.specs.Projected.{given, begun, earlier_of, is_finished, last_claim, deposited, asks, moves_of}
use Rattle.history.specs.State.{setting, setting_from, owns_by}
use Rattle.history.specs.Allowed.{IsLegal, Permits}
use Rattle.history.specs.Deposits.{IsOnce, AreByOwners, HaveOwners}
use Rattle.std.proofs.lemmas.Bool.{cases_Bool, lt-ltb}
use Rattle.page_partition.specs.Counts.{count_of}
use Rattle.history.proofs.Counting.{count_append, has_none, has_some, some_has}
use Rattle.history.proofs.Projections.{claims_are, deposits_are, divides_are}
use Rattle.history.proofs.ScanSound.{IsSound, sound_start, sound_ask, sound_uncollect, sound_after, full_after, once_full, settled_owned}

-- what is kept at each fragment: its scan is sound, nothing has moved before it began, and it is full once it is finished
pub record Keeps (S : Setting) (xs : List Move) (began : Option ℕ) (finished : Bool) : Type 0 where
  pub sound : IsSound S xs
  pub still : began ≡ None → xs ≡ []
  pub done : finished ≡ true → is_full_in S xs ≡ true

abbrev pub KeepsAt : Run → List Event → ℕ → Type 0
KeepsAt run h f = Keeps (setting run h f) (moves_of h f) (begun h f) (is_finished h f)

-- ---- a move of one fragment
kept_local : (S : Setting) (xs : List Move) (m : Move) (o : Option ℕ) (fin b : Bool) → (b ≡ true → Allowed S xs m) → (b ≡ true → o ≡ None → ⊥)
    → Keeps S xs o fin → Keeps S (cond b (m ∷ []) [] ++ xs) o fin
kept_local S xs m o fin true allowed late k = record {
  sound = sound_after S xs m (allowed refl) k.sound;
  still = λ e. absurd (late refl e);
  done = λ e. full_after S xs m (allowed refl) k.sound (k.done e);
}
kept_local S xs m o fin false allowed late k = k

kept_at : (run : Run) (h : List Event) (g : ℕ) (m : Move) → Allowed (setting run h g) (moves_of h g) m → (begun h g ≡ None → ⊥) → (f : ℕ) → KeepsAt run h f
    → Keeps (setting run h f) (cond (eqb g f) (m ∷ []) [] ++ moves_of h f) (begun h f) (is_finished h f)
kept_at run h g m a late f k =
    kept_local (setting run h f) (moves_of h f) m (begun h f) (is_finished h f) (eqb g f)
    (λ e. subst (λ (q : ℕ). Allowed (setting run h q) (moves_of h q) m) (eqb-true g f e) a)
    (λ e n. late (ap (begun h) (eqb-true g f e) ∙ n)) k

-- what is held, out, pending or collecting has begun
late_held : (xs : List Move) (role : ℕ) → held_in xs role ≡ true → xs ≡ [] → ⊥
late_held xs role h e = absurd (let h' = subst (λ (ys : List Move). held_in ys role ≡ true) e h in cc)

late_out : (xs : List Move) (role : ℕ) → 0 < length (out_in xs role) → xs ≡ [] → ⊥
late_out xs role h e = absurd (let h' = subst (λ (ys : List Move). 0 < length (out_in ys role)) e h in omega arith)

late_pending : (S : Setting) (xs : List Move) (n : ℕ) → pending_in S xs ≡ Some n → xs ≡ [] → ⊥
late_pending S xs n h e = absurd (let h' = subst (λ (ys : List Move). pending_in S ys ≡ Some n) e h in cc)

pub late_collecting : (xs : List Move) → is_collecting_in xs ≡ true → xs ≡ [] → ⊥
late_collecting xs h e = absurd (let h' = subst (λ (ys : List Move). is_collecting_in ys ≡ true) e h in cc)

pub late_runs : (o : Option ℕ) (fin : Bool) → is_some o && not fin ≡ true → o ≡ None → ⊥
late_runs None fin h e = absurd (cc)
late_runs (Some n) fin h e = absurd (cc)

-- ---- a finish
kept_finish : (run : Run) (f : ℕ) (o n : Option ℕ) (fin b : Bool) (xs : List Move) → (b ≡ true → is_collecting_in xs ≡ true) → Keeps (setting_from run f o) xs o fin
    → Keeps (setting_from run f (earlier_of o n)) (cond b (move.Uncollect ∷ []) (asks (is_some o && not fin) n) ++ xs) (earlier_of o n) (cond b true fin)
kept_finish run f (Some d) n fin true xs c k = record {
  sound = sound_uncollect (setting_from run f (Some d)) xs k.sound;
  still = λ e. absurd (cc);
  done = λ e. k.sound.full (c refl);
}
kept_finish run f (Some d) n true false xs c k = k
kept_finish run f (Some d) None false false xs c k = k
kept_finish run f (Some d) (Some m) false false xs c k = record {
  sound = sound_ask (setting_from run f (Some d)) xs m k.sound;
  still = λ e. absurd (cc);
  done = λ e. k.done e;
}
kept_finish run f None n fin true xs c k = absurd (late_collecting xs (c refl) (k.still refl))
kept_finish run f None n fin false xs c k = record {
  sound = subst (λ (ys : List Move). IsSound (setting_from run f n) ys) (sym (k.still refl)) (sound_start (setting_from run f n));
  still = λ e. k.still refl;
  done = λ e. k.done e;
}

kept_begin : (run : Run) (f : ℕ) (n : Option ℕ) → Keeps (setting_from run f n) [] n false
kept_begin run f n = record { sound = sound_start (setting_from run f n); still = λ e. refl; done = λ e. absurd (cc) }

-- ---- every event
kept_event : (run : Run) (h : List Event) (e : Event) → Permits run h e → ((f : ℕ) → KeepsAt run h f) → (f : ℕ) → KeepsAt run (e ∷ h) f
kept_event run h (event.Begin d) a k f = subst (λ (xs : List Event). KeepsAt run (event.Begin d ∷ xs) f) (sym a.0) (kept_begin run f (given d f))
kept_event run h (event.Seat b g role) a k f = kept_at run h g (move.Seat role) a.3 (late_runs (begun h g) (is_finished h g) a.2.1.0) f (k f)
kept_event run h (event.Claim g role ps) a k f = kept_at run h g (move.Claim role ps) a.2 (λ n. late_held (moves_of h g) role a.2.held ((k g).still n)) f (k f)
kept_event run h (event.Settle g role count) a k f = kept_at run h g (move.Settle role count) a.2 (λ n. late_out (moves_of h g) role a.2.1 ((k g).still n)) f (k f)
kept_event run h (event.Divide g degree cut) a k f = kept_at run h g (move.Divide degree cut) a.2 (λ n. late_pending (setting run h g) (moves_of h g) degree a.2.0 ((k g).still n)) f (k f)
kept_event run h (event.Leave g role) a k f = kept_at run h g (move.Leave role) a.2 (λ n. late_held (moves_of h g) role a.2.1 ((k g).still n)) f (k f)
kept_event run h (event.Collect b g) a k f =
    kept_at run h g move.Collect (a.0 g a.1.0, a.1.1.1, a.1.1.2) (late_runs (begun h g) (is_finished h g) a.1.1.0) f (k f)
kept_event run h (event.Uncollect g) a k f = kept_at run h g move.Uncollect (a.0 g a.1, a.2) (λ n. late_collecting (moves_of h g) a.2 ((k g).still n)) f (k f)
kept_event run h (event.Finish g d) a k f =
    kept_finish run f (begun h f) (given d f) (is_finished h f) (eqb g f) (moves_of h f)
    (λ e. subst (λ (q : ℕ). is_collecting_in (moves_of h q) ≡ true) (eqb-true g f e) a.2) (k f)

pub keeps : (run : Run) (h : List Event) → IsLegal run h → (f : ℕ) → KeepsAt run h f
keeps run [] legal f = kept_begin run f None
keeps run (e ∷ h) legal f = kept_event run h e legal.0 (keeps run h legal.1) f

-- ---- the laws
pub once : (run : Run) (h : List Event) (f : ℕ) → IsLegal run h → is_finished h f ≡ true → IsOnce run h f
once run h f legal finished =
    let k = keeps run h legal f in
    subst (λ (xs : List ℕ). Once xs (outline run f).positions) (deposits_are h f) (once_full (setting run h f) (moves_of h f) k.sound.apart (k.done finished))

pub legal_rest : (run : Run) (later h : List Event) → IsLegal run (later ++ h) → IsLegal run h
legal_rest run [] h legal = legal
legal_rest run (e ∷ later) h legal = legal_rest run later h legal.1

pub by_owners : (run : Run) (h : List Event) → IsLegal run h → (f : ℕ) → AreByOwners run h f
by_owners run h legal f before later role count p is among =
    let rest = legal_rest run later (event.Settle f role count ∷ before) (subst (IsLegal run) is legal) in
    let k = keeps run before rest.1 f in
    let claimed = ap (λ ps. has p (take count ps)) (claims_are before f role) ∙ among in
    ap (λ (ds : List Divided). owns_by (outline run f).by_entries (outline run f).positions (setting run before f).degree ds role p) (sym (divides_are before f))
    ∙ settled_owned (setting run before f) (moves_of before f) role count p rest.0.2 k.sound claimed

-- ---- who deposited a position
record Settled (h : List Event) (f p : ℕ) : Type 0 where
  before : List Event
  later : List Event
  role : ℕ
  count : ℕ
  is : h ≡ later ++ event.Settle f role count ∷ before
  among : has p (take count (last_claim before f role)) ≡ true

settled_then : (h : List Event) (f p : ℕ) (e : Event) → Settled h f p → Settled (e ∷ h) f p
settled_then h f p e s = record { before = s.before; later = e ∷ s.later; role = s.role; count = s.count; is = ap (λ xs. e ∷ xs) s.is; among = s.among }

has_either : (p : ℕ) (xs ys : List ℕ) → has p (xs ++ ys) ≡ true → has p xs ≡ false → has p ys ≡ true
has_either p xs ys h n = let a = has_some p (xs ++ ys) h in let b = has_none p xs n in let c = count_append p xs ys in some_has p ys (omega arith)

settled : (h : List Event) (f p : ℕ) → has p (deposited h f) ≡ true → Settled h f p
settled [] f p e = absurd (cc)
settled (event.Begin d ∷ h) f p e = settled_then h f p (event.Begin d) (settled h f p e)
settled (event.Seat b g r ∷ h) f p e = settled_then h f p (event.Seat b g r) (settled h f p e)
settled (event.Claim g r ps ∷ h) f p e = settled_then h f p (event.Claim g r ps) (settled h f p e)
settled (event.Settle g r n ∷ h) f p e =
    elim (cases_Bool (eqb g f)) [
      | inr z ↦ settled_then h f p (event.Settle g r n) (settled h f p (simp z at e))
      | inl y ↦ elim (cases_Bool (has p (deposited h f))) [
        | inl old ↦ settled_then h f p (event.Settle g r n) (settled h f p old)
        | inr new ↦ record {
          before = h;
          later = [];
          role = r;
          count = n;
          is = ap (λ (q : ℕ). event.Settle q r n ∷ h) (eqb-true g f y);
          among = has_either p (deposited h f) (take n (last_claim h f r)) (simp y at e) new;
        }
      ]
    ]
settled (event.Divide g n c ∷ h) f p e = settled_then h f p (event.Divide g n c) (settled h f p e)
settled (event.Leave g r ∷ h) f p e = settled_then h f p (event.Leave g r) (settled h f p e)
settled (event.Collect b g ∷ h) f p e = settled_then h f p (event.Collect b g) (settled h f p e)
settled (event.Uncollect g ∷ h) f p e = settled_then h f p (event.Uncollect g) (settled h f p e)
settled (event.Finish g d ∷ h) f p e = settled_then h f p (event.Finish g d) (settled h f p e)

pub have_owners : (run : Run) (h : List Event) (f : ℕ) → IsLegal run h → is_finished h f ≡ true → HaveOwners run h f
have_owners run h f legal finished p lt =
    let one = once run h f legal finished p in
    let t = lt-ltb p (outline run f).positions lt in
    let one' : count_of p (deposited h f) ≡ 1 = simp t at one in
    let s = settled h f p (some_has p (deposited h f) (omega arith)) in
    (s.before, s.later, s.role, s.count, s.is, s.among, by_owners run h legal f s.before s.later s.role s.count p s.is s.among)
