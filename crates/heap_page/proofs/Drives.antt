-- Drives that are written to.
use Rattle.std.proofs.Common.{◌≡◌, ℕ, ◌*◌, ◌/◌, ◌<◌, ◌≤◌, List, length, Option, Some, None, refl, sym, ap, subst, ◌∙◌, arith}
use Rattle.std.specs.Prelude.{IfErr, Result, Ok, Err, slice_get}
use Rattle.std.proofs.lemmas.Nat.{div-add-mod'}
use Rattle.xp_outside.specs.Outside.{Rose}
use Rattle.xp_outside.specs.declared.drive.Drive.{Ghosts}
use Rattle.heap_page.specs.declared.map.FileMap.{FileMap}
use Rattle.heap_page.specs.declared.errors.StoreErr.{StoreErr}
use Rattle.heap_page.specs.declared.errors.StoreErr.TheVariants.{DriveFault, DriveFull, NoMemory}
use Rattle.heap_page.specs.Maps.{drive_of, address_of, base}
use Rattle.heap_page.specs.Stores.{TellsAt, KeepsBut, IsWritten, AreQuiet, AreRead, AreWritten, IsFault, IsFull, HaveRoom, StoreCause}
use Rattle.heap_page.proofs.Found.{get_below, one_at, there}

pub rose_earlier : (a b c : ℕ) → a ≤ b → Rose b c → Rose a c
rose_earlier a b c le h = omega (arith, le, h)

pub if_err_map : {T E : Type 0} (r : Result T E) (P Q : E → Type 0) → ((e : E) → P e → Q e) → IfErr r P → IfErr r Q
if_err_map (Ok x) P Q f h = tt
if_err_map (Err e) P Q f h = f e h

-- what is told at every other place
pub keeps_trans : (P Q R : ℕ → Type 0) (a b c : Option (List (List ℕ))) → ((x : ℕ) → P x → R x) → ((x : ℕ) → Q x → R x) → KeepsBut P a b → KeepsBut Q b c → KeepsBut R a c
keeps_trans P Q R None None None p q h k = tt
keeps_trans P Q R None None (Some f) p q h k = k
keeps_trans P Q R None (Some f) c p q h k = elim h [ ]
keeps_trans P Q R (Some f) None c p q h k = elim h [ ]
keeps_trans P Q R (Some f) (Some f2) None p q h k = k
keeps_trans P Q R (Some f) (Some f2) (Some f3) p q h k = (k.0 ∙ h.0, λ x out. k.1 x (λ w. out (q x w)) ∙ h.1 x (λ w. out (p x w)))

pub keeps_none : (a : Option (List (List ℕ))) (P : ℕ → Type 0) → KeepsBut P a a
keeps_none None P = tt
keeps_none (Some f) P = (refl, λ x out. refl)

pub tells_kept : (P : ℕ → Type 0) (old new : Option (List (List ℕ))) (a : ℕ) (bytes : List ℕ) → KeepsBut P old new → (P a → ⊥) → TellsAt old a bytes → TellsAt new a bytes
tells_kept P None None a bytes k out h = tt
tells_kept P None (Some f) a bytes k out h = elim k [ ]
tells_kept P (Some f) None a bytes k out h = tt
tells_kept P (Some f) (Some f2) a bytes k out h = λ page at. h page (sym (k.1 a out) ∙ at)

-- two pages of a file have two places
pub apart : (map : FileMap) (file p n : ℕ) → p < n → drive_of map p ≡ drive_of map n → address_of map file p ≡ address_of map file n → ⊥
apart map file p n lt same e =
    let b : base map file (drive_of map p) ≡ base map file (drive_of map n) = ap (base map file) same in
    let one : p / map.drives ≡ n / map.drives = omega (arith, e, b) in
    let two : p / map.drives * map.drives ≡ n / map.drives * map.drives = ap (λ (q : ℕ). q * map.drives) one in
    absurd (omega (arith, two, same, div-add-mod' p map.drives, div-add-mod' n map.drives))

module _ {D : Type 0} (g : Ghosts D) where
  pub wrote_trans : (P Q R : ℕ → ℕ → Type 0) (us bs cs : List D) → ((d x : ℕ) → P d x → R d x) → ((d x : ℕ) → Q d x → R d x) → AreWritten g P us bs → AreWritten g Q bs cs → AreWritten g R us cs
  wrote_trans P Q R us bs cs p q h k = record {
    len = k.len ∙ h.len;
    each = λ d a c at_a at_c.
        let lt : d < length bs = omega (arith, get_below us d a at_a, h.len) in
        let b = there bs d lt in
        let one = h.each d a b.0 at_a b.1 in
        let two = k.each d b.0 c b.1 at_c in
        record {
          size = two.size ∙ one.size;
          count = omega (arith, one.count, two.count);
          others = keeps_trans (P d) (Q d) (R d) (g.pages a) (g.pages b.0) (g.pages c) (p d) (q d) one.others two.others;
        };
  }

  pub wrote_none : (P : ℕ → ℕ → Type 0) (us : List D) → AreWritten g P us us
  wrote_none P us = record {
    len = refl;
    each = λ d a b at_a at_b.
        let e : a ≡ b = one_at us d a b at_a at_b in
        subst (λ (x : D). IsWritten g (P d) a x) e (record { size = refl; count = omega arith; others = keeps_none (g.pages a) (P d) });
  }

  pub quiet_none : (fault : Option ℕ) (us : List D) → AreQuiet g fault us us
  quiet_none fault us = record {
    each = λ d a b other at_a at_b. let e : a ≡ b = one_at us d a b at_a at_b in rw e refl;
  }

  pub quiet_trans : (fault : Option ℕ) (us bs cs : List D) → length bs ≡ length us → AreQuiet g None us bs → AreQuiet g fault bs cs → AreQuiet g fault us cs
  quiet_trans fault us bs cs len h k = record {
    each = λ d a c other at_a at_c.
        let b = there bs d (omega (arith, get_below us d a at_a, len)) in
        k.each d b.0 c other b.1 at_c ∙ h.each d a b.0 (λ e. absurd cc) at_a b.1;
  }

  -- reads that change nothing compose
  pub read_none : (us : List D) → AreRead g us us
  read_none us = record {
    len = refl;
    each = λ d a b at_a at_b.
        let e : a ≡ b = one_at us d a b at_a at_b in
        rw e (record { size = refl; count = omega arith; told = refl });
  }

  pub read_trans : (us bs cs : List D) → AreRead g us bs → AreRead g bs cs → AreRead g us cs
  read_trans us bs cs h k = record {
    len = k.len ∙ h.len;
    each = λ d a c at_a at_c.
        let b = there bs d (omega (arith, get_below us d a at_a, h.len)) in
        let one = h.each d a b.0 at_a b.1 in
        let two = k.each d b.0 c b.1 at_c in
        record { size = two.size ∙ one.size; count = omega (arith, one.count, two.count); told = two.told ∙ one.told };
  }

  -- they keep the room, and what is told at each place
  pub room_read : (map_of : FileMap) (us bs : List D) → AreRead g us bs → HaveRoom g map_of us → HaveRoom g map_of bs
  room_read map_of us bs h room = λ d b at_b.
      let a = there us d (omega (arith, get_below bs d b at_b, h.len)) in
      omega (arith, (h.each d a.0 b a.1 at_b).size, room d a.0 a.1)

  pub told_read : (P : ℕ → Option (List (List ℕ)) → Type 0) (us bs : List D) → AreRead g us bs →
      ((d : ℕ) (drive : D) → slice_get us d ≡ Some drive → P d (g.pages drive)) → (d : ℕ) (drive : D) → slice_get bs d ≡ Some drive → P d (g.pages drive)
  told_read P us bs h all d b at_b =
      let a = there us d (omega (arith, get_below bs d b at_b, h.len)) in
      subst (P d) (sym (h.each d a.0 b a.1 at_b).told) (all d a.0 a.1)

  pub fault_earlier : (us bs cs : List D) (d : ℕ) → AreRead g us bs → IsFault g d bs cs → IsFault g d us cs
  fault_earlier us bs cs d h f =
      let a = there us d (omega (arith, get_below bs d f.old f.was, h.len)) in
      record { old = a.0; new = f.new; was = a.1; is = f.is; rose = rose_earlier _ _ _ (h.each d a.0 f.old a.1 f.was).count f.rose }

  pub room_kept : (map : FileMap) (P : ℕ → ℕ → Type 0) (us bs : List D) → AreWritten g P us bs → HaveRoom g map us → HaveRoom g map bs
  room_kept map P us bs h room = λ d b at_b.
      let lt : d < length us = omega (arith, get_below bs d b at_b, h.len) in
      let a = there us d lt in
      omega (arith, (h.each d a.0 b a.1 at_b).size, room d a.0 a.1)

  pub room_before : (map : FileMap) (P : ℕ → ℕ → Type 0) (us bs : List D) → AreWritten g P us bs → HaveRoom g map bs → HaveRoom g map us
  room_before map P us bs h room = λ d a at_a.
      let b = there bs d (omega (arith, get_below us d a at_a, h.len)) in
      omega (arith, (h.each d a b.0 at_a b.1).size, room d b.0 b.1)

  pub fault_before : (P : ℕ → ℕ → Type 0) (us bs cs : List D) (d : ℕ) → AreWritten g P us bs → IsFault g d bs cs → IsFault g d us cs
  fault_before P us bs cs d h f =
      let a = there us d (omega (arith, get_below bs d f.old f.was, h.len)) in
      record { old = a.0; new = f.new; was = a.1; is = f.is; rose = rose_earlier _ _ _ (h.each d a.0 f.old a.1 f.was).count f.rose }

  pub not_full : (map : FileMap) (d needs capacity : ℕ) (bs : List D) → HaveRoom g map bs → IsFull g map d needs capacity bs → ⊥
  not_full map d needs capacity bs room f = absurd (omega (arith, room d f.drive f.here, f.needs_is, f.capacity_is, f.small))

  pub cause_later : (map : FileMap) (P : ℕ → ℕ → Type 0) (us bs cs : List D) (e : StoreErr) → AreWritten g P us bs → StoreCause g map bs cs e → HaveRoom g map us → StoreCause g map us cs e
  cause_later map P us bs cs (DriveFault d) h cause room = (room, fault_before P us bs cs d h cause.1)
  cause_later map P us bs cs (DriveFull d needs capacity) h cause room = absurd (not_full map d needs capacity bs (room_kept map P us bs h room) cause.0)
  cause_later map P us bs cs NoMemory h cause room = room
