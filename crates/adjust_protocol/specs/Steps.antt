use Rattle.std.proofs.Common.{◌≡◌, ℕ, zero, suc, ◌+◌, ◌-◌, ◌<◌, ◌≤◌, ◌^◌, Bool, true, false, List, [], ◌∷◌, length, set, take, replicate, refl, ap, sym, ◌∙◌, subst, inl, inr, arith, Option, Some, None, eqb, cond, is_some, ◌||◌, unwrap_or, ◌⊎◌}
use Rattle.std.proofs.lemmas.Bool.{cases_Bool, ne_eqb, eq-eqb, false≢true, true≢false, or_right}
use Rattle.std.proofs.lemmas.List.{length-set, length-take, length-replicate}
use Rattle.page_partition.specs.declared.table.Mark.{Mark}
use Rattle.page_partition.specs.declared.table.Mark.TheVariants.{Left, Out, Deposited}
use Rattle.page_partition.specs.Scan.{Scan, is_left, is_out, is_deposited, places_from, places, left_of, out_of, mark_first, given_back, AllNamed}
use Rattle.page_partition.specs.StrideKept.{named_fresh, no_deposits}
use Rattle.page_partition.specs.Places.{places-mark_first_other, length-mark_first}
use Rattle.page_partition.specs.Marks.{Apart, AllNamed-mark_first, AllNamed-mark_all, length-mark_all, places-mark_all_other, length-places_both, mark_first_min}
use Rattle.adjust_protocol.specs.Moves.{Rule, Running, Move, Seat, Claim, Settle, Divide, Ask, is_full, wanted, holders, is_held, is_free, IsDue, with_marks, asked_for, after, run, Legal, Makes}
use Rattle.page_partition.specs.Scan.{IsIdle}
use Rattle.adjust_protocol.specs.Kept.{IsSound, IsKept}

-- what a rule keeps
pub record IsRule (rule : Rule) : Type 0 where
  pub deposits_kept : (degree : ℕ) (ms : List Mark) → places is_deposited (rule.redivided degree ms) ≡ places is_deposited ms
  pub positions_kept : (degree : ℕ) (ms : List Mark) → length (rule.redivided degree ms) ≡ length ms
  pub none_out : (degree role : ℕ) (ms : List Mark) → out_of ms role ≡ [] → out_of (rule.redivided degree ms) role ≡ []
  pub named : (degree : ℕ) (ms : List Mark) → 1 ≤ degree → degree ≤ 64 → AllNamed ms → AllNamed (rule.redivided degree ms)

pub left-deposited : (a : ℕ) → Apart (is_left a) is_deposited
left-deposited a (Left r) e = refl
left-deposited a (Out r) e = refl
left-deposited a Deposited e = absurd (false≢true e)

pub out-deposited : (a : ℕ) → Apart (is_out a) is_deposited
out-deposited a (Left r) e = refl
out-deposited a (Out r) e = refl
out-deposited a Deposited e = absurd (false≢true e)

-- how many are deposited after some are
pub deposited-mark_first : (t : Mark → Bool) → Apart t is_deposited → (k p : ℕ) (ms : List Mark) → k ≤ length (places_from p t ms) → length (places_from p is_deposited (mark_first t k Deposited ms)) ≡ length (places_from p is_deposited ms) + k
deposited-mark_first t apart zero p ms h = omega arith
deposited-mark_first t apart (suc k) p [] h = absurd (omega arith)
deposited-mark_first t apart (suc k) p (x ∷ xs) h =
    elim (cases_Bool (t x)) [
      | inl e ↦ let h' = simp e at h in let ih = deposited-mark_first t apart k (suc p) xs (omega arith) in simp (e, apart x e) (omega arith)
      | inr e ↦
          let ih = deposited-mark_first t apart (suc k) (suc p) xs (simp e at h) in
          elim (cases_Bool (is_deposited x)) [ inl f ↦ simp (e, f) (omega arith) | inr f ↦ simp (e, f) ih ]
    ]

pub deposited-given_back : (role count : ℕ) (ms : List Mark) → count ≤ length (out_of ms role) → length (places is_deposited (given_back role count ms)) ≡ length (places is_deposited ms) + count
deposited-given_back role count ms h =
    ap length (places-mark_all_other (is_out role) is_deposited (Left role) refl (out-deposited role) 0 (mark_first (is_out role) count Deposited ms))
    ∙ deposited-mark_first (is_out role) (out-deposited role) count 0 ms h

-- a claim takes as many as the batch that it answers
pub mark_first_taken : (t : Mark → Bool) (m : Mark) (k : ℕ) (ms : List Mark) → mark_first t (length (take k (places t ms))) m ms ≡ mark_first t k m ms
mark_first_taken t m k ms = ap (λ n. mark_first t n m ms) (length-take k (places t ms)) ∙ mark_first_min t m k ms

pub sound_marks : (s : Running) (missing missing' : ℕ) (ms : List Mark) → IsSound s missing → AllNamed ms → length ms ≡ length s.scan.marks → missing' + length (places is_deposited ms) ≡ length s.scan.marks → IsSound (with_marks s ms) missing'
sound_marks s missing missing' ms sound named same counted = record {
  named = named;
  fits = rw same sound.fits;
  roles = sound.roles;
  counted = counted ∙ sym same;
  degrees = sound.degrees;
}

pub sound_claim : (s : Running) (missing most role : ℕ) → role < 64 → IsSound s missing → IsSound (with_marks s (mark_first (is_left role) most (Out role) s.scan.marks)) missing
sound_claim s missing most role lt sound =
    sound_marks s missing missing (mark_first (is_left role) most (Out role) s.scan.marks) sound (AllNamed-mark_first (is_left role) (Out role) lt most s.scan.marks sound.named) (length-mark_first (is_left role) (Out role) most s.scan.marks)
    (rw (places-mark_first_other (is_left role) is_deposited (Out role) refl (left-deposited role) most 0 s.scan.marks) sound.counted)

pub sound_give : (s : Running) (missing role count : ℕ) → role < 64 → count ≤ length (out_of s.scan.marks role) → IsSound s missing → IsSound (with_marks s (given_back role count s.scan.marks)) (missing - count)
sound_give s missing role count lt few sound =
    let ms = s.scan.marks in
    let d = deposited-given_back role count ms few in
    let room = places_less (is_out role) is_deposited (out-deposited role) ms in
    sound_marks s missing (missing - count) (given_back role count ms) sound
    (AllNamed-mark_all (is_out role) (Left role) lt (mark_first (is_out role) count Deposited ms) (AllNamed-mark_first (is_out role) Deposited tt count ms sound.named))
    (length-mark_all (is_out role) (Left role) (mark_first (is_out role) count Deposited ms) ∙ length-mark_first (is_out role) Deposited count ms)
    (omega (arith, d, room, sound.counted))
  where
    places_less : (t u : Mark → Bool) → Apart t u → (xs : List Mark) → length (places t xs) + length (places u xs) ≤ length xs
    places_less t u apart xs = length-places_both t u apart 0 xs

pub count_fits : (s : Running) (missing role count : ℕ) → count ≤ length (out_of s.scan.marks role) → IsSound s missing → count ≤ missing
count_fits s missing role count few sound = let b = length-places_both (is_out role) is_deposited (out-deposited role) 0 s.scan.marks in omega (arith, sound.counted)

pub sound_divide : (rule : Rule) → IsRule rule → (s : Running) (missing degree : ℕ) → 1 ≤ degree → degree ≤ 64 → IsSound s missing
    → IsSound (record s { scan = record { marks = rule.redivided degree s.scan.marks; degree = degree; room = s.scan.room - 1 }; asked = None }) missing
sound_divide rule laws s missing degree low high sound = record {
  named = laws.named degree s.scan.marks low high sound.named;
  fits = rw (laws.positions_kept degree s.scan.marks) sound.fits;
  roles = sound.roles;
  counted = rw (laws.positions_kept degree s.scan.marks, laws.deposits_kept degree s.scan.marks) sound.counted;
  degrees = λ n e. absurd (cc);
}

pub full_is : (s : Running) (missing : ℕ) → IsSound s missing → missing ≡ 0 → is_full s.scan.marks ≡ true
full_is s missing sound z = eq-eqb _ _ (omega (arith, sound.counted))

pub full_not : (s : Running) (missing : ℕ) → IsSound s missing → (missing ≡ 0 → ⊥) → is_full s.scan.marks ≡ false
full_not s missing sound nz = ne_eqb _ _ (λ e. nz (omega (arith, sound.counted)))

pub none_of : (o : Option ℕ) → is_some o ≡ false → o ≡ None
none_of None e = refl
none_of (Some n) e = absurd (true≢false e)

pub some_of : (o : Option ℕ) → is_some o ≡ true → (n : ℕ) × (o ≡ Some n)
some_of None e = absurd (false≢true e)
some_of (Some n) e = (n, refl)

pub kept_claim : (s : Running) (missing most role : ℕ) (after : Scan) → role < 64 → s.asked ≡ None → after ≡ record s.scan { marks = mark_first (is_left role) most (Out role) s.scan.marks } → IsKept s missing → IsKept (record s { scan = after }) missing
kept_claim s missing most role after lt none e kept =
    subst (λ (z : Scan). IsKept (record s { scan = z }) missing) (sym e) (record { sound = sound_claim s missing most role lt kept.sound; calm = λ d. d.0 none })

pub makes_claim : (rule : Rule) (s : Running) (most role : ℕ) (ps : List ℕ) (after : Scan) → role < 64 → is_held s role ≡ true → out_of s.scan.marks role ≡ [] → s.asked ≡ None → 0 < length (left_of s.scan.marks role) → ps ≡ take most (left_of s.scan.marks role)
    → after ≡ record s.scan { marks = mark_first (is_left role) most (Out role) s.scan.marks } → Makes rule most s (Claim role ps ∷ []) (record s { scan = after })
makes_claim rule s most role ps after lt held idle calm some first e = (
  (record { below = lt; held = held; idle = idle; calm = calm; some = some; first = first }, tt),
  ap (λ (z : Scan). record s { scan = z }) (e ∙ ap (λ ms. record s.scan { marks = ms }) (sym (ap (λ n. mark_first (is_left role) n (Out role) s.scan.marks) (ap length first) ∙ mark_first_taken (is_left role) (Out role) most s.scan.marks))),
)

pub makes_seat : (rule : Rule) (s : Running) (role : ℕ) → (IsDue s → ⊥) → role < 64 → is_free s role ≡ true → ((q : ℕ) → q < role → is_free s q ≡ false) → holders s < wanted s → Makes rule 64 s (Seat role ∷ []) (record s { held = set s.held role true })
makes_seat rule s role calm lt free least room = (((calm, (lt, free, least), room), tt), refl)

pub kept_held : (s : Running) (missing role : ℕ) (held : Bool) → IsKept s missing → IsKept (record s { held = set s.held role held }) missing
kept_held s missing role held kept = record {
  sound = record { named = kept.sound.named; fits = kept.sound.fits; roles = length-set s.held role held ∙ kept.sound.roles; counted = kept.sound.counted; degrees = kept.sound.degrees };
  calm = kept.calm;
}

pub sound_unasked : (s : Running) (missing : ℕ) → IsSound s missing → IsSound (record s { asked = None }) missing
sound_unasked s missing sound = record { named = sound.named; fits = sound.fits; roles = sound.roles; counted = sound.counted; degrees = λ n e. absurd (cc) }

unasked_calm : (s : Running) → s.asked ≡ None → IsDue s → ⊥
unasked_calm s none d = d.0 none

-- the three ends of a settle
abbrev pub GivesBack : Running → ℕ → ℕ → Scan → Type 0
GivesBack s role count after = after ≡ record s.scan { marks = given_back role count s.scan.marks }

pub kept_finished : (s : Running) (missing role count : ℕ) (after : Scan) → role < 64 → count ≤ length (out_of s.scan.marks role) → GivesBack s role count after → IsKept s missing → IsKept (record s { scan = after; asked = None }) (missing - count)
kept_finished s missing role count after lt few e kept =
    subst (λ (z : Scan). IsKept (record s { scan = z; asked = None }) (missing - count)) (sym e)
    (record { sound = sound_unasked (with_marks s (given_back role count s.scan.marks)) (missing - count) (sound_give s missing role count lt few kept.sound); calm = λ d. d.0 refl })

pub kept_more : (s : Running) (missing role count : ℕ) (after : Scan) → role < 64 → count ≤ length (out_of s.scan.marks role) → GivesBack s role count after → (IsDue (record s { scan = after }) → ⊥) → IsKept s missing → IsKept (record s { scan = after }) (missing - count)
kept_more s missing role count after lt few e calm kept = record {
  sound = subst (λ (z : Scan). IsSound (record s { scan = z }) (missing - count)) (sym e) (sound_give s missing role count lt few kept.sound);
  calm = calm;
}

pub full_after : (s : Running) (missing role count : ℕ) (after : Scan) → role < 64 → count ≤ length (out_of s.scan.marks role) → GivesBack s role count after → IsKept s missing → missing - count ≡ 0 → is_full after.marks ≡ true
full_after s missing role count after lt few e kept z =
    subst (λ (a : Scan). is_full a.marks ≡ true) (sym e) (full_is (with_marks s (given_back role count s.scan.marks)) (missing - count) (sound_give s missing role count lt few kept.sound) z)

pub not_full_after : (s : Running) (missing role count : ℕ) (after : Scan) → role < 64 → count ≤ length (out_of s.scan.marks role) → GivesBack s role count after → IsKept s missing → (missing - count ≡ 0 → ⊥) → is_full after.marks ≡ false
not_full_after s missing role count after lt few e kept nz =
    subst (λ (a : Scan). is_full a.marks ≡ false) (sym e) (full_not (with_marks s (given_back role count s.scan.marks)) (missing - count) (sound_give s missing role count lt few kept.sound) nz)

pub makes_finished : (rule : Rule) (s : Running) (role count : ℕ) (after : Scan) → role < 64 → 0 < length (out_of s.scan.marks role) → count ≤ length (out_of s.scan.marks role) → GivesBack s role count after → is_full after.marks ≡ true
    → Makes rule 64 s (Settle role count ∷ []) (record s { scan = after; asked = None })
makes_finished rule s role count after lt some few e full =
    let full' : is_full (given_back role count s.scan.marks) ≡ true = ap (λ (a : Scan). is_full a.marks) (sym e) ∙ full in
    (((lt, some, few), tt), ap (λ (z : Scan). record s { scan = z; asked = None }) e ∙ ap (λ b. record (with_marks s (given_back role count s.scan.marks)) { asked = cond b None s.asked }) (sym full'))

pub makes_more : (rule : Rule) (s : Running) (role count : ℕ) (after : Scan) → role < 64 → 0 < length (out_of s.scan.marks role) → count ≤ length (out_of s.scan.marks role) → GivesBack s role count after → is_full after.marks ≡ false
    → Makes rule 64 s (Settle role count ∷ []) (record s { scan = after })
makes_more rule s role count after lt some few e full =
    let full' : is_full (given_back role count s.scan.marks) ≡ false = ap (λ (a : Scan). is_full a.marks) (sym e) ∙ full in
    (((lt, some, few), tt), ap (λ (z : Scan). record s { scan = z }) e ∙ ap (λ b. record (with_marks s (given_back role count s.scan.marks)) { asked = cond b None s.asked }) (sym full'))

-- a legal first event, and then the others
pub makes_then : (rule : Rule) (batch : ℕ) (s mid end : Running) (m : Move) (ms : List Move) → Makes rule batch s (m ∷ []) mid → Makes rule batch mid ms end → Makes rule batch s (m ∷ ms) end
makes_then rule batch s mid end m ms first rest =
    ((first.0.0, subst (λ (z : Running). Legal rule batch z ms) first.1 rest.0), rest.1 ∙ ap (λ (z : Running). run rule z ms) first.1)

pub makes_divide : (rule : Rule) (s : Running) (degree cut : ℕ) (after : Scan) → s.asked ≡ Some degree → IsIdle s.scan.marks → cut ≡ rule.cut s.scan.marks → after ≡ record { marks = rule.redivided degree s.scan.marks; degree = degree; room = s.scan.room - 1 }
    → Makes rule 64 s (Divide degree cut ∷ []) (record s { scan = after; asked = None })
makes_divide rule s degree cut after asked idle is e = (((asked, idle, is), tt), ap (λ (z : Scan). record s { scan = z; asked = None }) e)

pub kept_divide : (rule : Rule) → IsRule rule → (s : Running) (missing degree : ℕ) (after : Scan) → 1 ≤ degree → degree ≤ 64 → after ≡ record { marks = rule.redivided degree s.scan.marks; degree = degree; room = s.scan.room - 1 } → IsSound s missing
    → IsKept (record s { scan = after; asked = None }) missing
kept_divide rule laws s missing degree after low high e sound =
    subst (λ (z : Scan). IsKept (record s { scan = z; asked = None }) missing) (sym e) (record { sound = sound_divide rule laws s missing degree low high sound; calm = λ d. d.0 refl })

-- an ask
pub makes_ask : (rule : Rule) (s : Running) (degree : ℕ) (asked : Option ℕ) → 1 ≤ degree → degree ≤ 64 → (IsDue s → ⊥) → asked ≡ asked_for s degree → Makes rule 64 s (Ask degree ∷ []) (record s { asked = asked })
makes_ask rule s degree asked low high calm e = (((calm, low, high), tt), ap (λ z. record s { asked = z }) e)

pub ask_full : (s : Running) (degree : ℕ) → is_full s.scan.marks ≡ true → s.asked ≡ asked_for s degree
ask_full s degree e = sym (ap (λ b. cond (b || (eqb degree (wanted s))) s.asked (Some degree)) e)

pub ask_same : (s : Running) (degree : ℕ) → wanted s ≡ degree → s.asked ≡ asked_for s degree
ask_same s degree e =
    let t : (is_full s.scan.marks || eqb degree (wanted s)) ≡ true = or_right (is_full s.scan.marks) (eqb degree (wanted s)) (eq-eqb degree (wanted s) (sym e)) in
    sym (ap (λ b. cond b s.asked (Some degree)) t)

pub ask_new : (s : Running) (degree : ℕ) → is_full s.scan.marks ≡ false → (wanted s ≡ degree → ⊥) → Some degree ≡ asked_for s degree
ask_new s degree e ne =
    let f : (is_full s.scan.marks || eqb degree (wanted s)) ≡ false = rw e (ne_eqb degree (wanted s) (λ h. ne (sym h))) in
    sym (ap (λ b. cond b s.asked (Some degree)) f)

pub full_divide : (rule : Rule) → IsRule rule → (degree : ℕ) (ms : List Mark) → is_full (rule.redivided degree ms) ≡ is_full ms
full_divide rule laws degree ms = rw (laws.deposits_kept degree ms, laws.positions_kept degree ms)

-- a settle after which the pending degree is divided for
pub makes_cut : (rule : Rule) (s : Running) (role count degree cut : ℕ) (mid after : Scan) → role < 64 → 0 < length (out_of s.scan.marks role) → count ≤ length (out_of s.scan.marks role) → GivesBack s role count mid → is_full mid.marks ≡ false
    → s.asked ≡ Some degree → IsIdle mid.marks → cut ≡ rule.cut mid.marks → after ≡ record { marks = rule.redivided degree mid.marks; degree = degree; room = mid.room - 1 }
    → Makes rule 64 s (Settle role count ∷ Divide (unwrap_or s.asked 0) cut ∷ []) (record s { scan = after; asked = None })
makes_cut rule s role count degree cut mid after lt some few e full asked idle is f =
    let n : degree ≡ unwrap_or s.asked 0 = sym (ap (λ o. unwrap_or o 0) asked) in
    subst (λ (d : ℕ). Makes rule 64 s (Settle role count ∷ Divide d cut ∷ []) (record s { scan = after; asked = None })) n
    (makes_then rule 64 s (record s { scan = mid }) (record s { scan = after; asked = None }) (Settle role count) (Divide degree cut ∷ []) (makes_more rule s role count mid lt some few e full)
    (makes_divide rule (record s { scan = mid }) degree cut after asked idle is f))

pub kept_asked : (s : Running) (missing degree : ℕ) → 1 ≤ degree → degree ≤ 64 → 0 < s.scan.room → (IsIdle s.scan.marks → ⊥) → IsKept s missing → IsKept (record s { asked = Some degree }) missing
kept_asked s missing degree low high room busy kept = record {
  sound = record {
    named = kept.sound.named;
    fits = kept.sound.fits;
    roles = kept.sound.roles;
    counted = kept.sound.counted;
    degrees = λ n e. let same : degree ≡ n = cc in (omega arith, omega arith, room);
  };
  calm = λ d. busy d.1;
}

-- where no batch is out, nothing is pending between two calls
pub calm_none : {I : Type 0} (o : Option ℕ) → ((o ≡ None → ⊥) × I → ⊥) → I → o ≡ None
calm_none None calm idle = refl
calm_none (Some n) calm idle = absurd (calm (λ e. absurd (cc), idle))

pub makes_ask_cut : (rule : Rule) (s : Running) (degree cut : ℕ) (after : Scan) → 1 ≤ degree → degree ≤ 64 → (IsDue s → ⊥) → Some degree ≡ asked_for s degree → IsIdle s.scan.marks → cut ≡ rule.cut s.scan.marks → after ≡ record { marks = rule.redivided degree s.scan.marks; degree = degree; room = s.scan.room - 1 }
    → Makes rule 64 s (Ask degree ∷ Divide degree cut ∷ []) (record s { scan = after; asked = None })
makes_ask_cut rule s degree cut after low high calm e idle is f =
    makes_then rule 64 s (record s { asked = Some degree }) (record s { scan = after; asked = None }) (Ask degree) (Divide degree cut ∷ []) (makes_ask rule s degree (Some degree) low high calm e)
    (makes_divide rule (record s { asked = Some degree }) degree cut after refl idle is f)

pub kept_new : (rule : Rule) → IsRule rule → (positions degree room : ℕ) (held : List Bool) (scan : Scan) → positions < 2 ^ 32 → 1 ≤ degree → degree ≤ 64 → length held ≡ 64 → scan ≡ record { marks = rule.redivided degree (replicate positions (Left 0)); degree = degree; room = room }
    → IsKept (record { scan = scan; held = held; asked = None; collecting = false }) positions
kept_new rule laws positions degree room held scan fits low high roles e =
    subst (λ (z : Scan). IsKept (record { scan = z; held = held; asked = None; collecting = false }) positions) (sym e)
    (let len : length (rule.redivided degree (replicate positions (Left 0))) ≡ positions = laws.positions_kept degree (replicate positions (Left 0)) ∙ length-replicate positions (Left 0) in
    let none : length (places is_deposited (rule.redivided degree (replicate positions (Left 0)))) ≡ 0 = ap length (laws.deposits_kept degree (replicate positions (Left 0)) ∙ no_deposits 0 positions) in
    record {
      sound = record {
        named = laws.named degree (replicate positions (Left 0)) low high (named_fresh positions);
        fits = rw len fits;
        roles = roles;
        counted = omega arith;
        degrees = λ n h. absurd (cc);
      };
      calm = λ d. d.0 refl;
    })

pub some_left : (xs : List ℕ) → (xs ≡ [] → ⊥) → 0 < length xs
some_left [] ne = absurd (ne refl)
some_left (x ∷ xs) ne = omega arith

-- where a board may not be collected
pub not_collected : (full collecting : Bool) → ((full ≡ true) × (collecting ≡ false) → ⊥) → (full ≡ false) ⊎ (collecting ≡ true)
not_collected true true both = inr refl
not_collected true false both = absurd (both (refl, refl))
not_collected false collecting both = inl refl
