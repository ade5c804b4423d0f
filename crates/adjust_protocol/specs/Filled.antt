use Rattle.std.proofs.Common.{◌≡◌, ℕ, zero, suc, ◌<◌, ◌≤◌, Bool, true, false, List, [], ◌∷◌, Option, Some, None, is_some, map, set, replicate, take, length, refl, ap, sym, ◌∙◌, subst, inl, inr, arith}
use Rattle.std.specs.Bool.{OnTrue}
use Rattle.adjust_protocol.specs.Free.{free_in, IsFirstFree}
use Rattle.std.proofs.lemmas.Bool.{cases_Bool}
use Rattle.std.proofs.lemmas.List.{map-set, length-map}
use Rattle.page_partition.specs.declared.table.Mark.{Mark}
use Rattle.page_partition.specs.declared.table.Mark.TheVariants.{Left, Out, Deposited}
use Rattle.page_partition.specs.Scan.{is_left, is_out, is_deposited, places_from, places, out_of, mark_first, mark_all, given_back, put}
use Rattle.page_partition.specs.Marks.{Apart, put_first}
use Rattle.adjust_protocol.specs.Moves.{Rule, Running, Move, Seat, Claim, Settle, Divide, Leave, Collect, Uncollect, Ask, after, run, Makes}
use Rattle.adjust_protocol.specs.Steps.{IsRule, left-deposited, out-deposited}
use Rattle.page_partition.specs.StrideKept.{no_deposits}
use Rattle.std.proofs.lemmas.List.{length-replicate}
use Rattle.adjust_protocol.specs.Full.{Kept}
use Rattle.adjust_protocol.specs.Answers.{claim_moves, settle_moves, ask_moves}
use Rattle.adjust_protocol.specs.declared.answers.Claimed.{Claimed}
use Rattle.adjust_protocol.specs.declared.answers.Claimed.TheVariants as claimed
use Rattle.adjust_protocol.specs.declared.answers.Settled.{Settled}
use Rattle.adjust_protocol.specs.declared.answers.Settled.TheVariants.{More, Cut, Finished}
use Rattle.adjust_protocol.specs.declared.answers.Asked.{Asked}
use Rattle.adjust_protocol.specs.declared.answers.Asked.TheVariants as asked
use Rattle.adjust_protocol.specs.Release.{AllRelease, Releases}
use Rattle.adjust_protocol.specs.Outputs.{present, put_outputs, IsFilled}

abbrev put_trues : List ℕ → List Bool → List Bool
put_trues [] bs = bs
put_trues (p ∷ ps) bs = put_trues ps (set bs p true)

some-put_outputs : {T : Type 0} (ps : List ℕ) (xs : List T) (slots : List (Option T)) → map is_some (put_outputs ps xs slots) ≡ put_trues (take (length xs) ps) (map is_some slots)
some-put_outputs ps [] slots = refl
some-put_outputs [] (x ∷ xs) slots = refl
some-put_outputs (p ∷ ps) (x ∷ xs) slots = some-put_outputs ps xs (set slots p (Some x)) ∙ ap (put_trues (take (length xs) ps)) (map-set is_some slots p (Some x))

deposited-put : (ps : List ℕ) (ms : List Mark) → map is_deposited (put ps Deposited ms) ≡ put_trues ps (map is_deposited ms)
deposited-put [] ms = refl
deposited-put (p ∷ ps) ms = deposited-put ps (set ms p Deposited) ∙ ap (put_trues ps) (map-set is_deposited ms p Deposited)

same-mark_all : (t : Mark → Bool) (m : Mark) → is_deposited m ≡ false → Apart t is_deposited → (ms : List Mark) → map is_deposited (mark_all t m ms) ≡ map is_deposited ms
same-mark_all t m h apart [] = refl
same-mark_all t m h apart (x ∷ xs) =
    elim (cases_Bool (t x)) [
      | inl e ↦ simp (e, h, apart x e) (ap (λ ys. false ∷ ys) (same-mark_all t m h apart xs))
      | inr e ↦ simp e (ap (λ ys. is_deposited x ∷ ys) (same-mark_all t m h apart xs))
    ]

same-mark_first : (t : Mark → Bool) (m : Mark) → is_deposited m ≡ false → Apart t is_deposited → (k : ℕ) (ms : List Mark) → map is_deposited (mark_first t k m ms) ≡ map is_deposited ms
same-mark_first t m h apart zero ms = refl
same-mark_first t m h apart (suc k) [] = refl
same-mark_first t m h apart (suc k) (x ∷ xs) =
    elim (cases_Bool (t x)) [
      | inl e ↦ simp (e, h, apart x e) (ap (λ ys. false ∷ ys) (same-mark_first t m h apart k xs))
      | inr e ↦ simp e (ap (λ ys. is_deposited x ∷ ys) (same-mark_first t m h apart (suc k) xs))
    ]

places_above : (t : Mark → Bool) (p : ℕ) (ms : List Mark) (q : ℕ) (qs : List ℕ) → places_from p t ms ≡ q ∷ qs → p ≤ q
places_above t p [] q qs h = absurd (cc)
places_above t p (x ∷ xs) q qs h =
    elim (cases_Bool (t x)) [
      | inl e ↦ let same : p ≡ q = (let h' = simp e at h in cc) in omega arith
      | inr e ↦ let h' = simp e at h in let b = places_above t (suc p) xs q qs h' in omega arith
    ]

-- the places that pass tell where the test passes
same_tests : (t : Mark → Bool) (p : ℕ) (xs ys : List Mark) → length xs ≡ length ys → places_from p t xs ≡ places_from p t ys → map t xs ≡ map t ys
same_tests t p [] [] l e = refl
same_tests t p [] (y ∷ ys) l e = absurd (omega arith)
same_tests t p (x ∷ xs) [] l e = absurd (omega arith)
same_tests t p (x ∷ xs) (y ∷ ys) l e =
    elim (cases_Bool (t x)) [
      | inl a ↦ elim (cases_Bool (t y)) [
        | inl b ↦ let e' = simp (a, b) at e in simp (a, b) (ap (λ zs. true ∷ zs) (same_tests t (suc p) xs ys (omega arith) (cc)))
        | inr b ↦ let e' = simp (a, b) at e in absurd (let up = places_above t (suc p) ys p (places_from (suc p) t xs) (sym e') in omega arith)
      ]
      | inr a ↦ elim (cases_Bool (t y)) [
        | inl b ↦ let e' = simp (a, b) at e in absurd (let up = places_above t (suc p) xs p (places_from (suc p) t ys) e' in omega arith)
        | inr b ↦ let e' = simp (a, b) at e in simp (a, b) (ap (λ zs. false ∷ zs) (same_tests t (suc p) xs ys (omega arith) e'))
      ]
    ]

pub filled_settle : {T : Type 0} (role : ℕ) (xs : List T) (slots : List (Option T)) (ms : List Mark) → IsFilled slots ms → IsFilled (put_outputs (out_of ms role) xs slots) (given_back role (length xs) ms)
filled_settle role xs slots ms f =
    some-put_outputs (out_of ms role) xs slots ∙ ap (put_trues (take (length xs) (out_of ms role))) f
    ∙ sym (deposited-put (take (length xs) (out_of ms role)) ms) ∙ ap (map is_deposited) (put_first (is_out role) Deposited (length xs) ms)
    ∙ sym (same-mark_all (is_out role) (Left role) refl (out-deposited role) (mark_first (is_out role) (length xs) Deposited ms))

pub same_divide : (rule : Rule) → IsRule rule → (degree : ℕ) (ms : List Mark) → map is_deposited (rule.redivided degree ms) ≡ map is_deposited ms
same_divide rule laws degree ms = same_tests is_deposited 0 (rule.redivided degree ms) ms (laws.positions_kept degree ms) (laws.deposits_kept degree ms)

pub same_claim : (role k : ℕ) (ms : List Mark) → map is_deposited (mark_first (is_left role) k (Out role) ms) ≡ map is_deposited ms
same_claim role k ms = same-mark_first (is_left role) (Out role) refl (left-deposited role) k ms

abbrev no_outputs : (T : Type 0) → ℕ → List (Option T)
no_outputs T n = replicate n None

pub filled_new : (T : Type 0) (n : ℕ) → map is_some (no_outputs T n) ≡ map is_deposited (replicate n (Left 0))
filled_new T zero = refl
filled_new T (suc n) = ap (λ ys. false ∷ ys) (filled_new T n)

-- every event but a settle leaves which positions are deposited
abbrev pub IsQuiet : Move → Type 0
IsQuiet (Settle role count) = count ≡ 0
IsQuiet (Seat role) = Unit {0}
IsQuiet (Claim role ps) = Unit {0}
IsQuiet (Divide degree cut) = Unit {0}
IsQuiet (Leave role) = Unit {0}
IsQuiet Collect = Unit {0}
IsQuiet Uncollect = Unit {0}
IsQuiet (Ask degree) = Unit {0}

same_after : (rule : Rule) → IsRule rule → (s : Running) (m : Move) → IsQuiet m → map is_deposited (after rule s m).scan.marks ≡ map is_deposited s.scan.marks
same_after rule laws s (Settle role count) q =
    subst (λ n. map is_deposited (given_back role n s.scan.marks) ≡ map is_deposited s.scan.marks) (sym q) (same-mark_all (is_out role) (Left role) refl (out-deposited role) s.scan.marks)
same_after rule laws s (Seat role) q = refl
same_after rule laws s (Claim role ps) q = same_claim role (length ps) s.scan.marks
same_after rule laws s (Divide degree cut) q = same_divide rule laws degree s.scan.marks
same_after rule laws s (Leave role) q = refl
same_after rule laws s Collect q = refl
same_after rule laws s Uncollect q = refl
same_after rule laws s (Ask degree) q = refl

abbrev pub AllQuiet : List Move → Type 0
AllQuiet [] = Unit {0}
AllQuiet (m ∷ ms) = IsQuiet m × AllQuiet ms

same_run : (rule : Rule) → IsRule rule → (s : Running) (ms : List Move) → AllQuiet ms → map is_deposited (run rule s ms).scan.marks ≡ map is_deposited s.scan.marks
same_run rule laws s [] q = refl
same_run rule laws s (m ∷ ms) q = same_run rule laws (after rule s m) ms q.1 ∙ same_after rule laws s m q.0

pub filled_quiet : {T : Type 0} (rule : Rule) → IsRule rule → (batch : ℕ) (s s' : Running) (moves : List Move) (slots : List (Option T)) → AllQuiet moves → Makes rule batch s moves s' → IsFilled slots s.scan.marks → IsFilled slots s'.scan.marks
filled_quiet rule laws batch s s' moves slots q made f =
    f ∙ sym (same_run rule laws s moves q) ∙ ap (λ (z : Running). map is_deposited z.scan.marks) (sym made.1)

-- a settle, and then whatever deposits nothing
pub filled_settled : {T : Type 0} (rule : Rule) → IsRule rule → (batch role : ℕ) (xs : List T) (s s' : Running) (moves : List Move) (slots : List (Option T)) → AllQuiet moves → Makes rule batch s (Settle role (length xs) ∷ moves) s' → IsFilled slots s.scan.marks → IsFilled (put_outputs (out_of s.scan.marks role) xs slots) s'.scan.marks
filled_settled rule laws batch role xs s s' moves slots q made f =
    filled_settle role xs slots s.scan.marks f ∙ sym (same_run rule laws (after rule s (Settle role (length xs))) moves q) ∙ ap (λ (z : Running). map is_deposited z.scan.marks) (sym made.1)

-- where all is deposited, every slot is filled
all_pass : (ms : List Mark) (p : ℕ) → length (places_from p is_deposited ms) ≡ length ms → map is_deposited ms ≡ replicate (length ms) true
all_pass [] p e = refl
all_pass (x ∷ xs) p e =
    elim (cases_Bool (is_deposited x)) [
      | inl t ↦ let e' = simp t at e in simp t (ap (λ ys. true ∷ ys) (all_pass xs (suc p) (omega arith)))
      | inr t ↦ let e' = simp t at e in absurd (let b = few xs (suc p) in omega arith)
    ]
  where
    few : (ys : List Mark) (q : ℕ) → length (places_from q is_deposited ys) ≤ length ys
    few [] q = omega arith
    few (y ∷ ys) q = let ih = few ys (suc q) in elim (cases_Bool (is_deposited y)) [ inl t ↦ simp t (omega arith) | inr t ↦ simp t (omega arith) ]

present_all : {T : Type 0} (slots : List (Option T)) (n : ℕ) → map is_some slots ≡ replicate n true → map Some (present slots) ≡ slots
present_all [] n e = refl
present_all (None ∷ slots) zero e = absurd (cc)
present_all (None ∷ slots) (suc n) e = absurd (cc)
present_all (Some x ∷ slots) zero e = absurd (cc)
present_all (Some x ∷ slots) (suc n) e = ap (λ ys. Some x ∷ ys) (present_all slots n (cc))

pub filled_full : {T : Type 0} (slots : List (Option T)) (ms : List Mark) → IsFilled slots ms → length (places is_deposited ms) ≡ length ms → map Some (present slots) ≡ slots
filled_full slots ms f full = present_all slots (length ms) (f ∙ all_pass ms 0 full)

pub filled_length : {T : Type 0} (slots : List (Option T)) (ms : List Mark) → IsFilled slots ms → length slots ≡ length ms
filled_length slots ms f = sym (length-map slots is_some) ∙ ap length f ∙ length-map ms is_deposited

pub quiet_claim : (role : ℕ) (r : Claimed) → AllQuiet (claim_moves role r)
quiet_claim role (claimed.Batch ps) = (tt, tt)
quiet_claim role claimed.Hold = tt
quiet_claim role claimed.Leave = tt

pub quiet_ask : (degree : ℕ) (r : Asked) → AllQuiet (ask_moves degree r)
quiet_ask degree asked.Pending = (tt, tt)
quiet_ask degree (asked.Cut k) = (tt, (tt, tt))
quiet_ask degree asked.NoChange = (tt, tt)
quiet_ask degree asked.AlreadyFinished = (tt, tt)

pub filled_settles : {T : Type 0} (rule : Rule) → IsRule rule → (role : ℕ) (asked : Option ℕ) (xs : List T) (r : Settled) (s s' : Running) (slots : List (Option T)) → Makes rule 64 s (settle_moves asked role (length xs) r) s' → IsFilled slots s.scan.marks → IsFilled (put_outputs (out_of s.scan.marks role) xs slots) s'.scan.marks
filled_settles rule laws role asked xs More s s' slots made f = filled_settled rule laws 64 role xs s s' [] slots tt made f
filled_settles rule laws role asked xs (Cut k) s s' slots made f = filled_settled rule laws 64 role xs s s' (Divide _ k ∷ []) slots (tt, tt) made f
filled_settles rule laws role asked xs Finished s s' slots made f = filled_settled rule laws 64 role xs s s' [] slots tt made f

pub filled_made : {T : Type 0} (rule : Rule) → IsRule rule → (n degree : ℕ) (slots : List (Option T)) (ms : List Mark) → slots ≡ replicate n None → ms ≡ rule.redivided degree (replicate n (Left 0)) → IsFilled slots ms
filled_made {T = T} rule laws n degree slots ms e f = ap (map is_some) e ∙ filled_new T n ∙ sym (same_divide rule laws degree (replicate n (Left 0))) ∙ ap (map is_deposited) (sym f)

pub filled_began : {T : Type 0} (rule : Rule) → IsRule rule → (degree : ℕ) (slots : List (Option T)) (ms ms' : List Mark) → places is_deposited ms ≡ [] → ms' ≡ rule.redivided degree (replicate (length ms) (Left 0)) → IsFilled slots ms → IsFilled slots ms'
filled_began rule laws degree slots ms ms' none e f =
    let fresh : map is_deposited ms ≡ map is_deposited (replicate (length ms) (Left 0)) = same_tests is_deposited 0 ms (replicate (length ms) (Left 0)) (sym (length-replicate (length ms) (Left 0))) (none ∙ sym (no_deposits 0 (length ms))) in
    f ∙ fresh ∙ sym (same_divide rule laws degree (replicate (length ms) (Left 0))) ∙ ap (map is_deposited) (sym e)

pub running_of : {T : Type 0} (s : Running) (o : List (Option T)) (k : Kept T) → record { running = s; outputs = o } ≡ k → s ≡ k.running
running_of {T = T} s o k e = ap (λ (z : Kept T). z.running) e

pub free_found : (ms : List Mark) (held : List Bool) (asked o : Option ℕ) → IsFirstFree ms held asked o → OnTrue (is_some o) ((r : ℕ) × (r < 64) × (free_in ms held asked r ≡ true))
free_found ms held asked None h = tt
free_found ms held asked (Some r) h = (r, h.0, h.1)

quiet_release : (moves : List Move) → AllRelease moves → AllQuiet moves
quiet_release [] a = tt
quiet_release (Settle role count ∷ ms) a = (a.0, quiet_release ms a.1)
quiet_release (Divide degree cut ∷ ms) a = (tt, quiet_release ms a.1)
quiet_release (Leave role ∷ ms) a = (tt, quiet_release ms a.1)
quiet_release (Uncollect ∷ ms) a = (tt, quiet_release ms a.1)
quiet_release (Seat role ∷ ms) a = absurd a.0
quiet_release (Claim role ps ∷ ms) a = absurd a.0
quiet_release (Collect ∷ ms) a = absurd a.0
quiet_release (Ask degree ∷ ms) a = absurd a.0

pub filled_released : {T : Type 0} (rule : Rule) → IsRule rule → (s s' : Running) (slots : List (Option T)) → Releases rule s s' → IsFilled slots s.scan.marks → IsFilled slots s'.scan.marks
filled_released rule laws s s' slots r f = filled_quiet rule laws 64 s s' r.moves slots (quiet_release r.moves r.only) r.made f
